-- An IPv4 packet meets the conditions of its rules.
use Rattle.std.proofs.Common.{◌≡◌, ℕ, ◌+◌, ◌-◌, ◌*◌, ◌/◌, ◌%◌, ◌^◌, ◌<◌, ◌≤◌, Bool, List, length, IsTrue, refl, sym, ap, ◌∙◌, subst, arith, lit<, length-append}
use Rattle.narc_compose.specs.declared.either.Either.TheVariants.{Left, Right}
use Rattle.narc_compose.specs.Measured.{measured}
use Rattle.narc_compose.specs.Named.{named}
use Rattle.narc_compose.specs.Seq.{seq, seq_tail}
use Rattle.narc_compose.specs.Strip.{stripped, Chosen}
use Rattle.narc_compose.specs.Union.{united}
use Rattle.narc_list.specs.Pad.{padding}
use Rattle.narc_list.specs.Region.{region}
use Rattle.narc_sum.specs.Checked.{checked}
use Rattle.narc_packet.specs.Options.{ip_options_in}
use Rattle.narc_packet.specs.Ipv4.{is_fragment}
use Rattle.narc_packet.specs.PacketView.{Ipv4View, IpBodyView, ip_body_view}
use Rattle.narc_packet.specs.declared.packet.IpBody.{IpBody}
use Rattle.narc_packet.specs.declared.packet.Ipv4.{Ipv4}
use Rattle.narc_ipv4.specs.Header.{header_length_of, area_length_of, ip_head, HeaderView, header_view}
use Rattle.narc_ipv4.specs.declared.as_header.IpHeader.{IpHeader}
use Rattle.narc_options.proofs.AreaSound.{region_chosen}
use Rattle.narc_ipv4.proofs.HeaderSound.{head_sound, length_five}
use Rattle.narc_ipv4.proofs.HeaderChosen.{head_fields, head_back, head_size, head_moves, head_chosen, with_lengths, total_least}
use Rattle.narc_stack.specs.declared.content.ContentContext.{ContentContext}
use Rattle.narc_stack.specs.Content.{RawContent, IsContentContext, ip_content}
use Rattle.narc_stack.specs.Ipv4.{context_of, zeros_of, IsPadded, RawIpv4, body_of, ipv4_of, protocol_of, octets_of, raw_content, raw_ipv4, SameIpv4, padded_content, header_and_content, ipv4_measured, ipv4_format}
use Rattle.narc_stack.proofs.ContentSound.{content_region_sound, same_body, content_with, content_chosen}

padded_sound : padded_content.sound
unfolding seq_tail region united padding
padded_sound = record {
  first_sound = content_region_sound;
  second_sound = tt;
  carries = record { first_valid = λ c ok. ok.0; second_valid = λ c v ok a. ok.1; same = λ c v w a. refl };
  meets = refl;
}

-- a header that can be written gives contexts that are valid
contexts_valid : (n : ℕ) (h : IpHeader) → ip_head.admits n h → IsPadded (context_of h, zeros_of h)
contexts_valid n h a =
    let f = head_fields n h a in
    let total = f.front.total in
    (((f.behind.src, f.behind.dst), f.front.protocol, omega (arith, total)), omega arith)

head_valid : (n : ℕ) → n < 2 ^ 64 → ip_head.valid n
unfolding stripped named checked seq
head_valid n h = h

head_whole : IsTrue ip_head.whole
unfolding stripped named checked
head_whole = refl

head_alike : (h k : IpHeader) → ip_head.alike h k → header_view h ≡ header_view k
unfolding stripped
head_alike h k e = e

-- the contexts of what is behind a header, wherever its options lie
contexts_of : HeaderView → ContentContext × ℕ
contexts_of v = (record { ends = record { src = v.src; dst = v.dst }; protocol = v.protocol; fragment = is_fragment v.mf v.offset; octets = v.total - v.length }, 46 - v.total)

same_contexts : (h k : IpHeader) → header_view h ≡ header_view k → ◌≡◌ {A = ContentContext × ℕ} (context_of h, zeros_of h) (context_of k, zeros_of k)
unfolding contexts_of
same_contexts h k e = ap contexts_of e

pub header_and_content_sound : header_and_content.sound
unfolding seq_tail
header_and_content_sound = record {
  first_sound = head_sound;
  second_sound = padded_sound;
  carries = record {
    first_valid = λ c ok. head_valid c ok;
    second_valid = λ c h ok a. contexts_valid c h a;
    same = λ c h k e. same_contexts h k (head_alike h k e);
  };
  meets = head_whole;
}

-- a packet stands wherever its total length has room
packet_moves : (c d : ℕ) (v : RawIpv4) (b : List Bool) → v.0.total ≤ d → header_and_content.stands c v b → header_and_content.stands d v b
unfolding seq_tail
packet_moves c d v b h p = record { front = p.front; back = p.back; joined = p.joined; first = head_moves c d v.0 p.front h p.first; second = p.second }

-- and so it does in its own octets
packet_size : (c : ℕ) (v : RawIpv4) (b : List Bool) → header_and_content.stands c v b → (v.0.total ≤ length b / 8) × (v.0.total ≤ 65535)
unfolding seq_tail region
packet_size c v b p =
    let s = head_size c v.0 p.front p.first in
    let q = p.second in
    (omega (arith, s.size, s.fits, ap length p.joined, length-append p.front p.back, ap length q.joined, length-append q.front q.back, q.first.size), omega (arith, s.small))

packet_valid : (n : ℕ) → n < 2 ^ 64 → header_and_content.valid n
unfolding seq_tail
packet_valid n h = h

pub measured_sound : ipv4_measured.sound
unfolding measured
measured_sound = record {
  part_sound = header_and_content_sound;
  measured_valid = λ c ok n h. packet_valid n (omega (arith, h));
  written_valid = λ c ok. packet_valid 65535 (lit< tt);
  same = λ c ok v b. (
    λ p. packet_moves (length b / 8) 65535 v b (packet_size (length b / 8) v b p).1 p,
    λ p. packet_moves 65535 (length b / 8) v b (packet_size 65535 v b p).0 p,
  );
}

-- packets that are the same are seen as the same
with_body : HeaderView → IpBodyView → Ipv4View
with_body v body = record { tos = v.tos; id = v.id; df = v.df; mf = v.mf; offset = v.offset; ttl = v.ttl; src = v.src; dst = v.dst; options = ip_options_in v.spelled; body = body }

same_ipv4 : (w x : RawIpv4) → ipv4_measured.alike w x → SameIpv4 (ipv4_of w) (ipv4_of x)
unfolding measured seq_tail region with_body
same_ipv4 w x a =
    let header = head_alike w.0 x.0 a.0 in
    ap (with_body (header_view w.0)) (same_body w.0.protocol w.1.0 x.1.0 a.1.0) ∙ ap (λ (v : HeaderView). with_body v (ip_body_view (body_of v.protocol x.1.0))) header

body_back : (protocol : ℕ) (v : RawContent) → body_of (protocol_of (body_of protocol v)) (raw_content (body_of protocol v)) ≡ body_of protocol v
body_back protocol (Left u) = refl
body_back protocol (Right (Left s)) = refl
body_back protocol (Right (Right l)) = refl

packet_with : IpHeader → IpBody → Ipv4
packet_with h body = record { tos = h.tos; id = h.id; df = h.df; mf = h.mf; offset = h.offset; ttl = h.ttl; src = h.src; dst = h.dst; options = h.options; body = body }

packet_back : (w : RawIpv4) → ipv4_of (raw_ipv4 (ipv4_of w)) ≡ ipv4_of w
unfolding packet_with
packet_back w = ap (packet_with w.0) (body_back w.0.protocol w.1.0)

-- the numbers of the header that is written
record IsChosenHeader (h : IpHeader) : Type 0 where
  pub few : (length h.options.spelled.now + 3) / 4 ≤ 10
  pub most : 20 + 4 * ((length h.options.spelled.now + 3) / 4) ≤ h.length
  pub fits : h.length ≤ h.total
  pub small : h.total < 2 ^ 16

header_numbers : (h : IpHeader) → ip_head.admits 65535 h → IsChosenHeader h
header_numbers h a =
    let f = head_fields 65535 h a in
    let length_is : header_length_of (64 + h.length / 4) ≡ h.length = ap (λ (x : IpHeader). x.length) (head_back 65535 h a) in
    let area = region_chosen (area_length_of (64 + h.length / 4)) h.options.spelled f.behind.options in
    let least = length_five (64 + h.length / 4) f.front.least in
    let some = area.short in
    let room = area.fits in
    record {
      few = omega (arith, some);
      most = omega (arith, room, length_is, least);
      fits = omega (arith, length_is, total_least (header_length_of (64 + h.length / 4), 65535) h.total f.front.fits);
      small = f.front.total;
    }

padded_region : (v : RawContent) (c : ContentContext × ℕ) → padded_content.admits c (v, tt) → IsContentContext c.0 × (region (λ (c : ContentContext). c.octets) ip_content).admits c.0 v
unfolding seq_tail
padded_region v c a = (a.0.0, a.1)

region_of : (c : ContentContext) (v : RawContent) → ip_content.admits c v → length (ip_content.spelling c v) ≡ 8 * c.octets → (region (λ (c : ContentContext). c.octets) ip_content).admits c v
unfolding region
region_of c v a h = record { admitted = a; filled = h }

padded_of : (c : ContentContext × ℕ) → IsPadded c → (v : RawContent) → (region (λ (c : ContentContext). c.octets) ip_content).admits c.0 v → padded_content.admits c (v, tt)
unfolding seq_tail padding
padded_of c ok v a = (ok, a, tt)

packet_admits : (n : ℕ) → n < 2 ^ 64 → (h : IpHeader) (v : RawContent) → ip_head.admits n h → padded_content.admits (context_of h, zeros_of h) (v, tt) → header_and_content.admits n (h, (v, tt))
unfolding seq_tail
packet_admits n ok h v a b = (ok, a, b)

packet_parts : (n : ℕ) (w : RawIpv4) → header_and_content.admits n w → ip_head.admits n w.0 × padded_content.admits (context_of w.0, zeros_of w.0) w.1
unfolding seq_tail
packet_parts n w a = (a.1, a.2)

-- the packet that is written: the shortest header, and no surplus
packet_chosen : (h : IpHeader) (v : RawContent) → header_and_content.admits 65535 (h, (v, tt)) → header_and_content.admits 65535 (raw_ipv4 (ipv4_of (h, (v, tt))))
packet_chosen h v a =
    let parts = packet_parts 65535 (h, (v, tt)) a in
    let head = header_numbers h parts.0 in
    let region_is = padded_region v (context_of h, zeros_of h) parts.1 in
    let body = body_of h.protocol v in
    let few = head.few in
    let fits = head.fits in
    let most = head.most in
    let small = head.small in
    let c = content_chosen (context_of h) region_is.0 (omega (arith, small)) v region_is.1 in
    let octets = c.most in
    let k = (length h.options.spelled.now + 3) / 4 in
    let total = 20 + 4 * k + octets_of body in
    let below : total < 2 ^ 16 = omega (arith, few, fits, most, small, octets) in
    let written = with_lengths h (20 + 4 * k) total (protocol_of body) in
    let top : ip_head.admits 65535 written = head_chosen 65535 h parts.0 k total (protocol_of body) (omega arith) few (omega arith) below c.known 65535 (omega (arith, below)) (lit< tt) in
    let context : total - (20 + 4 * k) ≡ octets_of body = omega arith in
    let rest : (region (λ (c : ContentContext). c.octets) ip_content).admits (context_of written) (raw_content body) =
    subst (λ n. (region (λ (c : ContentContext). c.octets) ip_content).admits (content_with (context_of h) (protocol_of body) n) (raw_content body)) (sym context)
    (region_of (content_with (context_of h) (protocol_of body) (octets_of body)) (raw_content body) c.admitted c.size) in
    let whole = packet_admits 65535 (lit< tt) written (raw_content body) top (padded_of (context_of written, zeros_of written) (contexts_valid 65535 written top) (raw_content body) rest) in
    let size : (20 + 4 * k) % 256 ≡ 20 + 4 * k = omega (arith, few) in
    let all : (20 + 4 * k + octets_of body % 65536) % 65536 ≡ total = omega (arith, below) in
    let same : with_lengths h ((20 + 4 * k) % 256) ((20 + 4 * k + octets_of body % 65536) % 65536) (protocol_of body) ≡ written =
    ap (λ s. with_lengths h s ((20 + 4 * k + octets_of body % 65536) % 65536) (protocol_of body)) size ∙ ap (λ t. with_lengths h (20 + 4 * k) t (protocol_of body)) all in
    subst (λ x. header_and_content.admits 65535 (x, (raw_content body, tt))) (sym same) whole

chosen_ipv4 : (w : RawIpv4) → ipv4_measured.admits tt w → Chosen ipv4_of (λ c p. raw_ipv4 p) SameIpv4 ipv4_measured tt (ipv4_of w)
unfolding measured
chosen_ipv4 w a = record { admitted = packet_chosen w.0 w.1.0 a; back = packet_back w }

pub ipv4_sound : ipv4_format.sound
unfolding stripped
ipv4_sound = record { part_sound = measured_sound; same = same_ipv4; chosen = λ c ok w a. chosen_ipv4 w a }
