-- A packet for each frame: its options are spelled anew.
use Rattle.std.proofs.Common.{◌≡◌, ℕ, List, [], ◌∷◌, map, refl, ap, ◌∙◌}
use Rattle.std.specs.Prelude.{flat_map}
use Rattle.std.specs.List.{AllByRecursion}
use Rattle.std.specs.Borrow.{Bor}
use Rattle.narc_packet.specs.Options.{IpOptionView, TcpOptionView, ip_option, IsIpOption, IsTcpOption, tcp_options_in, tcp_option_of, AreTcpOptions}
use Rattle.narc_packet.specs.PacketView.{TcpView, IpBodyView, UdpBody, TcpBody, RawBody, Ipv4View, EthBodyView, ArpBody, Ipv4Body, OtherBody, PacketView, ip_body_view, eth_body_view, view}
use Rattle.narc_packet.specs.Ipv4.{IsIpBody}
use Rattle.narc_packet.specs.Frame.{IsFrame, IsEthBody}
use Rattle.narc_packet.specs.WellFormed.{SpellsIpBody, SpellsEthBody, SpellsOptions}
use Rattle.narc_packet.specs.declared.packet.Tcp.{Tcp}
use Rattle.narc_packet.specs.declared.packet.IpBody.{IpBody}
use Rattle.narc_packet.specs.declared.packet.IpBody.TheVariants as ip_body
use Rattle.narc_packet.specs.declared.packet.Ipv4.{Ipv4}
use Rattle.narc_packet.specs.declared.packet.EthBody.{EthBody}
use Rattle.narc_packet.specs.declared.packet.EthBody.TheVariants as eth_body
use Rattle.narc_packet.specs.declared.packet.Packet.{Packet}
use Rattle.narc_packet.proofs.SpelledOptions.{AreTcpOptions-ip}
use Rattle.narc_packet.proofs.TypedOptions.{ip_option_like, tcp_option_of-like, IsIpOption-like}
use Rattle.narc_options.proofs.Spellings.{options_again, are_options}

-- octets that lie anywhere
slice : List ℕ → Bor (List ℕ)
slice l = record { ref_ptr = (0, 0); now = l }

all_like : (l : List TcpOptionView) → AllByRecursion IsTcpOption l → AllByRecursion IsIpOption (map ip_option_like l) × (map tcp_option_of (map ip_option_like l) ≡ l)
all_like [] h = (tt, refl)
all_like (o ∷ l) h =
    let rest = all_like l h.1 in
    ((IsIpOption-like o h.0, rest.0), ap (λ p. p ∷ map tcp_option_of (map ip_option_like l)) (tcp_option_of-like o h.0) ∙ ap (λ k. o ∷ k) rest.1)

-- octets that spell these options, and nothing else
abbrev ip_spelled : List IpOptionView → List ℕ
ip_spelled l = flat_map ip_option l

abbrev tcp_spelled : List TcpOptionView → List ℕ
tcp_spelled l = ip_spelled (map ip_option_like l)

tcp_again : (l : List TcpOptionView) → AllByRecursion IsTcpOption l → tcp_options_in (tcp_spelled l) ≡ l
tcp_again l h = let like = all_like l h in ap (map tcp_option_of) (options_again (map ip_option_like l) like.0) ∙ like.1

tcp_are : (l : List TcpOptionView) → AllByRecursion IsTcpOption l → AreTcpOptions (tcp_spelled l)
tcp_are l h = AreTcpOptions-ip (tcp_spelled l) (are_options (map ip_option_like l) (all_like l h).0)

record IpBodySeen (v : IpBodyView) : Type 0 where
  pub body : IpBody
  pub same : ip_body_view body ≡ v
  pub spelled : SpellsIpBody body

with_options : TcpView → List TcpOptionView → TcpView
with_options t l = record t { options = l }

ip_body_seen : (src dst : List ℕ) (v : IpBodyView) (d : List ℕ) → IsIpBody src dst v d → IpBodySeen v
unfolding slice with_options
ip_body_seen src dst (UdpBody u) d h = record { body = ip_body.Udp (record { sport = u.sport; dport = u.dport; payload = slice u.payload }); same = refl; spelled = tt }
ip_body_seen src dst (TcpBody t) d h =
    let options = slice (tcp_spelled t.options) in
    let seen : Tcp = record {
      sport = t.sport;
      dport = t.dport;
      seq = t.seq;
      ack = t.ack;
      reserved = t.reserved;
      flags = t.flags;
      window = t.window;
      urgent = t.urgent;
      options = record { spelled = options };
      payload = slice t.payload;
    } in
    record { body = ip_body.Tcp seen; same = ap (λ l. TcpBody (with_options t l)) (tcp_again t.options h.options.each); spelled = tcp_are t.options h.options.each }
ip_body_seen src dst (RawBody protocol payload) d h = record { body = ip_body.Raw protocol (slice payload); same = refl; spelled = tt }

record EthBodySeen (v : EthBodyView) : Type 0 where
  pub body : EthBody
  pub same : eth_body_view body ≡ v
  pub spelled : SpellsEthBody body

with_parts : Ipv4View → List IpOptionView → IpBodyView → Ipv4View
with_parts p l b = record p { options = l; body = b }

eth_body_seen : (v : EthBodyView) (x : List ℕ) → IsEthBody v x → EthBodySeen v
unfolding slice with_parts
eth_body_seen (ArpBody a) x h = record { body = eth_body.Arp a; same = refl; spelled = tt }
eth_body_seen (Ipv4Body p) x h =
    let is = h.2 in
    let body = ip_body_seen p.src p.dst p.body is.content is.body in
    let seen : Ipv4 = record {
      tos = p.tos;
      id = p.id;
      df = p.df;
      mf = p.mf;
      offset = p.offset;
      ttl = p.ttl;
      src = p.src;
      dst = p.dst;
      options = record { spelled = slice (ip_spelled p.options) };
      body = body.body;
    } in
    record {
      body = eth_body.Ip seen;
      same = ap (λ l. Ipv4Body (with_parts p l (ip_body_view body.body))) (options_again p.options is.options.each) ∙ ap (λ b. Ipv4Body (with_parts p p.options b)) body.same;
      spelled = (are_options p.options is.options.each, body.spelled);
    }
eth_body_seen (OtherBody t payload) x h = record { body = eth_body.Other t (slice payload); same = refl; spelled = tt }

pub record Seen (q : PacketView) : Type 0 where
  pub packet : Packet
  pub same : view packet ≡ q
  pub spelled : SpellsOptions packet

with_body : PacketView → EthBodyView → PacketView
with_body q v = record q { body = v }

pub packet_seen : (q : PacketView) (b : List ℕ) → IsFrame q b → Seen q
unfolding with_body
packet_seen q b f =
    let body = eth_body_seen q.body f.content f.body in
    record { packet = record { dst = q.dst; src = q.src; body = body.body }; same = ap (with_body q) body.same; spelled = body.spelled }
