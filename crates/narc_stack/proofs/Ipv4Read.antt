-- The octets and the rows of an IPv4 packet and of any padding behind it, from those of its header and its data.
use Rattle.std.proofs.Common.{◌≡◌, ℕ, ◌+◌, ◌-◌, ◌^◌, ◌<◌, ◌≤◌, false, List, [], ◌∷◌, ◌++◌, length, take, drop, refl, sym, ap, ◌∙◌, subst, arith, length-drop, length-take}
use Rattle.std.proofs.lemmas.Bool.{le-ltb}
use Rattle.narc_bits.specs.Octets.{IsOctets, is_shorter}
use Rattle.narc_bits.proofs.Octets.{IsOctets-drop, IsOctets-take}
use Rattle.narc_format.specs.Rows.{Row, row, first_failing}
use Rattle.narc_packet.specs.Refusal.{header_length, total_length, content_in, ipv4_rows, content_rows}
use Rattle.narc_packet.specs.declared.limits.TheConstants.{MAX_LENGTH}
use Rattle.narc_packet.specs.declared.packet.Ipv4.{Ipv4}
use Rattle.narc_layout.proofs.ReadLayout.{Parts, Front, IsTailRead}
use Rattle.narc_layout.proofs.SeqTailRead.{seq_tail_read}
use Rattle.narc_layout.proofs.RegionReads.{region_read}
use Rattle.narc_layout.proofs.RowSteps.{rows_same, no_more_rows}
use Rattle.narc_layout.proofs.SameRows.{row_passes}
use Rattle.narc_layout.proofs.ViewReads.{measured_read, stripped_tail_read, padding_read}
use Rattle.narc_ipv4.specs.HeaderOctets.{IsHeader}
use Rattle.narc_ipv4.proofs.HeaderRead.{composed_rows}
use Rattle.narc_ipv4.proofs.HeaderRows.{rows_are}
use Rattle.narc_ipv4.proofs.HeaderOctets.{head_read}
use Rattle.narc_ipv4.specs.declared.as_header.IpHeader.{IpHeader}
use Rattle.narc_transport.specs.Context.{IsEnds}
use Rattle.narc_stack.specs.declared.content.ContentContext.{ContentContext}
use Rattle.narc_stack.specs.Content.{RawContent}
use Rattle.narc_stack.specs.Ipv4.{context_of, zeros_of, IsPadded, RawIpv4, ipv4_of, raw_ipv4, SameIpv4, padded_content, header_and_content}
use Rattle.narc_stack.specs.Ipv4Part.{ipv4_part}
use Rattle.narc_stack.proofs.ContentRead.{IsContentRead, content_read_rows, content_read, IsHere, content_rows_are}
use Rattle.narc_stack.proofs.Ipv4Octets.{content_at, header_says}

-- the data of the header's length, and any padding
abbrev pub IsPaddedRead : ContentContext × ℕ → RawContent × Unit {0} → List ℕ → Type 0
IsPaddedRead c v = Parts (λ d. (length d ≡ c.0.octets) × IsContentRead c.0 v.0 d) (λ pad. Unit {0})

abbrev padded_rows : ContentContext × ℕ → (start : ℕ) → List ℕ → List Row
padded_rows c start x = ((row 0 start (is_shorter x c.0.octets) ∷ []) ++ content_read_rows c.0 start (take c.0.octets x)) ++ []

padded_read : IsTailRead padded_content IsPaddedRead padded_rows
padded_read = seq_tail_read (λ c. c.0) (λ c v. c.1) IsPadded (region_read (λ (c : ContentContext). c.octets) content_read) padding_read (λ c x. c.1) (λ c v o later each is. refl)

abbrev pub IsPacketRead : ℕ → RawIpv4 → List ℕ → Type 0
IsPacketRead n w = Parts (IsHeader n w.0) (IsPaddedRead (context_of w.0, zeros_of w.0) w.1)

-- the contexts of the data and of the padding, in the octets
abbrev behind_at : ℕ → List ℕ → ContentContext × ℕ
behind_at n x = (content_at x, 46 - total_length x)

knows : (n : ℕ) (h : IpHeader) (o later : List ℕ) → IsOctets (o ++ later) → IsHeader n h o → behind_at n (o ++ later) ≡ (context_of h, zeros_of h)
knows n h o later each is =
    let s = header_says n h o later is in
    ap (λ c. (c, 46 - total_length (o ++ later))) s.content_is ∙ ap (λ t. (context_of h, 46 - t)) s.total_is

abbrev packet_rows : ℕ → (start : ℕ) → List ℕ → List Row
packet_rows n start x = composed_rows n start x ++ padded_rows (behind_at n x) (start + header_length x) (drop (header_length x) x)

packet_read : IsTailRead header_and_content IsPacketRead packet_rows
packet_read = seq_tail_read (λ n. n) (λ n h. (context_of h, zeros_of h)) (λ n. n < 2 ^ 64) head_read padded_read behind_at knows

abbrev pub IsIpv4Read : Unit {0} → Ipv4 → List ℕ → Type 0
IsIpv4Read c p o = (w : RawIpv4) × IsPacketRead (length o) w o × (ipv4_of w ≡ p)

abbrev pub ipv4_read_rows : Unit {0} → (start : ℕ) → List ℕ → List Row
ipv4_read_rows c start x = packet_rows (length x) start x

pub ipv4_part_read : IsTailRead ipv4_part IsIpv4Read ipv4_read_rows
unfolding ipv4_part
ipv4_part_read = stripped_tail_read ipv4_of (λ c p. raw_ipv4 p) SameIpv4 (measured_read (λ c n. n) (λ c. MAX_LENGTH) (λ c. Unit {0}) packet_read)

-- a header that was read, and what it says of the data behind it
pub record Headed (n : ℕ) (x : List ℕ) : Type 0 where
  pub header : IpHeader
  pub front : List ℕ
  pub later : List ℕ
  pub is : IsHeader n header front
  pub joined : x ≡ front ++ later
  pub total : total_length x ≡ header.total
  pub content : content_at x ≡ context_of header

headed : (n : ℕ) (x : List ℕ) → Front (IsHeader n) x → Headed n x
headed n x p =
    let s = header_says n p.found p.front p.later p.is in
    record { header = p.found; front = p.front; later = p.later; is = p.is; joined = p.joined; total = ap total_length p.joined ∙ s.total_is; content = ap content_at p.joined ∙ s.content_is }

module _ (x : List ℕ) (each : IsOctets x) where
  here : Headed (length x) x → IsHere (content_at x) (content_in x)
  here k =
      let range = k.is.in_range in
      let there = k.is.present in
      let total = k.total in
      let small = k.is.small in
      let room : total_length x ≤ length x = omega (arith, total, there) in
      let size : length (content_in x) ≡ total_length x - header_length x = omega (arith, length-take (total_length x - header_length x) (drop (header_length x) x), length-drop (header_length x) x, room) in
      let ends = ap (λ (c : ContentContext). c.ends) k.content in
      record {
        ends = subst IsEnds (sym ends) (range.src, range.dst);
        protocol = subst (λ n. n < 256) (sym (ap (λ (c : ContentContext). c.protocol) k.content)) k.is.protocol;
        each = IsOctets-take (total_length x - header_length x) (drop (header_length x) x) (IsOctets-drop (header_length x) x each);
        size = size;
        short = omega (arith, total, small);
      }

  -- behind a header that passes, the rows of the data
  behind : Headed (length x) x → first_failing (padded_rows (behind_at (length x) x) (14 + header_length x) (drop (header_length x) x)) ≡ first_failing (content_rows x)
  behind k =
      let c = content_at x in
      let there = k.is.present in
      let total = k.total in
      let d = drop (header_length x) x in
      let start = 14 + header_length x in
      let enough : is_shorter d c.octets ≡ false = le-ltb (length d) c.octets (omega (arith, length-drop (header_length x) x, total, there)) in
      no_more_rows ((row 0 start (is_shorter d c.octets) ∷ []) ++ content_read_rows c start (content_in x))
      ∙ row_passes 0 start (is_shorter d c.octets) (content_read_rows c start (content_in x)) enough
      ∙ content_rows_are c (content_in x) (here k) start

  pub ipv4_rows_are : first_failing (ipv4_read_rows tt 14 x) ≡ first_failing (ipv4_rows x ++ content_rows x)
  ipv4_rows_are =
      let n = length x in
      rows_same (composed_rows n 14 x) (ipv4_rows x) (padded_rows (behind_at n x) (14 + header_length x) (drop (header_length x) x)) (content_rows x) (rows_are 14 x)
      (λ none. behind (headed n x ((head_read.passes n 14 x each).0 (rows_are 14 x ∙ none))))
