-- What is known of the lengths and the octets of the lines of a text.
use Rattle.std.proofs.Common.{◌≡◌, ℕ, ◌+◌, ◌<◌, ◌≤◌, ◌^◌, inl, inr, List, [], ◌∷◌, ◌++◌, codes, decimal, length, ap, arith, length-append}
use Rattle.std.specs.Prelude.{flat_map}
use Rattle.std.proofs.lemmas.Fmt.{length-decimal-le}
use Rattle.narc_world.specs.declared.input_buffer.TheConstants.{INPUT_LIMIT}
use Rattle.narc_packet.specs.Canonical.{canonical_eth_body, canonical_frame}
use Rattle.narc_packet.specs.Frame.{ether_type_of}
use Rattle.narc_packet.specs.Ipv4.{canonical_ipv4}
use Rattle.narc_packet.specs.PacketView.{EthBodyView, ArpBody, Ipv4Body, OtherBody}
use Rattle.narc_packet.specs.WellFormed.{IsWellFormedEthBody}
use Rattle.narc_pcap.specs.declared.header.Unit.{Unit as TimeUnit}
use Rattle.narc_pcap.specs.declared.header.Unit.TheVariants.{Micro, Nano}
use Rattle.narc_stack.proofs.Canonical.{canonical_size}
use Rattle.narc_stack.proofs.WellFormed.{arp_size, canonical_small, front_length, padded_length}
use Rattle.narc_text.specs.CaptureText.{TextEntry, IsTextEntry, unit_word, capture_line, entry_line, end_line}
use Rattle.narc_text.specs.PacketText.{spaced, text}
use Rattle.narc_text.proofs.TextSizes.{content_size, text-sized}
use Rattle.narc_text.proofs.WordSizes.{digits-some, digits-ten}
use Rattle.narc_build.specs.declared.limits.TheConstants.{LONGEST_LINE}
use Rattle.narc_build.specs.CaptureFront.{TextCapture, TextFront, NoLine, Begun, Whole, begun_text, front_text}
use Rattle.narc_build.proofs.CaptureFronts.{LineFacts, Follows}
use Rattle.narc_build.proofs.TextLines.{line_facts}

-- ---- a record and its line

content_fits : (b : EthBodyView) → IsWellFormedEthBody b → length (canonical_eth_body b) ≤ content_size b
content_fits (ArpBody a) w = omega (arith, arp_size a w)
content_fits (Ipv4Body p) w = omega (arith, padded_length (canonical_ipv4 p), canonical_size p w)
content_fits (OtherBody t payload) w = omega arith

line-size : (e : TextEntry) → length (entry_line e) ≡ 10 + (length (decimal e.sec) + (length (decimal e.sub) + length (text e.packet)))
line-size e = simp length-append (omega arith)

-- a record is no longer than its line
record_fits : (e : TextEntry) → IsTextEntry e → 16 + length (canonical_frame e.packet) ≤ length (entry_line e)
record_fits e valid =
    let p = e.packet in
    let w = valid.packet in
    omega (
      arith,
      line-size e,
      front_length p.dst p.src (ether_type_of p.body) (canonical_eth_body p.body) w.dst w.src,
      content_fits p.body w.body,
      (text-sized p w).least,
      digits-some e.sec valid.sec,
      digits-some e.sub valid.sub,
    )

-- a frame is no longer than a record may have
frame_fits : (e : TextEntry) → IsTextEntry e → length (canonical_frame e.packet) ≤ 262144
frame_fits e valid = canonical_small e.packet valid.packet

-- ---- the longest line

entry_fits : (e : TextEntry) → IsTextEntry e → length (entry_line e) ≤ LONGEST_LINE
entry_fits e valid = omega (arith, line-size e, (text-sized e.packet valid.packet).most, digits-ten e.sec valid.sec, digits-ten e.sub valid.sub)

unit-size : (unit : TimeUnit) → length (unit_word unit) ≡ 2
unit-size Micro = omega arith
unit-size Nano = omega arith

head-size : (unit snap : List ℕ) → length (spaced (codes "capture" ∷ unit ∷ snap ∷ []) ++ 10 ∷ []) ≡ 10 + (length unit + length snap)
head-size unit snap = simp length-append (omega arith)

head_fits : (unit : TimeUnit) (snap : ℕ) → snap < 2 ^ 32 → length (capture_line (unit_word unit) snap) ≤ LONGEST_LINE
head_fits unit snap few = omega (arith, head-size (unit_word unit) (decimal snap), unit-size unit, digits-ten snap few)

last-size : (a b c d : List ℕ) → length (spaced (codes "end" ∷ a ∷ b ∷ c ∷ d ∷ []) ++ 10 ∷ []) ≡ 8 + (length a + (length b + (length c + length d)))
last-size a b c d = simp length-append (omega arith)

last_fits : (n : ℕ) → n ≤ INPUT_LIMIT → length (end_line n n 0 0) ≤ LONGEST_LINE
last_fits n few =
    let short = length-decimal-le 13 n (omega arith) (omega (arith, few)) (omega (arith, few)) in
    let none = length-decimal-le 1 0 (omega arith) (omega arith) (omega arith) in
    omega (arith, last-size (decimal n) (decimal n) (decimal 0) (decimal 0), short, none)

-- there are no more entries than octets
entries_few : (entries : List TextEntry) → length entries ≤ length (flat_map entry_line entries)
entries_few [] = omega arith
entries_few (e ∷ entries) = omega (arith, length-append (entry_line e) (flat_map entry_line entries), line-size e, entries_few entries)

pub text_few : (c : TextCapture) → length c.entries ≤ length (begun_text c)
text_few c = omega (arith, entries_few c.entries, length-append (capture_line (unit_word c.unit) c.snap) (flat_map entry_line c.entries))

-- no line is longer than the longest, behind as many octets as a text may have
line_fits : (f : TextFront) (line : List ℕ) → length (front_text f) ≤ INPUT_LIMIT → Follows f line → length line ≤ LONGEST_LINE
line_fits NoLine line few follows = omega (arith, ap length follows.3, head_fits follows.0 follows.1 follows.2)
line_fits (Begun c) line few (inl entry) = omega (arith, ap length entry.2, entry_fits entry.0 entry.1)
line_fits (Begun c) line few (inr last) = omega (arith, ap length last, last_fits (length c.entries) (omega (arith, text_few c, few)))
line_fits (Whole c) line few follows = absurd follows

pub record TextFacts : Type 0 where
  -- no line has a line feed but at its end
  pub lines : LineFacts
  pub record_fits : (e : TextEntry) → IsTextEntry e → 16 + length (canonical_frame e.packet) ≤ length (entry_line e)
  pub frame_fits : (e : TextEntry) → IsTextEntry e → length (canonical_frame e.packet) ≤ 262144
  pub line_fits : (f : TextFront) (line : List ℕ) → length (front_text f) ≤ INPUT_LIMIT → Follows f line → length line ≤ LONGEST_LINE

pub text_facts : TextFacts
text_facts = record {
  lines = line_facts;
  record_fits = record_fits;
  frame_fits = frame_fits;
  line_fits = line_fits;
}
