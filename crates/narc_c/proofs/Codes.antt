-- A refused field has a number above 0, so that 0 tells of a packet alone.
use Rattle.std.proofs.Common.{◌≡◌, ℕ, ◌+◌, ◌<◌, ◌↔◌, Bool, true, false, List, [], ◌∷◌, ◌++◌, sym, ap, arith, rules}
use Rattle.std.specs.Prelude.{Option, Some, None, Ok, Err, if◌then◌else◌, nat_eq, drop, slice_range}
use Rattle.std.specs.List.{AllByRecursion}
use Rattle.narc_bits.specs.Octets.{number_at}
use Rattle.narc_format.specs.Rows.{RefusalView, Row, first_failing}
use Rattle.narc_packet.specs.Frame.{arp_type, ipv4_type}
use Rattle.narc_packet.specs.Refusal.{arp_rows, ipv4_rows, content_rows, udp_rows, tcp_rows, header_length, content_in, is_fragment_in, rows_for, refusal}
use Rattle.narc_packet.specs.Answer.{Answer, IsOnlyAnswer}
use Rattle.narc_stack.specs.Judgement.{judgement_of}
use Rattle.narc_c.specs.Verdict.{HasPacket, code_of}

-- each row names a field
abbrev AreNumbered : List Row → Type 0
AreNumbered rows = AllByRecursion (λ (r : Row). 0 < r.refusal.field) rows

first_numbered : (fails : Bool) (x r : RefusalView) (later : Option RefusalView) → 0 < x.field → (later ≡ Some r → 0 < r.field) → (if fails then Some x else later) ≡ Some r → 0 < r.field
first_numbered true x r later here there e = let same : x ≡ r = cc in omega (arith, here, ap (λ (v : RefusalView). v.field) same)
first_numbered false x r later here there e = there e

failing_numbered : (rows : List Row) → AreNumbered rows → (r : RefusalView) → first_failing rows ≡ Some r → 0 < r.field
failing_numbered [] all r e = cc
failing_numbered (x ∷ rows) all r e = first_numbered x.fails x.refusal r (first_failing rows) all.0 (failing_numbered rows all.1 r) e

if_numbered : (b : Bool) (p q : List Row) → AreNumbered p → AreNumbered q → AreNumbered (if b then p else q)
if_numbered true p q left right = left
if_numbered false p q left right = right

udp_numbered : (src dst d : List ℕ) (start : ℕ) → AreNumbered (udp_rows src dst d start)
udp_numbered src dst d start = search (rules, arith)

tcp_numbered : (src dst d : List ℕ) (start : ℕ) → AreNumbered (tcp_rows src dst d start)
tcp_numbered src dst d start = search (rules, arith)

content_numbered : (x : List ℕ) → AreNumbered (content_rows x)
content_numbered x =
    let src = slice_range x 12 16 in
    let dst = slice_range x 16 20 in
    let start = 14 + header_length x in
    let protocol = number_at x 9 1 in
    let udp = udp_rows src dst (content_in x) start in
    let tcp = tcp_rows src dst (content_in x) start in
    let other = if nat_eq protocol 6 then tcp else [] in
    if_numbered (is_fragment_in x) [] (if nat_eq protocol 17 then udp else other) tt
    (if_numbered (nat_eq protocol 17) udp other (udp_numbered src dst (content_in x) start)
    (if_numbered (nat_eq protocol 6) tcp [] (tcp_numbered src dst (content_in x) start) tt))

arp_numbered : (x : List ℕ) → AreNumbered (arp_rows x)
arp_numbered x = search (rules, arith)

ipv4_numbered : (x : List ℕ) → AreNumbered (ipv4_rows x ++ content_rows x)
ipv4_numbered x = let behind = content_numbered x in (omega arith, (omega arith, (omega arith, (omega arith, (omega arith, (omega arith, (omega arith, behind)))))))

rows_numbered : (frame : List ℕ) → AreNumbered (rows_for frame)
rows_numbered frame =
    let x = drop 14 frame in
    let ether_type = number_at frame 12 2 in
    let ipv4 = ipv4_rows x ++ content_rows x in
    let behind = if_numbered (nat_eq ether_type arp_type) (arp_rows x) (if nat_eq ether_type ipv4_type then ipv4 else []) (arp_numbered x) (if_numbered (nat_eq ether_type ipv4_type) ipv4 [] (ipv4_numbered x) tt) in
    (omega arith, (omega arith, (omega arith, behind)))

-- The field of a refusal has a number above 0.
pub refused_above : (frame : List ℕ) (r : RefusalView) → refusal frame ≡ Some r → 0 < r.field
refused_above frame r e = failing_numbered (rows_for frame) (rows_numbered frame) r e

-- The code of the only right answer is 0 exactly where the octets are a frame of a packet.
pub code_tells : (octets : List ℕ) (answer : Answer) (told : ℕ) → IsOnlyAnswer octets answer → told ≡ code_of answer → (told ≡ 0) ↔ HasPacket octets
code_tells octets (Ok p) told only e = (λ zero. (p, only.right), λ is. e)
code_tells octets (Err r) told only e = (λ zero. absurd (omega (arith, refused_above octets r only.right, e, zero)), λ is. (let never : Err r ≡ Ok is.0 = only.packet is.0 is.1 in cc))

pub code_judged : (answer : Answer) (r : RefusalView) → judgement_of answer ≡ Err r → r.field ≡ code_of answer
code_judged (Ok p) r e = cc
code_judged (Err q) r e = let same : q ≡ r = cc in ap (λ (v : RefusalView). v.field) (sym same)
