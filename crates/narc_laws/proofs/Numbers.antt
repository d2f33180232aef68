-- The numbers of a capture have 32 bits.
use Rattle.std.proofs.Common.{◌≡◌, ℕ, ◌<◌, ◌^◌, Bool, true, false, List, drop, Option, Some, None, Result, Ok, Err, ap, subst}
use Rattle.std.specs.Prelude.{not, nat_eq, if◌then◌else◌}
use Rattle.byteorder.specs.Numbers.{big_from-lt, little_from-lt}
use Rattle.narc_bits.specs.Octets.{IsOctets}
use Rattle.narc_bits.proofs.Octets.{IsOctets-get_or, IsOctets-drop}
use Rattle.narc_pcap.specs.declared.header.Unit.{Unit as TimeUnit}
use Rattle.narc_pcap.specs.declared.header.Header.{Header}
use Rattle.narc_pcap.specs.Capture.{number, order_of, header_in, header_at, header_of}

pub number_lt : (big : Bool) (l : List ℕ) → IsOctets l → number big 4 l < 2 ^ 32
number_lt true l each = big_from-lt 0 4 l (λ k. IsOctets-get_or l k each)
number_lt false l each = little_from-lt 0 4 l (λ k. IsOctets-get_or l k each)

-- a header, where the version and the link type are known
abbrev header_if : (version minor link : Bool) → Header → Result Header ℕ
header_if version minor link h = if not version then Err 4 else if not minor then Err 6 else if not link then Err 20 else Ok h

header_by : (version minor link : Bool) (g h : Header) → header_if version minor link g ≡ Ok h → g ≡ h
header_by false m l g h e = cc
header_by true false l g h e = cc
header_by true true false g h e = cc
header_by true true true g h e = cc

abbrev header_by_order : Option (Bool × TimeUnit) → List ℕ → Result Header ℕ
header_by_order order l = elim order [ None ↦ Err 0 | Some o ↦ header_in o.0 o.1 l ]

snap_by : (order : Option (Bool × TimeUnit)) (l : List ℕ) (h : Header) → IsOctets l → header_by_order order l ≡ Ok h → h.snap < 2 ^ 32
snap_by None l h each e = cc
snap_by (Some order) l h each e =
    let big = order.0 in
    let same = header_by (nat_eq (number big 2 (drop 4 l)) 2) (nat_eq (number big 2 (drop 6 l)) 4) (nat_eq (number big 4 (drop 20 l)) 1) (header_at big order.1 l) h e in
    subst (λ n. n < 2 ^ 32) (ap (λ (k : Header). k.snap) same) (number_lt big (drop 16 l) (IsOctets-drop 16 l each))

-- the snapshot length of a header that is read
pub snap_lt : (l : List ℕ) (h : Header) → IsOctets l → header_of l ≡ Ok h → h.snap < 2 ^ 32
snap_lt l h each e = snap_by (order_of l) l h each e
