-- What is read as a header, and as the header of a record, is what is written of it.
use Rattle.std.proofs.Common.{◌≡◌, ℕ, ◌+◌, ◌<◌, ◌≤◌, Bool, true, false, List, [], ◌∷◌, ◌++◌, length, take, drop, Option, Some, None, Result, Ok, Err, refl, sym, ap, ◌∙◌, arith, append_assoc, length-drop}
use Rattle.std.proofs.lemmas.Grind.{common_steps}
use Rattle.std.proofs.lemmas.List.{drop-drop, take-append-drop, take_all}
use Rattle.narc_bits.specs.Octets.{IsOctets}
use Rattle.narc_bits.proofs.Octets.{IsOctets-drop}
use Rattle.byteorder.specs.Endian.{big_bytes, little_bytes, big_number, little_number}
use Rattle.narc_pcap.specs.declared.header.Header.{Header}
use Rattle.narc_pcap.specs.declared.header.Unit.{Unit as TimeUnit}
use Rattle.narc_pcap.specs.declared.header.Unit.TheVariants.{Micro, Nano}
use Rattle.narc_pcap.specs.Capture.{number, order_of, header_at, header_in, record_at}
use Rattle.narc_pcap.specs.Written.{number_octets, magic_of, header_octets, head_octets}
use Rattle.narc_laws.specs.ReadCaptures.{ReadHeadersAreWritten, ReadRecordsAreWritten}

-- ---- one number

two_big : (a b : ℕ) (s : List ℕ) → a < 256 → b < 256 → big_bytes 2 (big_number 2 (a ∷ b ∷ s)) ≡ a ∷ b ∷ []
two_big a b s p q = grind (arith, common_steps)

two_little : (a b : ℕ) (s : List ℕ) → a < 256 → b < 256 → little_bytes 2 (little_number 2 (a ∷ b ∷ s)) ≡ a ∷ b ∷ []
two_little a b s p q = grind (arith, common_steps)

four_big : (a b c d : ℕ) (s : List ℕ) → a < 256 → b < 256 → c < 256 → d < 256 → big_bytes 4 (big_number 4 (a ∷ b ∷ c ∷ d ∷ s)) ≡ a ∷ b ∷ c ∷ d ∷ []
four_big a b c d s p q r t = grind (arith, common_steps)

four_little : (a b c d : ℕ) (s : List ℕ) → a < 256 → b < 256 → c < 256 → d < 256 → little_bytes 4 (little_number 4 (a ∷ b ∷ c ∷ d ∷ s)) ≡ a ∷ b ∷ c ∷ d ∷ []
four_little a b c d s p q r t = grind (arith, common_steps)

two : (big : Bool) (s : List ℕ) → IsOctets s → 2 ≤ length s → number_octets big 2 (number big 2 s) ≡ take 2 s
two big [] all few = absurd (omega arith)
two big (a ∷ []) all few = absurd (omega arith)
two true (a ∷ b ∷ s) all few = two_big a b s all.0 all.1.0
two false (a ∷ b ∷ s) all few = two_little a b s all.0 all.1.0

four : (big : Bool) (s : List ℕ) → IsOctets s → 4 ≤ length s → number_octets big 4 (number big 4 s) ≡ take 4 s
four big [] all few = absurd (omega arith)
four big (a ∷ []) all few = absurd (omega arith)
four big (a ∷ b ∷ []) all few = absurd (omega arith)
four big (a ∷ b ∷ c ∷ []) all few = absurd (omega arith)
four true (a ∷ b ∷ c ∷ d ∷ s) all few = four_big a b c d s all.0 all.1.0 all.1.1.0 all.1.1.1.0
four false (a ∷ b ∷ c ∷ d ∷ s) all few = four_little a b c d s all.0 all.1.0 all.1.1.0 all.1.1.1.0

-- ---- numbers one behind the other

-- the first octets behind a place, and what is behind them
behind : (k at : ℕ) (s octets rest : List ℕ) → octets ≡ take k (drop at s) → rest ≡ drop (at + k) s → octets ++ rest ≡ drop at s
behind k at s octets rest e f =
    ap (λ l. l ++ rest) e ∙ ap (λ l. take k (drop at s) ++ l) (f ∙ sym (drop-drop k at s)) ∙ take-append-drop k (drop at s)

four_joined : (a b c d : List ℕ) → a ++ b ++ c ++ d ≡ a ++ (b ++ (c ++ d))
four_joined a b c d = append_assoc (a ++ b) c d ∙ append_assoc a b (c ++ d)

seven_joined : (a b c d e f g : List ℕ) → a ++ b ++ c ++ d ++ e ++ f ++ g ≡ a ++ (b ++ (c ++ (d ++ (e ++ (f ++ g)))))
seven_joined a b c d e f g =
    append_assoc (a ++ b ++ c ++ d ++ e) f g ∙ append_assoc (a ++ b ++ c ++ d) e (f ++ g) ∙ four_joined (a ++ b) c d (e ++ (f ++ g))
    ∙ append_assoc a b (c ++ (d ++ (e ++ (f ++ g))))

module _ (big : Bool) (s : List ℕ) (each : IsOctets s) where
  four_at : (at : ℕ) → at + 4 ≤ length s → number_octets big 4 (number big 4 (drop at s)) ≡ take 4 (drop at s)
  four_at at fits = four big (drop at s) (IsOctets-drop at s each) (omega (arith, length-drop at s))

  two_at : (at : ℕ) → at + 2 ≤ length s → number_octets big 2 (number big 2 (drop at s)) ≡ take 2 (drop at s)
  two_at at fits = two big (drop at s) (IsOctets-drop at s each) (omega (arith, length-drop at s))

  -- the last number
  last_at : (at : ℕ) → length s ≡ at + 4 → number_octets big 4 (number big 4 (drop at s)) ≡ drop at s
  last_at at size = four_at at (omega arith) ∙ take_all 4 (drop at s) (omega (arith, length-drop at s))

  first_then : (n : ℕ) (rest : List ℕ) → 4 ≤ length s → n ≡ number big 4 s → rest ≡ drop 4 s → number_octets big 4 n ++ rest ≡ s
  first_then n rest fits is e =
      ap (λ l. l ++ rest) (ap (number_octets big 4) is ∙ four big s each fits) ∙ ap (λ l. take 4 s ++ l) e ∙ take-append-drop 4 s

  four_then : (at n : ℕ) (rest : List ℕ) → at + 4 ≤ length s → n ≡ number big 4 (drop at s) → rest ≡ drop (at + 4) s → number_octets big 4 n ++ rest ≡ drop at s
  four_then at n rest fits is e = behind 4 at s (number_octets big 4 n) rest (ap (number_octets big 4) is ∙ four_at at fits) e

  two_then : (at n : ℕ) (rest : List ℕ) → at + 2 ≤ length s → n ≡ number big 2 (drop at s) → rest ≡ drop (at + 2) s → number_octets big 2 n ++ rest ≡ drop at s
  two_then at n rest fits is e = behind 2 at s (number_octets big 2 n) rest (ap (number_octets big 2) is ∙ two_at at fits) e

  head_written : (place : ℕ) → length s ≡ 16
      → head_octets big (record_at big place s).sec (record_at big place s).sub (record_at big place s).captured (record_at big place s).original ≡ s
  head_written place size =
      let r = record_at big place s in
      let last = number_octets big 4 r.original in
      let later = number_octets big 4 r.captured ++ last in
      four_joined (number_octets big 4 r.sec) (number_octets big 4 r.sub) (number_octets big 4 r.captured) last
      ∙ first_then r.sec (number_octets big 4 r.sub ++ later) (omega arith) refl
      (four_then 4 r.sub later (omega arith) refl (four_then 8 r.captured last (omega arith) refl (last_at 12 size)))

  -- a header that begins with these numbers
  header_is : (unit : TimeUnit) → length s ≡ 24 → magic_of unit ≡ number big 4 s → 2 ≡ number big 2 (drop 4 s) → 4 ≡ number big 2 (drop 6 s)
      → 1 ≡ number big 4 (drop 20 s) → header_octets (header_at big unit s) ≡ s
  header_is unit size magic major minor link =
      let h = header_at big unit s in
      let last = number_octets big 4 1 in
      let from_16 = number_octets big 4 h.snap ++ last in
      let from_12 = number_octets big 4 h.accuracy ++ from_16 in
      let from_8 = number_octets big 4 h.zone ++ from_12 in
      let from_6 = number_octets big 2 4 ++ from_8 in
      seven_joined (number_octets big 4 (magic_of unit)) (number_octets big 2 2) (number_octets big 2 4) (number_octets big 4 h.zone) (number_octets big 4 h.accuracy) (number_octets big 4 h.snap) last
      ∙ first_then (magic_of unit) (number_octets big 2 2 ++ from_6) (omega arith) magic
      (two_then 4 2 from_6 (omega arith) major (two_then 6 4 from_8 (omega arith) minor
      (four_then 8 h.zone from_12 (omega arith) refl (four_then 12 h.accuracy from_16 (omega arith) refl
      (four_then 16 h.snap last (omega arith) refl (ap (number_octets big 4) link ∙ last_at 20 size))))))

-- ---- the header

module _ (s : List ℕ) where
  order_told : (big : Bool) (unit : TimeUnit) → order_of s ≡ Some (big, unit) → magic_of unit ≡ number big 4 s
  order_told true Micro h = grind (arith, common_steps)
  order_told true Nano h = grind (arith, common_steps)
  order_told false Micro h = grind (arith, common_steps)
  order_told false Nano h = grind (arith, common_steps)

  record Told (big : Bool) (unit : TimeUnit) (h : Header) : Type 0 where
    is : h ≡ header_at big unit s
    major : 2 ≡ number big 2 (drop 4 s)
    minor : 4 ≡ number big 2 (drop 6 s)
    link : 1 ≡ number big 4 (drop 20 s)

  told : (big : Bool) (unit : TimeUnit) (h : Header) → header_in big unit s ≡ Ok h → Told big unit h
  told big unit h e = record {
    is = grind (arith, common_steps);
    major = grind (arith, common_steps);
    minor = grind (arith, common_steps);
    link = grind (arith, common_steps);
  }

abbrev by_order : (s : List ℕ) → Option (Bool × TimeUnit) → Result Header ℕ
by_order s None = Err 0
by_order s (Some order) = header_in order.0 order.1 s

header_by : (s : List ℕ) (h : Header) → IsOctets s → length s ≡ 24 → (o : Option (Bool × TimeUnit)) → order_of s ≡ o → by_order s o ≡ Ok h → header_octets h ≡ s
header_by s h each size None known e = cc
header_by s h each size (Some (big, unit)) known e =
    let t = told s big unit h e in
    ap header_octets t.is ∙ header_is big s each unit size (order_told s big unit known) t.major t.minor t.link

pub header_written : ReadHeadersAreWritten
header_written s h each size e = header_by s h each size (order_of s) refl e

pub record_written : ReadRecordsAreWritten
record_written big place s frame each size = ap (λ l. l ++ frame) (head_written big s each place size)
