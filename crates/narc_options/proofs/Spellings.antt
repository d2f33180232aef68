-- The spellings of options, and the first bad option behind them.
use Rattle.std.proofs.Common.{◌≡◌, ℕ, zero, suc, ◌+◌, ◌-◌, ◌<◌, ◌≤◌, true, false, ◌||◌, List, [], ◌∷◌, ◌++◌, length, take, drop, Option, Some, None, nat_lt, if◌then◌else◌, refl, sym, ap, ◌∙◌, subst, arith, length-append, length-take, append-nil, take-append-drop}
use Rattle.std.specs.Prelude.{flat_map}
use Rattle.std.specs.List.{AllByRecursion}
use Rattle.std.proofs.lemmas.Bool.{le-ltb, ltb-false, or_parts, or_from}
use Rattle.narc_bits.specs.Octets.{IsOctets}
use Rattle.narc_bits.proofs.Octets.{IsOctets-append, IsOctets-take}
use Rattle.narc_packet.proofs.OptionLists.{walked-append, ip_options_in-append}
use Rattle.narc_packet.specs.Options.{IpOptionView, IpNop, IpOther, ip_option, IsIpOption, IsListEnd, is_bad_option, bad_option, option_rest, first_option, walked, ip_options_in, AreIpOptions}

-- an option with its data is not bad
other_good : (octets later : List ℕ) → (nat_lt (2 + length octets) 2 || nat_lt (2 + length (octets ++ later)) (2 + length octets)) ≡ false
other_good octets later =
    or_from (nat_lt (2 + length octets) 2) (nat_lt (2 + length (octets ++ later)) (2 + length octets))
    (le-ltb (2 + length octets) 2 (omega arith)) (le-ltb (2 + length (octets ++ later)) (2 + length octets) (omega (arith, length-append octets later)))

few_kinds : {A : Type 0} (kind : ℕ) → 2 ≤ kind → kind < 2 → A
few_kinds kind h k = absurd (none h k) where
  none : 2 ≤ kind → kind < 2 → ⊥
  none h k = omega (arith, h, k)

abbrev pub spelled : List IpOptionView → List ℕ
spelled os = flat_map ip_option os

abbrev pub AreOptions : List IpOptionView → Type 0
AreOptions os = AllByRecursion IsIpOption os

-- an end is left as it is, and so is a bad option
end_left : (rest : List ℕ) → IsListEnd rest → (walked 0 rest ≡ ([], rest)) × (is_bad_option rest ≡ false)
end_left [] h = (refl, refl)
end_left (octet ∷ l) h = subst (λ n. (walked 0 (n ∷ l) ≡ ([], n ∷ l)) × (is_bad_option (n ∷ l) ≡ false)) (sym h) (refl, refl)

bad_left : (x : List ℕ) → is_bad_option x ≡ true → walked 0 x ≡ ([], x)
bad_left [] h = cc
bad_left (zero ∷ l) h = cc
bad_left (suc octet ∷ l) h =
    let next = walked (option_rest (suc octet ∷ l)) l in
    ap (λ t. if t then ([], suc octet ∷ l) else (first_option (suc octet ∷ l) ∷ next.0, next.1)) h

-- what is left behind options that stand in front of it
left_behind : (os : List IpOptionView) (rest : List ℕ) → AreOptions os → walked 0 rest ≡ ([], rest) → (walked 0 (spelled os ++ rest)).1 ≡ rest
left_behind os rest h left = ap (λ w. w.1) (walked-append os rest h) ∙ ap (λ w. w.1) left

abbrev place_of : (area rest : List ℕ) → Option ℕ
place_of area rest = if is_bad_option rest then Some (length area - length rest) else None

-- none is bad in front of an end
pub none_bad : (os : List IpOptionView) (rest : List ℕ) → AreOptions os → IsListEnd rest → bad_option (spelled os ++ rest) ≡ None
none_bad os rest h ended =
    let area = spelled os ++ rest in
    let e = end_left rest ended in
    ap (place_of area) (left_behind os rest h e.0) ∙ ap (λ b. if b then Some (length area - length rest) else None) e.1

-- a bad option behind options is the first
pub bad_behind : (os : List IpOptionView) (x : List ℕ) → AreOptions os → is_bad_option x ≡ true → bad_option (spelled os ++ x) ≡ Some (length (spelled os))
bad_behind os x h bad =
    let area = spelled os ++ x in
    ap (place_of area) (left_behind os x h (bad_left x bad)) ∙ ap (λ b. if b then Some (length area - length x) else None) bad ∙ ap Some {y = length (spelled os)} (omega (arith, length-append (spelled os) x))

-- the octets of options are read as these
pub options_again : (os : List IpOptionView) → AreOptions os → ip_options_in (spelled os) ≡ os
options_again os h = ap ip_options_in (sym (append-nil (spelled os))) ∙ ip_options_in-append os [] h ∙ append-nil os

pub are_options : (os : List IpOptionView) → AreOptions os → AreIpOptions (spelled os)
are_options os h = let same = options_again os h in (ap spelled same, subst AreOptions (sym same) h)

-- octets that begin with an option
pub record BeginsWithOption (x : List ℕ) : Type 0 where
  pub option : IpOptionView
  pub is : IsIpOption option
  pub later : List ℕ
  pub joined : x ≡ ip_option option ++ later

-- up to 40 octets that are no end and not bad begin with an option
pub option_there : (x : List ℕ) → IsOctets x → length x ≤ 40 → (IsListEnd x → ⊥) → is_bad_option x ≡ false → BeginsWithOption x
option_there [] each short more good = absurd (more tt)
option_there (zero ∷ l) each short more good = absurd (more refl)
option_there (suc zero ∷ l) each short more good = record { option = IpNop; is = tt; later = l; joined = refl }
option_there (suc (suc kind) ∷ []) each short more good = cc
option_there (suc (suc kind) ∷ len ∷ l) each short more good =
    let least = ltb-false len 2 (or_parts (nat_lt len 2) (nat_lt (2 + length l) len) good).0 in
    let most = ltb-false (2 + length l) len (or_parts (nat_lt len 2) (nat_lt (2 + length l) len) good).1 in
    let octets = take (len - 2) l in
    let size : len ≡ 2 + length octets = omega (arith, least, most, length-take (len - 2) l) in
    record {
      option = IpOther (suc (suc kind)) octets;
      is = record { least = omega arith; kind_range = each.0; bound = omega (arith, size, most, short); each = IsOctets-take (len - 2) l each.1.1 };
      later = drop (len - 2) l;
      joined = ap (λ n. suc (suc kind) ∷ n ∷ l) size ∙ ap (λ t. suc (suc kind) ∷ (2 + length octets) ∷ t) (sym (take-append-drop (len - 2) l));
    }

-- octets that begin with an option are not bad
pub option_good : (o : IpOptionView) → IsIpOption o → (later : List ℕ) → is_bad_option (ip_option o ++ later) ≡ false
option_good IpNop h later = refl
option_good (IpOther zero octets) h later = few_kinds 0 h.least (omega arith)
option_good (IpOther (suc zero) octets) h later = few_kinds 1 h.least (omega arith)
option_good (IpOther (suc (suc kind)) octets) h later = other_good octets later

-- the octets of an option
pub option_each : (o : IpOptionView) → IsIpOption o → IsOctets (ip_option o)
option_each IpNop h = (omega arith, tt)
option_each (IpOther kind octets) h = (h.kind_range, (omega (arith, h.bound), h.each))

pub spelled_each : (os : List IpOptionView) → AreOptions os → IsOctets (spelled os)
spelled_each [] h = tt
spelled_each (o ∷ os) h = IsOctets-append (ip_option o) (spelled os) (option_each o h.0) (spelled_each os h.1)
