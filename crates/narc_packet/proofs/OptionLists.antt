-- The options in octets, from the first on.
use Rattle.std.proofs.Common.{◌≡◌, ◌↔◌, ℕ, zero, suc, ◌+◌, ◌-◌, ◌<◌, ◌≤◌, true, false, ◌||◌, if◌then◌else◌, List, [], ◌∷◌, ◌++◌, length, length-append, length-take-le, append_assoc, take-append-drop, take, drop, refl, sym, ap, ◌∙◌, subst, arith}
use Rattle.std.specs.Prelude.{nat_lt, flat_map}
use Rattle.std.proofs.Math.Seq.{take-append_seam, drop-append_seam}
use Rattle.std.proofs.lemmas.List.{length-map, append_cancel_left}
use Rattle.std.proofs.lemmas.Bool.Decides.{nat_tests}
use Rattle.std.specs.List.{AllByRecursion}
use Rattle.narc_bits.specs.Octets.{IsOctets}
use Rattle.narc_bits.proofs.Octets.{IsOctets-take}
use Rattle.narc_packet.specs.Options.{IpOptionView, IpNop, IpOther, other_option, ip_option, IsIpOption, walked, ip_options_in, is_bad_option, option_rest, first_option, tcp_option_of, tcp_options_in, AreIpOptions}

pub walked-drop : (skip : ℕ) (l : List ℕ) → walked skip l ≡ walked 0 (drop skip l)
walked-drop zero l = refl
walked-drop (suc skip) [] = refl
walked-drop (suc skip) (octet ∷ l) = walked-drop skip l

-- an option in front of what was walked over
abbrev after : IpOptionView → List IpOptionView × List ℕ → List IpOptionView × List ℕ
after option walk = (option ∷ walk.0, walk.1)

is_good : (n : ℕ) (l : List ℕ) → n ≤ length l → (nat_lt (2 + n) 2 || nat_lt (2 + length l) (2 + n)) ≡ false
is_good n l h = grind (arith, nat_tests)

-- an option whose spelling is cut off in front
walked-other : (kind : ℕ) (octets l : List ℕ) → 2 ≤ kind → walked 0 (other_option kind octets ++ l) ≡ after (IpOther kind octets) (walked 0 l)
walked-other zero octets l large = absurd (omega (arith, large))
walked-other (suc zero) octets l large = absurd (omega (arith, large))
walked-other (suc (suc kind)) octets l large =
    let len = 2 + length octets in
    let behind = octets ++ l in
    let next : walked (len - 1) (len ∷ behind) ≡ walked 0 l =
    ap (λ n. walked n (len ∷ behind)) {y = suc (length octets)} (omega arith) ∙ walked-drop (length octets) behind ∙ ap (walked 0) (drop-append_seam octets l) in
    let front : take (len - 2) behind ≡ octets = ap (λ n. take n behind) {y = length octets} (omega arith) ∙ take-append_seam octets l in
    ap (λ b. if b then ([], suc (suc kind) ∷ len ∷ behind) else after (IpOther (suc (suc kind)) (take (len - 2) behind)) (walked (len - 1) (len ∷ behind))) (is_good (length octets) behind (omega (arith, length-append octets l)))
    ∙ ap (after (IpOther (suc (suc kind)) (take (len - 2) behind))) next
    ∙ ap (λ d. after (IpOther (suc (suc kind)) d) (walked 0 l)) front

pub ip_options_in-other : (kind : ℕ) (octets l : List ℕ) → 2 ≤ kind → ip_options_in (other_option kind octets ++ l) ≡ IpOther kind octets ∷ ip_options_in l
ip_options_in-other kind octets l large = ap (λ w. w.0) (walked-other kind octets l large)

walked-cons : (option : IpOptionView) (l : List ℕ) → IsIpOption option → walked 0 (ip_option option ++ l) ≡ after option (walked 0 l)
walked-cons IpNop l h = refl
walked-cons (IpOther kind octets) l h = walked-other kind octets l h.least

pub ip_options_in-cons : (option : IpOptionView) (l : List ℕ) → IsIpOption option → ip_options_in (ip_option option ++ l) ≡ option ∷ ip_options_in l
ip_options_in-cons option l h = ap (λ w. w.0) (walked-cons option l h)

-- options spelled one behind the other are the first in these octets
pub walked-append : (options : List IpOptionView) (l : List ℕ) → AllByRecursion IsIpOption options
    → walked 0 (flat_map ip_option options ++ l) ≡ (options ++ (walked 0 l).0, (walked 0 l).1)
walked-append [] l h = refl
walked-append (option ∷ options) l h =
    ap (walked 0) (append_assoc (ip_option option) (flat_map ip_option options) l)
    ∙ walked-cons option (flat_map ip_option options ++ l) h.0
    ∙ ap (after option) (walked-append options l h.1)

pub ip_options_in-append : (options : List IpOptionView) (l : List ℕ) → AllByRecursion IsIpOption options
    → ip_options_in (flat_map ip_option options ++ l) ≡ options ++ ip_options_in l
ip_options_in-append options l h = ap (λ w. w.0) (walked-append options l h)

-- the option that is cut off in front, in its parts
pub ip_options_in-split : (spelled behind rest octets l : List ℕ) (kind len count : ℕ) → 2 ≤ kind → spelled ≡ kind ∷ behind → behind ≡ len ∷ rest
    → count + 2 ≡ len → count ≤ length rest → octets ≡ take count rest → l ≡ drop count rest → ip_options_in spelled ≡ IpOther kind octets ∷ ip_options_in l
ip_options_in-split spelled behind rest octets l kind len count large first second counted enough front back =
    let cut : rest ≡ octets ++ l = sym (take-append-drop count rest) ∙ ap (λ t. t ++ drop count rest) (sym front) ∙ ap (λ t. octets ++ t) (sym back) in
    let size : length octets ≡ count = ap length front ∙ length-take-le count rest enough in
    let whole : spelled ≡ other_option kind octets ++ l = first ∙ ap (λ t. kind ∷ t) (second ∙ ap (λ n. n ∷ rest) {y = 2 + length octets} (omega (arith, counted, size)) ∙ ap (λ t. (2 + length octets) ∷ t) cut) in
    ap ip_options_in whole ∙ ip_options_in-other kind octets l large

-- each option has an octet of its own
pub length-walked : (skip : ℕ) (l : List ℕ) → length (walked skip l).0 ≤ length l
length-walked skip [] = omega arith
length-walked (suc skip) (octet ∷ l) = omega (arith, length-walked skip l)
length-walked zero (zero ∷ l) = omega arith
length-walked zero (suc octet ∷ l) =
    let behind = walked (option_rest (suc octet ∷ l)) l in
    let bound = length-walked (option_rest (suc octet ∷ l)) l in
    elim (is_bad_option (suc octet ∷ l)) as (λ b. length (if b then ([], suc octet ∷ l) else after (first_option (suc octet ∷ l)) behind).0 ≤ suc (length l)) [ true ↦ omega arith | false ↦ omega (arith, bound) ]

pub length-tcp_options_in : (l : List ℕ) → length (tcp_options_in l) ≤ length l
length-tcp_options_in l = omega (arith, length-map (ip_options_in l) tcp_option_of, length-walked 0 l)

-- octets spell options and nothing else exactly where those behind the first option do
pub are-behind : (left behind : List ℕ) (option : IpOptionView) → ip_options_in left ≡ option ∷ ip_options_in behind → left ≡ ip_option option ++ behind
    → (flat_map ip_option (ip_options_in behind) ≡ behind) ↔ (flat_map ip_option (ip_options_in left) ≡ left)
are-behind left behind option first cut =
    let whole : flat_map ip_option (ip_options_in left) ≡ ip_option option ++ flat_map ip_option (ip_options_in behind) = ap (flat_map ip_option) first in (
      λ e. whole ∙ ap (λ l. ip_option option ++ l) e ∙ sym cut,
      λ e. append_cancel_left (ip_option option) (flat_map ip_option (ip_options_in behind)) behind (sym whole ∙ e ∙ cut),
    )

-- an option with a kind and data in octets, but of any length
abbrev pub IsFound : IpOptionView → Type 0
IsFound IpNop = Unit {0}
IsFound (IpOther kind octets) = (2 ≤ kind) × (kind < 256) × IsOctets octets

-- the options in octets are such
pub each_found : (skip : ℕ) (l : List ℕ) → IsOctets l → AllByRecursion IsFound (walked skip l).0
each_found skip [] octets = tt
each_found (suc skip) (octet ∷ l) octets = each_found skip l octets.1
each_found zero (zero ∷ l) octets = tt
each_found zero (suc zero ∷ l) octets = (tt, each_found zero l octets.1)
each_found zero (suc (suc kind) ∷ []) octets = tt
each_found zero (suc (suc kind) ∷ len ∷ l) octets =
    let behind = walked (len - 1) (len ∷ l) in
    elim (is_bad_option (suc (suc kind) ∷ len ∷ l)) as (λ b. AllByRecursion IsFound (if b then ([], suc (suc kind) ∷ len ∷ l) else after (IpOther (suc (suc kind)) (take (len - 2) l)) behind).0)
    [ true ↦ tt | false ↦ ((omega arith, octets.0, IsOctets-take (len - 2) l octets.1.1), each_found (len - 1) (len ∷ l) octets.1) ]

-- options that few octets spell have few octets each
each_is_spelled : (options : List IpOptionView) → AllByRecursion IsFound options → length (flat_map ip_option options) ≤ 40 → AllByRecursion IsIpOption options
each_is_spelled [] found few = tt
each_is_spelled (IpNop ∷ options) found few = (tt, each_is_spelled options found.1 (omega (arith, few)))
each_is_spelled (IpOther kind l ∷ options) found few =
    let size = length-append l (flat_map ip_option options) in (
      record { least = found.0.0; kind_range = found.0.1; bound = omega (arith, few, size); each = found.0.2 },
      each_is_spelled options found.1 (omega (arith, few, size)),
    )

pub AreIpOptions-few : (l : List ℕ) → IsOctets l → length l ≤ 40 → flat_map ip_option (ip_options_in l) ≡ l → AreIpOptions l
AreIpOptions-few l octets few e =
    (e, each_is_spelled (ip_options_in l) (each_found 0 l octets) (subst (λ s. length s ≤ 40) (sym e) few))
