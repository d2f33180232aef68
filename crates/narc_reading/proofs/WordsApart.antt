-- Each value has a word of its own.
use Rattle.std.proofs.Common.{◌≡◌, ◌≢◌, ℕ, ◌+◌, ◌*◌, ◌/◌, ◌%◌, ◌<◌, Bool, true, false, List, [], ◌∷◌, codes, decimal, length, map, refl, sym, ap, ◌∙◌, arith, lit<}
use Rattle.std.specs.Prelude.{if◌then◌else◌}
use Rattle.std.specs.List.{AllByRecursion}
use Rattle.std.proofs.lemmas.Fmt.{decimal_injective}
use Rattle.std.proofs.lemmas.Bool.Decides.{nat_tests}
use Rattle.hex.specs.Hex.{encode_lower}
use Rattle.narc_bits.specs.Bits.{is_odd}
use Rattle.narc_bits.specs.Octets.{IsOctets}
use Rattle.narc_packet.specs.Options.{IpOptionView, TcpOptionView, TcpNop, TcpMss, TcpScale, TcpSackOk, TcpSack, TcpTimes, TcpOther, IsIpOption, IsTcpOption}
use Rattle.narc_packet.specs.Ranges.{IsIp}
use Rattle.narc_packet.specs.TextWords.{ip_word, fragment_marks, flags_word, list_word, tcp_option_word, ip_option_word, tcp_options_word, ip_options_word}
use Rattle.narc_reading.specs.Digits.{digit_number, octets_of}
use Rattle.narc_reading.specs.Parts.{parts_of}
use Rattle.narc_reading.specs.Reading.{FitIpArea, FitTcpArea, as_tcp}
use Rattle.narc_reading.specs.declared.parts.Separator.TheVariants.{Point}
use Rattle.narc_reading.proofs.DigitLanes.{octets_of-encode_lower}
use Rattle.narc_reading.proofs.Separated.{parts_of-join, parts_of-none}
use Rattle.narc_reading.proofs.OptionLoops.{HaveWords, list-parts, lacks-each}
use Rattle.narc_reading.proofs.OptionParts.{tcp-readable, ip-readable, as_tcp-word}
use Rattle.narc_reading.proofs.WordParts.{Lacks-decimals}

pub encode_lower-injective : (a b : List ℕ) → IsOctets a → IsOctets b → encode_lower a ≡ encode_lower b → a ≡ b
encode_lower-injective a b m n e = sym (octets_of-encode_lower a m) ∙ ap (λ w. octets_of (map digit_number w)) e ∙ octets_of-encode_lower b n

ip-parts : (a : List ℕ) → 0 < length a → IsOctets a → parts_of 46 (ip_word a) ≡ map decimal a
ip-parts [] some is = absurd (omega (arith, some))
ip-parts (o ∷ a) some is = parts_of-join 46 (decimal o) (map decimal a) (Lacks-decimals Point (o ∷ a) is)

decimals-injective : (a b : List ℕ) → IsOctets a → IsOctets b → map decimal a ≡ map decimal b → a ≡ b
decimals-injective [] [] m n e = refl
decimals-injective [] (p ∷ b) m n e = absurd (omega (arith, ap length e))
decimals-injective (o ∷ a) [] m n e = absurd (omega (arith, ap length e))
decimals-injective (o ∷ a) (p ∷ b) m n e =
    let first : decimal o ≡ decimal p = cc e in
    let rest : map decimal a ≡ map decimal b = cc e in
    ap (λ x. x ∷ a) (decimal_injective o p (omega (arith, m.0)) (omega (arith, n.0)) first) ∙ ap (λ l. p ∷ l) (decimals-injective a b m.1 n.1 rest)

pub ip_word-injective : (a b : List ℕ) → IsIp a → IsIp b → ip_word a ≡ ip_word b → a ≡ b
ip_word-injective a b m n e =
    decimals-injective a b m.1 n.1 (sym (ip-parts a (omega (arith, m.0)) m.1) ∙ ap (parts_of 46) e ∙ ip-parts b (omega (arith, n.0)) n.1)

mark-injective : (letter : ℕ) (b c : Bool) → letter ≢ 46 → (if b then letter else 46) ≡ (if c then letter else 46) → b ≡ c
mark-injective letter true true other e = refl
mark-injective letter true false other e = absurd (other e)
mark-injective letter false true other e = absurd (other (sym e))
mark-injective letter false false other e = refl

-- a letter is no point
letter : (n : ℕ) → 46 < n → n ≢ 46
letter n above e = omega (arith, above, e)

pub fragment-injective : (df mf other more : Bool) → fragment_marks df mf ≡ fragment_marks other more → (df ≡ other) × (mf ≡ more)
fragment-injective df mf other more e =
    let first : (if df then 68 else 46) ≡ (if other then 68 else 46) = cc e in
    let second : (if mf then 77 else 46) ≡ (if more then 77 else 46) = cc e in
    (mark-injective 68 df other (letter 68 (lit< tt)) first, mark-injective 77 mf more (letter 77 (lit< tt)) second)

odd-same : (m n : ℕ) → is_odd m ≡ is_odd n → m % 2 ≡ n % 2
odd-same m n e = grind (arith, nat_tests)

flag-same : (letter m n : ℕ) → letter ≢ 46 → (if is_odd m then letter else 46) ≡ (if is_odd n then letter else 46) → m % 2 ≡ n % 2
flag-same letter m n other e = odd-same m n (mark-injective letter (is_odd m) (is_odd n) other e)

six-bits : (n : ℕ) → n < 64 → n ≡ 32 * (n / 32 % 2) + 16 * (n / 16 % 2) + 8 * (n / 8 % 2) + 4 * (n / 4 % 2) + 2 * (n / 2 % 2) + n / 1 % 2
six-bits n h = omega arith

pub flags_word-injective : (m n : ℕ) → m < 64 → n < 64 → flags_word m ≡ flags_word n → m ≡ n
flags_word-injective m n small low e =
    let b1 : (if is_odd (m / 32) then 85 else 46) ≡ (if is_odd (n / 32) then 85 else 46) = cc e in
    let b2 : (if is_odd (m / 16) then 65 else 46) ≡ (if is_odd (n / 16) then 65 else 46) = cc e in
    let b3 : (if is_odd (m / 8) then 80 else 46) ≡ (if is_odd (n / 8) then 80 else 46) = cc e in
    let b4 : (if is_odd (m / 4) then 82 else 46) ≡ (if is_odd (n / 4) then 82 else 46) = cc e in
    let b5 : (if is_odd (m / 2) then 83 else 46) ≡ (if is_odd (n / 2) then 83 else 46) = cc e in
    let b6 : (if is_odd (m / 1) then 70 else 46) ≡ (if is_odd (n / 1) then 70 else 46) = cc e in
    omega (
      arith,
      six-bits m small,
      six-bits n low,
      flag-same 85 (m / 32) (n / 32) (letter 85 (lit< tt)) b1,
      flag-same 65 (m / 16) (n / 16) (letter 65 (lit< tt)) b2,
      flag-same 80 (m / 8) (n / 8) (letter 80 (lit< tt)) b3,
      flag-same 82 (m / 4) (n / 4) (letter 82 (lit< tt)) b4,
      flag-same 83 (m / 2) (n / 2) (letter 83 (lit< tt)) b5,
      flag-same 70 (m / 1) (n / 1) (letter 70 (lit< tt)) b6,
    )

-- lists of options
words-injective : {O : Type 0} (word_of : O → List ℕ) (IsOption : O → Type 0) → HaveWords word_of IsOption → (a b : List O) → AllByRecursion IsOption a → AllByRecursion IsOption b → map word_of a ≡ map word_of b → a ≡ b
words-injective word_of IsOption readable [] [] m n e = refl
words-injective word_of IsOption readable [] (p ∷ b) m n e = absurd (omega (arith, ap length e))
words-injective word_of IsOption readable (o ∷ a) [] m n e = absurd (omega (arith, ap length e))
words-injective word_of IsOption readable (o ∷ a) (p ∷ b) m n e =
    let first : word_of o ≡ word_of p = cc e in
    let rest : map word_of a ≡ map word_of b = cc e in
    ap (λ x. x ∷ a) (readable.one o p m.0 n.0 first) ∙ ap (λ l. p ∷ l) (words-injective word_of IsOption readable a b m.1 n.1 rest)

-- the word of one option or more is not `-`
not-dash : {O : Type 0} (word_of : O → List ℕ) (IsOption : O → Type 0) → HaveWords word_of IsOption → ((o : O) → word_of o ≢ codes "-") → (o : O) (options : List O) → AllByRecursion IsOption (o ∷ options)
    → list_word (map word_of (o ∷ options)) ≢ codes "-"
not-dash word_of IsOption readable some o options each e =
    let all : word_of o ∷ map word_of options ≡ codes "-" ∷ [] =
    sym (parts_of-join 44 (word_of o) (map word_of options) (lacks-each word_of IsOption readable (o ∷ options) each)) ∙ ap (parts_of 44) e ∙ parts_of-none 44 (codes "-") (refl, tt) in
    some o (cc all)

list_word-injective : {O : Type 0} (word_of : O → List ℕ) (IsOption : O → Type 0) → HaveWords word_of IsOption → ((o : O) → word_of o ≢ codes "-") → (a b : List O) → AllByRecursion IsOption a → AllByRecursion IsOption b
    → list_word (map word_of a) ≡ list_word (map word_of b) → a ≡ b
list_word-injective word_of IsOption readable some [] [] m n e = refl
list_word-injective word_of IsOption readable some [] (p ∷ b) m n e = absurd (not-dash word_of IsOption readable some p b n (sym e))
list_word-injective word_of IsOption readable some (o ∷ a) [] m n e = absurd (not-dash word_of IsOption readable some o a m e)
list_word-injective word_of IsOption readable some (o ∷ a) (p ∷ b) m n e =
    let text : List ℕ = list_word (map word_of (p ∷ b)) in
    let dash : text ≢ codes "-" = not-dash word_of IsOption readable some p b n in
    words-injective word_of IsOption readable (o ∷ a) (p ∷ b) m n
    (sym (list-parts word_of IsOption readable text (o ∷ a) m dash (sym e)) ∙ list-parts word_of IsOption readable text (p ∷ b) n dash refl)

tcp-some : (o : TcpOptionView) → tcp_option_word o ≢ codes "-"
tcp-some TcpNop e = omega (arith, ap length e)
tcp-some (TcpMss size) e = omega (arith, ap length e)
tcp-some (TcpScale shift) e = omega (arith, ap length e)
tcp-some TcpSackOk e = omega (arith, ap length e)
tcp-some (TcpSack blocks) e = omega (arith, ap length e)
tcp-some (TcpTimes value echo) e = omega (arith, ap length e)
tcp-some (TcpOther kind octets) e = omega (arith, ap length e)

ip-some : (o : IpOptionView) → ip_option_word o ≢ codes "-"
ip-some o e = tcp-some (as_tcp o) (sym (as_tcp-word o) ∙ e)

pub tcp_options_word-injective : (a b : List TcpOptionView) → FitTcpArea a → FitTcpArea b → tcp_options_word a ≡ tcp_options_word b → a ≡ b
tcp_options_word-injective a b m n e = list_word-injective tcp_option_word IsTcpOption tcp-readable tcp-some a b m.each n.each e

pub ip_options_word-injective : (a b : List IpOptionView) → FitIpArea a → FitIpArea b → ip_options_word a ≡ ip_options_word b → a ≡ b
ip_options_word-injective a b m n e = list_word-injective ip_option_word IsIpOption ip-readable ip-some a b m.each n.each e
