-- The values that are guessed from words are those whose text the words are, so that they are those that are read.
use Rattle.std.proofs.Common.{◌≡◌, ℕ, zero, suc, ◌+◌, ◌*◌, ◌/◌, ◌%◌, ◌<◌, ◌≤◌, ◌^◌, Bool, true, false, List, [], ◌∷◌, ◌++◌, length, Result, refl, ap, ◌∙◌, arith, eq-eqb}
use Rattle.std.specs.Prelude.{◌&&◌, nat_eq, nat_lt, decimal, fold, map, slice_index, if◌then◌else◌}
use Rattle.std.specs.List.{AllByRecursion, slice_split}
use Rattle.std.specs.Result.{result_ok}
use Rattle.std.specs.Str.Parse.{AllDigits, digits_value}
use Rattle.std.proofs.lemmas.Bool.{lt-ltb, ltb-true}
use Rattle.std.proofs.lemmas.Bool.Decides.{nat_tests}
use Rattle.std.specs.Char.{digit_value}
use Rattle.std.proofs.lemmas.Fmt.{digits_decimal, digits_value-decimal}
use Rattle.std.proofs.lemmas.Str.Parse.{IsNumeralModel, numerals_by_value, tells_digits}
use Rattle.std.proofs.lemmas.List.Elements.{All-from_recursion}
use Rattle.std.proofs.lemmas.List.Splits.{slice_split_none, slice_split_at}
use Rattle.hex.specs.Hex.{encode_with, encode_lower, lower_digits}
use Rattle.narc_bits.specs.Bits.{is_odd}
use Rattle.narc_bits.specs.Octets.{IsOctets}
use Rattle.narc_packet.specs.Ranges.{IsMac, IsIp}
use Rattle.narc_packet.specs.TextWords.{mac_word, ip_word, flags_word}
use Rattle.narc_reading.specs.declared.error.BadLine.{BadLine}
use Rattle.narc_reading.specs.Reading.{IsRead}
use Rattle.narc_edit.specs.WordValues.{are_octets, hex_value, hex_values, number_below, mac_value, ip_value, flags_value}
use Rattle.narc_edit.proofs.Spellings.{IsGuess, value_of_reading}

-- ---- octets

are_octets-true : (l : List ℕ) → IsOctets l → are_octets l ≡ true
are_octets-true [] is = refl
are_octets-true (o ∷ l) is = ap (λ b. b && are_octets l) (lt-ltb o 256 is.0) ∙ are_octets-true l is.1

both : (a b : Bool) → (a && b) ≡ true → (a ≡ true) × (b ≡ true)
both true b h = (refl, h)
both false b h = cc

IsOctets-true : (l : List ℕ) → are_octets l ≡ true → IsOctets l
IsOctets-true [] h = tt
IsOctets-true (o ∷ l) h =
    let p = both (nat_lt o 256) (are_octets l) h in
    (ltb-true o 256 p.0, IsOctets-true l p.1)

-- so many octets
so_many-true : (n : ℕ) (l : List ℕ) → (length l ≡ n) × IsOctets l → (nat_eq (length l) n && are_octets l) ≡ true
so_many-true n l is = ap (λ b. b && are_octets l) (eq-eqb (length l) n is.0) ∙ are_octets-true l is.1

so_many : (n : ℕ) (l : List ℕ) → (nat_eq (length l) n && are_octets l) ≡ true → (length l ≡ n) × IsOctets l
so_many n l h =
    let p = both (nat_eq (length l) n) (are_octets l) h in
    (grind (arith, nat_tests, p.0), IsOctets-true l p.1)

-- ---- hexadecimal digits

digit-back : (n : ℕ) → n < 16 → hex_value (slice_index lower_digits n) ≡ n
digit-back zero h = refl
digit-back (suc zero) h = refl
digit-back (suc (suc zero)) h = refl
digit-back (suc (suc (suc zero))) h = refl
digit-back (suc (suc (suc (suc zero)))) h = refl
digit-back (suc (suc (suc (suc (suc zero))))) h = refl
digit-back (suc (suc (suc (suc (suc (suc zero)))))) h = refl
digit-back (suc (suc (suc (suc (suc (suc (suc zero))))))) h = refl
digit-back (suc (suc (suc (suc (suc (suc (suc (suc zero)))))))) h = refl
digit-back (suc (suc (suc (suc (suc (suc (suc (suc (suc zero))))))))) h = refl
digit-back (suc (suc (suc (suc (suc (suc (suc (suc (suc (suc zero)))))))))) h = refl
digit-back (suc (suc (suc (suc (suc (suc (suc (suc (suc (suc (suc zero))))))))))) h = refl
digit-back (suc (suc (suc (suc (suc (suc (suc (suc (suc (suc (suc (suc zero)))))))))))) h = refl
digit-back (suc (suc (suc (suc (suc (suc (suc (suc (suc (suc (suc (suc (suc zero))))))))))))) h = refl
digit-back (suc (suc (suc (suc (suc (suc (suc (suc (suc (suc (suc (suc (suc (suc zero)))))))))))))) h = refl
digit-back (suc (suc (suc (suc (suc (suc (suc (suc (suc (suc (suc (suc (suc (suc (suc zero))))))))))))))) h = refl
digit-back (suc (suc (suc (suc (suc (suc (suc (suc (suc (suc (suc (suc (suc (suc (suc (suc n)))))))))))))))) h = absurd (omega (arith, h))

octet-back : (o : ℕ) → o < 256 → 16 * hex_value (slice_index lower_digits (o / 16)) + hex_value (slice_index lower_digits (o % 16)) ≡ o
octet-back o h = omega (arith, digit-back (o / 16) (omega (arith, h)), digit-back (o % 16) (omega arith))

octets-back : (l : List ℕ) → IsOctets l → hex_values (encode_lower l) ≡ l
unfolding encode_with
octets-back [] is = refl
octets-back (o ∷ l) is =
    ap (λ first. first ∷ hex_values (encode_lower l)) (octet-back o is.0) ∙ ap (λ l. o ∷ l) (octets-back l is.1)

mac_guess : IsGuess mac_word IsMac (λ address. nat_eq (length address) 6 && are_octets address) hex_values
mac_guess = record {
  back = λ address is. octets-back address is.1;
  wanted = λ address is. so_many-true 6 address is;
  only = λ address h. so_many 6 address h;
}

-- ---- four decimal numbers

own : IsNumeralModel (AllDigits 10) (digits_value 10)
own = numerals_by_value (AllDigits 10) tells_digits

digit-apart : (c : ℕ) → digit_value c < 10 → nat_eq c 46 ≡ false
digit-apart c h = grind (arith, nat_tests)

abbrev Lacks : List ℕ → Type 0
Lacks octets = AllByRecursion (λ c. nat_eq c 46 ≡ false) octets

lacks-digits : (digits : List ℕ) → AllDigits 10 digits → Lacks digits
lacks-digits [] each = tt
lacks-digits (c ∷ digits) each = (digit-apart c each.0, lacks-digits digits each.1)

lacks-decimal : (n : ℕ) → n < 256 → Lacks (decimal n)
lacks-decimal n h = lacks-digits (decimal n) (digits_decimal own n (omega (arith, h)))

split-first : (part behind : List ℕ) → Lacks part → slice_split (λ c. nat_eq c 46) (part ++ 46 ∷ behind) ≡ part ∷ slice_split (λ c. nat_eq c 46) behind
split-first part behind lacks = slice_split_at (λ c. nat_eq c 46) part 46 behind (All-from_recursion (λ c. nat_eq c 46 ≡ false) part lacks) refl

split-last : (part : List ℕ) → Lacks part → slice_split (λ c. nat_eq c 46) part ≡ part ∷ []
split-last part lacks = slice_split_none (λ c. nat_eq c 46) part (All-from_recursion (λ c. nat_eq c 46 ≡ false) part lacks)

value-back : (n : ℕ) → n < 2 ^ 32 → digits_value 10 (decimal n) ≡ n
value-back n h = digits_value-decimal own n (omega (arith, h))

number_guess : (limit : ℕ) → limit ≤ 2 ^ 32 → IsGuess decimal (λ n. n < limit) (λ n. nat_lt n limit) (digits_value 10)
number_guess limit few = record {
  back = λ n h. value-back n (omega (arith, few, h));
  wanted = λ n h. lt-ltb n limit h;
  only = λ n h. ltb-true n limit h;
}

-- the numbers of an address stand between its points
four_parts : (a b c d : ℕ) → a < 256 → b < 256 → c < 256 → d < 256
    → slice_split (λ c. nat_eq c 46) (ip_word (a ∷ b ∷ c ∷ d ∷ [])) ≡ decimal a ∷ decimal b ∷ decimal c ∷ decimal d ∷ []
four_parts a b c d p q r s =
    split-first (decimal a) (decimal b ++ 46 ∷ (decimal c ++ 46 ∷ decimal d)) (lacks-decimal a p)
    ∙ ap (λ l. decimal a ∷ l) (split-first (decimal b) (decimal c ++ 46 ∷ decimal d) (lacks-decimal b q)
    ∙ ap (λ l. decimal b ∷ l) (split-first (decimal c) (decimal d) (lacks-decimal c r)
    ∙ ap (λ l. decimal c ∷ l) (split-last (decimal d) (lacks-decimal d s))))

four : (a b c d : ℕ) → a < 256 → b < 256 → c < 256 → d < 256 → map (digits_value 10) (slice_split (λ c. nat_eq c 46) (ip_word (a ∷ b ∷ c ∷ d ∷ []))) ≡ a ∷ b ∷ c ∷ d ∷ []
four a b c d p q r s =
    ap (map (digits_value 10)) (four_parts a b c d p q r s) ∙ cc (value-back a (omega (arith, p)), value-back b (omega (arith, q)), value-back c (omega (arith, r)), value-back d (omega (arith, s)))

ip_back : (address : List ℕ) → IsIp address → map (digits_value 10) (slice_split (λ c. nat_eq c 46) (ip_word address)) ≡ address
ip_back [] is = absurd (omega (arith, is.0))
ip_back (a ∷ []) is = absurd (omega (arith, is.0))
ip_back (a ∷ b ∷ []) is = absurd (omega (arith, is.0))
ip_back (a ∷ b ∷ c ∷ []) is = absurd (omega (arith, is.0))
ip_back (a ∷ b ∷ c ∷ d ∷ []) is = four a b c d is.1.0 is.1.1.0 is.1.1.1.0 is.1.1.1.1.0
ip_back (a ∷ b ∷ c ∷ d ∷ e ∷ rest) is = absurd (omega (arith, is.0))

ip_guess : IsGuess ip_word IsIp (λ address. nat_eq (length address) 4 && are_octets address) (λ word. map (digits_value 10) (slice_split (λ c. nat_eq c 46) word))
ip_guess = record {
  back = ip_back;
  wanted = λ address is. so_many-true 4 address is;
  only = λ address h. so_many 4 address h;
}

-- ---- six flags

-- what a mark counts
abbrev mark_value : ℕ → ℕ
mark_value c = if nat_eq c 46 then 0 else 1

mark-back : (letter : ℕ) (b : Bool) → nat_eq letter 46 ≡ false → mark_value (if b then letter else 46) ≡ (if b then 1 else 0)
mark-back letter true h = ap (λ b. if b then 0 else 1) h
mark-back letter false h = refl

low_bit : (m : ℕ) → m < 2 → (if nat_eq m 1 then 1 else 0) ≡ m
low_bit zero h = refl
low_bit (suc zero) h = refl
low_bit (suc (suc m)) h = absurd (omega (arith, h))

bit-back : (letter n : ℕ) → nat_eq letter 46 ≡ false → mark_value (if is_odd n then letter else 46) ≡ n % 2
bit-back letter n h = mark-back letter (is_odd n) h ∙ low_bit (n % 2) (omega arith)

flags_back : (flags : ℕ) → flags < 64 → fold (λ n c. 2 * n + mark_value c) 0 (flags_word flags) ≡ flags
flags_back flags h =
    let u = bit-back 85 (flags / 32) refl in
    let a = bit-back 65 (flags / 16) refl in
    let p = bit-back 80 (flags / 8) refl in
    let r = bit-back 82 (flags / 4) refl in
    let s = bit-back 83 (flags / 2) refl in
    let f = bit-back 70 (flags / 1) refl in
    omega (arith, h, u, a, p, r, s, f)

flags_guess : IsGuess flags_word (λ flags. flags < 64) (λ flags. nat_lt flags 64) (λ word. fold (λ n c. 2 * n + mark_value c) 0 word)
flags_guess = record {
  back = flags_back;
  wanted = λ flags h. lt-ltb flags 64 h;
  only = λ flags h. ltb-true flags 64 h;
}

-- ---- what is read

module _ (word : List ℕ) where
  pub number_of_reading : (limit : ℕ) (r : Result ℕ BadLine) → limit ≤ 2 ^ 32 → IsRead decimal (λ n. n < limit) word r → result_ok r ≡ number_below limit word
  number_of_reading limit r few h = value_of_reading decimal (λ n. n < limit) _ (digits_value 10) (number_guess limit few) word r h

  pub mac_of_reading : (r : Result (List ℕ) BadLine) → IsRead mac_word IsMac word r → result_ok r ≡ mac_value word
  mac_of_reading r h = value_of_reading mac_word IsMac _ hex_values mac_guess word r h

  pub ip_of_reading : (r : Result (List ℕ) BadLine) → IsRead ip_word IsIp word r → result_ok r ≡ ip_value word
  ip_of_reading r h = value_of_reading ip_word IsIp _ _ ip_guess word r h

  pub flags_of_reading : (r : Result ℕ BadLine) → IsRead flags_word (λ flags. flags < 64) word r → result_ok r ≡ flags_value word
  flags_of_reading r h = value_of_reading flags_word (λ flags. flags < 64) _ _ flags_guess word r h
