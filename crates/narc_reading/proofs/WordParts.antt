-- Words that are made of parts.
use Rattle.std.proofs.Common.{◌≡◌, ◌≢◌, ℕ, ◌+◌, ◌<◌, ◌^◌, List, [], ◌∷◌, decimal, map, sym, ap, ◌∙◌, arith}
use Rattle.std.specs.Char.{digit_value}
use Rattle.std.specs.Str.Parse.{AllDigits}
use Rattle.std.specs.List.{AllByRecursion}
use Rattle.narc_bits.specs.Octets.{IsOctets}
use Rattle.narc_packet.specs.Ranges.{IsIp}
use Rattle.narc_packet.specs.TextWords.{ip_word}
use Rattle.narc_reading.specs.Parts.{octet_of, parts_of}
use Rattle.narc_reading.specs.declared.parts.Separator.{Separator}
use Rattle.narc_reading.specs.declared.parts.Separator.TheVariants.{Space, Comma, Slash, Point, Colon}
use Rattle.narc_reading.proofs.Decimals.{IsPlain-decimal, digit-from_value}
use Rattle.narc_reading.proofs.Separated.{Lacks, Lacks-each, test-other, parts_of-join}

-- a separator, or another octet, that no digit is
lacks-digits : (separator : ℕ) → ((c : ℕ) → c < 10 → 48 + c ≢ separator) → (digits : List ℕ) → AllDigits 10 digits → Lacks separator digits
lacks-digits separator apart [] each = tt
lacks-digits separator apart (c ∷ digits) each =
    (test-other c separator (λ e. apart (digit_value c) each.0 (sym (digit-from_value c each.0) ∙ e)), lacks-digits separator apart digits each.1)

digit-apart : (separator : Separator) (c : ℕ) → c < 10 → 48 + c ≢ octet_of separator
digit-apart Space c h = λ e. omega arith
digit-apart Comma c h = λ e. omega arith
digit-apart Slash c h = λ e. omega arith
digit-apart Point c h = λ e. omega arith
digit-apart Colon c h = λ e. omega arith

pub Lacks-decimal : (separator : Separator) (n : ℕ) → n < 10 ^ 19 → Lacks (octet_of separator) (decimal n)
Lacks-decimal separator n small = lacks-digits (octet_of separator) (digit-apart separator) (decimal n) (IsPlain-decimal n small).each

pub Lacks-decimals : (separator : Separator) (numbers : List ℕ) → IsOctets numbers → AllByRecursion (Lacks (octet_of separator)) (map decimal numbers)
Lacks-decimals separator numbers is = Lacks-each (octet_of separator) decimal (λ n. n < 256) (λ n h. Lacks-decimal separator n (omega (arith, h))) numbers is

pub lacks-dash-decimal : (n : ℕ) → n < 10 ^ 19 → Lacks 45 (decimal n)
lacks-dash-decimal n small = lacks-digits 45 (λ c h e. omega arith) (decimal n) (IsPlain-decimal n small).each

-- the four numbers of an address
pub record IsFour (word : List ℕ) (a b c d : ℕ) : Type 0 where
  pub first : a < 2 ^ 8
  pub second : b < 2 ^ 8
  pub third : c < 2 ^ 8
  pub fourth : d < 2 ^ 8
  pub parts : parts_of 46 word ≡ decimal a ∷ decimal b ∷ decimal c ∷ decimal d ∷ []

pub record IpParts (word : List ℕ) : Type 0 where
  pub a : ℕ
  pub b : ℕ
  pub c : ℕ
  pub d : ℕ
  pub four : IsFour word a b c d

pub IpParts-ip_word : (word address : List ℕ) → IsIp address → word ≡ ip_word address → IpParts word
IpParts-ip_word word [] is e = absurd (omega (arith, is.0))
IpParts-ip_word word (a ∷ []) is e = absurd (omega (arith, is.0))
IpParts-ip_word word (a ∷ b ∷ []) is e = absurd (omega (arith, is.0))
IpParts-ip_word word (a ∷ b ∷ c ∷ []) is e = absurd (omega (arith, is.0))
IpParts-ip_word word (a ∷ b ∷ c ∷ d ∷ []) is e =
    let all = is.1 in
    let lacks = λ (n : ℕ) (h : n < 256). Lacks-decimal Point n (omega (arith, h)) in
    record {
      a = a;
      b = b;
      c = c;
      d = d;
      four = record {
        first = all.0;
        second = all.1.0;
        third = all.1.1.0;
        fourth = all.1.1.1.0;
        parts = ap (parts_of 46) e ∙ parts_of-join 46 (decimal a) (decimal b ∷ decimal c ∷ decimal d ∷ []) (lacks a all.0, (lacks b all.1.0, (lacks c all.1.1.0, (lacks d all.1.1.1.0, tt))));
      };
    }
IpParts-ip_word word (a ∷ b ∷ c ∷ d ∷ f ∷ rest) is e = absurd (omega (arith, is.0))
