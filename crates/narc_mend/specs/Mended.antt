-- A checksum after a word that it covers has changed (RFC 1624).
use Rattle.std.specs.Prelude.{◌≡◌, ◌≢◌, ℕ, ◌+◌, ◌-◌, ◌%◌, ◌<◌, ◌≤◌, List, length, take, drop}
use Rattle.narc_bits.specs.Bits.{overlay}
use Rattle.narc_bits.specs.Octets.{big_endian, number_at}
use Rattle.narc_bits.specs.InternetSum.{total, IsGoodSum}
use Rattle.narc_sum.specs.Checked.{never_zero}
use Rattle.narc_mend.specs.declared.mend.Zero.{Zero}
use Rattle.narc_mend.specs.declared.mend.Zero.TheVariants.{Plain, Udp}

-- a checksum as it is written
abbrev pub as_written : Zero → ℕ → ℕ
as_written Plain sum = sum
as_written Udp sum = never_zero sum

-- the checksum once a word that it covers is another
abbrev pub mended : (sum old new : ℕ) → Zero → ℕ
mended sum old new zero = as_written zero ((sum + old + (65535 - new)) % 65535)

-- octets with another word at an octet
abbrev pub with_word : List ℕ → (at word : ℕ) → List ℕ
with_word octets at word = overlay octets at (big_endian 2 word)

-- octets of one length that are the same but for one word
pub record DifferInWord (old new : List ℕ) (at : ℕ) : Type 0 where
  pub size : length new ≡ length old
  pub front : take at new ≡ take at old
  pub back : drop (at + 2) new ≡ drop (at + 2) old

-- the places of two whole words in so many octets
pub record AreWords (size hole at : ℕ) : Type 0 where
  pub even : at % 2 ≡ 0
  pub hole_even : hole % 2 ≡ 0
  pub apart : hole ≢ at
  pub inside : at + 2 ≤ size
  pub hole_inside : hole + 2 ≤ size

-- the new octets, with the checksum of the old ones mended for the word that is another
abbrev pub with_mended_sum : (old new : List ℕ) → (hole at : ℕ) → Zero → List ℕ
with_mended_sum old new hole at zero =
    with_word new hole (mended (number_at old hole 2) (number_at old at 2) (number_at new at 2) zero)

-- Where a sum was good and one word becomes another, the mended checksum makes it good again, unless all octets are 0 then.
abbrev pub MendedSumsAreGood : Type 0
MendedSumsAreGood = (old new : List ℕ) (hole at : ℕ) (zero : Zero)
    → DifferInWord old new at → AreWords (length old) hole at → number_at new at 2 < 65536
    → 0 < total (with_mended_sum old new hole at zero)
    → IsGoodSum old → IsGoodSum (with_mended_sum old new hole at zero)
