-- A change of a frame in place (RFC 1624): some octets are written, and the checksums over them are mended.
use Rattle.std.specs.Prelude.{ℕ, ◌*◌, ◌/◌, Bool, false, List, fold, nat_eq, if◌then◌else◌}
use Rattle.narc_bits.specs.Bits.{overlay}
use Rattle.narc_bits.specs.Octets.{big_endian, number_at}
use Rattle.narc_mend.specs.declared.mend.Zero.{Zero}
use Rattle.narc_mend.specs.declared.mend.Zero.TheVariants.{Plain, Udp}
use Rattle.narc_mend.specs.Mended.{mended, with_word}
use Rattle.narc_patch.specs.declared.change.Checksum.{Checksum}

-- no checksum was computed
abbrev pub is_absent : Zero → (sum : ℕ) → Bool
is_absent Plain sum = false
is_absent Udp sum = nat_eq sum 0

-- the frame with a checksum mended, where a word that it covers was another before; an absent one stays
abbrev pub with_mended : (before after : ℕ) → List ℕ → Checksum → List ℕ
with_mended before after frame c =
    let sum = number_at frame c.at 2 in
    if is_absent c.zero sum then frame else with_word frame c.at (mended sum before after c.zero)

-- the frame with one or two octets of one word written, and the checksums over the word mended
abbrev pub with_octets : List ℕ → (at : ℕ) → (octets : List ℕ) → List Checksum → List ℕ
with_octets frame at octets sums =
    let word = at / 2 * 2 in
    let written = overlay frame at octets in
    fold (with_mended (number_at frame word 2) (number_at written word 2)) written sums

-- One or two octets of one word, the number that they are made of the one that they are, and the checksums over the word.
pub record Change : Type 0 where
  pub at : ℕ
  pub count : ℕ
  pub to : ℕ → ℕ
  pub sums : List Checksum

abbrev pub changed : List ℕ → Change → List ℕ
changed frame c = with_octets frame c.at (big_endian c.count (c.to (number_at frame c.at c.count))) c.sums
