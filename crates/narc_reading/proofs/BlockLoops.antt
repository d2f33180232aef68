-- Blocks that are read one behind the other.
use Rattle.std.proofs.Common.{◌≡◌, ◌≢◌, ◌==◌, ℕ, ◌-◌, ◌%◌, ◌≤◌, List, [], ◌∷◌, ◌++◌, length, map, sym, ap, ◌∙◌, subst, arith, length-append, length-take, take, append-nil}
use Rattle.std.specs.List.{AllByRecursion}
use Rattle.std.proofs.lemmas.List.{length-map}
use Rattle.std.proofs.lemmas.List.Splits.{length-slice_split}
use Rattle.narc_bits.specs.Octets.{IsOctets}
use Rattle.narc_packet.specs.Options.{IsSackBlock, AreSackBlocks, sack_blocks_in}
use Rattle.narc_packet.proofs.SpelledBlocks.{blocks_whole, length-blocks}
use Rattle.narc_packet.specs.TextWords.{block_word, blocks_word}
use Rattle.narc_packet.specs.declared.blocks.SackBlock.{SackBlock}
use Rattle.narc_reading.specs.Parts.{parts_of}
use Rattle.narc_reading.proofs.OptionLoops.{goes-on, each-front, each-last}
use Rattle.narc_reading.proofs.OptionParts.{blocks-parts, block-readable}
use Rattle.narc_reading.proofs.Separated.{join-parts_of}

module _ (word next : List ℕ) (rest : List (List ℕ)) (blocks : List SackBlock) (found : parts_of 47 word ≡ map block_word blocks ++ next ∷ rest) where
  -- the words of other blocks
  words-of : (others : List SackBlock) → AreSackBlocks others → word ≡ blocks_word others → map block_word others ≡ map block_word blocks ++ next ∷ rest
  words-of others are e = sym (blocks-parts others are) ∙ ap (parts_of 47) (sym e) ∙ found

  -- one word more than an option has blocks
  pub too-many : length blocks ≡ 4 → (others : List SackBlock) → AreSackBlocks others → word ≢ blocks_word others
  too-many full others are e =
      omega (arith, ap length (words-of others are e), length-map others block_word, length-map blocks block_word, length-append (map block_word blocks) (next ∷ rest), full, are.1)

  -- a word that is no block's
  pub no-block : AllByRecursion IsSackBlock blocks → ((block : SackBlock) → IsSackBlock block → next ≢ block_word block) → (others : List SackBlock) → AreSackBlocks others → word ≢ blocks_word others
  no-block each none others are e =
      let later = goes-on block_word IsSackBlock block-readable others blocks next rest are.2 each (words-of others are e) in
      none later.option
      (each-last IsSackBlock blocks later.option (each-front IsSackBlock blocks later.option later.more (subst (AllByRecursion IsSackBlock) later.split are.2))) later.is

-- all words are blocks'
pub blocks-some : (word : List ℕ) (blocks : List SackBlock) (rest : List (List ℕ)) → parts_of 47 word ≡ map block_word blocks ++ rest → rest ≡ [] → 1 ≤ length blocks
blocks-some word [] rest found none = absurd (omega (arith, ap length (found ∙ none), length-slice_split (λ octet. octet == 47) word))
blocks-some word (block ∷ blocks) rest found none = omega arith

pub blocks-found : (word : List ℕ) (blocks : List SackBlock) (rest : List (List ℕ)) → parts_of 47 word ≡ map block_word blocks ++ rest → rest ≡ [] → word ≡ blocks_word blocks
blocks-found word blocks rest found none =
    join-parts_of 47 word (map block_word blocks) (found ∙ ap (λ l. map block_word blocks ++ l) none ∙ append-nil (map block_word blocks))

-- four blocks, with what is behind them and no block, fit a room of 40 octets
pub have-room : (spelled room : List ℕ) (blocks : List SackBlock) → IsOctets spelled → sack_blocks_in spelled ≡ blocks → length blocks ≤ 4 → length room ≡ 40
    → length (take (length spelled) room) ≡ length spelled
have-room spelled room blocks is e few size =
    omega (
      arith,
      ap length (blocks_whole spelled is),
      ap length e,
      length-blocks (sack_blocks_in spelled),
      length-take (length spelled - length spelled % 8) spelled,
      length-take (length spelled) room,
      few,
      size,
    )
