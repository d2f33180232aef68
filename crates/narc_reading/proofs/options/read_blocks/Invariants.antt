use Rattle.std.proofs.Common.{◌≡◌, ◌≤◌, ◌++◌, length, map}
use Rattle.std.specs.List.{AllByRecursion}
use Rattle.narc_packet.specs.Options.{IsSackBlock}
use Rattle.narc_packet.specs.TextWords.{block_word}
use Rattle.narc_reading.specs.Parts.{parts_of}
use Rattle.narc_reading.proofs.options.read_blocks.Given as goal

abbrev pub invariant-loop-next : goal.invariant-loop-next
invariant-loop-next l = record {
  parts : parts_of 47 l.word ≡ map block_word l.blocks ++ l.words;
  each : AllByRecursion IsSackBlock l.blocks;
  count : l.count ≡ length l.blocks;
  few : l.count ≤ 4;
}

abbrev pub decreases-loop-next : goal.decreases-loop-next
decreases-loop-next l = length l.words
