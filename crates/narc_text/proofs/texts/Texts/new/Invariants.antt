use Rattle.std.proofs.Common.{◌≡◌, ℕ, ◌<◌, [], length}
use Rattle.std.specs.Prelude.{slice_index_or}
use Rattle.narc_text.specs.Texts.{IsText}
use Rattle.narc_text.proofs.texts.Texts.new.Given as goal

abbrev pub invariant-loop-number : goal.invariant-loop-number
invariant-loop-number l = record {
  size : length l.texts ≡ 256;
  each : (n : ℕ) → n < l.number → IsText n (slice_index_or l.texts n []);
}
