-- What was read of a text and built of it so far.
use Rattle.std.proofs.Common.{◌≡◌, ℕ, ◌+◌, ◌≤◌, List, ◌++◌, length, Option}
use Rattle.narc_world.specs.Outside.{TakesFront}
use Rattle.narc_text.specs.Printing.{Passes}
use Rattle.narc_build.specs.declared.limits.TheConstants.{LINE_BUFFER, OUTPUT_BUFFER}
use Rattle.narc_world.specs.Intake.{taken}
use Rattle.narc_world.specs.declared.input_buffer.TheConstants.{INPUT_LIMIT}
use Rattle.narc_pcap.specs.Written.{Gathered}
use Rattle.narc_lines.specs.Reading.{Reading}
use Rattle.narc_build.specs.declared.limits.TheConstants.{LONGEST_LINE}
use Rattle.narc_build.specs.CaptureFront.{TextCapture, IsTextCapture, begun_text}
use Rattle.narc_build.specs.BuiltCapture.{built_capture}

-- these lines were read, the octets in hand stand behind them, and what is built of them was gathered and is no longer than
-- the lines in hand leave room for
pub record BuildsSoFar (lines : Reading) (writer : Gathered) (records : ℕ) (left left_now held held_now : Option (List ℕ)) : Type 0 where
  pub text : TextCapture
  pub valid : IsTextCapture text
  pub records_ : records ≡ length text.entries
  pub few : length text.entries ≤ length (begun_text text)
  pub took : TakesFront (begun_text text ++ lines.input.hand) left left_now
  pub place : lines.input.place ≡ length (begun_text text)
  pub reach : taken lines.input ≤ INPUT_LIMIT
  pub built : Passes (built_capture text) writer.octets held held_now
  pub room : length writer.octets + length lines.input.hand ≤ OUTPUT_BUFFER
  pub longest : lines.longest ≡ LONGEST_LINE
  pub lines_size : lines.input.size ≡ LINE_BUFFER
  pub writer_size : writer.size ≡ OUTPUT_BUFFER
