-- What is promised of a record that is edited.
use Rattle.std.specs.Prelude.{◌≡◌, ℕ, Bool, List, Option, Result}
use Rattle.narc_world.specs.declared.error.Failed.{Failed}
use Rattle.narc_packet.specs.Answer.{Answer}
use Rattle.narc_pcap.specs.declared.record.Record.{Record}
use Rattle.narc_pcap.specs.Capture.{Entry}
use Rattle.narc_pcap.specs.Reading.{Reading}
use Rattle.narc_text.specs.Printing.{IsPrinted}
use Rattle.narc_edit.specs.declared.edits.Edits.{Edits}
use Rattle.narc_run.specs.declared.job.EditWay.{EditWay}
use Rattle.narc_run.specs.Editing.{edited_as, patched_as}
use Rattle.narc_run.specs.Findings.{IsEntryAnswer}

-- a record has an answer, and what it becomes by the answer is printed
pub record EditsRecord (way : EditWay) (es : Edits) (big : Bool) (e : Entry) (result : Result Unit Failed) (page page_after : List ℕ) (before after : Option (List ℕ)) : Type 0 where
  pub answer : Option Answer
  pub right : IsEntryAnswer e answer
  pub printed : IsPrinted result (edited_as way es big e answer) page page_after before after

-- a record has an answer, and by the answer its frame is patched in the reader, of which all else stays
pub record PatchesFrame (es : Edits) (head : Record) (before after : Reading) : Type 0 where
  pub answer : Option Answer
  pub right : IsEntryAnswer (record { head = head; octets = before.frame }) answer
  pub patched : after ≡ record before { frame = patched_as es before.frame answer }
