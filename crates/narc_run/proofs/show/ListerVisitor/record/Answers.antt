use Rattle.std.proofs.Common.{List, ℕ, ◌∙◌, subst}
use Rattle.narc_pcap.specs.Capture.{Entry}
use Rattle.narc_run.specs.EntryAnswer.{entry_answer}
use Rattle.narc_run.specs.Findings.{IsEntryAnswer}
use Rattle.narc_run.proofs.Walks.{roomy, counted_on, tally_seen}
use Rattle.narc_run.proofs.show.ListerVisitor.record.Goals as goal

pub count-requires : goal.count-requires
count-requires g c = let room = c.requires.room in roomy c.args.self.now.tally room.told room.saw room.few

pub returns-clause-visited : goal.returns-clause-visited
returns-clause-visited g c =
    let answer = entry_answer c.answer_record-answer.result in
    let entry : Entry = record { head = c.args.head.now; octets = c.args.reader.now.frame } in
    record {
      answer = answer;
      right = subst (λ (l : List ℕ). IsEntryAnswer (record { head = c.args.head.now; octets = l }) answer) c.frame.ensures c.answer_record-answer.ensures.answer;
      saw = λ h told saw. counted_on c.args.self.now.tally c.count.new.self told entry answer saw (c.count.ensures ∙ tally_seen c.args.self.now.tally c.answer_record-answer.result);
      printed = λ h told saw. c.print_record.ensures.printed;
    }
