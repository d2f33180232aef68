use Rattle.std.proofs.Common.{[], List, ℕ, subst, append-nil}
use Rattle.narc_pcap.specs.Capture.{Entry}
use Rattle.narc_text.proofs.Printings.{Appends-nil}
use Rattle.narc_run.specs.Findings.{IsEntryAnswer}
use Rattle.narc_run.proofs.Checks.{has_room, counted_more}
use Rattle.narc_run.proofs.check.CountsVisitor.record.Goals as goal

pub count-requires : goal.count-requires
count-requires g c = let room = c.requires.room in has_room c.args.self.now room.told room.saw room.few

pub returns-clause-visited : goal.returns-clause-visited
returns-clause-visited g c =
    let judged = c.judge_record.ensures.judged in
    let entry : Entry = record { head = c.args.head.now; octets = c.args.reader.now.frame } in
    record {
      answer = judged.answer;
      right = subst (λ (l : List ℕ). IsEntryAnswer (record { head = c.args.head.now; octets = l }) judged.answer) c.frame.ensures judged.right;
      saw = λ h told saw. counted_more c.args.self.now c.count.new.self told entry judged.answer c.judge_record.result saw judged.same c.count.ensures.tally c.count.ensures.refused;
      printed = λ h told saw. record { pushed = []; appended = Appends-nil (g.K.Sink.held c.args.arg5.now); split = append-nil c.args.arg4.now };
    }
