use Rattle.std.proofs.Common.{◌≡◌, ◌+◌, ◌⊎◌, [], ◌∷◌, ◌++◌, refl, sym, ap, ◌∙◌, subst, arith, length, length-append}
use Rattle.narc_lines.specs.Reading.{Reading, IsReady}
use Rattle.narc_pcap.specs.Written.{Gathered}
use Rattle.narc_build.specs.declared.ending.Built.{Built}
use Rattle.narc_build.specs.declared.ending.Built.TheVariants as answer
use Rattle.narc_build.specs.BuiltLine.{IsEntryLine, IsNoHeaderLine}
use Rattle.narc_build.specs.Building.{IsShown}
use Rattle.narc_build.specs.TextEnd.{IsTextEnded}
use Rattle.narc_build.proofs.TextEnds.{front_stopped}
use Rattle.narc_build.proofs.TextFacts.{text_facts}
use Rattle.narc_build.proofs.TextStarts.{starts, goes_on, told, room_left, line_back}
use Rattle.narc_build.proofs.TextRuns.{fault, passed_limit, bad_line, waited}
use Rattle.narc_build.proofs.TextEnded.{no_head, no_more, headless_fault, headless_line, bad_head, ended}
use Rattle.narc_build.proofs.capture.build.Goals as goal

pub returns-in-End-clause-run : goal.returns-in-End-clause-run
returns-in-End-clause-run g c =
    no_head text_facts c.new-lines.result c.next.new.self (g.S.Source.left c.args.source.now) (g.S.Source.left c.next.new.source) (g.K.Sink.held c.args.sink.now)
    c.new-lines.ensures.fresh (answer.Bad 0) c.new-lines.ensures.longest c.next.result c.in-End.is c.next.ensures.next c.next.ensures.reach
    refl

pub returns-in-ReadFault-clause-run : goal.returns-in-ReadFault-clause-run
returns-in-ReadFault-clause-run g c =
    let found = c.in-ReadFault.ensures.next in
    headless_fault text_facts c.new-lines.result c.next.new.self (g.S.Source.left c.args.source.now) (g.S.Source.left c.next.new.source) (g.K.Sink.held c.args.sink.now)
    c.new-lines.ensures.fresh (answer.ReadFault c.taken.result) found.0 found.1.none c.in-ReadFault.ensures.reach
    (ap answer.ReadFault c.taken.ensures.count)

pub returns-then-is_err-clause-run : goal.returns-then-is_err-clause-run
returns-then-is_err-clause-run g c =
    let passes = c.in-Line.ensures.next in
    let now = c.next.new.self in
    headless_line text_facts c.new-lines.result now (g.S.Source.left c.args.source.now) (g.S.Source.left c.next.new.source) (g.K.Sink.held c.args.sink.now)
    c.new-lines.ensures.fresh (answer.Bad 0) passes
    (subst IsNoHeaderLine (line_back now.input.passed c.line.result.now passes.line c.line.ensures)
    (bad_head (c.line.result.now ++ 10 ∷ []) c.new-writer.result c.build_header.new.writer c.build_header.result (sym c.is_err.ensures.value ∙ c.if-is_err.true) c.build_header.ensures.built))
    c.in-Line.ensures.reach refl

pub lines-init : goal.lines-init
lines-init g c =
    let passes = c.in-Line.ensures.next in
    record {
      so_far = starts c.new-lines.result c.next.new.self c.new-writer.result c.build_header.new.writer c.line.result.now
          (g.S.Source.left c.args.source.now) (g.S.Source.left c.next.new.source) (g.K.Sink.held c.args.sink.now)
          c.new-lines.ensures.fresh passes c.line.ensures c.new-writer.ensures.none
          (c.build_header.ensures.size ∙ c.new-writer.ensures.size ∙ c.requires.output) (c.in-Line.ensures.longest ∙ c.new-lines.ensures.longest)
          (passes.size ∙ c.new-lines.ensures.size ∙ c.requires.line) c.in-Line.ensures.reach (c.in-Line.ensures.within refl)
          c.build_header.result (sym c.is_err.ensures.value ∙ c.if-is_err.false) c.build_header.ensures.built;
      source_later = c.in-Line.ensures.faults.later;
      sink_later = omega arith;
    }

pub returns-in_err-tell_waiting-clause-run : goal.returns-in_err-tell_waiting-clause-run
returns-in_err-tell_waiting-clause-run g c =
    let i = c.lines.invariant in
    let b = g.K.Sink.held c.lines.sink in
    let d = g.K.Sink.held c.tell_waiting.new.sink in
    waited text_facts c.lines.lines c.lines.writer c.lines.records (g.S.Source.left c.args.source.now) (g.S.Source.left c.lines.source) (g.K.Sink.held c.args.sink.now) b d i.so_far
    c.in_err-tell_waiting.ensures.waiting c.from_residual.result c.from_residual.ensures.0
    (front_stopped c.lines.writer.octets b d c.in_err-tell_waiting.ensures.printed)

pub build_line-requires-clause-room : goal.build_line-requires-clause-room
build_line-requires-clause-room g c =
    let i = c.lines.invariant in
    let lines = c.tell_waiting.new.lines in
    let now = c.next-in-lines.new.self in
    let w = c.tell_waiting.new.writer in
    let passes = c.in-Line-next.ensures.next in
    let so_far = told c.lines.lines lines c.lines.writer w c.lines.records (g.S.Source.left c.args.source.now) (g.S.Source.left c.lines.source) (g.K.Sink.held c.args.sink.now)
    (g.K.Sink.held c.lines.sink) (g.K.Sink.held c.tell_waiting.new.sink) i.so_far c.in_ok-tell_waiting.ensures.lines c.in_ok-tell_waiting.ensures.printed c.in_ok-tell_waiting.ensures.size in
    let ready : IsReady lines ⊎ (w.octets ≡ []) = subst (λ (r : Reading). IsReady r ⊎ (w.octets ≡ [])) (sym c.in_ok-tell_waiting.ensures.lines) c.in_ok-tell_waiting.ensures.room in
    let left = room_left lines now w c.lines.records (g.S.Source.left c.args.source.now) (g.S.Source.left c.lines.source) (g.K.Sink.held c.args.sink.now) (g.K.Sink.held c.tell_waiting.new.sink)
    so_far ready (λ r. c.in-Line-next.ensures.in_hand r refl) (c.in-Line-next.ensures.within refl) passes.size in
    let line = c.line-in-Line-next.result.now in
    let size : length line + 1 ≡ length now.input.passed =
    sym (length-append line (10 ∷ [])) ∙ ap length (line_back now.input.passed line passes.line c.line-in-Line-next.ensures) in
    omega (arith, left, size, so_far.writer_size)

pub lines-preserved : goal.lines-preserved
lines-preserved g c =
    let i = c.lines.invariant in
    let lines = c.tell_waiting.new.lines in
    let now = c.next-in-lines.new.self in
    let w = c.tell_waiting.new.writer in
    let passes = c.in-Line-next.ensures.next in
    let x = g.S.Source.left c.args.source.now in
    let y = g.S.Source.left c.lines.source in
    let z = g.S.Source.left c.next-in-lines.new.source in
    let a = g.K.Sink.held c.args.sink.now in
    let d = g.K.Sink.held c.tell_waiting.new.sink in
    let so_far = told c.lines.lines lines c.lines.writer w c.lines.records x y a (g.K.Sink.held c.lines.sink) d i.so_far c.in_ok-tell_waiting.ensures.lines c.in_ok-tell_waiting.ensures.printed c.in_ok-tell_waiting.ensures.size in
    let ready : IsReady lines ⊎ (w.octets ≡ []) = subst (λ (r : Reading). IsReady r ⊎ (w.octets ≡ [])) (sym c.in_ok-tell_waiting.ensures.lines) c.in_ok-tell_waiting.ensures.room in
    let left = room_left lines now w c.lines.records x y a d so_far ready (λ r. c.in-Line-next.ensures.in_hand r refl) (c.in-Line-next.ensures.within refl) passes.size in
    let line = c.line-in-Line-next.result.now in
    let built = c.in-Record.ensures.built in
    record {
      so_far = goes_on lines now w c.build_line.new.writer c.lines.records x y z a d d so_far w so_far.built so_far.writer_size built.0 built.1 passes
          (sym (line_back now.input.passed line passes.line c.line-in-Line-next.ensures) ∙ built.2) built.3 c.in-Record.ensures.size left c.in-Line-next.ensures.reach
          c.in-Line-next.ensures.longest (text_facts.record_fits built.0 built.1);
      source_later = omega (arith, i.source_later, c.in-Line-next.ensures.faults.later);
      sink_later = omega (arith, i.sink_later, c.in_ok-tell_waiting.ensures.faults.later);
    }

pub returns-in-End-build_line-clause-run : goal.returns-in-End-build_line-clause-run
returns-in-End-build_line-clause-run g c =
    let i = c.lines.invariant in
    let lines = c.tell_waiting.new.lines in
    let now = c.next-in-lines.new.self in
    let w = c.tell_waiting.new.writer in
    let x = g.S.Source.left c.args.source.now in
    let y = g.S.Source.left c.lines.source in
    let z = g.S.Source.left c.next-in-lines.new.source in
    let a = g.K.Sink.held c.args.sink.now in
    let b = g.K.Sink.held c.tell_waiting.new.sink in
    let so_far = told c.lines.lines lines c.lines.writer w c.lines.records x y a (g.K.Sink.held c.lines.sink) b i.so_far c.in_ok-tell_waiting.ensures.lines c.in_ok-tell_waiting.ensures.printed c.in_ok-tell_waiting.ensures.size in
    let passes = c.in-Line-next.ensures.next in
    let line = c.line-in-Line-next.result.now in
    let built = c.in-End-build_line.ensures.built in
    let u = g.S.Source.left c.end_text.new.source in
    let d = g.K.Sink.held c.end_text.new.sink in
    ended text_facts lines now c.end_text.new.lines w c.lines.records x y z u a b d so_far passes
    (sym (line_back now.input.passed line passes.line c.line-in-Line-next.ensures) ∙ built.1) c.end_text.result
    (subst (λ (v : Gathered). IsTextEnded now c.end_text.new.lines z u v b d c.end_text.result) built.0 c.end_text.ensures.ended) c.end_text.ensures.reach c.in-Line-next.ensures.reach

pub returns-in-Bad-clause-run : goal.returns-in-Bad-clause-run
returns-in-Bad-clause-run g c =
    let i = c.lines.invariant in
    let lines = c.tell_waiting.new.lines in
    let now = c.next-in-lines.new.self in
    let w = c.tell_waiting.new.writer in
    let x = g.S.Source.left c.args.source.now in
    let y = g.S.Source.left c.lines.source in
    let z = g.S.Source.left c.next-in-lines.new.source in
    let a = g.K.Sink.held c.args.sink.now in
    let b = g.K.Sink.held c.tell_waiting.new.sink in
    let so_far = told c.lines.lines lines c.lines.writer w c.lines.records x y a (g.K.Sink.held c.lines.sink) b i.so_far c.in_ok-tell_waiting.ensures.lines c.in_ok-tell_waiting.ensures.printed c.in_ok-tell_waiting.ensures.size in
    let passes = c.in-Line-next.ensures.next in
    let line = c.line-in-Line-next.result.now in
    let built = c.in-Bad.ensures.built in
    let d = g.K.Sink.held c.end_build.new.sink in
    let back = line_back now.input.passed line passes.line c.line-in-Line-next.ensures in
    let v = ap answer.Bad c.place-at.ensures in
    bad_line text_facts lines now w c.lines.records x y z a b d so_far passes
    (λ entry. built.1 (subst IsEntryLine (sym back) entry)) (λ last. built.2 (back ∙ last)) c.in-Line-next.ensures.reach c.end_build.result
    (subst (λ (q : Built). IsShown c.end_build.result w.octets q b d) v (subst (λ (q : Gathered). IsShown c.end_build.result q.octets (answer.Bad c.place-at.result) b d) built.0 c.end_build.ensures.shown))

pub returns-in-End-next-clause-run : goal.returns-in-End-next-clause-run
returns-in-End-next-clause-run g c =
    let i = c.lines.invariant in
    let lines = c.tell_waiting.new.lines in
    let now = c.next-in-lines.new.self in
    let w = c.tell_waiting.new.writer in
    let x = g.S.Source.left c.args.source.now in
    let y = g.S.Source.left c.lines.source in
    let z = g.S.Source.left c.next-in-lines.new.source in
    let a = g.K.Sink.held c.args.sink.now in
    let b = g.K.Sink.held c.tell_waiting.new.sink in
    let so_far = told c.lines.lines lines c.lines.writer w c.lines.records x y a (g.K.Sink.held c.lines.sink) b i.so_far c.in_ok-tell_waiting.ensures.lines c.in_ok-tell_waiting.ensures.printed c.in_ok-tell_waiting.ensures.size in
    let d = g.K.Sink.held c.end_build-in-End-next.new.sink in
    let v = ap answer.Bad c.place-at.ensures in
    no_more text_facts lines now w c.lines.records x y z a b d so_far c.next-in-lines.result c.in-End-next.is c.next-in-lines.ensures.next c.next-in-lines.ensures.reach
    c.end_build-in-End-next.result (subst (λ (q : Built). IsShown c.end_build-in-End-next.result w.octets q b d) v c.end_build-in-End-next.ensures.shown)

pub returns-in-ReadFault-next-clause-run : goal.returns-in-ReadFault-next-clause-run
returns-in-ReadFault-next-clause-run g c =
    let i = c.lines.invariant in
    let lines = c.tell_waiting.new.lines in
    let now = c.next-in-lines.new.self in
    let w = c.tell_waiting.new.writer in
    let x = g.S.Source.left c.args.source.now in
    let y = g.S.Source.left c.lines.source in
    let z = g.S.Source.left c.next-in-lines.new.source in
    let a = g.K.Sink.held c.args.sink.now in
    let b = g.K.Sink.held c.tell_waiting.new.sink in
    let so_far = told c.lines.lines lines c.lines.writer w c.lines.records x y a (g.K.Sink.held c.lines.sink) b i.so_far c.in_ok-tell_waiting.ensures.lines c.in_ok-tell_waiting.ensures.printed c.in_ok-tell_waiting.ensures.size in
    let found = c.in-ReadFault-next.ensures.next in
    let d = g.K.Sink.held c.end_build-in-ReadFault-next.new.sink in
    let v = ap answer.ReadFault c.taken-in-ReadFault-next.ensures.count in
    fault text_facts lines now w c.lines.records x y z a b d so_far found.0 found.1 c.in-ReadFault-next.ensures.reach
    c.end_build-in-ReadFault-next.result (subst (λ (q : Built). IsShown c.end_build-in-ReadFault-next.result w.octets q b d) v c.end_build-in-ReadFault-next.ensures.shown)

pub returns-in-Long-next-clause-run : goal.returns-in-Long-next-clause-run
returns-in-Long-next-clause-run g c =
    let i = c.lines.invariant in
    let lines = c.tell_waiting.new.lines in
    let now = c.next-in-lines.new.self in
    let w = c.tell_waiting.new.writer in
    let x = g.S.Source.left c.args.source.now in
    let y = g.S.Source.left c.lines.source in
    let z = g.S.Source.left c.next-in-lines.new.source in
    let a = g.K.Sink.held c.args.sink.now in
    let b = g.K.Sink.held c.tell_waiting.new.sink in
    let so_far = told c.lines.lines lines c.lines.writer w c.lines.records x y a (g.K.Sink.held c.lines.sink) b i.so_far c.in_ok-tell_waiting.ensures.lines c.in_ok-tell_waiting.ensures.printed c.in_ok-tell_waiting.ensures.size in
    let found = c.in-Long-next.ensures.next in
    let d = g.K.Sink.held c.end_build-in-Long-next.new.sink in
    passed_limit text_facts lines now w c.lines.records x y z a b d so_far found.0 found.1
    c.end_build-in-Long-next.result c.end_build-in-Long-next.ensures.shown
