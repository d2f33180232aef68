use Rattle.std.proofs.Common.{◌≡◌, ℕ, ◌+◌, ◌≤◌, [], ◌∷◌, ◌++◌, Some, inl, inr, length, refl, sym, ap, ◌∙◌, subst, append-nil, arith}
use Rattle.narc_text.specs.Printing.{Passes, Stops}
use Rattle.narc_pcap.specs.declared.limit.TheConstants.{CAPTURE_LIMIT}
use Rattle.narc_pcap.specs.declared.header.Header.{Header}
use Rattle.narc_pcap.specs.declared.record.End.TheVariants.{Torn, Bad}
use Rattle.narc_pcap.specs.Reading.{Reading}
use Rattle.narc_pcap.proofs.Cuts.{capture-torn, capture-bad}
use Rattle.narc_run.specs.declared.outcome.Outcome.{Outcome}
use Rattle.narc_run.specs.Job.{CaptureJob}
use Rattle.narc_run.specs.Output.{capture_body, header_text, record_text}
use Rattle.narc_run.specs.Run.{WroteFront}
use Rattle.narc_run.specs.Verdict.{verdict_of}
use Rattle.narc_run.specs.Visiting.{Closes, told_as}
use Rattle.narc_text.proofs.Printings.{Appends-nil}
use Rattle.narc_run.proofs.Walks.{Call, read_record}
use Rattle.narc_run.proofs.CaptureSoFar.{read_start, frame_fits}
use Rattle.narc_run.proofs.Headless.{headless_broken}
use Rattle.narc_run.proofs.Visits.{read_kept, headless, closed, stopped_by, front_stopped, cut_page, cut_whole, body_more, passes_on, passes_same, has_room}
use Rattle.narc_run.proofs.walk.walk.Goals as goal

pub returns-in-Torn-clause-run : goal.returns-in-Torn-clause-run
returns-in-Torn-clause-run g c =
    let started = c.in-Torn.ensures.started in
    let v = c.args.visitor.now in
    headless (g.V.Visitor.job v) (g.V.Visitor.saw v) c.new-reader.result c.start.new.self (g.S.Source.left c.args.source.now) (g.S.Source.left c.start.new.source) (g.K.Sink.held c.args.sink.now) (g.K.Sink.held c.finish.new.sink) c.args.steps.now
    c.new-reader.ensures started.0 c.in-Torn.ensures.reach (Torn 0) (capture-torn c.start.new.self.hand started.1) c.new-page.result c.new-page.ensures c.requires.fresh (inl started.2)
    c.finish.result c.finish.ensures.printed

pub returns-in-Bad-clause-run : goal.returns-in-Bad-clause-run
returns-in-Bad-clause-run g c =
    let started = c.in-Bad.ensures.started in
    let v = c.args.visitor.now in
    headless (g.V.Visitor.job v) (g.V.Visitor.saw v) c.new-reader.result c.start.new.self (g.S.Source.left c.args.source.now) (g.S.Source.left c.start.new.source) (g.K.Sink.held c.args.sink.now) (g.K.Sink.held c.finish-in-Bad.new.sink) c.args.steps.now
    c.new-reader.ensures started.0 c.in-Bad.ensures.reach (Bad c.in-Bad.at) (capture-bad c.start.new.self.hand c.in-Bad.at started.1 started.2) c.new-page.result c.new-page.ensures c.requires.fresh (inr refl)
    c.finish-in-Bad.result c.finish-in-Bad.ensures.printed

pub returns-in-ReadFault-clause-run : goal.returns-in-ReadFault-clause-run
returns-in-ReadFault-clause-run g c =
    let started = c.in-ReadFault.ensures.started in
    let held = g.K.Sink.held c.args.sink.now in
    headless_broken (g.V.Visitor.job c.args.visitor.now) c.new-reader.result c.start.new.self (g.S.Source.left c.args.source.now) (g.S.Source.left c.start.new.source) held held c.args.steps.now
    c.new-reader.ensures started.0 c.in-ReadFault.ensures.reach (Torn 0) (capture-torn c.start.new.self.hand started.1)
    c.source_fault.result (ap (λ (o : Outcome). verdict_of o.status o.at) c.source_fault.ensures ∙ ap (λ n. verdict_of 5 n) c.taken.ensures.count) (Appends-nil held)

pub returns-in_err-header-clause-run : goal.returns-in_err-header-clause-run
returns-in_err-header-clause-run g c =
    let j = g.V.Visitor.job c.args.visitor.now in
    let x = g.S.Source.left c.args.source.now in
    let y = g.S.Source.left c.start.new.source in
    let before = g.K.Sink.held c.args.sink.now in
    let after = g.K.Sink.held c.header.new.sink in
    let starts = c.in-Ok.ensures.started in
    let read = read_start c.new-reader.result c.start.new.self x y c.args.steps.now c.in-Ok.header starts in
    let line = header_text j c.in-Ok.header in
    let front = front_stopped (c.new-page.result ++ line) before after c.in_err-header.ensures.printed in
    let lines : c.new-page.result ++ line ≡ capture_body j (Some c.start.new.self.header) [] = ap (λ l. l ++ line) c.new-page.ensures ∙ sym (append-nil line) ∙ ap (λ (h : Header). capture_body j (Some h) []) (sym starts.header) in
    stopped_by j c.start.new.self x y before after c.args.steps.now c.args.steps.now read c.in-Ok.ensures.reach
    (subst (λ l. WroteFront l before after) lines front) c.from_residual.result c.from_residual.ensures.0

pub records-init : goal.records-init
records-init g c =
    let v = c.args.visitor.now in
    let j = g.V.Visitor.job v in
    let x = g.S.Source.left c.args.source.now in
    let y = g.S.Source.left c.start.new.source in
    let before = g.K.Sink.held c.args.sink.now in
    let after = g.K.Sink.held c.header.new.sink in
    let starts = c.in-Ok.ensures.started in
    let line = header_text j c.in-Ok.header in
    let lines : c.new-page.result ++ line ≡ capture_body j (Some c.start.new.self.header) [] = ap (λ l. l ++ line) c.new-page.ensures ∙ sym (append-nil line) ∙ ap (λ (h : Header). capture_body j (Some h) []) (sym starts.header) in
    record {
      opened = starts.opened;
      reach = c.in-Ok.ensures.reach;
      job = c.header.ensures.same_job;
      so_far = record {
        read = read_start c.new-reader.result c.start.new.self x y c.args.steps.now c.in-Ok.header starts;
        saw = subst (λ (h : Header). g.V.Visitor.saw c.header.new.self (Some h) []) (sym starts.header) c.header.ensures.seen;
        printed = subst (λ l. Passes l c.header.new.page before after) lines c.in_ok-header.ensures.printed;
      };
      source_later = c.in-Ok.ensures.faults.later;
      sink_later = c.header.ensures.faults.later;
    }

pub returns-in_err-tell_waiting-clause-run : goal.returns-in_err-tell_waiting-clause-run
returns-in_err-tell_waiting-clause-run g c =
    let i = c.records.invariant in
    let j = g.V.Visitor.job c.args.visitor.now in
    let a = g.K.Sink.held c.args.sink.now in
    let b = g.K.Sink.held c.records.sink in
    let d = g.K.Sink.held c.tell_waiting.new.sink in
    let cut = front_stopped (c.records.page ++ []) b d c.in_err-tell_waiting.ensures.printed in
    let lines = capture_body j (Some c.records.reader.header) ((i.so_far).read).told in
    stopped_by j c.records.reader (g.S.Source.left c.args.source.now) (g.S.Source.left c.records.source) a d c.args.steps.now c.records.steps (i.so_far).read i.reach
    (cut_whole lines c.records.page a b d (i.so_far).printed (subst (λ l. WroteFront l b d) (append-nil c.records.page) cut))
    c.from_residual-in_err-tell_waiting.result c.from_residual-in_err-tell_waiting.ensures.0

pub record-requires-clause-fits : goal.record-requires-clause-fits
record-requires-clause-fits g c =
    frame_fits c.records.reader c.next.new.self (g.S.Source.left c.records.source) (g.S.Source.left c.next.new.source) c.in-Rec.head c.in-Rec.ensures.next

pub record-requires-clause-room : goal.record-requires-clause-room
record-requires-clause-room g c =
    let i = c.records.invariant in
    has_room (g.V.Visitor.saw c.records.visitor) c.records.reader (g.S.Source.left c.args.source.now) (g.S.Source.left c.records.source) c.args.steps.now c.records.steps (i.so_far).read (i.so_far).saw i.reach

pub records-preserved : goal.records-preserved
records-preserved g c =
    let i = c.records.invariant in
    let j = g.V.Visitor.job c.args.visitor.now in
    let saw = g.V.Visitor.saw c.record.new.self in
    let reader = c.records.reader in
    let now = c.next.new.self in
    let last = c.record.new.reader in
    let x = g.S.Source.left c.args.source.now in
    let y = g.S.Source.left c.records.source in
    let z = g.S.Source.left c.next.new.source in
    let a = g.K.Sink.held c.args.sink.now in
    let b = g.K.Sink.held c.records.sink in
    let d = g.K.Sink.held c.tell_waiting.new.sink in
    let f = g.K.Sink.held c.record.new.sink in
    let head = c.in-Rec.head in
    let visits = c.in_ok-record-in-Rec.ensures.visited in
    let passes = c.in-Rec.ensures.next in
    let told = ((i.so_far).read).told in
    let t = told_as (record { head = head; octets = now.frame }) visits.answer in
    let lines = capture_body j (Some reader.header) told in
    let before = passes_same lines c.records.page c.tell_waiting.new.page a b d (i.so_far).printed c.in_ok-tell_waiting.ensures.printed in
    let text = subst (λ (j : CaptureJob). Passes (c.tell_waiting.new.page ++ record_text j reader.header t) c.record.new.page d f) i.job (visits.printed reader.header told (i.so_far).saw) in
    let kept = c.record.ensures.kept in
    let header : last.header ≡ now.header = ap (λ (r : Reading). r.header) kept in
    record {
      opened = ap (λ (r : Reading). r.is_open) kept ∙ passes.opened;
      reach = subst (λ (r : Reading). r.place + length r.hand ≤ CAPTURE_LIMIT) (sym kept) c.in-Rec.ensures.reach;
      job = c.record.ensures.same_job ∙ i.job;
      so_far = record {
        read = read_kept now last x z c.args.steps.now c.record.new.steps kept
            (read_record reader now x y z c.args.steps.now c.records.steps c.record.new.steps head visits.answer (i.so_far).read passes visits.right c.record.ensures.cost);
        saw = subst (λ (h : Header). saw (Some h) (told ++ t ∷ [])) (sym (header ∙ passes.header)) (visits.saw reader.header told (i.so_far).saw);
        printed = subst (λ l. Passes l c.record.new.page a f) (body_more j reader.header last.header told t (header ∙ passes.header))
            (passes_on lines (record_text j reader.header t) c.tell_waiting.new.page c.record.new.page a d f before text);
      };
      source_later = omega (arith, i.source_later, c.in-Rec.ensures.faults.later);
      sink_later = omega (arith, i.sink_later, c.in_ok-tell_waiting.ensures.faults.later, c.record.ensures.faults.later);
    }

pub returns-in_err-record-in-Rec-clause-run : goal.returns-in_err-record-in-Rec-clause-run
returns-in_err-record-in-Rec-clause-run g c =
    let i = c.records.invariant in
    let j = g.V.Visitor.job c.args.visitor.now in
    let reader = c.records.reader in
    let now = c.next.new.self in
    let x = g.S.Source.left c.args.source.now in
    let y = g.S.Source.left c.records.source in
    let z = g.S.Source.left c.next.new.source in
    let a = g.K.Sink.held c.args.sink.now in
    let b = g.K.Sink.held c.records.sink in
    let d = g.K.Sink.held c.tell_waiting.new.sink in
    let f = g.K.Sink.held c.record.new.sink in
    let head = c.in-Rec.head in
    let visits = c.in_err-record-in-Rec.ensures.visited in
    let passes = c.in-Rec.ensures.next in
    let told = ((i.so_far).read).told in
    let t = told_as (record { head = head; octets = now.frame }) visits.answer in
    let lines = capture_body j (Some reader.header) told in
    let before = passes_same lines c.records.page c.tell_waiting.new.page a b d (i.so_far).printed c.in_ok-tell_waiting.ensures.printed in
    let text = subst (λ (j : CaptureJob). Stops (c.tell_waiting.new.page ++ record_text j reader.header t) d f) i.job (visits.printed reader.header told (i.so_far).saw) in
    let read = read_record reader now x y z c.args.steps.now c.records.steps c.record.new.steps head visits.answer (i.so_far).read passes visits.right c.record.ensures.cost in
    let cut = cut_page lines c.tell_waiting.new.page (record_text j reader.header t) a d f before (front_stopped _ d f text) in
    stopped_by j now x z a f c.args.steps.now c.record.new.steps read c.in-Rec.ensures.reach
    (subst (λ l. WroteFront l a f) (body_more j reader.header now.header told t passes.header) cut)
    c.from_residual-in_err-record-in-Rec.result c.from_residual-in_err-record-in-Rec.ensures.0

pub returns-in_default-clause-run : goal.returns-in_default-clause-run
returns-in_default-clause-run g c =
    let i = c.records.invariant in
    let j = g.V.Visitor.job c.args.visitor.now in
    let saw = g.V.Visitor.saw c.records.visitor in
    let a = g.K.Sink.held c.args.sink.now in
    let b = g.K.Sink.held c.records.sink in
    let d = g.K.Sink.held c.tell_waiting.new.sink in
    let f = g.K.Sink.held c.close.new.sink in
    let page = c.tell_waiting.new.page in
    let last = c.next.result in
    let call : Call = record {
      job = j;
      reader = c.records.reader;
      now = c.next.new.self;
      left_first = g.S.Source.left c.args.source.now;
      left = g.S.Source.left c.records.source;
      left_now = g.S.Source.left c.next.new.source;
      held_first = a;
      held_now = f;
      steps_first = c.args.steps.now;
      steps = c.records.steps;
    } in
    closed call saw page d (i.so_far).read
    (passes_same (capture_body j (Some c.records.reader.header) ((i.so_far).read).told) c.records.page page a b d (i.so_far).printed c.in_ok-tell_waiting.ensures.printed)
    (i.so_far).saw last c.next.ensures.next c.next.ensures.reach c.close.result
    (subst (λ (n : ℕ). Closes j saw last n c.close.result page d f) c.taken-in_default.ensures.count (subst (λ (j : CaptureJob). Closes j saw last c.taken-in_default.result c.close.result page d f) i.job c.close.ensures.printed))
