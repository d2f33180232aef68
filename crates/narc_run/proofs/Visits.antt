-- How a walk over a capture ends, by what was read, seen and printed so far.
use Rattle.std.proofs.Common.{◌≡◌, ℕ, ◌+◌, ◌≤◌, ◌⊎◌, inl, inr, List, [], ◌∷◌, ◌++◌, length, take, min, Option, Some, None, Result, Ok, Err, refl, sym, ap, ◌∙◌, subst, append_assoc, append-nil, arith, length-append}
use Rattle.std.specs.Prelude.{IsErr, IsTrue, flat_map, sum_by}
use Rattle.std.proofs.lemmas.List.{take_at, take_min, take-append-le, flat_map_more}
use Rattle.std.proofs.lemmas.Grind.{flat_map-append}
use Rattle.narc_bits.proofs.Lists.{take-append-add}
use Rattle.narc_bits.specs.Octets.{IsOctets}
use Rattle.narc_world.specs.declared.error.Failed.{Failed}
use Rattle.narc_world.specs.Outside.{TakesFront, IsEmptyWhereTold, Appends}
use Rattle.narc_pcap.specs.declared.limit.TheConstants.{CAPTURE_LIMIT}
use Rattle.narc_pcap.specs.declared.header.Header.{Header}
use Rattle.narc_pcap.specs.declared.record.End.{End}
use Rattle.narc_pcap.specs.declared.record.End.TheVariants.{Clean, Torn, Bad}
use Rattle.narc_pcap.specs.Capture.{front, cut, capture, CaptureView, no_header, is_bad}
use Rattle.narc_pcap.specs.declared.reader.Next.{Next}
use Rattle.narc_pcap.specs.declared.reader.Next.TheVariants as next
use Rattle.narc_pcap.specs.Reading.{Reading, Holds, Exceeds, IsFresh, IsNext, IsShort, taken}
use Rattle.narc_pcap.proofs.CaptureCuts.{cut_records}
use Rattle.narc_text.specs.Printing.{Passes, Stops}
use Rattle.narc_text.proofs.Printings.{Appends-append, Passes-then}
use Rattle.narc_run.specs.declared.outcome.Outcome.{Outcome}
use Rattle.narc_run.specs.Job.{CaptureJob, Capture}
use Rattle.narc_run.specs.Findings.{Told, AreTold, frames, frame_cost}
use Rattle.narc_run.specs.Output.{header_text, record_text, capture_body, capture_end}
use Rattle.narc_run.specs.Verdict.{verdict_of}
use Rattle.narc_run.specs.Run.{WroteFront}
use Rattle.narc_run.specs.Visiting.{HasRoom, Closes, Finishes}
use Rattle.narc_run.specs.StreamRun.{IsShown, EndsStream, StreamRun, Stopped}
use Rattle.narc_run.proofs.Walks.{Call, Walks, ReadSoFar, entries_of, cost, cost-append}
use Rattle.narc_run.proofs.Answered.{all_answered, AreTold-append}
use Rattle.narc_run.proofs.CaptureSoFar.{found_of, WalkEnds, judged, stopped_last, broken, stopped_short, overrun, stopped_behind}
use Rattle.narc_run.proofs.Headless.{headless_judged, headless_stopped}

-- What was read of a capture was seen, and what is printed is its body so far.
pub record VisitsSoFar (j : CaptureJob) (Saw : Option Header → List Told → Type 0) (reader : Reading) (page : List ℕ) (left left_now held held_now : Option (List ℕ)) (steps steps_now : ℕ) : Type 0 where
  pub read : ReadSoFar reader left left_now steps steps_now
  pub saw : Saw (Some reader.header) read.told
  pub printed : Passes (capture_body j (Some reader.header) read.told) page held held_now

-- the same after an edit of the frame
abbrev pub read_kept : (reader edited : Reading) (x y : Option (List ℕ)) (s0 s1 : ℕ) → edited ≡ record reader { frame = edited.frame } → ReadSoFar reader x y s0 s1 → ReadSoFar edited x y s0 s1
read_kept reader edited x y s0 s1 kept so_far =
    let hand : reader.hand ≡ edited.hand = sym (ap (λ (r : Reading). r.hand) kept) in
    let header : reader.header ≡ edited.header = sym (ap (λ (r : Reading). r.header) kept) in
    record {
      past = so_far.past;
      told = so_far.told;
      took = subst (λ l. TakesFront (so_far.past ++ l) x y) hand so_far.took;
      walks = subst (λ (h : Header). Walks h so_far.past so_far.told) header so_far.walks;
      place = ap (λ (r : Reading). r.place) kept ∙ so_far.place;
      octets = subst IsOctets hand so_far.octets;
      few = so_far.few;
      cheap = so_far.cheap;
    }

-- there is room for one record more
pub has_room : (Saw : Option Header → List Told → Type 0) (reader : Reading) (x y : Option (List ℕ)) (s0 s1 : ℕ) (so_far : ReadSoFar reader x y s0 s1) → Saw (Some reader.header) so_far.told
    → reader.place + length reader.hand ≤ CAPTURE_LIMIT → HasRoom Saw
has_room Saw reader x y s0 s1 so_far saw reach = record {
  header = reader.header;
  told = so_far.told;
  saw = saw;
  few = omega (arith, so_far.few, so_far.place, reach);
}

-- ---- a page that was pushed, or of which a front was

-- what was on the page, and then a line, was pushed
pushed_page : (all page line : List ℕ) (a b c : Option (List ℕ)) → Passes all page a b → Appends (page ++ line) b c → Appends (all ++ line) a c
pushed_page all page line a b c p q =
    subst (λ l. Appends l a c) (sym (append_assoc p.pushed page line) ∙ ap (λ l. l ++ line) (sym p.split)) (Appends-append p.pushed (page ++ line) a b c p.appended q)

pub cut_page : (all page line : List ℕ) (a b c : Option (List ℕ)) → Passes all page a b → WroteFront (page ++ line) b c → WroteFront (all ++ line) a c
cut_page all page line a b c p q =
    let whole : all ++ line ≡ p.pushed ++ (page ++ line) = ap (λ l. l ++ line) p.split ∙ append_assoc p.pushed page line in
    let same : take (length p.pushed + q.0) (all ++ line) ≡ p.pushed ++ take q.0 (page ++ line) = ap (take (length p.pushed + q.0)) whole ∙ take-append-add p.pushed (page ++ line) q.0 in
    (length p.pushed + q.0, subst (λ l. Appends l a c) (sym same) (Appends-append p.pushed (take q.0 (page ++ line)) a b c p.appended q.1))

pub front_stopped : (all : List ℕ) (a c : Option (List ℕ)) → Stops all a c → WroteFront all a c
front_stopped all a c p = (length p.pushed, subst (λ l. Appends l a c) (sym (ap (take (length p.pushed)) p.split ∙ take_at p.pushed p.lost (length p.pushed) refl)) p.appended)

pushed_whole : (all page : List ℕ) (a b c : Option (List ℕ)) → Passes all page a b → Appends page b c → Appends all a c
pushed_whole all page a b c p q = subst (λ l. Appends l a c) (sym p.split) (Appends-append p.pushed page a b c p.appended q)

pub cut_whole : (all page : List ℕ) (a b c : Option (List ℕ)) → Passes all page a b → WroteFront page b c → WroteFront all a c
cut_whole all page a b c p q =
    subst (λ l. WroteFront l a c) (append-nil all) (cut_page all page [] a b c p (subst (λ l. WroteFront l b c) (sym (append-nil page)) q))

-- a front of a front
take-min : (n : ℕ) (l m : List ℕ) → take (min n (length l)) (l ++ m) ≡ take n l
take-min n l m =
    let within : min n (length l) ≤ length l = omega arith in
    take-append-le (min n (length l)) l m within ∙ take_min n l

front_longer : (l m : List ℕ) (a c : Option (List ℕ)) → WroteFront l a c → WroteFront (l ++ m) a c
front_longer l m a c w = (min w.0 (length l), subst (λ k. Appends k a c) (sym (take-min w.0 l m)) w.1)

-- ---- the body

module _ (j : CaptureJob) where
  -- a record's text behind those of the records before it
  pub body_more : (h g : Header) (told : List Told) (t : Told) → g ≡ h → capture_body j (Some h) told ++ record_text j h t ≡ capture_body j (Some g) (told ++ t ∷ [])
  body_more h g told t e = flat_map_more (record_text j h) (header_text j h) told t ∙ ap (λ (h : Header). capture_body j (Some h) (told ++ t ∷ [])) (sym e)

  body_append : (h : Header) (told more : List Told) → capture_body j (Some h) (told ++ more) ≡ capture_body j (Some h) told ++ flat_map (record_text j h) more
  body_append h told more =
      ap (λ l. header_text j h ++ l) (flat_map-append (record_text j h) told more) ∙ sym (append_assoc (header_text j h) (flat_map (record_text j h) told) (flat_map (record_text j h) more))

-- a printing behind what was printed
pub passes_on : (all b page after : List ℕ) (x y z : Option (List ℕ)) → Passes all page x y → Passes (page ++ b) after y z → Passes (all ++ b) after x z
passes_on all b page after x y z p q = Passes-then all b [] page after x y z p q

pub passes_same : (all page after : List ℕ) (x y z : Option (List ℕ)) → Passes all page x y → Passes (page ++ []) after y z → Passes all after x z
passes_same all page after x y z p q = subst (λ l. Passes l after x z) (append-nil all) (passes_on all [] page after x y z p q)

-- ---- the end

module _ (j : CaptureJob) (Saw : Option Header → List Told → Type 0) (fresh now : Reading) (x z a d : Option (List ℕ)) (s : ℕ) (is_fresh : IsFresh fresh) (holds : Holds fresh now x z) (reach : taken now ≤ CAPTURE_LIMIT)
    (end : End) (is : capture now.hand ≡ no_header end) where
  pub headless : (page : List ℕ) → page ≡ [] → Saw None [] → IsEmptyWhereTold z ⊎ IsTrue (is_bad end)
      → (r : Result Outcome Failed) → Finishes j Saw end r page a d → EndsStream (Capture j) x z a d s s r
  headless page empty saw settled (Ok o) h =
      let shown = h None [] saw in
      headless_judged j fresh now x z a d s is_fresh holds reach end is settled o shown.0 (subst (λ l. Appends (l ++ capture_end j [] end) a d) empty shown.1)
  headless page empty saw settled (Err f) h =
      headless_stopped j fresh now x z a d s is_fresh holds reach end is settled f (subst (λ l. WroteFront (l ++ capture_end j [] end) a d) empty (h None [] saw))

module _ (w : Call) (Saw : Option Header → List Told → Type 0) (page : List ℕ) (b : Option (List ℕ)) (so_far : ReadSoFar w.reader w.left_first w.left w.steps_first w.steps)
    (printed : Passes (capture_body w.job (Some (w.reader).header) so_far.told) page w.held_first b) where
  abbrev lines : List ℕ
  lines = capture_body w.job (Some (w.reader).header) so_far.told

  -- the capture ended, or a bad place was shown
  ended : Saw (Some (w.reader).header) so_far.told → (end : End) → Holds w.reader w.now w.left w.left_now → front (w.reader).header.big (w.reader).place (w.now).hand ≡ Err end → taken w.now ≤ CAPTURE_LIMIT
      → IsEmptyWhereTold w.left_now ⊎ IsTrue (is_bad end) → (r : Result Outcome Failed) → Finishes w.job Saw end r page b w.held_now → WalkEnds w r
  ended saw end holds is reach settled (Ok o) h =
      let shown = h (Some (w.reader).header) so_far.told saw in
      judged w so_far end holds is reach settled o shown.0
      (pushed_page lines page (capture_end w.job so_far.told end) w.held_first b w.held_now printed shown.1)
  ended saw end holds is reach settled (Err f) h =
      stopped_last w so_far end holds is reach settled f
      (cut_page lines page (capture_end w.job so_far.told end) w.held_first b w.held_now printed (h (Some (w.reader).header) so_far.told saw))

  -- the source failed
  broke : Holds w.reader w.now w.left w.left_now → IsShort (front (w.reader).header.big (w.reader).place (w.now).hand) → taken w.now ≤ CAPTURE_LIMIT
      → (r : Result Outcome Failed) → IsShown r page (verdict_of 5 (taken w.now)) b w.held_now → WalkEnds w r
  broke holds short reach (Ok o) h = broken w so_far holds short reach o h.0 (pushed_whole lines page w.held_first b w.held_now printed h.1)
  broke holds short reach (Err f) h = stopped_short w so_far holds short reach f (cut_whole lines page w.held_first b w.held_now printed h)

  -- the limit was passed
  overran : Exceeds w.reader w.now w.left w.left_now → IsShort (front (w.reader).header.big (w.reader).place (w.now).hand)
      → (r : Result Outcome Failed) → IsShown r page (verdict_of 7 CAPTURE_LIMIT) b w.held_now → WalkEnds w r
  overran holds short (Ok o) h = overrun w so_far holds short o h.0 (pushed_whole lines page w.held_first b w.held_now printed h.1)
  overran holds short (Err f) h = stopped_behind w so_far holds short f (cut_whole lines page w.held_first b w.held_now printed h)

  -- the reader found no further record
  pub closed : Saw (Some (w.reader).header) so_far.told → (last : Next) → IsNext w.reader w.now w.left w.left_now last → taken w.now ≤ CAPTURE_LIMIT
      → (r : Result Outcome Failed) → Closes w.job Saw last (taken w.now) r page b w.held_now → WalkEnds w r
  closed saw (next.Rec head) found reach r h = absurd h
  closed saw next.End found reach r h = ended saw Clean found.0 found.1 reach (inl found.2) r h
  closed saw (next.Torn at) found reach r h = ended saw (Torn at) found.0 found.1 reach (inl found.2) r h
  closed saw (next.Bad at) found reach r h = ended saw (Bad at) found.0 found.1 reach (inr refl) r h
  closed saw next.ReadFault found reach r h = broke found.0 found.1 reach r h
  closed saw next.Long found reach r h = overran found.0 found.1 r h

-- the sink failed while octets are in hand: their records have answers too
module _ (j : CaptureJob) (reader : Reading) (x y a c : Option (List ℕ)) (s0 s1 : ℕ) (so_far : ReadSoFar reader x y s0 s1) (reach : taken reader ≤ CAPTURE_LIMIT)
    (wrote : WroteFront (capture_body j (Some reader.header) so_far.told) a c) where
  stopped : StreamRun (Capture j) x y a c s0 s1 6 0
  stopped =
      let h = reader.header in
      let octets = so_far.past ++ reader.hand in
      let later = cut h.big 0 (length so_far.past) reader.hand in
      let cuts = cut_records h.big (length so_far.past) reader.hand in
      let more = all_answered h.big (length so_far.past) later.entries reader.hand cuts.0 cuts.1 so_far.octets in
      let told = so_far.told ++ more.0 in
      let here : AreTold (entries_of so_far.told) so_far.told = record { same = refl; right = (so_far.walks).right } in
      let are : AreTold (entries_of so_far.told ++ later.entries) told = AreTold-append (entries_of so_far.told) later.entries so_far.told more.0 here more.1 in
      let leads = (so_far.walks).leads reader.hand in
      let costs : sum_by frame_cost (frames (Capture j) octets) ≡ cost (entries_of so_far.told ++ later.entries) = ap (λ (v : CaptureView). cost v.entries) leads in
      let lines : capture_body j (capture octets).header told ≡ capture_body j (Some h) so_far.told ++ flat_map (record_text j h) more.0 =
      ap (λ (v : CaptureView). capture_body j v.header told) leads ∙ body_append j h so_far.told more.0 in
      Stopped (record {
        octets = octets;
        takes = record {
          took = so_far.took;
          fits = omega (arith, length-append so_far.past reader.hand, so_far.place, reach);
          reach = omega (arith, length-append so_far.past reader.hand, so_far.place, reach);
          steps = omega (arith, so_far.cheap, costs, cost-append (entries_of so_far.told) later.entries);
        };
        told = refl;
        found = record {
          found = found_of told;
          are = subst (λ l. AreTold l told) (sym (ap (λ (v : CaptureView). v.entries) leads)) are;
          holds = inl (subst (λ l. WroteFront l a c) (sym lines) (front_longer (capture_body j (Some h) so_far.told) (flat_map (record_text j h) more.0) a c wrote));
        };
      })

  -- the answer is handed on
  pub stopped_by : (r : Result Outcome Failed) → IsErr r → EndsStream (Capture j) x y a c s0 s1 r
  stopped_by (Ok o) e = cc
  stopped_by (Err f) e = stopped
