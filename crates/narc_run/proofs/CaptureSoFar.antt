-- How a job ends that reads a capture, by what was read of it and found so far.
use Rattle.std.proofs.Common.{◌≡◌, ℕ, ◌+◌, ◌≤◌, ◌⊎◌, inl, inr, false, List, [], ◌∷◌, ◌++◌, length, take, drop, Option, Some, Result, Ok, Err, refl, sym, ap, ◌∙◌, subst, append_assoc, arith, length-append, length-take}
use Rattle.std.specs.Prelude.{IsTrue, sum_by}
use Rattle.std.proofs.lemmas.List.{length-take-le, take-append-drop}
use Rattle.narc_bits.specs.declared.limits.TheConstants.{MAX_FRAME}
use Rattle.narc_world.specs.declared.error.Failed.{Failed}
use Rattle.narc_world.specs.Outside.{TakesFront, IsEmptyWhereTold, Appends}
use Rattle.narc_world.proofs.Fronts.{TakesFront-append}
use Rattle.narc_pcap.specs.declared.limit.TheConstants.{CAPTURE_LIMIT}
use Rattle.narc_pcap.specs.declared.header.Header.{Header}
use Rattle.narc_pcap.specs.declared.record.Record.{Record}
use Rattle.narc_pcap.specs.declared.record.End.{End}
use Rattle.narc_pcap.specs.declared.record.End.TheVariants.{Clean, Torn, Bad}
use Rattle.narc_pcap.specs.Capture.{front, capture, CaptureView, headed, is_bad}
use Rattle.narc_pcap.specs.Reading.{Reading, Holds, Exceeds, IsShort, taken}
use Rattle.narc_pcap.specs.Reading as reading
use Rattle.narc_pcap.proofs.Cuts.{whole_of}
use Rattle.narc_run.specs.declared.outcome.Outcome.{Outcome}
use Rattle.narc_run.specs.Job.{CaptureJob, Capture}
use Rattle.narc_run.specs.Findings.{Told, Findings, AreTold, frames, frame_cost}
use Rattle.narc_run.specs.Output.{capture_body, capture_end, body, output}
use Rattle.narc_run.specs.Verdict.{verdict, verdict_of, end_verdict, records_status}
use Rattle.narc_run.specs.Run.{WroteFront}
use Rattle.narc_run.specs.StreamRun.{Takes, Overtakes, StreamRun, EndsStream, Judged, Broken, Overrun, Stopped, StoppedBehind}
use Rattle.narc_run.proofs.FrameAnswers.{no_findings}
use Rattle.narc_run.proofs.Walks.{Call, Walks, Walks-start, Walks-end, ReadSoFar, entries_of, cost}

abbrev pub found_of : List Told → Findings
found_of told = record no_findings { records = told }

-- ---- a capture that is its header, these records and this end

module _ (octets : List ℕ) (h : Header) (told : List Told) (end : End)
    (is : capture octets ≡ headed h (record { entries = entries_of told; end = end })) where
  pub are_told : AreTold (entries_of told) told → AreTold (capture octets).entries told
  are_told right = subst (λ l. AreTold l told) (sym (ap (λ (v : CaptureView). v.entries) is)) right

  pub body_is : (j : CaptureJob) → body (Capture j) octets (found_of told) ≡ capture_body j (Some h) told
  body_is j = ap (λ (v : CaptureView). capture_body j v.header told) is

  pub output_is : (j : CaptureJob) → output (Capture j) octets (found_of told) ≡ capture_body j (Some h) told ++ capture_end j told end
  output_is j = ap (λ (v : CaptureView). capture_body j v.header told ++ capture_end j told v.end) is

  pub verdict_is : (j : CaptureJob) → verdict (Capture j) octets (found_of told) ≡ end_verdict (records_status j told) end
  verdict_is j = ap (λ (v : CaptureView). end_verdict (records_status j told) v.end) is

  pub bad_is : is_bad (capture octets).end ≡ is_bad end
  bad_is = ap (λ (v : CaptureView). is_bad v.end) is

  pub cost_is : (j : CaptureJob) → sum_by frame_cost (frames (Capture j) octets) ≡ cost (entries_of told)
  cost_is j = ap (λ (v : CaptureView). cost v.entries) is

-- what is short has an end that is not bad
record ShortEnd (r : Result Record End) : Type 0 where
  end : End
  is : r ≡ Err end
  good : is_bad end ≡ false

short_end : (r : Result Record End) → IsShort r → ShortEnd r
short_end (Ok head) h = absurd h
short_end (Err Clean) h = record { end = Clean; is = refl; good = refl }
short_end (Err (Torn at)) h = record { end = Torn at; is = refl; good = refl }
short_end (Err (Bad at)) h = absurd h

-- the capture ended here, or shows a bad place
pub settled_at : (z : Option (List ℕ)) (e f : End) → is_bad e ≡ is_bad f → IsEmptyWhereTold z ⊎ IsTrue (is_bad f) → IsEmptyWhereTold z ⊎ IsTrue (is_bad e)
settled_at z e f same (inl ended) = inl ended
settled_at z e f same (inr bad) = inr (same ∙ bad)

-- ---- octets behind those that were read so far

-- how a walk ends behind the call
abbrev pub WalkRun : Call → (status at : ℕ) → Type 0
WalkRun w status at = StreamRun (Capture w.job) w.left_first w.left_now w.held_first w.held_now w.steps_first w.steps status at

abbrev pub WalkEnds : Call → Result Outcome Failed → Type 0
WalkEnds w r = EndsStream (Capture w.job) w.left_first w.left_now w.held_first w.held_now w.steps_first w.steps r

module _ (w : Call) (so_far : ReadSoFar w.reader w.left_first w.left w.steps_first w.steps) where
  abbrev octets : List ℕ
  octets = so_far.past ++ (w.now).hand

  abbrev told : List Told
  told = so_far.told

  abbrev lines : List ℕ
  lines = capture_body w.job (Some (w.reader).header) told

  took : Holds w.reader w.now w.left w.left_now → TakesFront octets w.left_first w.left_now
  took holds =
      let joined : (so_far.past ++ (w.reader).hand) ++ holds.pulled ≡ octets = append_assoc so_far.past (w.reader).hand holds.pulled ∙ ap (λ l. so_far.past ++ l) (sym holds.hand) in
      subst (λ l. TakesFront l w.left_first w.left_now) joined (TakesFront-append (so_far.past ++ (w.reader).hand) holds.pulled w.left_first w.left w.left_now so_far.took holds.took)

  took_past : (e : Exceeds w.reader w.now w.left w.left_now) → TakesFront (octets ++ e.octet ∷ []) w.left_first w.left_now
  took_past e =
      let joined : (so_far.past ++ (w.reader).hand) ++ (e.pulled ++ e.octet ∷ []) ≡ octets ++ e.octet ∷ [] =
      append_assoc so_far.past (w.reader).hand (e.pulled ++ e.octet ∷ []) ∙ ap (λ l. so_far.past ++ l) (sym (append_assoc (w.reader).hand e.pulled (e.octet ∷ [])))
      ∙ sym (append_assoc so_far.past ((w.reader).hand ++ e.pulled) (e.octet ∷ [])) ∙ ap (λ l. (so_far.past ++ l) ++ e.octet ∷ []) (sym e.hand) in
      subst (λ l. TakesFront l w.left_first w.left_now) joined (TakesFront-append (so_far.past ++ (w.reader).hand) (e.pulled ++ e.octet ∷ []) w.left_first w.left w.left_now so_far.took e.took)

  size : (w.now).place ≡ (w.reader).place → length octets ≡ taken w.now
  size place = omega (arith, length-append so_far.past (w.now).hand, so_far.place, place)

  right : AreTold (entries_of told) told
  right = record { same = refl; right = (so_far.walks).right }

  ends_with : (end : End) → front (w.reader).header.big (w.reader).place (w.now).hand ≡ Err end
      → capture octets ≡ headed (w.reader).header (record { entries = entries_of told; end = end })
  ends_with end is = Walks-end (w.reader).header so_far.past (w.now).hand told end so_far.walks (ap (λ n. front (w.reader).header.big n (w.now).hand) (sym so_far.place) ∙ is)

  takes : (end : End) → Holds w.reader w.now w.left w.left_now → taken w.now ≤ CAPTURE_LIMIT → front (w.reader).header.big (w.reader).place (w.now).hand ≡ Err end → Takes (Capture w.job) w.left_first w.left_now w.held_first w.held_now w.steps_first w.steps octets
  takes end holds reach is = record {
    took = took holds;
    fits = omega (arith, size holds.place, reach);
    reach = omega (arith, size holds.place, reach);
    steps = omega (arith, so_far.cheap, cost_is octets (w.reader).header told end (ends_with end is) w.job);
  }

  overtakes : (end : End) → capture octets ≡ headed (w.reader).header (record { entries = entries_of told; end = end }) → Exceeds w.reader w.now w.left w.left_now → Overtakes (Capture w.job) w.left_first w.left_now w.held_first w.held_now w.steps_first w.steps octets
  overtakes end whole holds = record {
    octet = holds.octet;
    took = took_past holds;
    long = size holds.place ∙ holds.reached;
    limit = refl;
    steps = omega (arith, so_far.cheap, cost_is octets (w.reader).header told end whole w.job);
  }

  module _ (end : End) (holds : Holds w.reader w.now w.left w.left_now) (is : front (w.reader).header.big (w.reader).place (w.now).hand ≡ Err end) (reach : taken w.now ≤ CAPTURE_LIMIT)
      (settled : IsEmptyWhereTold w.left_now ⊎ IsTrue (is_bad end)) where
    -- the capture ended, or a bad place was shown
    pub judged : (o : Outcome) → verdict_of o.status o.at ≡ end_verdict (records_status w.job told) end → Appends (lines ++ capture_end w.job told end) w.held_first w.held_now → WalkRun w o.status o.at
    judged o v wrote =
        let whole = ends_with end is in
        Judged (record {
          octets = octets;
          takes = takes end holds reach is;
          within = λ h. (takes end holds reach is).fits;
          found = record {
            found = found_of told;
            are = are_told octets (w.reader).header told end whole right;
            holds = (v ∙ sym (verdict_is octets (w.reader).header told end whole w.job), settled_at w.left_now (capture octets).end end (bad_is octets (w.reader).header told end whole) settled, subst (λ l. Appends l w.held_first w.held_now) (sym (output_is octets (w.reader).header told end whole w.job)) wrote);
          };
        })

    -- the sink failed at the end
    pub stopped_last : (f : Failed) → WroteFront (lines ++ capture_end w.job told end) w.held_first w.held_now → WalkRun w 6 0
    stopped_last f wrote =
        let whole = ends_with end is in
        Stopped (record {
          octets = octets;
          takes = takes end holds reach is;
          told = refl;
          found = record {
            found = found_of told;
            are = are_told octets (w.reader).header told end whole right;
            holds = inr (settled_at w.left_now (capture octets).end end (bad_is octets (w.reader).header told end whole) settled, subst (λ l. WroteFront l w.held_first w.held_now) (sym (output_is octets (w.reader).header told end whole w.job)) wrote);
          };
        })

  module _ (holds : Holds w.reader w.now w.left w.left_now) (short : IsShort (front (w.reader).header.big (w.reader).place (w.now).hand)) (reach : taken w.now ≤ CAPTURE_LIMIT) where
    -- the source failed
    pub broken : (o : Outcome) → verdict_of o.status o.at ≡ verdict_of 5 (taken w.now) → Appends lines w.held_first w.held_now → WalkRun w o.status o.at
    broken o v wrote =
        let e = short_end (front (w.reader).header.big (w.reader).place (w.now).hand) short in
        let whole = ends_with e.end e.is in
        Broken (record {
          octets = octets;
          takes = takes e.end holds reach e.is;
          told = v ∙ ap (verdict_of 5) (sym (size holds.place));
          found = record {
            found = found_of told;
            are = are_told octets (w.reader).header told e.end whole right;
            holds = subst (λ l. Appends l w.held_first w.held_now) (sym (body_is octets (w.reader).header told e.end whole w.job)) wrote;
          };
        })

    -- the sink failed behind it
    pub stopped_short : (f : Failed) → WroteFront lines w.held_first w.held_now → WalkRun w 6 0
    stopped_short f wrote =
        let e = short_end (front (w.reader).header.big (w.reader).place (w.now).hand) short in
        let whole = ends_with e.end e.is in
        Stopped (record {
          octets = octets;
          takes = takes e.end holds reach e.is;
          told = refl;
          found = record {
            found = found_of told;
            are = are_told octets (w.reader).header told e.end whole right;
            holds = inl (subst (λ l. WroteFront l w.held_first w.held_now) (sym (body_is octets (w.reader).header told e.end whole w.job)) wrote);
          };
        })

  module _ (holds : Exceeds w.reader w.now w.left w.left_now) (short : IsShort (front (w.reader).header.big (w.reader).place (w.now).hand)) where
    -- the limit was passed
    pub overrun : (o : Outcome) → verdict_of o.status o.at ≡ verdict_of 7 CAPTURE_LIMIT → Appends lines w.held_first w.held_now → WalkRun w o.status o.at
    overrun o v wrote =
        let e = short_end (front (w.reader).header.big (w.reader).place (w.now).hand) short in
        let whole = ends_with e.end e.is in
        Overrun (record {
          octets = octets;
          takes = overtakes e.end whole holds;
          told = v;
          found = record {
            found = found_of told;
            are = are_told octets (w.reader).header told e.end whole right;
            holds = (
              bad_is octets (w.reader).header told e.end whole ∙ e.good,
              subst (λ l. Appends l w.held_first w.held_now) (sym (body_is octets (w.reader).header told e.end whole w.job)) wrote,
            );
          };
        })

    -- the sink failed behind it
    pub stopped_behind : (f : Failed) → WroteFront lines w.held_first w.held_now → WalkRun w 6 0
    stopped_behind f wrote =
        let e = short_end (front (w.reader).header.big (w.reader).place (w.now).hand) short in
        let whole = ends_with e.end e.is in
        StoppedBehind (record {
          octets = octets;
          takes = overtakes e.end whole holds;
          told = refl;
          found = record {
            found = found_of told;
            are = are_told octets (w.reader).header told e.end whole right;
            holds = subst (λ l. WroteFront l w.held_first w.held_now) (sym (body_is octets (w.reader).header told e.end whole w.job)) wrote;
          };
        })

-- ---- the beginning

-- the header was read
abbrev pub read_start : (reader now : Reading) (x y : Option (List ℕ)) (s : ℕ) (h : Header) → reading.Starts reader now x y h → ReadSoFar now x y s s
read_start reader now x y s h starts =
    let size : length (take 24 starts.pulled) ≡ 24 = length-take-le 24 starts.pulled starts.enough in
    record {
      past = take 24 starts.pulled;
      told = [];
      took = subst (λ l. TakesFront l x y) (sym (take-append-drop 24 starts.pulled) ∙ ap (λ l. take 24 starts.pulled ++ l) (sym starts.hand)) starts.took;
      walks = subst (λ (h : Header). Walks h (take 24 starts.pulled) []) (sym starts.header) (Walks-start starts.pulled h starts.enough starts.is);
      place = starts.place ∙ sym size;
      octets = starts.octets;
      few = omega arith;
      cheap = omega arith;
    }

-- a frame is no longer than the decoder takes
pub frame_fits : (reader now : Reading) (y z : Option (List ℕ)) (head : Record) → reading.Passes reader now y z head → length now.frame ≤ MAX_FRAME
frame_fits reader now y z head passes =
    let whole = whole_of reader.header.big reader.place (reader.hand ++ passes.pulled) head passes.is in
    omega (arith, whole.size, ap length passes.frame, length-take head.captured (drop 16 (reader.hand ++ passes.pulled)))
