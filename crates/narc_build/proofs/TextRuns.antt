-- How the job `build` ends behind the lines that were read.
use Rattle.std.proofs.Common.{◌≡◌, ℕ, ◌<◌, ◌≤◌, inl, inr, List, [], ◌∷◌, ◌++◌, length, Option, Result, refl, sym, ap, ◌∙◌, subst, arith, append_assoc, length-append}
use Rattle.std.specs.Prelude.{IsErr}
use Rattle.narc_world.specs.declared.error.Failed.{Failed}
use Rattle.narc_world.specs.Outside.{TakesFront, IsEmptyWhereTold}
use Rattle.narc_world.specs.Intake.{Holds, Exceeds, taken}
use Rattle.narc_world.proofs.Fronts.{TakesFront-append}
use Rattle.narc_world.specs.declared.input_buffer.TheConstants.{INPUT_LIMIT}
use Rattle.narc_pcap.specs.Written.{Gathered}
use Rattle.narc_lines.specs.Lines.{HasNoFeed, IsLine, IsOpen}
use Rattle.narc_lines.specs.Reading.{Reading}
use Rattle.narc_lines.specs.Reading as reading
use Rattle.narc_build.specs.declared.limits.TheConstants.{LONGEST_LINE}
use Rattle.narc_text.specs.CaptureText.{end_line}
use Rattle.narc_build.specs.CaptureFront.{TextCapture, Begun, begun_text}
use Rattle.narc_build.specs.declared.ending.Built.{Built}
use Rattle.narc_build.specs.declared.ending.Built.TheVariants as answer
use Rattle.narc_build.specs.BuiltLine.{IsEntryLine}
use Rattle.narc_build.specs.Building.{WroteFront}
use Rattle.narc_build.specs.Building.{IsShown, BuildRun}
use Rattle.narc_build.proofs.CaptureFronts.{LineFacts, Follows, NoneFollows, one_line}
use Rattle.narc_build.proofs.TextDecides.{open_follows, open_decides_not, line_decides}
use Rattle.narc_build.proofs.TextSoFar.{BuildsSoFar}
use Rattle.narc_build.proofs.TextFacts.{TextFacts}
use Rattle.narc_build.proofs.Builds.{judged_by, broken_by, stopped_by, overran_by}

-- each line that may follow is a line
pub follows_line : LineFacts → (c : TextCapture) (line : List ℕ) → Follows (Begun c) line → IsLine line
follows_line facts c line (inl entry) = subst IsLine (sym entry.2) (facts.entry entry.0 entry.1)
follows_line facts c line (inr last) = subst IsLine (sym last) (facts.last (length c.entries))

module _ (facts : TextFacts) (lines now : Reading) (w : Gathered) (records : ℕ) (x y z a b d : Option (List ℕ)) (so_far : BuildsSoFar lines w records x y a b) where
  abbrev text : TextCapture
  text = so_far.text

  abbrev begun : List ℕ
  begun = begun_text text

  -- octets that were pulled stand behind those in hand
  pub took : Holds lines.input now.input y z → TakesFront (begun ++ now.input.hand) x z
  took holds =
      subst (λ l. TakesFront l x z) (append_assoc begun lines.input.hand holds.pulled ∙ ap (λ l. begun ++ l) (sym holds.hand))
      (TakesFront-append (begun ++ lines.input.hand) holds.pulled x y z so_far.took holds.took)

  took_past : (e : Exceeds lines.input now.input y z) → TakesFront ((begun ++ now.input.hand) ++ e.octet ∷ []) x z
  took_past e =
      subst (λ l. TakesFront l x z)
      (append_assoc begun lines.input.hand (e.pulled ++ e.octet ∷ []) ∙ ap (λ l. begun ++ l) (sym (append_assoc lines.input.hand e.pulled (e.octet ∷ [])) ∙ ap (λ l. l ++ e.octet ∷ []) (sym e.hand))
      ∙ sym (append_assoc begun now.input.hand (e.octet ∷ [])))
      (TakesFront-append (begun ++ lines.input.hand) (e.pulled ++ e.octet ∷ []) x y z so_far.took e.took)

  -- the front of a line that has no end is the front of no text
  none_open : HasNoFeed now.input.hand → NoneFollows (Begun text) now.input.hand
  none_open none = open_follows facts.lines (Begun text) now.input.hand (follows_line facts.lines text) none

  size : now.input.place ≡ lines.input.place → length (begun ++ now.input.hand) ≡ taken now.input
  size place = omega (arith, place, so_far.place, length-append begun now.input.hand)

  -- the text ended with octets that have no line feed
  pub torn : Holds lines.input now.input y z → HasNoFeed now.input.hand → IsEmptyWhereTold z → taken now.input ≤ INPUT_LIMIT
      → (r : Result Built Failed) → IsShown r w.octets (answer.Bad lines.input.place) b d → BuildRun x z a d r
  torn holds none ended reach r shown =
      judged_by facts.lines (Begun text) now.input.hand x z a d so_far.valid (none_open none) (took holds) (omega (arith, size holds.place, reach))
      r w.octets b (answer.Bad lines.input.place) so_far.built shown (ap answer.Bad so_far.place) (inl ended)

  -- the source failed
  pub fault : Holds lines.input now.input y z → IsOpen lines.longest now.input.hand → taken now.input ≤ INPUT_LIMIT
      → (r : Result Built Failed) → IsShown r w.octets (answer.ReadFault (taken now.input)) b d → BuildRun x z a d r
  fault holds begun_ reach r shown =
      broken_by facts.lines (Begun text) now.input.hand x z a d so_far.valid (none_open begun_.none) (took holds) (omega (arith, size holds.place, reach))
      r w.octets b (answer.ReadFault (taken now.input)) so_far.built shown (ap answer.ReadFault (sym (size holds.place)))

  -- the limit was passed
  pub passed_limit : Exceeds lines.input now.input y z → IsOpen lines.longest now.input.hand
      → (r : Result Built Failed) → IsShown r w.octets answer.Long b d → BuildRun x z a d r
  passed_limit e begun_ r shown =
      let few : length now.input.hand < LONGEST_LINE = omega (arith, begun_.fits, so_far.longest) in
      overran_by facts.lines (Begun text) now.input.hand x z a d so_far.valid (none_open begun_.none) e.octet (took_past e) (size e.place ∙ e.reached)
      (open_decides_not (Begun text) now.input.hand refl begun_.none few) r w.octets b answer.Long so_far.built shown refl

  -- a line that may not follow
  pub bad_line : (passes : reading.Passes lines now y z) → (IsEntryLine now.input.passed → ⊥) → (now.input.passed ≡ end_line records records 0 0 → ⊥) → taken now.input ≤ INPUT_LIMIT
      → (r : Result Built Failed) → IsShown r w.octets (answer.Bad lines.input.place) b d → BuildRun x z a d r
  bad_line passes no_entry no_end reach r shown =
      let rest = now.input.passed ++ now.input.hand in
      let none : NoneFollows (Begun text) rest = λ line later e follows.
      let same = one_line now.input.passed line now.input.hand later passes.line (follows_line facts.lines text line follows) e in
      elim follows [
        | inl entry ↦ no_entry (subst IsEntryLine (sym same.0) entry)
        | inr last ↦ no_end (same.0 ∙ last ∙ ap (λ n. end_line n n 0 0) (sym so_far.records_))
      ] in
      let took_ : TakesFront (begun ++ rest) x z =
      subst (λ l. TakesFront l x z) (append_assoc begun lines.input.hand passes.pulled ∙ ap (λ l. begun ++ l) passes.hand)
      (TakesFront-append (begun ++ lines.input.hand) passes.pulled x y z so_far.took passes.took) in
      judged_by facts.lines (Begun text) rest x z a d so_far.valid none took_
      (omega (arith, reach, passes.place, so_far.place, length-append begun rest, length-append now.input.passed now.input.hand))
      r w.octets b (answer.Bad lines.input.place) so_far.built shown (ap answer.Bad so_far.place) (inr (line_decides (Begun text) now.input.passed now.input.hand passes.line))

-- the sink failed before a line was pulled
pub waited : (facts : TextFacts) (lines : Reading) (w : Gathered) (records : ℕ) (x y a b d : Option (List ℕ)) (so_far : BuildsSoFar lines w records x y a b)
    → IsOpen lines.longest lines.input.hand → (r : Result Built Failed) → IsErr r → WroteFront w.octets b d → BuildRun x y a d r
waited facts lines w records x y a b d so_far begun_ r e cut =
    let begun = begun_text so_far.text in
    stopped_by facts.lines (Begun so_far.text) lines.input.hand x y a d so_far.valid
    (open_follows facts.lines (Begun so_far.text) lines.input.hand (follows_line facts.lines so_far.text) begun_.none) so_far.took
    (omega (arith, so_far.reach, so_far.place, length-append begun lines.input.hand)) r w.octets b e so_far.built cut
