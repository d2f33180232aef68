-- How the making of a capture ends, by the lines that were read and what was made of them.
use Rattle.std.proofs.Common.{◌≡◌, ℕ, ◌+◌, ◌≤◌, ◌⊎◌, refl, ap, List, [], ◌∷◌, ◌++◌, length, take, Option, Result, Ok, Err, sym, ◌∙◌, subst}
use Rattle.std.specs.Prelude.{IsErr, IsTrue, IsFalse}
use Rattle.std.proofs.Math.Seq.{take-append-add}
use Rattle.narc_world.specs.declared.error.Failed.{Failed}
use Rattle.narc_world.specs.declared.input_buffer.TheConstants.{INPUT_LIMIT}
use Rattle.narc_world.specs.Outside.{TakesFront, IsEmptyWhereTold, Appends}
use Rattle.narc_text.specs.Printing.{Passes}
use Rattle.narc_text.proofs.Printings.{Appends-append}
use Rattle.narc_build.specs.declared.ending.Built.{Built}
use Rattle.narc_build.specs.declared.ending.Built.TheVariants as answer
use Rattle.narc_build.specs.BuiltCapture.{built}
use Rattle.narc_build.specs.CaptureFront.{TextFront, IsTextFront, front_text, IsFrontOf, is_broken}
use Rattle.narc_build.specs.Building.{text_ending, WroteFront, IsShown, Takes, BuildRun, Judged, Broken, Overrun, Stopped, StoppedBehind}
use Rattle.narc_build.proofs.CaptureFronts.{LineFacts, NoneFollows, front_of_lines}

pushed_whole : (all page : List ℕ) (a b c : Option (List ℕ)) → Passes all page a b → Appends page b c → Appends all a c
pushed_whole all page a b c p q = subst (λ l. Appends l a c) (sym p.split) (Appends-append p.pushed page a b c p.appended q)

cut_whole : (all page : List ℕ) (a b c : Option (List ℕ)) → Passes all page a b → WroteFront page b c → WroteFront all a c
cut_whole all page a b c p q = (
  length p.pushed + q.0,
  subst (λ l. Appends l a c) (sym (ap (take (length p.pushed + q.0)) p.split ∙ take-append-add p.pushed page q.0))
      (Appends-append p.pushed (take q.0 page) a b c p.appended q.1),
)

-- octets that begin with these lines, and a rest that begins with none that may follow
module _ (facts : LineFacts) (f : TextFront) (rest : List ℕ) (x z a d : Option (List ℕ)) (valid : IsTextFront f) (none : NoneFollows f rest) where
  abbrev pub octets : List ℕ
  octets = front_text f ++ rest

  is_front : IsFrontOf octets f
  is_front = front_of_lines facts f rest valid none

  module _ (took : TakesFront octets x z) (fits : length octets ≤ INPUT_LIMIT) where
    takes : Takes x z a d octets f
    takes = record { took = took; fits = fits; front = is_front }

    -- the sink failed
    pub stopped_by : (r : Result Built Failed) (page : List ℕ) (b : Option (List ℕ)) → IsErr r → Passes (built f) page a b → WroteFront page b d → BuildRun x z a d r
    stopped_by (Ok o) page b e printed cut = cc
    stopped_by (Err e) page b is printed cut = Stopped e (record { octets = octets; front = f; takes = takes; wrote = cut_whole (built f) page a b d printed cut })

    -- the text ended, or the rest decides it
    pub judged_by : (r : Result Built Failed) (page : List ℕ) (b : Option (List ℕ)) (v : Built) → Passes (built f) page a b → IsShown r page v b d
        → v ≡ text_ending f octets → IsEmptyWhereTold z ⊎ IsTrue (is_broken f octets) → BuildRun x z a d r
    judged_by (Ok o) page b v printed shown same settled = Judged o (record {
      octets = octets;
      front = f;
      takes = takes;
      told = shown.0 ∙ same;
      settled = settled;
      wrote = pushed_whole (built f) page a b d printed shown.1;
    })
    judged_by (Err e) page b v printed shown same settled = stopped_by (Err e) page b refl printed shown

    -- the source failed
    pub broken_by : (r : Result Built Failed) (page : List ℕ) (b : Option (List ℕ)) (v : Built) → Passes (built f) page a b → IsShown r page v b d
        → v ≡ answer.ReadFault (length octets) → BuildRun x z a d r
    broken_by (Ok o) page b v printed shown same = Broken o (record {
      octets = octets;
      front = f;
      takes = takes;
      told = shown.0 ∙ same;
      wrote = pushed_whole (built f) page a b d printed shown.1;
    })
    broken_by (Err e) page b v printed shown same = stopped_by (Err e) page b refl printed shown

  -- the limit was passed
  pub overran_by : (octet : ℕ) → TakesFront (octets ++ octet ∷ []) x z → length octets ≡ INPUT_LIMIT → IsFalse (is_broken f octets)
      → (r : Result Built Failed) (page : List ℕ) (b : Option (List ℕ)) (v : Built) → Passes (built f) page a b → IsShown r page v b d
      → v ≡ answer.Long → BuildRun x z a d r
  overran_by octet took long open_ (Ok o) page b v printed shown same = Overrun o (record {
    octets = octets;
    front = f;
    takes = record { octet = octet; took = took; long = long; front = is_front };
    told = shown.0 ∙ same;
    undecided = open_;
    wrote = pushed_whole (built f) page a b d printed shown.1;
  })
  overran_by octet took long open_ (Err e) page b v printed shown same = StoppedBehind e (record {
    octets = octets;
    front = f;
    takes = record { octet = octet; took = took; long = long; front = is_front };
    wrote = cut_whole (built f) page a b d printed shown;
  })
