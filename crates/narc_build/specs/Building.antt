-- How the making of a capture ends for a source and a sink.
use Rattle.std.specs.Prelude.{◌≡◌, ℕ, ◌≤◌, ◌⊎◌, List, [], ◌∷◌, ◌++◌, length, take, IsTrue, IsFalse, Option, Result, Ok, Err, if◌then◌else◌}
use Rattle.narc_world.specs.declared.error.Failed.{Failed}
use Rattle.narc_world.specs.declared.input_buffer.TheConstants.{INPUT_LIMIT}
use Rattle.narc_world.specs.Outside.{Appends, IsEmptyWhereTold, TakesFront}
use Rattle.narc_build.specs.declared.ending.Built.{Built}
use Rattle.narc_build.specs.declared.ending.Built.TheVariants.{Done, Bad, ReadFault, Long}
use Rattle.narc_build.specs.BuiltCapture.{built}
use Rattle.narc_build.specs.CaptureFront.{TextFront, IsFrontOf, front_text, is_all, is_broken}

-- these octets are the whole text of a capture, or the first line that does not fit stands at this place
abbrev pub text_ending : TextFront → List ℕ → Built
text_ending f octets = if is_all f octets then Done else Bad (length (front_text f))

-- a front of these octets was written
abbrev pub WroteFront : List ℕ → (held_before held_after : Option (List ℕ)) → Type 0
WroteFront octets before after = (n : ℕ) × Appends (take n octets) before after

-- these octets were pushed and this is the answer, or the sink failed and a front of them was pushed
abbrev pub IsShown : Result Built Failed → (octets : List ℕ) → Built → (held_before held_after : Option (List ℕ)) → Type 0
IsShown (Ok answer) octets ending before after = (answer ≡ ending) × Appends octets before after
IsShown (Err e) octets ending before after = WroteFront octets before after

-- a fault of the source was counted, where one is answered
abbrev pub EndingFault : Built → Type 0 → Type 0
EndingFault Done P = Unit {0}
EndingFault (Bad at) P = Unit {0}
EndingFault (ReadFault at) P = P
EndingFault Long P = Unit {0}

abbrev pub SourceFault : Result Built Failed → Type 0 → Type 0
SourceFault (Ok ending) P = EndingFault ending P
SourceFault (Err e) P = Unit {0}

module _ (left_before left_after held_before held_after : Option (List ℕ)) where
  -- octets were taken that begin with these lines
  pub record Takes (octets : List ℕ) (f : TextFront) : Type 0 where
    pub took : TakesFront octets left_before left_after
    pub fits : length octets ≤ INPUT_LIMIT
    pub front : IsFrontOf octets f

  -- as many octets were taken as a text may have, and one more
  pub record Overtakes (octets : List ℕ) (f : TextFront) : Type 0 where
    pub octet : ℕ
    pub took : TakesFront (octets ++ octet ∷ []) left_before left_after
    pub long : length octets ≡ INPUT_LIMIT
    pub front : IsFrontOf octets f

  -- the text ended, or its octets decide; what is made of its first lines was written
  pub record Judges (ending : Built) : Type 0 where
    pub octets : List ℕ
    pub front : TextFront
    pub takes : Takes octets front
    pub told : ending ≡ text_ending front octets
    pub settled : IsEmptyWhereTold left_after ⊎ IsTrue (is_broken front octets)
    pub wrote : Appends (built front) held_before held_after

  -- the source failed, and what is made of the lines that came was written
  pub record Breaks (ending : Built) : Type 0 where
    pub octets : List ℕ
    pub front : TextFront
    pub takes : Takes octets front
    pub told : ending ≡ ReadFault (length octets)
    pub wrote : Appends (built front) held_before held_after

  -- the limit was passed, and what is made of the lines within it was written
  pub record Overruns (ending : Built) : Type 0 where
    pub octets : List ℕ
    pub front : TextFront
    pub takes : Overtakes octets front
    pub told : ending ≡ Long
    pub undecided : IsFalse (is_broken front octets)
    pub wrote : Appends (built front) held_before held_after

  -- the sink failed: a front was written of what is made of the lines that came
  pub record Stops : Type 0 where
    pub octets : List ℕ
    pub front : TextFront
    pub takes : Takes octets front
    pub wrote : WroteFront (built front) held_before held_after

  -- the sink failed behind the limit
  pub record StopsBehind : Type 0 where
    pub octets : List ℕ
    pub front : TextFront
    pub takes : Overtakes octets front
    pub wrote : WroteFront (built front) held_before held_after

  pub data BuildRun : Result Built Failed → Type 0 where
    Judged : (ending : Built) → Judges ending → BuildRun (Ok ending)
    Broken : (ending : Built) → Breaks ending → BuildRun (Ok ending)
    Overrun : (ending : Built) → Overruns ending → BuildRun (Ok ending)
    Stopped : (e : Failed) → Stops → BuildRun (Err e)
    StoppedBehind : (e : Failed) → StopsBehind → BuildRun (Err e)
