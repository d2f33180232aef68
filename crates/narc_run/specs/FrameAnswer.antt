-- What the job `frame` answers for a whole frame.
use Rattle.std.specs.Prelude.{◌≡◌, ℕ, List, Option}
use Rattle.narc_world.specs.Outside.{Appends}
use Rattle.narc_run.specs.Job.{Frame}
use Rattle.narc_run.specs.Findings.{Found}
use Rattle.narc_run.specs.Output.{output}
use Rattle.narc_run.specs.Verdict.{verdict, verdict_of}
use Rattle.narc_run.specs.Run.{WroteFront}

-- the verdict on the octets, with the whole output
abbrev pub IsAnswered : (octets : List ℕ) → (status at : ℕ) → (held_before held_after : Option (List ℕ)) → Type 0
IsAnswered octets status at before after =
    Found Frame octets (λ found. (verdict Frame octets found ≡ verdict_of status at) × Appends (output Frame octets found) before after)

-- a front of the output
abbrev pub IsCut : (octets : List ℕ) → (held_before held_after : Option (List ℕ)) → Type 0
IsCut octets before after = Found Frame octets (λ found. WroteFront (output Frame octets found) before after)
