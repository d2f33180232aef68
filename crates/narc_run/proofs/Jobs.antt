-- The job that is asked for, and the octets that were taken.
use Rattle.std.proofs.Common.{◌≡◌, ℕ, ◌-◌, List, [], ◌++◌, length, take, Option, Some, sym, ap, ◌∙◌, subst, arith, length-append}
use Rattle.std.proofs.lemmas.List.{take_at}
use Rattle.narc_world.specs.Outside.{Appends}
use Rattle.narc_text.proofs.Printings.{Appends-nil}
use Rattle.narc_run.specs.declared.job.Job.{Job as JobOf}
use Rattle.narc_run.specs.JobView.{view_of, job_view}
use Rattle.narc_run.specs.Run.{taken}

-- the job that is asked for, by the program's
pub asked_as : (p : Option JobOf) (j k : JobOf) → p ≡ Some j → j ≡ k → Some (view_of k) ≡ job_view p
asked_as p j k some same = sym (ap job_view some ∙ ap (λ i. Some (view_of i)) same)

-- the octets that were taken, by what is left
pub taken_is : (input octets rest : List ℕ) → input ≡ octets ++ rest → taken input rest ≡ octets
taken_is input octets rest e =
    let size : length input - length rest ≡ length octets = omega (arith, ap length e, length-append octets rest) in
    ap (take (length input - length rest)) e ∙ take_at octets rest (length input - length rest) (sym size)

-- nothing was written
pub Appends-same : (before after : Option (List ℕ)) → after ≡ before → Appends [] before after
Appends-same before after e = subst (λ h. Appends [] before h) (sym e) (Appends-nil before)
