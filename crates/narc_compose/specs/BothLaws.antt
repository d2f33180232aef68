-- What two formats that need no context promise.
use Rattle.narc_format.specs.Laws.{Laws}
use Rattle.narc_format.specs.Meaning.{Meaning}
use Rattle.narc_compose.specs.Both.{both}
use Rattle.narc_compose.specs.SeqLaws.{seq_laws}

pub both_laws : {V W : Type 0} (A : Meaning (Unit {0}) V) (B : Meaning (Unit {0}) W) → Laws A → Laws B → Laws (both A B)
both_laws A B L M = seq_laws (λ c. c) (λ c v. c) (λ c. Unit {0}) A B L M
