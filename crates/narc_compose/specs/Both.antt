-- Two formats, one behind the other, that need no context.
use Rattle.narc_format.specs.Meaning.{Meaning}
use Rattle.narc_compose.specs.Seq.{seq}

abbrev pub both : {V W : Type 0} → Meaning (Unit {0}) V → Meaning (Unit {0}) W → Meaning (Unit {0}) (V × W)
both A B = seq (λ c. c) (λ c v. c) (λ c. Unit {0}) A B
