-- What a format or a tail answers to octets: the one value that they stand for, or the one fault.
use Rattle.std.specs.Prelude.{◌≤◌, Bool, List, length, take, Result, MatchResult}
use Rattle.narc_format.specs.declared.answer.Front.{Front}
use Rattle.narc_format.specs.declared.fault.Fault.{Fault}
use Rattle.narc_format.specs.Meaning.{Meaning}
use Rattle.narc_format.specs.Exactness.{IsReadAs, IsRefusedAs, IsAllReadAs, IsAllRefusedAs}

module _ {C V : Type 0} (m : Meaning C V) (c : C) (b : List Bool) where
  -- so many bits at the front stand for the value, and no other front does
  pub record IsFrontReadAs (front : Front V) : Type 0 where
    pub within : front.bits ≤ length b
    pub read : IsReadAs m c b (take front.bits b) front.value

  -- the answer of a format
  abbrev pub IsFrontAnswer : Result (Front V) Fault → Type 0
  IsFrontAnswer r = MatchResult r IsFrontReadAs (IsRefusedAs m c b)

  -- the answer of a tail, to all the bits
  abbrev pub IsAllAnswer : Result V Fault → Type 0
  IsAllAnswer r = MatchResult r (IsAllReadAs m c b) (IsAllRefusedAs m c b)
