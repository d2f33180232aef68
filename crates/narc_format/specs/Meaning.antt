-- What a format means, in a context and for a value. None of it is code that runs.
use Rattle.std.specs.Prelude.{ℕ, Bool, List}
use Rattle.narc_format.specs.declared.fault.Fault.{Fault}

pub record Meaning (C V : Type 0) : Type 1 where
  -- the bits stand for the value
  pub stands : C → V → List Bool → Type 0
  -- no front of the bits stands for a value, and this is the first reason
  pub refuses : C → List Bool → Fault → Type 0
  -- the value can be written
  pub admits : C → V → Type 0
  -- the bits that are written, out of all that stand for the value
  pub spelling : C → V → List Bool
  -- the values are the same, wherever their slices lie
  pub alike : V → V → Type 0
  -- each number of the context lies in the range of its type
  pub valid : C → Type 0
  -- the conditions of the rules that the type is built from hold
  pub sound : Type 0
  -- how often one octet is looked at beside its own reading, at most
  pub depth : ℕ
  -- each spelling is a whole number of octets
  pub whole : Bool
  -- reading and writing begin at an octet
  pub aligned : Bool
