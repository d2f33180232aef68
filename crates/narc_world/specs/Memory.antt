-- A source and a sink in memory: what each call gives and takes.
use Rattle.std.specs.Prelude.{ℕ, ◌+◌, ◌-◌, ◌/◌, min, max, nat_eq, nat_le, Bool, not, ◌&&◌, List, length, slice_index_or, if◌then◌else◌}
use Rattle.std.specs.List.{list_any}
use Rattle.narc_world.specs.Outside.{one_more}
use Rattle.narc_world.specs.declared.source.Pulled.{Pulled}
use Rattle.narc_world.specs.declared.source.Pulled.TheVariants.{Got, End, Failed}

-- a source in memory, after a number of calls
pub record SourceView : Type 0 where
  pub left : List ℕ
  pub pieces : List ℕ
  pub failing : List ℕ
  pub calls : ℕ
  pub faults : ℕ

-- a sink in memory, after a number of calls
pub record SinkView : Type 0 where
  pub held : List ℕ
  pub capacity : ℕ
  pub failing : List ℕ
  pub calls : ℕ
  pub faults : ℕ

-- whether the call with this number is one of those that fail
abbrev pub is_failing : (failing : List ℕ) → (call : ℕ) → Bool
is_failing failing call = list_any (λ number. nat_eq number call) failing

-- the most octets of a call after so many: its piece, where 0 counts as 1, and behind the pieces the whole slice
abbrev pub piece : (pieces : List ℕ) → (calls slice : ℕ) → ℕ
piece pieces calls slice = min slice (max 1 (slice_index_or pieces calls slice))

-- what the next call answers for a slice of so many octets
abbrev pub pull_answer : SourceView → (slice : ℕ) → Pulled
pull_answer s slice =
    if is_failing s.failing (one_more s.calls) then Failed
    else if nat_eq (length s.left) 0 then End
    else Got (min (length s.left) (piece s.pieces s.calls slice))

-- whether the next call takes all of so many octets
abbrev pub takes_all : SinkView → (octets : ℕ) → Bool
takes_all s octets = not (is_failing s.failing (one_more s.calls)) && nat_le (length s.held + octets) s.capacity

-- how many of so many octets the next call takes: what fits, of all or of half of them
abbrev pub accepted : SinkView → (octets : ℕ) → ℕ
accepted s octets =
    min (s.capacity - length s.held) (if is_failing s.failing (one_more s.calls) then octets / 2 else octets)
