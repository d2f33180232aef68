-- Faults: the number of a field, and a place in bits.
use Rattle.std.specs.Prelude.{ℕ, ◌+◌, nat_eq, if◌then◌else◌}
use Rattle.narc_format.specs.declared.fault.Fault.{Fault}

abbrev pub fault_at : (field at : ℕ) → Fault
fault_at field at = record { field = field; at = at }

-- of no field in particular, at the beginning
abbrev pub unnamed_fault : Fault
unnamed_fault = fault_at 0 0

-- the fault of a part, counted from n bits before the part
abbrev pub later_by : ℕ → Fault → Fault
later_by n f = fault_at f.field (f.at + n)

-- a fault of no field in particular gets this field
abbrev pub named_by : (field : ℕ) → Fault → Fault
named_by field f = fault_at (if nat_eq f.field 0 then field else f.field) f.at
