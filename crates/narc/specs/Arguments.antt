-- How the program ends where its arguments cannot be had.
use Rattle.std.specs.Prelude.{ℕ}
use Rattle.std.specs.declared.io.ErrorKind.{ErrorKind}
use Rattle.std.specs.declared.io.ErrorKind.TheVariants.{OutOfMemory}

-- 4 for want of memory, and 8 for every other cause
abbrev pub arguments_status : ErrorKind → ℕ
arguments_status OutOfMemory = 4
arguments_status _ = 8
