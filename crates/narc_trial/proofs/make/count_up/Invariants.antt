use Rattle.std.proofs.Common.{◌≡◌, take}
use Rattle.narc_trial.specs.Made.{counting}
use Rattle.narc_trial.proofs.make.count_up.Given as goal

-- so many octets count up
abbrev pub invariant-loop-j : goal.invariant-loop-j
invariant-loop-j l = take l.j l.octets ≡ counting l.j l.number
