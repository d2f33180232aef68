use Rattle.std.proofs.Common.{◌≡◌, ℕ, List, length, ◌++◌}
use Rattle.std.specs.Io.KnownBytes.{Appends}
use Rattle.narc_world.proofs.std_sink.StdSinkSink.push.Given as goal

-- a front of the octets was written, and the rest is what is behind it
abbrev pub invariant-loop-rest : goal.invariant-loop-rest
invariant-loop-rest g l =
    ((front : List ℕ) × (l.bytes ≡ front ++ l.rest)
    × Appends (g.W.Write.contents l.initial.self.writer) (g.W.Write.contents l.self.writer) front)
    × (l.self.faults ≡ l.initial.self.faults)

abbrev pub decreases-loop-rest : goal.decreases-loop-rest
decreases-loop-rest g l = length l.rest
