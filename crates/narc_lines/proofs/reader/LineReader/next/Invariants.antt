use Rattle.std.proofs.Common.{◌≡◌, ◌-◌, ◌≤◌, length}
use Rattle.narc_world.specs.Intake.{Holds}
use Rattle.narc_lines.specs.Reading.{IsReady}
use Rattle.narc_lines.proofs.reader.LineReader.next.Given as goal

abbrev pub decreases-pulls : goal.decreases-pulls
decreases-pulls g l = l.self.longest - length l.self.input.hand

abbrev pub invariant-pulls : goal.invariant-pulls
invariant-pulls g l = record {
  holds : Holds l.fn.self.input l.self.input (g.S.Source.left l.fn.source) (g.S.Source.left l.source);
  still : IsReady l.fn.self → (l.source ≡ l.fn.source) × (l.self.input.hand ≡ l.fn.self.input.hand);
  longest : l.self.longest ≡ l.fn.self.longest;
  later : g.S.Source.faults l.fn.source ≤ g.S.Source.faults l.source;
}
