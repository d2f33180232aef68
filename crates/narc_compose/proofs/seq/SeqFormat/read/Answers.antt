use Rattle.std.proofs.Common.{rules}
use Rattle.narc_compose.specs.Seq.{seq}
use Rattle.narc_compose.proofs.Sequences.{took_both, refused_second, reach}
use Rattle.narc_compose.proofs.seq.SeqFormat.read.Goals as goal

pub later_by-requires : goal.later_by-requires
unfolding seq
later_by-requires g c = reach _ c.in-Err.ensures c.place-at.ensures.value c.place-at.ensures.scan (g.met.B.Format.laws.within c.requires.sound.second_sound c.second.result)

pub returns-in-Ok : goal.returns-in-Ok
unfolding seq
returns-in-Ok g c = search (rules, took_both)

pub returns-in-Err : goal.returns-in-Err
unfolding seq
returns-in-Err g c = refused_second c.first.ensures c.second.ensures c.in_ok-a.ensures c.in-Err.ensures c.place-from.ensures.value c.place-at.ensures.value c.later_by.ensures
