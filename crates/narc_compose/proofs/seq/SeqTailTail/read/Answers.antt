use Rattle.narc_compose.specs.Seq.{seq_tail}
use Rattle.narc_compose.proofs.Sequences.{took_all, refused_second, reach}
use Rattle.narc_compose.proofs.seq.SeqTailTail.read.Goals as goal

pub later_by-requires : goal.later_by-requires
unfolding seq_tail
later_by-requires g c = reach _ c.in-Err.ensures c.place-behind.ensures.value c.place-behind.ensures.scan (g.met.B.Tail.laws.within c.requires.sound.second_sound c.second.result)

pub returns-in-Ok : goal.returns-in-Ok
unfolding seq_tail
returns-in-Ok g c = took_all c.first.ensures c.second.ensures c.in_ok-a.ensures c.in-Ok.ensures

pub returns-in-Err : goal.returns-in-Err
unfolding seq_tail
returns-in-Err g c = refused_second c.first.ensures c.second.ensures c.in_ok-a.ensures c.in-Err.ensures c.place-from.ensures.value c.place-behind.ensures.value c.later_by.ensures
