-- What contracts see of an answer.
use Rattle.std.specs.Prelude.{Result, Ok, Err}
use Rattle.narc_packet.specs.declared.packet.Packet.{Packet}
use Rattle.narc_packet.specs.PacketView.{view}
use Rattle.narc_packet.specs.Answer.{Answer}
use Rattle.narc_stack.specs.declared.refusal.Refusal.{Refusal}

abbrev pub answer_view : Result Packet Refusal → Answer
answer_view (Ok p) = Ok (view p)
answer_view (Err r) = Err (record { field = r.field; at = r.at })
