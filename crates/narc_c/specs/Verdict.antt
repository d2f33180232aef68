-- What a call answers for a frame: 0 for a packet, and else the number of the refused field and its place.
use Rattle.std.specs.Prelude.{◌≡◌, ℕ, List, Ok, Err}
use Rattle.narc_packet.specs.PacketView.{PacketView}
use Rattle.narc_packet.specs.Frame.{IsFrame}
use Rattle.narc_packet.specs.Answer.{Answer, IsOnlyAnswer}

-- the octets are a frame of a packet
abbrev pub HasPacket : List ℕ → Type 0
HasPacket octets = (p : PacketView) × IsFrame p octets

abbrev pub code_of : Answer → ℕ
code_of (Ok p) = 0
code_of (Err r) = r.field

abbrev pub place_of : Answer → ℕ
place_of (Ok p) = 0
place_of (Err r) = r.at

-- the code and the place of the only right answer for these octets
pub record IsVerdict (octets : List ℕ) (told place : ℕ) : Type 0 where
  pub answer : Answer
  pub only : IsOnlyAnswer octets answer
  pub code : told ≡ code_of answer
  pub at : place ≡ place_of answer
