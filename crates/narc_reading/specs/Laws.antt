-- What holds of texts, by the definitions alone.
use Rattle.std.specs.Prelude.{◌≡◌}
use Rattle.narc_packet.specs.PacketView.{PacketView}
use Rattle.narc_packet.specs.WellFormed.{IsWellFormed}
use Rattle.narc_text.specs.PacketText.{text}

-- packets that have a frame and the same text are the same
abbrev pub EachTextHasOnePacket : Type 0
EachTextHasOnePacket = (p q : PacketView) → IsWellFormed p → IsWellFormed q → text p ≡ text q → p ≡ q
