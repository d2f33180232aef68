-- The header of an Ethernet II frame (RFC 894).
use Rattle.std.specs.Prelude.{ℕ, ◌<◌, ◌^◌, List, ◌++◌}
use Rattle.narc_bits.specs.Octets.{big_endian}
use Rattle.narc_packet.specs.declared.field.TheConstants as field
use Rattle.narc_format.specs.Meaning.{Meaning}
use Rattle.narc_scalar.specs.Octets.{fixed_octets}
use Rattle.narc_scalar.specs.Word.{word}
use Rattle.narc_compose.specs.Named.{named}
use Rattle.narc_packet.specs.Ranges.{IsMac}
use Rattle.narc_compose.specs.Both.{both}

-- destination, source and type
abbrev pub Header : Type 0
Header = List ℕ × (List ℕ × ℕ)

abbrev pub IsHeaderInRange : Header → Type 0
IsHeaderInRange h = IsMac h.0 × (IsMac h.1.0 × (h.1.1 < 2 ^ 16))

abbrev pub header_octets : Header → List ℕ
header_octets h = h.0 ++ (h.1.0 ++ big_endian 2 h.1.1)

-- what `EthHead` means
abbrev pub eth_head : Meaning (Unit {0}) Header
eth_head =
    both (named field.ETHERNET_DESTINATION (fixed_octets 6))
    (both (named field.ETHERNET_SOURCE (fixed_octets 6))
    (named field.ETHERNET_TYPE (word 16)))
