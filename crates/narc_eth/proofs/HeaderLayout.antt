-- The layout of the header of an Ethernet frame.
use Rattle.std.proofs.Common.{ℕ, ◌+◌, List, [], ◌∷◌, lit≤}
use Rattle.narc_bits.specs.Octets.{is_shorter}
use Rattle.narc_format.specs.Rows.{Row, row}
use Rattle.narc_packet.specs.declared.field.TheConstants as field
use Rattle.narc_eth.specs.EthernetHeader.{eth_head, IsHeaderInRange, header_octets}
use Rattle.narc_layout.proofs.Layouts.{IsLayout}
use Rattle.narc_layout.proofs.BothLayout.{both_layout}
use Rattle.narc_layout.proofs.ScalarLayouts.{octets_layout, word_layout}

-- the rows of the header, behind `skip` octets of x
abbrev pub header_rows : (start skip : ℕ) → List ℕ → List Row
header_rows start skip x =
    row field.ETHERNET_DESTINATION (start + skip) (is_shorter x (skip + 6))
    ∷ row field.ETHERNET_SOURCE (start + (skip + 6)) (is_shorter x (skip + 6 + 6))
    ∷ row field.ETHERNET_TYPE (start + (skip + 6 + 6)) (is_shorter x (skip + 6 + 6 + 2))
    ∷ []

pub eth_head_layout : IsLayout eth_head IsHeaderInRange header_octets 14 header_rows
eth_head_layout =
    both_layout (octets_layout 6 (lit≤ tt) field.ETHERNET_DESTINATION (lit≤ tt) (lit≤ tt))
    (both_layout (octets_layout 6 (lit≤ tt) field.ETHERNET_SOURCE (lit≤ tt) (lit≤ tt))
    (word_layout 2 (lit≤ tt) (lit≤ tt) field.ETHERNET_TYPE (lit≤ tt) (lit≤ tt)))
