-- The layout of the first 6 octets of an ARP packet, which say what the addresses are.
use Rattle.std.proofs.Common.{ℕ, ◌+◌, List, [], ◌∷◌, ◌++◌, lit<, lit≤, ◌||◌}
use Rattle.narc_bits.specs.Octets.{is_shorter, number_at, big_endian}
use Rattle.narc_packet.specs.declared.field.TheConstants as field
use Rattle.narc_format.specs.Rows.{Row, row, differs}
use Rattle.narc_packet.specs.Frame.{ipv4_type}
use Rattle.narc_eth.specs.ArpPacket.{arp_kind}
use Rattle.narc_layout.proofs.Layouts.{IsLayout}
use Rattle.narc_layout.proofs.BothLayout.{both_layout}
use Rattle.narc_layout.proofs.ScalarLayouts.{constant_layout}

abbrev pub kind_rows : (start skip : ℕ) → List ℕ → List Row
kind_rows start skip x =
    row field.ARP_HARDWARE (start + skip) (is_shorter x (skip + 2) || differs (number_at x skip 2) 1)
    ∷ row field.ARP_PROTOCOL (start + (skip + 2)) (is_shorter x (skip + 2 + 2) || differs (number_at x (skip + 2) 2) ipv4_type)
    ∷ row field.ARP_HARDWARE_SIZE (start + (skip + 4)) (is_shorter x (skip + 4 + 1) || differs (number_at x (skip + 4) 1) 6)
    ∷ row field.ARP_PROTOCOL_SIZE (start + (skip + 4 + 1)) (is_shorter x (skip + 4 + 1 + 1) || differs (number_at x (skip + 4 + 1) 1) 4)
    ∷ []

abbrev pub kind_octets : (Unit {0} × Unit {0}) × (Unit {0} × Unit {0}) → List ℕ
kind_octets v = big_endian 2 1 ++ big_endian 2 ipv4_type ++ (big_endian 1 6 ++ big_endian 1 4)

abbrev pub IsAny : (Unit {0} × Unit {0}) × (Unit {0} × Unit {0}) → Type 0
IsAny v = (Unit {0} × Unit {0}) × (Unit {0} × Unit {0})

pub kind_layout : IsLayout arp_kind IsAny kind_octets 6 kind_rows
kind_layout =
    both_layout
    (both_layout (constant_layout 2 1 (lit≤ tt) (lit≤ tt) (lit< tt) field.ARP_HARDWARE (lit≤ tt) (lit≤ tt)) (constant_layout 2 ipv4_type (lit≤ tt) (lit≤ tt) (lit< tt) field.ARP_PROTOCOL (lit≤ tt) (lit≤ tt)))
    (both_layout (constant_layout 1 6 (lit≤ tt) (lit≤ tt) (lit< tt) field.ARP_HARDWARE_SIZE (lit≤ tt) (lit≤ tt)) (constant_layout 1 4 (lit≤ tt) (lit≤ tt) (lit< tt) field.ARP_PROTOCOL_SIZE (lit≤ tt) (lit≤ tt)))
