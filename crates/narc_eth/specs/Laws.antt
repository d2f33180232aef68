-- What an ARP packet promises, as a term made of the laws of its rules.
use Rattle.std.specs.Prelude.{◌≡◌}
use Rattle.narc_packet.specs.declared.field.TheConstants as field
use Rattle.narc_format.specs.Laws.{Laws}
use Rattle.narc_scalar.specs.Constant.{constant}
use Rattle.narc_scalar.specs.ConstantLaws.{constant_laws}
use Rattle.narc_scalar.specs.Octets.{fixed_octets}
use Rattle.narc_scalar.specs.OctetsLaws.{fixed_octets_laws}
use Rattle.narc_scalar.specs.Word.{word}
use Rattle.narc_scalar.specs.WordLaws.{word_laws}
use Rattle.narc_compose.specs.Both.{both}
use Rattle.narc_compose.specs.BothLaws.{both_laws}
use Rattle.narc_compose.specs.Named.{named}
use Rattle.narc_compose.specs.NamedLaws.{named_laws}
use Rattle.narc_compose.specs.StripLaws.{stripped_laws}
use Rattle.narc_packet.specs.Frame.{ipv4_type}
use Rattle.narc_eth.specs.ArpPacket.{arp_of, raw_arp, arp_kind, arp_addresses, arp_format}

arp_kind_laws : Laws arp_kind
arp_kind_laws =
    both_laws
    (both (named field.ARP_HARDWARE (constant 16 1)) (named field.ARP_PROTOCOL (constant 16 ipv4_type)))
    (both (named field.ARP_HARDWARE_SIZE (constant 8 6)) (named field.ARP_PROTOCOL_SIZE (constant 8 4)))
    (both_laws (named field.ARP_HARDWARE (constant 16 1)) (named field.ARP_PROTOCOL (constant 16 ipv4_type))
    (named_laws field.ARP_HARDWARE (constant 16 1) (constant_laws 16 1)) (named_laws field.ARP_PROTOCOL (constant 16 ipv4_type) (constant_laws 16 ipv4_type)))
    (both_laws (named field.ARP_HARDWARE_SIZE (constant 8 6)) (named field.ARP_PROTOCOL_SIZE (constant 8 4))
    (named_laws field.ARP_HARDWARE_SIZE (constant 8 6) (constant_laws 8 6)) (named_laws field.ARP_PROTOCOL_SIZE (constant 8 4) (constant_laws 8 4)))

arp_addresses_laws : Laws arp_addresses
arp_addresses_laws =
    both_laws
    (both (named field.ARP_SENDER_HARDWARE (fixed_octets 6)) (named field.ARP_SENDER_PROTOCOL (fixed_octets 4)))
    (both (named field.ARP_TARGET_HARDWARE (fixed_octets 6)) (named field.ARP_TARGET_PROTOCOL (fixed_octets 4)))
    (both_laws (named field.ARP_SENDER_HARDWARE (fixed_octets 6)) (named field.ARP_SENDER_PROTOCOL (fixed_octets 4))
    (named_laws field.ARP_SENDER_HARDWARE (fixed_octets 6) (fixed_octets_laws 6)) (named_laws field.ARP_SENDER_PROTOCOL (fixed_octets 4) (fixed_octets_laws 4)))
    (both_laws (named field.ARP_TARGET_HARDWARE (fixed_octets 6)) (named field.ARP_TARGET_PROTOCOL (fixed_octets 4))
    (named_laws field.ARP_TARGET_HARDWARE (fixed_octets 6) (fixed_octets_laws 6)) (named_laws field.ARP_TARGET_PROTOCOL (fixed_octets 4) (fixed_octets_laws 4)))

pub arp_laws : Laws arp_format
arp_laws =
    stripped_laws arp_of (λ c a. raw_arp a) (λ a b. a ≡ b)
    (both arp_kind (both (named field.ARP_OPERATION (word 16)) arp_addresses))
    (both_laws arp_kind (both (named field.ARP_OPERATION (word 16)) arp_addresses) arp_kind_laws
    (both_laws (named field.ARP_OPERATION (word 16)) arp_addresses (named_laws field.ARP_OPERATION (word 16) (word_laws 16)) arp_addresses_laws))
