-- An ARP packet for Ethernet and IPv4 (RFC 826).
use Rattle.std.specs.Prelude.{◌≡◌, ℕ, ◌%◌, List}
use Rattle.narc_packet.specs.declared.field.TheConstants as field
use Rattle.narc_format.specs.Meaning.{Meaning}
use Rattle.narc_scalar.specs.Constant.{constant}
use Rattle.narc_scalar.specs.Octets.{fixed_octets}
use Rattle.narc_scalar.specs.Word.{word}
use Rattle.narc_compose.specs.Named.{named}
use Rattle.narc_compose.specs.Strip.{stripped}
use Rattle.narc_packet.specs.declared.packet.Arp.{Arp}
use Rattle.narc_packet.specs.Frame.{ipv4_type}
use Rattle.narc_compose.specs.Both.{both}

-- nothing of the constants, the operation, and a hardware and a protocol address of sender and target
abbrev pub RawArp : Type 0
RawArp = ((Unit {0} × Unit {0}) × (Unit {0} × Unit {0})) × (ℕ × ((List ℕ × List ℕ) × (List ℕ × List ℕ)))

-- the operation is a number of 16 bits
abbrev pub arp_of : RawArp → Arp
arp_of raw = record {
  op = raw.1.0 % 65536;
  sender_mac = raw.1.1.0.0;
  sender_ip = raw.1.1.0.1;
  target_mac = raw.1.1.1.0;
  target_ip = raw.1.1.1.1;
}

abbrev pub raw_arp : Arp → RawArp
raw_arp a = (((tt, tt), (tt, tt)), (a.op, ((a.sender_mac, a.sender_ip), (a.target_mac, a.target_ip))))

-- what `Kind` means
abbrev pub arp_kind : Meaning (Unit {0}) ((Unit {0} × Unit {0}) × (Unit {0} × Unit {0}))
arp_kind =
    both
    (both (named field.ARP_HARDWARE (constant 16 1)) (named field.ARP_PROTOCOL (constant 16 ipv4_type)))
    (both (named field.ARP_HARDWARE_SIZE (constant 8 6)) (named field.ARP_PROTOCOL_SIZE (constant 8 4)))

-- what `Addresses` means
abbrev pub arp_addresses : Meaning (Unit {0}) ((List ℕ × List ℕ) × (List ℕ × List ℕ))
arp_addresses =
    both
    (both (named field.ARP_SENDER_HARDWARE (fixed_octets 6)) (named field.ARP_SENDER_PROTOCOL (fixed_octets 4)))
    (both (named field.ARP_TARGET_HARDWARE (fixed_octets 6)) (named field.ARP_TARGET_PROTOCOL (fixed_octets 4)))

-- what `ArpFormat` means
abbrev pub arp_format : Meaning (Unit {0}) Arp
arp_format =
    stripped arp_of (λ c a. raw_arp a) (λ a b. a ≡ b)
    (both arp_kind (both (named field.ARP_OPERATION (word 16)) arp_addresses))
