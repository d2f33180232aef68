-- The names of the fields of a frame, by number, in the order in which the fields are judged.
use Rattle.std.specs.Prelude.{ℕ, List, [], ◌∷◌, codes, unwrap_or, slice_get}

-- from number 0 on
abbrev pub field_names : List (List ℕ)
field_names =
    codes "unnamed"
    ∷ codes "ethernet.destination"
    ∷ codes "ethernet.source"
    ∷ codes "ethernet.type"
    ∷ codes "arp.hardware"
    ∷ codes "arp.protocol"
    ∷ codes "arp.hardware_size"
    ∷ codes "arp.protocol_size"
    ∷ codes "arp.operation"
    ∷ codes "arp.sender_hardware"
    ∷ codes "arp.sender_protocol"
    ∷ codes "arp.target_hardware"
    ∷ codes "arp.target_protocol"
    ∷ codes "ipv4.version"
    ∷ codes "ipv4.header_length"
    ∷ codes "ipv4.tos"
    ∷ codes "ipv4.total_length"
    ∷ codes "ipv4.flags"
    ∷ codes "ipv4.options"
    ∷ codes "ipv4.checksum"
    ∷ codes "udp.source"
    ∷ codes "udp.destination"
    ∷ codes "udp.length"
    ∷ codes "udp.checksum"
    ∷ codes "tcp.source"
    ∷ codes "tcp.destination"
    ∷ codes "tcp.sequence"
    ∷ codes "tcp.acknowledgment"
    ∷ codes "tcp.offset"
    ∷ codes "tcp.options"
    ∷ codes "tcp.checksum"
    ∷ []

abbrev pub field_name : ℕ → List ℕ
field_name number = unwrap_or (slice_get field_names number) (codes "unnamed")
