-- The layout of an ARP packet.
use Rattle.std.proofs.Common.{◌≡◌, ℕ, ◌+◌, ◌^◌, ◌<◌, List, [], ◌∷◌, ◌++◌, sym, ap, ◌∙◌, subst, append_assoc, lit≤}
use Rattle.std.proofs.Math.Nat.{mod-eq_of_lt}
use Rattle.narc_bits.specs.Octets.{is_shorter, big_endian}
use Rattle.narc_packet.specs.declared.field.TheConstants as field
use Rattle.narc_scalar.specs.Word.{word}
use Rattle.narc_compose.specs.Named.{named}
use Rattle.narc_packet.specs.declared.packet.Arp.{Arp}
use Rattle.narc_packet.specs.Frame.{arp_octets}
use Rattle.narc_packet.specs.Ranges.{IsMac, IsIp, IsArpInRange}
use Rattle.narc_format.specs.Rows.{Row, row}
use Rattle.narc_compose.specs.Both.{both}
use Rattle.narc_eth.proofs.ArpKind.{kind_rows, kind_octets, IsAny, kind_layout}
use Rattle.narc_eth.specs.ArpPacket.{RawArp, arp_of, raw_arp, arp_kind, arp_addresses, arp_format}
use Rattle.narc_layout.proofs.Layouts.{IsLayout}
use Rattle.narc_layout.proofs.BothLayout.{both_layout}
use Rattle.narc_layout.proofs.ScalarLayouts.{octets_layout, word_layout}
use Rattle.narc_layout.proofs.Views.{seen_layout}

abbrev pub address_rows : (start skip : ℕ) → List ℕ → List Row
address_rows start skip x =
    row field.ARP_SENDER_HARDWARE (start + skip) (is_shorter x (skip + 6))
    ∷ row field.ARP_SENDER_PROTOCOL (start + (skip + 6)) (is_shorter x (skip + 6 + 4))
    ∷ row field.ARP_TARGET_HARDWARE (start + (skip + 10)) (is_shorter x (skip + 10 + 6))
    ∷ row field.ARP_TARGET_PROTOCOL (start + (skip + 10 + 6)) (is_shorter x (skip + 10 + 6 + 4))
    ∷ []

abbrev pub AreAddresses : (List ℕ × List ℕ) × (List ℕ × List ℕ) → Type 0
AreAddresses v = (IsMac v.0.0 × IsIp v.0.1) × (IsMac v.1.0 × IsIp v.1.1)

abbrev pub address_octets : (List ℕ × List ℕ) × (List ℕ × List ℕ) → List ℕ
address_octets v = v.0.0 ++ v.0.1 ++ (v.1.0 ++ v.1.1)

pub addresses_layout : IsLayout arp_addresses AreAddresses address_octets 20 address_rows
addresses_layout =
    both_layout
    (both_layout (octets_layout 6 (lit≤ tt) field.ARP_SENDER_HARDWARE (lit≤ tt) (lit≤ tt)) (octets_layout 4 (lit≤ tt) field.ARP_SENDER_PROTOCOL (lit≤ tt) (lit≤ tt)))
    (both_layout (octets_layout 6 (lit≤ tt) field.ARP_TARGET_HARDWARE (lit≤ tt) (lit≤ tt)) (octets_layout 4 (lit≤ tt) field.ARP_TARGET_PROTOCOL (lit≤ tt) (lit≤ tt)))

-- the rows of an ARP packet, behind `skip` octets of x
abbrev pub packet_rows : (start skip : ℕ) → List ℕ → List Row
packet_rows start skip x =
    kind_rows start skip x
    ++ (row field.ARP_OPERATION (start + (skip + 6)) (is_shorter x (skip + 6 + 2)) ∷ address_rows start (skip + 6 + 2) x)

abbrev IsRawInRange : RawArp → Type 0
IsRawInRange w = IsAny w.0 × ((w.1.0 < 2 ^ 16) × AreAddresses w.1.1)

abbrev raw_octets : RawArp → List ℕ
raw_octets w = kind_octets w.0 ++ (big_endian 2 w.1.0 ++ address_octets w.1.1)

raw_layout : IsLayout (both arp_kind (both (named field.ARP_OPERATION (word 16)) arp_addresses)) IsRawInRange raw_octets 28 packet_rows
raw_layout = both_layout kind_layout (both_layout (word_layout 2 (lit≤ tt) (lit≤ tt) field.ARP_OPERATION (lit≤ tt) (lit≤ tt)) addresses_layout)

seen : (w : RawArp) → IsRawInRange w → IsArpInRange (arp_of w)
seen w h = record {
  op = subst (λ n. n < 2 ^ 16) (sym (mod-eq_of_lt h.1.0)) h.1.0;
  sender_mac = h.1.1.0.0;
  sender_ip = h.1.1.0.1;
  target_mac = h.1.1.1.0;
  target_ip = h.1.1.1.1;
}

chosen : (a : Arp) → IsArpInRange a → IsRawInRange (raw_arp a)
chosen a h = (((tt, tt), (tt, tt)), (h.op, ((h.sender_mac, h.sender_ip), (h.target_mac, h.target_ip))))

with_operation : Arp → ℕ → Arp
with_operation a n = record a { op = n }

back : (a : Arp) → IsArpInRange a → arp_of (raw_arp a) ≡ a
unfolding with_operation
back a h = ap (with_operation a) (mod-eq_of_lt h.op)

same : (w : RawArp) → IsRawInRange w → raw_octets w ≡ arp_octets (arp_of w)
same w h =
    let a = w.1.1 in
    let joined : address_octets a ≡ a.0.0 ++ a.0.1 ++ a.1.0 ++ a.1.1 = sym (append_assoc (a.0.0 ++ a.0.1) a.1.0 a.1.1) in
    ap (λ l. kind_octets w.0 ++ (big_endian 2 w.1.0 ++ l)) joined
    ∙ ap (λ n. kind_octets w.0 ++ (big_endian 2 n ++ (a.0.0 ++ a.0.1 ++ a.1.0 ++ a.1.1))) (sym (mod-eq_of_lt h.1.0))

pub arp_layout : IsLayout arp_format IsArpInRange arp_octets 28 packet_rows
arp_layout = seen_layout raw_layout arp_of raw_arp IsArpInRange arp_octets seen chosen back same
