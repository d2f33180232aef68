-- A frame of a packet holds its headers.
use Rattle.std.proofs.Common.{◌≡◌, ℕ, ◌+◌, ◌≤◌, List, ◌++◌, length, drop, nat_eq, if◌then◌else◌, false, refl, sym, ap, ◌∙◌, subst, arith, length-append}
use Rattle.std.proofs.lemmas.Bool.{ne_eqb}
use Rattle.narc_packet.specs.PacketView.{PacketView, EthBodyView, ArpBody, Ipv4Body, OtherBody, Ipv4View, IpBodyView, UdpBody, TcpBody, RawBody}
use Rattle.narc_packet.specs.Udp.{udp_octets}
use Rattle.narc_packet.specs.Frame.{IsFrame, ether_type_of, arp_type, ipv4_type}
use Rattle.narc_packet.specs.Refusal.{header_length}
use Rattle.narc_patch.specs.declared.headers.Headers.TheVariants.{Unread, Arp}
use Rattle.narc_patch.specs.Patched.{headers_of_ipv4, headers_for}
use Rattle.narc_patch.specs.Room.{HasRoom, HasHeaders}
use Rattle.narc_patch.proofs.DataSteps.{front, front_layout, front_size}
use Rattle.narc_patch.proofs.Ipv4Parts.{ipv4_parts, headers_are}
use Rattle.narc_patch.proofs.UnsummedSteps.{arp_room, frame_size}
use Rattle.narc_patch.proofs.PatchedFrames.{type_is}

-- the headers of an IPv4 packet
module _ (mac_dst mac_src : List ℕ) (p : Ipv4View) (frame : List ℕ) where
  abbrev start : ℕ
  start = 14 + header_length (drop 14 frame)

  abbrev Whole : IpBodyView → Type 0
  Whole body = IsFrame (record { dst = mac_dst; src = mac_src; body = Ipv4Body (record p { body = body }) }) frame

  data_room : (body : IpBodyView) (f : Whole body) → length frame ≡ start + (length (ipv4_parts mac_dst mac_src (record p { body = body }) frame f).content + length (ipv4_parts mac_dst mac_src (record p { body = body }) frame f).pad)
  data_room body f =
      let q : Ipv4View = record p { body = body } in
      let g = ipv4_parts mac_dst mac_src q frame f in
      omega (arith, ap length (front_layout mac_dst mac_src p.src p.dst start (length frame) q frame g), length-append (front mac_dst mac_src p.src p.dst start (length frame) q frame g) (g.content ++ g.pad), length-append g.content g.pad, front_size mac_dst mac_src p.src p.dst start (length frame) q frame g)

  header_room : (body : IpBodyView) → Whole body → 34 ≤ length frame
  header_room body f =
      let g = ipv4_parts mac_dst mac_src (record p { body = body }) frame f in
      omega (arith, data_room body f, g.starts)

  ip_room : (body : IpBodyView) → Whole body → HasRoom (headers_of_ipv4 (drop 14 frame)) (length frame)
  ip_room (UdpBody u) f =
      let q : Ipv4View = record p { body = UdpBody u } in
      let b = (ipv4_parts mac_dst mac_src q frame f).body in
      subst (λ h. HasRoom h (length frame)) (sym (headers_are mac_dst mac_src q frame f))
      (header_room (UdpBody u) f, omega (arith, data_room (UdpBody u) f, ap length b.layout, length-append (udp_octets u b.sum) b.surplus))
  ip_room (TcpBody t) f =
      let q : Ipv4View = record p { body = TcpBody t } in
      let b = (ipv4_parts mac_dst mac_src q frame f).body in
      subst (λ h. HasRoom h (length frame)) (sym (headers_are mac_dst mac_src q frame f))
      (header_room (TcpBody t) f, omega (arith, data_room (TcpBody t) f, ap length b.layout, length-append b.area t.payload))
  ip_room (RawBody protocol payload) f =
      subst (λ h. HasRoom h (length frame)) (sym (headers_are mac_dst mac_src (record p { body = RawBody protocol payload }) frame f)) (header_room (RawBody protocol payload) f)

module _ (mac_dst mac_src : List ℕ) (frame : List ℕ) where
  abbrev Of : EthBodyView → Type 0
  Of body = IsFrame (record { dst = mac_dst; src = mac_src; body = body }) frame

  room_by : (body : EthBodyView) → Of body → HasRoom (headers_for (ether_type_of body) (drop 14 frame)) (length frame)
  room_by (ArpBody a) f = arp_room (record { dst = mac_dst; src = mac_src; body = ArpBody a }) a (length frame) frame (f, refl)
  room_by (Ipv4Body p) f = ip_room mac_dst mac_src p frame p.body f
  room_by (OtherBody t payload) f =
      let no_arp : nat_eq t arp_type ≡ false = ne_eqb t arp_type f.body.1 in
      let no_ip : nat_eq t ipv4_type ≡ false = ne_eqb t ipv4_type f.body.2 in
      let none : headers_for t (drop 14 frame) ≡ Unread =
      ap (λ b. if b then Arp else if nat_eq t ipv4_type then headers_of_ipv4 (drop 14 frame) else Unread) no_arp
      ∙ ap (λ b. if b then headers_of_ipv4 (drop 14 frame) else Unread) no_ip
      in
      subst (λ h. HasRoom h (length frame)) (sym none) (frame_size (record { dst = mac_dst; src = mac_src; body = OtherBody t payload }) frame f)

  ipv4_room : (body : EthBodyView) → Of body → ether_type_of body ≡ ipv4_type → 34 ≤ length frame
  ipv4_room (ArpBody a) f e = omega (arith, arp_room (record { dst = mac_dst; src = mac_src; body = ArpBody a }) a (length frame) frame (f, refl))
  ipv4_room (Ipv4Body p) f e = header_room mac_dst mac_src p frame p.body f
  ipv4_room (OtherBody t payload) f e = absurd (f.body.2 e)

pub has_headers : (p : PacketView) (frame : List ℕ) → IsFrame p frame → HasHeaders frame
has_headers p frame f = record {
  ethernet = frame_size p frame f;
  ipv4 = λ e. ipv4_room p.dst p.src frame p.body f (sym (type_is p frame f) ∙ e);
  all = subst (λ n. HasRoom (headers_for n (drop 14 frame)) (length frame)) (sym (type_is p frame f)) (room_by p.dst p.src frame p.body f);
}
