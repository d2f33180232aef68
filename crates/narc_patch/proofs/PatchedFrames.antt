-- A patched frame is a frame of the edited packet.
use Rattle.std.proofs.Common.{◌≡◌, ℕ, ◌+◌, ◌<◌, false, List, ◌∷◌, ◌++◌, length, drop, fold, nat_eq, if◌then◌else◌, refl, sym, ap, ◌∙◌, subst, arith, lit<, length-append}
use Rattle.std.specs.Prelude.{unwrap_or}
use Rattle.std.proofs.lemmas.Bool.{ne_eqb}
use Rattle.std.proofs.lemmas.List.{drop-drop}
use Rattle.narc_bits.specs.Octets.{big_endian, number_at}
use Rattle.narc_bits.proofs.NetworkOrder.{number_of-big_endian}
use Rattle.narc_bits.proofs.NumbersAt.{number-front, number-behind}
use Rattle.narc_packet.specs.PacketView.{PacketView, EthBodyView, ArpBody, Ipv4Body, OtherBody, Ipv4View, IpBodyView, UdpView, TcpView, UdpBody, TcpBody, RawBody}
use Rattle.narc_packet.specs.Frame.{IsFrame, IsEthBody, ether_type_of, arp_type, ipv4_type}
use Rattle.narc_packet.specs.Refusal.{header_length}
use Rattle.narc_patch.specs.declared.headers.Headers.TheVariants.{Unread, Arp, Ipv4, Udp, Tcp}
use Rattle.narc_edit.specs.declared.edits.Edits.{Edits}
use Rattle.narc_edit.specs.Ranges.{AreInRange}
use Rattle.narc_edit.specs.Edited.{edited, edited_eth_body, edited_ipv4}
use Rattle.narc_patch.specs.Change.{changed}
use Rattle.narc_patch.specs.Patched.{header_sum, eth_changes, ipv4_changes, udp_changes, tcp_changes, udp_sums, tcp_sums, headers_of_ipv4, headers_for, headers_in, header_changes, patched}
use Rattle.narc_patch.specs.Laws.{PatchedIsEdited}
use Rattle.narc_patch.proofs.HeaderSteps.{IsIpv4Frame}
use Rattle.narc_patch.proofs.PatchedIpv4.{in_turn, edited_header, header_patched, udp_patched, tcp_patched}
use Rattle.narc_patch.proofs.Ipv4Parts.{ipv4_frame, ipv4_parts, headers_are}
use Rattle.narc_patch.proofs.UnsummedSteps.{readdressed, arp_patched}

module _ (p : PacketView) (frame : List ℕ) (f : IsFrame p frame) where
  type_small : (body : EthBodyView) → IsEthBody body f.content → ether_type_of body < 65536
  type_small (ArpBody a) is = lit< tt
  type_small (Ipv4Body q) is = lit< tt
  type_small (OtherBody t payload) is = is.0

  pub type_is : number_at frame 12 2 ≡ ether_type_of p.body
  type_is =
      let type = big_endian 2 (ether_type_of p.body) in
      let ends : length (p.dst ++ p.src) ≡ 12 = omega (arith, length-append p.dst p.src, f.dst.0, f.src.0) in
      ap (λ l. number_at l 12 2) f.layout
      ∙ number-front (p.dst ++ p.src ++ type) f.content 12 2 (omega (arith, length-append (p.dst ++ p.src) type, ends))
      ∙ number-behind (p.dst ++ p.src) type 12 0 2 ends
      ∙ number_of-big_endian 2 (ether_type_of p.body) (type_small p.body f.body)

module _ (es : Edits) (r : AreInRange es) where
  -- an IPv4 packet, by its data
  module _ (mac_dst mac_src : List ℕ) (from size : ℕ) (p : Ipv4View) (frame : List ℕ) where
    abbrev Ip : Ipv4View → List ℕ → Type 0
    Ip q l = IsIpv4Frame mac_dst mac_src q.src q.dst from size q l

    udp_done : (u : UdpView) → Ip (record p { body = UdpBody u }) frame
        → Ip (edited_ipv4 es (record p { body = UdpBody u })) (fold changed frame (header_changes es (Udp from)))
    udp_done u f =
        let c1 = ipv4_changes es (header_sum ∷ udp_sums from) in
        let one = header_patched mac_dst mac_src from size es r (record p { body = UdpBody u }) frame f in
        in_turn (Ip (edited_ipv4 es (record p { body = UdpBody u }))) frame c1 (udp_changes es from (udp_sums from)) (udp_patched mac_dst mac_src from size es r (edited_header mac_dst mac_src from size es r p) u (fold changed frame c1) one)

    tcp_done : (t : TcpView) → Ip (record p { body = TcpBody t }) frame
        → Ip (edited_ipv4 es (record p { body = TcpBody t })) (fold changed frame (header_changes es (Tcp from)))
    tcp_done t f =
        let c1 = ipv4_changes es (header_sum ∷ tcp_sums from) in
        let one = header_patched mac_dst mac_src from size es r (record p { body = TcpBody t }) frame f in
        in_turn (Ip (edited_ipv4 es (record p { body = TcpBody t }))) frame c1 (tcp_changes es from (tcp_sums from)) (tcp_patched mac_dst mac_src from size es r (edited_header mac_dst mac_src from size es r p) t (fold changed frame c1) one)

    raw_done : (protocol : ℕ) (payload : List ℕ) → Ip (record p { body = RawBody protocol payload }) frame
        → Ip (edited_ipv4 es (record p { body = RawBody protocol payload })) (fold changed frame (header_changes es Ipv4))
    raw_done protocol payload f = header_patched mac_dst mac_src from size es r (record p { body = RawBody protocol payload }) frame f

  ip_done : (mac_dst mac_src : List ℕ) (p : Ipv4View) (body : IpBodyView) (frame : List ℕ) (f : IsFrame (record { dst = mac_dst; src = mac_src; body = Ipv4Body (record p { body = body }) }) frame)
      → IsIpv4Frame mac_dst mac_src (edited_ipv4 es (record p { body = body })).src (edited_ipv4 es (record p { body = body })).dst (14 + header_length (drop 14 frame)) (length frame) (edited_ipv4 es (record p { body = body })) (fold changed frame (header_changes es (headers_of_ipv4 (drop 14 frame))))
  ip_done mac_dst mac_src p (UdpBody u) frame f =
      let q : Ipv4View = record p { body = UdpBody u } in
      let from = 14 + header_length (drop 14 frame) in
      subst (λ l. IsIpv4Frame mac_dst mac_src (edited_ipv4 es q).src (edited_ipv4 es q).dst from (length frame) (edited_ipv4 es q) (fold changed frame (header_changes es l))) (sym (headers_are mac_dst mac_src q frame f))
      (udp_done mac_dst mac_src from (length frame) p frame u (ipv4_parts mac_dst mac_src q frame f))
  ip_done mac_dst mac_src p (TcpBody t) frame f =
      let q : Ipv4View = record p { body = TcpBody t } in
      let from = 14 + header_length (drop 14 frame) in
      subst (λ l. IsIpv4Frame mac_dst mac_src (edited_ipv4 es q).src (edited_ipv4 es q).dst from (length frame) (edited_ipv4 es q) (fold changed frame (header_changes es l))) (sym (headers_are mac_dst mac_src q frame f))
      (tcp_done mac_dst mac_src from (length frame) p frame t (ipv4_parts mac_dst mac_src q frame f))
  ip_done mac_dst mac_src p (RawBody protocol payload) frame f =
      let q : Ipv4View = record p { body = RawBody protocol payload } in
      let from = 14 + header_length (drop 14 frame) in
      subst (λ l. IsIpv4Frame mac_dst mac_src (edited_ipv4 es q).src (edited_ipv4 es q).dst from (length frame) (edited_ipv4 es q) (fold changed frame (header_changes es l))) (sym (headers_are mac_dst mac_src q frame f))
      (raw_done mac_dst mac_src from (length frame) p frame protocol payload (ipv4_parts mac_dst mac_src q frame f))

  abbrev Done : PacketView → (size : ℕ) → List ℕ → Type 0
  Done p size frame = IsFrame p frame × (length frame ≡ size)

  -- what follows the Ethernet header
  later_done : (mac_dst mac_src : List ℕ) (body : EthBodyView) (frame : List ℕ) → IsFrame (record { dst = mac_dst; src = mac_src; body = body }) frame
      → Done (record { dst = mac_dst; src = mac_src; body = edited_eth_body es body }) (length frame) (fold changed frame (header_changes es (headers_for (ether_type_of body) (drop 14 frame))))
  later_done mac_dst mac_src (ArpBody a) frame f = arp_patched es r (record { dst = mac_dst; src = mac_src; body = ArpBody a }) a (length frame) frame (f, refl)
  later_done mac_dst mac_src (Ipv4Body p) frame f =
      let from = 14 + header_length (drop 14 frame) in
      let done = ip_done mac_dst mac_src p p.body frame f in
      (ipv4_frame mac_dst mac_src from (length frame) (edited_ipv4 es p) (fold changed frame (header_changes es (headers_of_ipv4 (drop 14 frame)))) done, done.as_long)
  later_done mac_dst mac_src (OtherBody t payload) frame f =
      let no_arp : nat_eq t arp_type ≡ false = ne_eqb t arp_type f.body.1 in
      let no_ip : nat_eq t ipv4_type ≡ false = ne_eqb t ipv4_type f.body.2 in
      let none : headers_for t (drop 14 frame) ≡ Unread =
      ap (λ b. if b then Arp else if nat_eq t ipv4_type then headers_of_ipv4 (drop 14 frame) else Unread) no_arp
      ∙ ap (λ b. if b then headers_of_ipv4 (drop 14 frame) else Unread) no_ip
      in
      subst (λ h. Done (record { dst = mac_dst; src = mac_src; body = OtherBody t payload }) (length frame) (fold changed frame (header_changes es h))) (sym none) (f, refl)

  pub patched_is_edited : (p : PacketView) (frame : List ℕ) → IsFrame p frame → IsFrame (edited es p) (patched es frame) × (length (patched es frame) ≡ length frame)
  patched_is_edited p frame f =
      let mac_dst = unwrap_or es.eth_dst p.dst in
      let mac_src = unwrap_or es.eth_src p.src in
      let first = fold changed frame (eth_changes es) in
      let one = readdressed es r p frame f in
      let headers = headers_for (ether_type_of p.body) in
      let same : drop 14 first ≡ drop 14 frame = sym (drop-drop 2 12 first) ∙ ap (drop 2) one.behind ∙ drop-drop 2 12 frame in
      let rest_is : headers_in frame ≡ headers (drop 14 first) = ap (λ n. headers_for n (drop 14 frame)) (type_is p frame f) ∙ ap headers (sym same) in
      let done = later_done mac_dst mac_src p.body first one.is_frame in
      in_turn (Done (edited es p) (length frame)) frame (eth_changes es) (header_changes es (headers_in frame))
      (subst (λ l. Done (edited es p) (length frame) (fold changed first (header_changes es l))) (sym rest_is) (done.0, done.1 ∙ one.as_long))

pub patched_frames_are_edited : PatchedIsEdited
patched_frames_are_edited es r p frame f = patched_is_edited es r p frame f
