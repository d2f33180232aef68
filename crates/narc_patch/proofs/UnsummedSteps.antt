-- A frame with an address of Ethernet, or a field of an ARP packet, assigned, which no checksum is over.
use Rattle.std.proofs.Common.{◌≡◌, ℕ, ◌+◌, ◌*◌, ◌%◌, ◌<◌, ◌≤◌, ◌^◌, List, [], ◌∷◌, ◌++◌, Option, Some, None, length, drop, fold, refl, sym, ap, ◌∙◌, subst, arith, lit≤, length-append}
use Rattle.std.specs.Prelude.{IfSome, unwrap_or}
use Rattle.narc_bits.specs.Bits.{overlay}
use Rattle.narc_bits.specs.Octets.{IsOctets, big_endian}
use Rattle.narc_bits.proofs.Lists.{length-overlay, overlay-nil, overlay-overlay, overlay-front, overlay-all, overlay-behind}
use Rattle.narc_bits.proofs.Octets.{IsOctets-big_endian}
use Rattle.narc_bits.proofs.Overlays.{drop-overlay, overlay-between, IsOctets-overlay}
use Rattle.narc_bits.proofs.WordValues.{word_octets}
use Rattle.narc_packet.specs.declared.packet.Arp.{Arp}
use Rattle.narc_packet.specs.PacketView.{PacketView, ArpBody}
use Rattle.narc_packet.specs.Ranges.{IsMac, IsIp, IsArpInRange}
use Rattle.narc_packet.specs.Frame.{IsFrame, ether_type_of, arp_octets, arp_type, ipv4_type}
use Rattle.narc_edit.specs.declared.edits.Edits.{Edits}
use Rattle.narc_edit.specs.Ranges.{AreInRange}
use Rattle.narc_edit.specs.Edited.{edited_arp}
use Rattle.narc_patch.specs.Change.{changed}
use Rattle.narc_patch.specs.Patched.{whole, words, assigned, eth_changes, arp_changes}
use Rattle.narc_patch.proofs.PatchedIpv4.{in_turn}

odd : 1 % 2 ≡ 0 → ⊥
odd h = omega (arith, h)

-- the words of an address, one behind the other
pub unsummed : (v frame : List ℕ) (at : ℕ) → length v % 2 ≡ 0 → IsOctets v → at + length v ≤ length frame → fold changed frame (words at v []) ≡ overlay frame at v
unsummed [] frame at even each room = sym (overlay-nil frame at)
unsummed (a ∷ []) frame at even each room = absurd (odd even)
unsummed (a ∷ b ∷ v) frame at even each room =
    let first = overlay frame at (big_endian 2 (256 * a + b)) in
    let size = length-overlay frame at (big_endian 2 (256 * a + b)) (omega arith) in
    unsummed v first (at + 2) (omega (arith, even)) each.1.1 (omega (arith, size, room))
    ∙ ap (λ s. overlay (overlay frame at s) (at + 2) v) (word_octets a b each.0 each.1.0)
    ∙ overlay-overlay frame at (a ∷ b ∷ []) v (omega arith)

module _ (p : PacketView) (frame : List ℕ) (f : IsFrame p frame) where
  abbrev type : List ℕ
  type = big_endian 2 (ether_type_of p.body)

  abbrev ethernet_header : List ℕ
  ethernet_header = p.dst ++ p.src ++ type

  header_size : length ethernet_header ≡ 14
  header_size = omega (arith, length-append (p.dst ++ p.src) type, length-append p.dst p.src, f.dst.0, f.src.0)

  pub frame_size : 14 ≤ length frame
  frame_size = omega (arith, ap length f.layout, length-append ethernet_header f.content, header_size)

  dst_step : (v : List ℕ) → IsMac v → IsFrame (record p { dst = v }) (overlay frame 0 v)
  dst_step v is = record {
    content = f.content;
    layout = ap (λ l. overlay l 0 v) f.layout
        ∙ overlay-front ethernet_header f.content 0 v (omega (arith, header_size, is.0))
        ∙ ap (λ l. l ++ f.content) (overlay-front (p.dst ++ p.src) type 0 v (omega (arith, length-append p.dst p.src, f.dst.0, is.0))
        ∙ ap (λ l. l ++ type) (overlay-front p.dst p.src 0 v (omega (arith, f.dst.0, is.0)) ∙ ap (λ l. l ++ p.src) (overlay-all p.dst v (omega (arith, f.dst.0, is.0)))));
    body = f.body;
    dst = is;
    src = f.src;
    octets = IsOctets-overlay frame 0 v f.octets is.1;
  }

  src_step : (v : List ℕ) → IsMac v → IsFrame (record p { src = v }) (overlay frame 6 v)
  src_step v is = record {
    content = f.content;
    layout = ap (λ l. overlay l 6 v) f.layout
        ∙ overlay-front ethernet_header f.content 6 v (omega (arith, header_size, is.0))
        ∙ ap (λ l. l ++ f.content) (overlay-front (p.dst ++ p.src) type 6 v (omega (arith, length-append p.dst p.src, f.dst.0, f.src.0, is.0))
        ∙ ap (λ l. l ++ type) (overlay-behind p.dst p.src 6 0 v f.dst.0 ∙ ap (λ l. p.dst ++ l) (overlay-all p.src v (omega (arith, f.src.0, is.0)))));
    body = f.body;
    dst = f.dst;
    src = is;
    octets = IsOctets-overlay frame 6 v f.octets is.1;
  }

-- A frame of p, of which only the addresses of Ethernet are others than in the old one.
pub record IsReaddressed (old : List ℕ) (p : PacketView) (frame : List ℕ) : Type 0 where
  pub is_frame : IsFrame p frame
  pub as_long : length frame ≡ length old
  pub behind : drop 12 frame ≡ drop 12 old

module _ (old : List ℕ) (p : PacketView) (frame : List ℕ) (r : IsReaddressed old p frame) where
  dst_assigned : (o : Option (List ℕ)) → IfSome o IsMac → IsReaddressed old (record p { dst = unwrap_or o p.dst }) (fold changed frame (assigned o (λ v. words 0 v [])))
  dst_assigned None is = r
  dst_assigned (Some v) is =
      let size = frame_size p frame r.is_frame in
      let room : 0 + length v ≤ length frame = omega (arith, size, is.0) in
      subst (IsReaddressed old (record p { dst = v })) (sym (unsummed v frame 0 (omega (arith, is.0)) is.1 room)) (record {
        is_frame = dst_step p frame r.is_frame v is;
        as_long = length-overlay frame 0 v room ∙ r.as_long;
        behind = drop-overlay frame 0 v 12 (omega (arith, is.0)) (omega (arith, size)) ∙ r.behind;
      })

  src_assigned : (o : Option (List ℕ)) → IfSome o IsMac → IsReaddressed old (record p { src = unwrap_or o p.src }) (fold changed frame (assigned o (λ v. words 6 v [])))
  src_assigned None is = r
  src_assigned (Some v) is =
      let size = frame_size p frame r.is_frame in
      let room : 6 + length v ≤ length frame = omega (arith, size, is.0) in
      subst (IsReaddressed old (record p { src = v })) (sym (unsummed v frame 6 (omega (arith, is.0)) is.1 room)) (record {
        is_frame = src_step p frame r.is_frame v is;
        as_long = length-overlay frame 6 v room ∙ r.as_long;
        behind = drop-overlay frame 6 v 12 (omega (arith, is.0)) (omega (arith, size)) ∙ r.behind;
      })

pub readdressed : (es : Edits) → AreInRange es → (p : PacketView) (frame : List ℕ) → IsFrame p frame
    → IsReaddressed frame (record p { dst = unwrap_or es.eth_dst p.dst; src = unwrap_or es.eth_src p.src }) (fold changed frame (eth_changes es))
readdressed es r p frame f =
    let c1 = assigned es.eth_dst (λ v. words 0 v []) in
    let c2 = assigned es.eth_src (λ v. words 6 v []) in
    let p1 : PacketView = record p { dst = unwrap_or es.eth_dst p.dst } in
    let p2 : PacketView = record p1 { src = unwrap_or es.eth_src p.src } in
    let f1 = dst_assigned frame p frame (record { is_frame = f; as_long = refl; behind = refl }) es.eth_dst r.eth_dst in
    in_turn (IsReaddressed frame p2) frame c1 c2 (src_assigned frame p1 (fold changed frame c1) f1 es.eth_src r.eth_src)

-- An ARP packet.
abbrev pub ArpFrame : PacketView → Arp → (size : ℕ) → List ℕ → Type 0
ArpFrame p a size frame = IsFrame (record p { body = ArpBody a }) frame × (length frame ≡ size)

arp_size : (a : Arp) → IsArpInRange a → length (arp_octets a) ≡ 28
arp_size a r =
    let two = a.sender_mac ++ a.sender_ip in
    omega (arith, length-append (two ++ a.target_mac) a.target_ip, length-append two a.target_mac, length-append a.sender_mac a.sender_ip, r.sender_mac.0, r.sender_ip.0, r.target_mac.0, r.target_ip.0)

arp_step : (p : PacketView) (a b : Arp) (k size : ℕ) (v frame : List ℕ) → overlay (arp_octets a) k v ≡ arp_octets b → IsArpInRange b → IsOctets v → k + length v ≤ 28 → ArpFrame p a size frame → ArpFrame p b size (overlay frame (14 + k) v)
arp_step p a b k size v frame overlaid range each room (f, long) =
    let pad = f.body.1 in
    let ours = arp_size a f.body.0 in
    let head = header_size (record p { body = ArpBody a }) frame f in
    let header = p.dst ++ p.src ++ big_endian 2 arp_type in
    let there : frame ≡ header ++ (arp_octets a ++ pad) = f.layout ∙ ap (λ l. header ++ l) f.body.2 in
    let next : IsFrame (record p { body = ArpBody b }) (overlay frame (14 + k) v) = record {
      content = arp_octets b ++ pad;
      layout = ap (λ l. overlay l (14 + k) v) there ∙ overlay-between header (arp_octets a) pad 14 head k v (omega (arith, ours, room)) ∙ ap (λ l. header ++ (l ++ pad)) overlaid;
      body = (range, pad, refl);
      dst = f.dst;
      src = f.src;
      octets = IsOctets-overlay frame (14 + k) v f.octets each;
    }
    in
    (next, length-overlay frame (14 + k) v (omega (arith, ap length there, length-append header (arp_octets a ++ pad), length-append (arp_octets a) pad, head, ours, room)) ∙ long)

module _ (p : PacketView) (a : Arp) (size : ℕ) (frame : List ℕ) (f : ArpFrame p a size frame) where
  r : IsArpInRange a
  r = f.0.body.0

  op_overlaid : (v : ℕ) → overlay (arp_octets a) 6 (big_endian 2 v) ≡ arp_octets (record a { op = v })
  unfolding overlay
  op_overlaid v = refl

  -- the octets before the addresses
  abbrev before : List ℕ
  before = big_endian 2 1 ++ big_endian 2 ipv4_type ++ (6 ∷ 4 ∷ []) ++ big_endian 2 a.op

  sha_overlaid : (v : List ℕ) → IsMac v → overlay (arp_octets a) 8 v ≡ arp_octets (record a { sender_mac = v })
  sha_overlaid v is =
      let two = a.sender_mac ++ a.sender_ip in
      overlay-behind before (two ++ a.target_mac ++ a.target_ip) 8 0 v refl
      ∙ ap (λ l. before ++ l) (overlay-front (two ++ a.target_mac) a.target_ip 0 v (omega (arith, length-append two a.target_mac, length-append a.sender_mac a.sender_ip, r.sender_mac.0, is.0))
      ∙ ap (λ l. l ++ a.target_ip) (overlay-front two a.target_mac 0 v (omega (arith, length-append a.sender_mac a.sender_ip, r.sender_mac.0, is.0))
      ∙ ap (λ l. l ++ a.target_mac) (overlay-front a.sender_mac a.sender_ip 0 v (omega (arith, r.sender_mac.0, is.0))
      ∙ ap (λ l. l ++ a.sender_ip) (overlay-all a.sender_mac v (omega (arith, r.sender_mac.0, is.0))))))

  spa_overlaid : (v : List ℕ) → IsIp v → overlay (arp_octets a) 14 v ≡ arp_octets (record a { sender_ip = v })
  spa_overlaid v is =
      let two = a.sender_mac ++ a.sender_ip in
      overlay-behind before (two ++ a.target_mac ++ a.target_ip) 8 6 v refl
      ∙ ap (λ l. before ++ l) (overlay-front (two ++ a.target_mac) a.target_ip 6 v (omega (arith, length-append two a.target_mac, length-append a.sender_mac a.sender_ip, r.sender_mac.0, r.sender_ip.0, is.0))
      ∙ ap (λ l. l ++ a.target_ip) (overlay-front two a.target_mac 6 v (omega (arith, length-append a.sender_mac a.sender_ip, r.sender_mac.0, r.sender_ip.0, is.0))
      ∙ ap (λ l. l ++ a.target_mac) (overlay-behind a.sender_mac a.sender_ip 6 0 v r.sender_mac.0
      ∙ ap (λ l. a.sender_mac ++ l) (overlay-all a.sender_ip v (omega (arith, r.sender_ip.0, is.0))))))

  tha_overlaid : (v : List ℕ) → IsMac v → overlay (arp_octets a) 18 v ≡ arp_octets (record a { target_mac = v })
  tha_overlaid v is =
      let two = a.sender_mac ++ a.sender_ip in
      let ten : length two ≡ 10 = omega (arith, length-append a.sender_mac a.sender_ip, r.sender_mac.0, r.sender_ip.0) in
      overlay-behind before (two ++ a.target_mac ++ a.target_ip) 8 10 v refl
      ∙ ap (λ l. before ++ l) (overlay-front (two ++ a.target_mac) a.target_ip 10 v (omega (arith, length-append two a.target_mac, ten, r.target_mac.0, is.0))
      ∙ ap (λ l. l ++ a.target_ip) (overlay-behind two a.target_mac 10 0 v ten
      ∙ ap (λ l. two ++ l) (overlay-all a.target_mac v (omega (arith, r.target_mac.0, is.0)))))

  tpa_overlaid : (v : List ℕ) → IsIp v → overlay (arp_octets a) 24 v ≡ arp_octets (record a { target_ip = v })
  tpa_overlaid v is =
      let two = a.sender_mac ++ a.sender_ip in
      let three = two ++ a.target_mac in
      let sixteen : length three ≡ 16 = omega (arith, length-append two a.target_mac, length-append a.sender_mac a.sender_ip, r.sender_mac.0, r.sender_ip.0, r.target_mac.0) in
      overlay-behind before (three ++ a.target_ip) 8 16 v refl
      ∙ ap (λ l. before ++ l) (overlay-behind three a.target_ip 16 0 v sixteen ∙ ap (λ l. three ++ l) (overlay-all a.target_ip v (omega (arith, r.target_ip.0, is.0))))

  pub arp_room : 42 ≤ length frame
  arp_room =
      let g = f.0 in
      omega (arith, ap length g.layout, ap length g.body.2, length-append (p.dst ++ p.src ++ big_endian 2 arp_type) g.content, length-append (arp_octets a) g.body.1, arp_size a r, header_size (record p { body = ArpBody a }) frame g)

  op_assigned : (o : Option ℕ) → IfSome o (λ n. n < 2 ^ 16) → ArpFrame p (record a { op = unwrap_or o a.op }) size (fold changed frame (assigned o (λ v. whole 20 2 v [] ∷ [])))
  op_assigned None is = f
  op_assigned (Some v) is = arp_step p a (record a { op = v }) 6 size (big_endian 2 v) frame (op_overlaid v) (record { op = is; sender_mac = r.sender_mac; sender_ip = r.sender_ip; target_mac = r.target_mac; target_ip = r.target_ip }) (IsOctets-big_endian 2 v) (lit≤ tt) f

  sha_assigned : (o : Option (List ℕ)) → IfSome o IsMac → ArpFrame p (record a { sender_mac = unwrap_or o a.sender_mac }) size (fold changed frame (assigned o (λ v. words 22 v [])))
  sha_assigned None is = f
  sha_assigned (Some v) is =
      subst (ArpFrame p (record a { sender_mac = v }) size) (sym (unsummed v frame 22 (omega (arith, is.0)) is.1 (omega (arith, arp_room, is.0))))
      (arp_step p a (record a { sender_mac = v }) 8 size v frame (sha_overlaid v is) (record { op = r.op; sender_mac = is; sender_ip = r.sender_ip; target_mac = r.target_mac; target_ip = r.target_ip }) is.1 (omega (arith, is.0)) f)

  spa_assigned : (o : Option (List ℕ)) → IfSome o IsIp → ArpFrame p (record a { sender_ip = unwrap_or o a.sender_ip }) size (fold changed frame (assigned o (λ v. words 28 v [])))
  spa_assigned None is = f
  spa_assigned (Some v) is =
      subst (ArpFrame p (record a { sender_ip = v }) size) (sym (unsummed v frame 28 (omega (arith, is.0)) is.1 (omega (arith, arp_room, is.0))))
      (arp_step p a (record a { sender_ip = v }) 14 size v frame (spa_overlaid v is) (record { op = r.op; sender_mac = r.sender_mac; sender_ip = is; target_mac = r.target_mac; target_ip = r.target_ip }) is.1 (omega (arith, is.0)) f)

  tha_assigned : (o : Option (List ℕ)) → IfSome o IsMac → ArpFrame p (record a { target_mac = unwrap_or o a.target_mac }) size (fold changed frame (assigned o (λ v. words 32 v [])))
  tha_assigned None is = f
  tha_assigned (Some v) is =
      subst (ArpFrame p (record a { target_mac = v }) size) (sym (unsummed v frame 32 (omega (arith, is.0)) is.1 (omega (arith, arp_room, is.0))))
      (arp_step p a (record a { target_mac = v }) 18 size v frame (tha_overlaid v is) (record { op = r.op; sender_mac = r.sender_mac; sender_ip = r.sender_ip; target_mac = is; target_ip = r.target_ip }) is.1 (omega (arith, is.0)) f)

  tpa_assigned : (o : Option (List ℕ)) → IfSome o IsIp → ArpFrame p (record a { target_ip = unwrap_or o a.target_ip }) size (fold changed frame (assigned o (λ v. words 38 v [])))
  tpa_assigned None is = f
  tpa_assigned (Some v) is =
      subst (ArpFrame p (record a { target_ip = v }) size) (sym (unsummed v frame 38 (omega (arith, is.0)) is.1 (omega (arith, arp_room, is.0))))
      (arp_step p a (record a { target_ip = v }) 24 size v frame (tpa_overlaid v is) (record { op = r.op; sender_mac = r.sender_mac; sender_ip = r.sender_ip; target_mac = r.target_mac; target_ip = is }) is.1 (omega (arith, is.0)) f)

pub arp_patched : (es : Edits) → AreInRange es → (p : PacketView) (a : Arp) (size : ℕ) (l : List ℕ) → ArpFrame p a size l → ArpFrame p (edited_arp es a) size (fold changed l (arp_changes es))
arp_patched es r p a size l f =
    let c1 = assigned es.arp_op (λ v. whole 20 2 v [] ∷ []) in
    let c2 = assigned es.arp_sha (λ v. words 22 v []) in
    let c3 = assigned es.arp_spa (λ v. words 28 v []) in
    let c4 = assigned es.arp_tha (λ v. words 32 v []) in
    let c5 = assigned es.arp_tpa (λ v. words 38 v []) in
    let a1 : Arp = record a { op = unwrap_or es.arp_op a.op } in
    let a2 : Arp = record a1 { sender_mac = unwrap_or es.arp_sha a.sender_mac } in
    let a3 : Arp = record a2 { sender_ip = unwrap_or es.arp_spa a.sender_ip } in
    let a4 : Arp = record a3 { target_mac = unwrap_or es.arp_tha a.target_mac } in
    let f1 = op_assigned p a size l f es.arp_op r.arp_op in
    let f2 = in_turn (ArpFrame p a2 size) l c1 c2 (sha_assigned p a1 size (fold changed l c1) f1 es.arp_sha r.arp_sha) in
    let f3 = in_turn (ArpFrame p a3 size) l (c1 ++ c2) c3 (spa_assigned p a2 size (fold changed l (c1 ++ c2)) f2 es.arp_spa r.arp_spa) in
    let f4 = in_turn (ArpFrame p a4 size) l (c1 ++ c2 ++ c3) c4 (tha_assigned p a3 size (fold changed l (c1 ++ c2 ++ c3)) f3 es.arp_tha r.arp_tha) in
    in_turn (ArpFrame p (edited_arp es a) size) l (c1 ++ c2 ++ c3 ++ c4) c5 (tpa_assigned p a4 size (fold changed l (c1 ++ c2 ++ c3 ++ c4)) f4 es.arp_tpa r.arp_tpa)
