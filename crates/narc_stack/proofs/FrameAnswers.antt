-- The one right answer for a frame, from what its reading did.
use Rattle.std.proofs.Common.{◌≡◌, ℕ, ◌+◌, ◌*◌, ◌/◌, ◌≤◌, ◌⊎◌, List, length, Option, Some, None, Ok, Err, refl, sym, ap, ◌∙◌, subst, arith, inl, inr}
use Rattle.narc_bits.specs.declared.limits.TheConstants.{MAX_FRAME}
use Rattle.narc_bits.specs.Octets.{IsOctets}
use Rattle.narc_bits.specs.Bits.{bits}
use Rattle.narc_bits.specs.Scan.{Scan, bits_left}
use Rattle.narc_bits.proofs.Numbers.{length-bits}
use Rattle.narc_format.specs.Faults.{fault_at}
use Rattle.narc_format.specs.declared.fault.Fault.{Fault}
use Rattle.narc_format.specs.Reading.{TookAll, Refused}
use Rattle.narc_scalar.specs.Octets.{fixed_octets}
use Rattle.narc_scalar.specs.Tested.{tested}
use Rattle.narc_scalar.specs.Word.{word}
use Rattle.narc_compose.specs.Gap.{gapped}
use Rattle.narc_compose.specs.Measured.{measured}
use Rattle.narc_compose.specs.Named.{named}
use Rattle.narc_compose.specs.Seq.{seq, seq_tail}
use Rattle.narc_compose.specs.Strip.{stripped}
use Rattle.narc_compose.specs.Union.{united}
use Rattle.narc_list.specs.Bytes.{all_octets}
use Rattle.narc_list.specs.Pad.{padding}
use Rattle.narc_list.specs.Region.{region}
use Rattle.narc_list.specs.Until.{until}
use Rattle.narc_sum.specs.Checked.{checked, checked_or_none, checked_tail}
use Rattle.narc_packet.specs.Answer.{IsOnlyAnswer}
use Rattle.narc_packet.specs.declared.packet.Packet.{Packet}
use Rattle.narc_packet.specs.Frame.{IsFrame}
use Rattle.narc_packet.specs.PacketView.{PacketView, view}
use Rattle.narc_format.specs.Rows.{RefusalView}
use Rattle.narc_packet.specs.Refusal.{refusal}
use Rattle.narc_layout.proofs.Rows.{told}
use Rattle.narc_eth.proofs.HeaderLayout.{eth_head_layout}
use Rattle.narc_eth.proofs.ArpLayout.{arp_layout}
use Rattle.narc_ipv4.specs.Header.{ip_head}
use Rattle.narc_transport.specs.Parts.{udp_part, tcp_part}
use Rattle.narc_stack.specs.FramePart.{frame_part, frame_laws}
use Rattle.narc_stack.specs.Ipv4Part.{ipv4_part}
use Rattle.narc_stack.specs.WholeFrame.{whole_frame}
use Rattle.narc_stack.proofs.FrameSound.{frame_sound}
use Rattle.narc_stack.proofs.FrameSeen.{packet_seen}
use Rattle.narc_stack.proofs.FrameRelation.{frame_stands, frame_refuses}

module _ (b : List ℕ) (each : IsOctets b) where
  stood : (q : PacketView) (f : IsFrame q b) → whole_frame.stands tt (packet_seen q b f).packet (bits b)
  stood q f =
      let seen = packet_seen q b f in
      (frame_stands seen.packet b each).1 (subst (λ v. IsFrame v b) (sym seen.same) f, seen.spelled)

  same_view : (p : Packet) (q : PacketView) → whole_frame.stands tt p (bits b) → IsFrame q b → view p ≡ q
  unfolding stripped
  same_view p q s f = let seen = packet_seen q b f in frame_laws.one_reading frame_sound tt p seen.packet (bits b) s (stood q f) ∙ seen.same

  fault_of : (r : RefusalView) → refusal b ≡ Some r → whole_frame.refuses tt (bits b) (fault_at r.field (8 * r.at))
  fault_of r h = let place : r.at ≡ 0 + r.at = omega arith in (frame_refuses b each (fault_at r.field (8 * r.at))).1 (record { octet = r.at; first = h ∙ ap (told r.field) place; place = refl })

  pub one_packet : (p q : PacketView) → IsFrame p b → IsFrame q b → p ≡ q
  one_packet p q f g = let seen = packet_seen p b f in sym seen.same ∙ same_view seen.packet q (stood p f) g

  pub never_both : (p : PacketView) (r : RefusalView) → IsFrame p b → refusal b ≡ Some r → ⊥
  never_both p r f h = frame_laws.never_both frame_sound tt (packet_seen p b f).packet (bits b) (fault_at r.field (8 * r.at)) (stood p f) (fault_of r h)

  pub unrefused : (p : PacketView) → IsFrame p b → refusal b ≡ None
  unrefused p f = at (refusal b) refl where
    at : (o : Option RefusalView) → refusal b ≡ o → refusal b ≡ None
    at None e = e
    at (Some r) e = absurd (never_both p r f e)

  pub only_packet : (p : Packet) → whole_frame.stands tt p (bits b) → IsOnlyAnswer b (Ok (view p))
  only_packet p s = record {
    right = ((frame_stands p b each).0 s).0;
    packet = λ q f. ap Ok (same_view p q s f);
    refused = λ r h. absurd (never_both (view p) r (((frame_stands p b each).0 s).0) h);
  }

  told_fault : (f : Fault) → whole_frame.refuses tt (bits b) f → refusal b ≡ Some (record { field = f.field; at = f.at / 8 })
  told_fault f refused =
      let k = (frame_refuses b each f).0 refused in
      let place : 0 + k.octet ≡ f.at / 8 = omega (arith, k.place) in
      k.first ∙ ap (told f.field) place

  pub only_refusal : (f : Fault) → whole_frame.refuses tt (bits b) f → IsOnlyAnswer b (Err (record { field = f.field; at = f.at / 8 }))
  only_refusal f refused =
      let here : RefusalView = record { field = f.field; at = f.at / 8 } in
      let right : refusal b ≡ Some here = told_fault f refused in
      record {
        right = right;
        packet = λ q g. absurd (never_both q here g right);
        refused = λ r h. let same : Some here ≡ Some r = sym right ∙ h in let one : here ≡ r = cc in ap Err one;
      }

  pub either : length b ≤ MAX_FRAME → ((p : PacketView) × IsFrame p b) ⊎ ((r : RefusalView) × (refusal b ≡ Some r))
  unfolding stripped seq_tail
  either small = elim (frame_laws.read_or_refused frame_sound tt tt (bits b) (record { small = omega (arith, small, length-bits b); octets = λ h. omega (arith, length-bits b) })) [
    | inl r ↦ inl (view r.found, ((frame_stands r.found b each).0 r.stood).0)
    | inr r ↦ inr (record { field = r.fault.field; at = r.fault.at / 8 }, told_fault r.fault r.refused)
  ]

head_depth : ip_head.depth ≡ 2
unfolding stripped named checked seq gapped tested word fixed_octets region until united measured all_octets padding
head_depth = refl

udp_depth : udp_part.depth ≡ 1
unfolding udp_part stripped seq_tail named checked_or_none seq gapped tested word region measured all_octets padding
udp_depth = refl

tcp_depth : tcp_part.depth ≡ 2
unfolding tcp_part stripped named checked_tail seq_tail seq gapped tested word region until united measured all_octets padding
tcp_depth = refl

ipv4_depth : ipv4_part.depth ≡ 2
unfolding ipv4_part stripped measured seq_tail region united padding all_octets
ipv4_depth = omega (arith, head_depth, udp_depth, tcp_depth)

frame_depth : frame_part.depth ≡ 2
unfolding frame_part stripped seq_tail united padding all_octets
frame_depth = omega (arith, eth_head_layout.shape.depth, arp_layout.shape.depth, ipv4_depth)

-- a reading from the first octet on
module _ (b : List ℕ) (old new : Scan) (before after : ℕ) (start : old ≡ record { octets = b; place = 0 }) where
  left : bits_left old ≡ bits b
  left = ap bits_left start

  pub stood_whole : (p : Packet) → TookAll frame_part tt old new before after p → whole_frame.stands tt p (bits b)
  unfolding frame_part
  stood_whole p t = subst (whole_frame.stands tt p) left t.stood

  pub refused_whole : (f : Fault) → Refused frame_part tt old new before after f → whole_frame.refuses tt (bits b) f
  unfolding frame_part
  refused_whole f t = subst (λ l. whole_frame.refuses tt l f) left t.fault

  cost_of : (extra : ℕ) → extra ≤ 2 → 2 * after ≤ 2 * before + (2 + frame_part.depth) * length (bits_left old) + extra → after ≤ before + 16 * length b + 1
  cost_of extra most h = omega (arith, most, subst (λ d. 2 * after ≤ 2 * before + (2 + d) * length (bits_left old) + extra) frame_depth h, ap length left, length-bits b)

  pub cost_took : (p : Packet) → TookAll frame_part tt old new before after p → after ≤ before + 16 * length b + 1
  cost_took p t = cost_of 0 (omega arith) (omega (arith, t.cost))

  pub cost_refused : (f : Fault) → Refused frame_part tt old new before after f → after ≤ before + 16 * length b + 1
  cost_refused f t = cost_of 2 (omega arith) t.cost
