-- A frame of an IPv4 packet after all assignments to its fields.
use Rattle.std.proofs.Common.{ℕ, ◌+◌, ◌<◌, ◌^◌, Bool, List, [], ◌∷◌, ◌++◌, Option, Some, None, fold, sym, subst}
use Rattle.std.specs.Prelude.{IfSome, unwrap_or}
use Rattle.std.proofs.lemmas.List.Sums.{fold-append}
use Rattle.narc_bits.specs.Octets.{big_endian}
use Rattle.narc_packet.specs.PacketView.{Ipv4View, UdpView, TcpView, UdpBody, TcpBody}
use Rattle.narc_packet.specs.Ranges.{IsIp}
use Rattle.narc_edit.specs.declared.edits.Edits.{Edits}
use Rattle.narc_edit.specs.Ranges.{AreInRange}
use Rattle.narc_edit.specs.Edited.{edited_udp, edited_tcp}
use Rattle.narc_patch.specs.Change.{Change, changed}
use Rattle.narc_patch.specs.Patched.{whole, part, words, assigned, flag_number, header_sum, ipv4_changes, udp_changes, tcp_changes, udp_sums, tcp_sums}
use Rattle.narc_patch.proofs.HeaderSteps.{IsIpv4Frame}
use Rattle.narc_patch.proofs.EndsSteps.{body_sums}
use Rattle.narc_patch.proofs.HeaderFields.{tos_step, id_step, df_step, ttl_step}
use Rattle.narc_patch.proofs.AddressSteps.{src_step, dst_step}
use Rattle.narc_patch.proofs.TransportFields.{udp_sport_step, udp_dport_step, sport_step, dport_step, seq_step, ack_step, reserved_step, flags_step, window_step, urgent_step}

-- changes one behind the other
pub in_turn : (P : List ℕ → Type 0) (frame : List ℕ) (a b : List Change) → P (fold changed (fold changed frame a) b) → P (fold changed frame (a ++ b))
in_turn P frame a b h = subst P (sym (fold-append changed frame a b)) h

module _ (mac_dst mac_src : List ℕ) (start size : ℕ) where
  abbrev pub IpFrame : Ipv4View → List ℕ → Type 0
  IpFrame p l = IsIpv4Frame mac_dst mac_src p.src p.dst start size p l

  tos_assigned : (p : Ipv4View) (l : List ℕ) → IpFrame p l → (o : Option ℕ) → IfSome o (λ n. n < 256) → IpFrame (record p { tos = unwrap_or o p.tos }) (fold changed l (assigned o (λ v. whole 15 1 v (header_sum ∷ []) ∷ [])))
  tos_assigned p l f None r = f
  tos_assigned p l f (Some v) r = tos_step mac_dst mac_src p.src p.dst start size p l f v r

  id_assigned : (p : Ipv4View) (l : List ℕ) → IpFrame p l → (o : Option ℕ) → IfSome o (λ n. n < 2 ^ 16) → IpFrame (record p { id = unwrap_or o p.id }) (fold changed l (assigned o (λ v. whole 18 2 v (header_sum ∷ []) ∷ [])))
  id_assigned p l f None r = f
  id_assigned p l f (Some v) r = id_step mac_dst mac_src p.src p.dst start size p l f v r

  df_assigned : (p : Ipv4View) (l : List ℕ) → IpFrame p l → (o : Option Bool) → IpFrame (record p { df = unwrap_or o p.df }) (fold changed l (assigned o (λ v. part 20 1 6 1 (flag_number v) (header_sum ∷ []) ∷ [])))
  df_assigned p l f None = f
  df_assigned p l f (Some v) = df_step mac_dst mac_src p.src p.dst start size p l f v

  ttl_assigned : (p : Ipv4View) (l : List ℕ) → IpFrame p l → (o : Option ℕ) → IfSome o (λ n. n < 256) → IpFrame (record p { ttl = unwrap_or o p.ttl }) (fold changed l (assigned o (λ v. whole 22 1 v (header_sum ∷ []) ∷ [])))
  ttl_assigned p l f None r = f
  ttl_assigned p l f (Some v) r = ttl_step mac_dst mac_src p.src p.dst start size p l f v r

  src_assigned : (p : Ipv4View) (l : List ℕ) → IpFrame p l → (o : Option (List ℕ)) → IfSome o IsIp → IpFrame (record p { src = unwrap_or o p.src }) (fold changed l (assigned o (λ v. words 26 v (header_sum ∷ body_sums start p.body))))
  src_assigned p l f None r = f
  src_assigned p l f (Some v) r = src_step mac_dst mac_src start size p p.body p.src p.dst l f v r

  dst_assigned : (p : Ipv4View) (l : List ℕ) → IpFrame p l → (o : Option (List ℕ)) → IfSome o IsIp → IpFrame (record p { dst = unwrap_or o p.dst }) (fold changed l (assigned o (λ v. words 30 v (header_sum ∷ body_sums start p.body))))
  dst_assigned p l f None r = f
  dst_assigned p l f (Some v) r = dst_step mac_dst mac_src start size p p.body p.src p.dst l f v r

  udp_sport_assigned : (ip : Ipv4View) (u : UdpView) (l : List ℕ) → IpFrame (record ip { body = UdpBody u }) l → (o : Option ℕ) → IfSome o (λ n. n < 2 ^ 16) → IpFrame (record ip { body = UdpBody (record u { sport = unwrap_or o u.sport }) }) (fold changed l (assigned o (λ v. whole start 2 v (udp_sums start) ∷ [])))
  udp_sport_assigned ip u l f None r = f
  udp_sport_assigned ip u l f (Some v) r = udp_sport_step mac_dst mac_src start size ip u l f v r

  udp_dport_assigned : (ip : Ipv4View) (u : UdpView) (l : List ℕ) → IpFrame (record ip { body = UdpBody u }) l → (o : Option ℕ) → IfSome o (λ n. n < 2 ^ 16) → IpFrame (record ip { body = UdpBody (record u { dport = unwrap_or o u.dport }) }) (fold changed l (assigned o (λ v. whole (start + 2) 2 v (udp_sums start) ∷ [])))
  udp_dport_assigned ip u l f None r = f
  udp_dport_assigned ip u l f (Some v) r = udp_dport_step mac_dst mac_src start size ip u l f v r

  abbrev TcpIn : Ipv4View → TcpView → List ℕ → Type 0
  TcpIn ip t l = IpFrame (record ip { body = TcpBody t }) l

  module _ (ip : Ipv4View) (t : TcpView) (l : List ℕ) (f : TcpIn ip t l) where
    sport_assigned : (o : Option ℕ) → IfSome o (λ n. n < 2 ^ 16) → TcpIn ip (record t { sport = unwrap_or o t.sport }) (fold changed l (assigned o (λ v. whole start 2 v (tcp_sums start) ∷ [])))
    sport_assigned None r = f
    sport_assigned (Some v) r = sport_step mac_dst mac_src start size ip t l f v r

    dport_assigned : (o : Option ℕ) → IfSome o (λ n. n < 2 ^ 16) → TcpIn ip (record t { dport = unwrap_or o t.dport }) (fold changed l (assigned o (λ v. whole (start + 2) 2 v (tcp_sums start) ∷ [])))
    dport_assigned None r = f
    dport_assigned (Some v) r = dport_step mac_dst mac_src start size ip t l f v r

    seq_assigned : (o : Option ℕ) → IfSome o (λ n. n < 2 ^ 32) → TcpIn ip (record t { seq = unwrap_or o t.seq }) (fold changed l (assigned o (λ v. words (start + 4) (big_endian 4 v) (tcp_sums start))))
    seq_assigned None r = f
    seq_assigned (Some v) r = seq_step mac_dst mac_src start size ip t l f v r

    ack_assigned : (o : Option ℕ) → IfSome o (λ n. n < 2 ^ 32) → TcpIn ip (record t { ack = unwrap_or o t.ack }) (fold changed l (assigned o (λ v. words (start + 8) (big_endian 4 v) (tcp_sums start))))
    ack_assigned None r = f
    ack_assigned (Some v) r = ack_step mac_dst mac_src start size ip t l f v r

    reserved_assigned : (o : Option ℕ) → IfSome o (λ n. n < 64) → TcpIn ip (record t { reserved = unwrap_or o t.reserved }) (fold changed l (assigned o (λ v. part (start + 12) 2 6 6 v (tcp_sums start) ∷ [])))
    reserved_assigned None r = f
    reserved_assigned (Some v) r = reserved_step mac_dst mac_src start size ip t l f v r

    flags_assigned : (o : Option ℕ) → IfSome o (λ n. n < 64) → TcpIn ip (record t { flags = unwrap_or o t.flags }) (fold changed l (assigned o (λ v. part (start + 13) 1 0 6 v (tcp_sums start) ∷ [])))
    flags_assigned None r = f
    flags_assigned (Some v) r = flags_step mac_dst mac_src start size ip t l f v r

    window_assigned : (o : Option ℕ) → IfSome o (λ n. n < 2 ^ 16) → TcpIn ip (record t { window = unwrap_or o t.window }) (fold changed l (assigned o (λ v. whole (start + 14) 2 v (tcp_sums start) ∷ [])))
    window_assigned None r = f
    window_assigned (Some v) r = window_step mac_dst mac_src start size ip t l f v r

    urgent_assigned : (o : Option ℕ) → IfSome o (λ n. n < 2 ^ 16) → TcpIn ip (record t { urgent = unwrap_or o t.urgent }) (fold changed l (assigned o (λ v. whole (start + 18) 2 v (tcp_sums start) ∷ [])))
    urgent_assigned None r = f
    urgent_assigned (Some v) r = urgent_step mac_dst mac_src start size ip t l f v r

  module _ (es : Edits) (r : AreInRange es) where
    abbrev pub edited_header : Ipv4View → Ipv4View
    edited_header p = record p {
      tos = unwrap_or es.ip_tos p.tos;
      id = unwrap_or es.ip_id p.id;
      df = unwrap_or es.ip_df p.df;
      ttl = unwrap_or es.ip_ttl p.ttl;
      src = unwrap_or es.ip_src p.src;
      dst = unwrap_or es.ip_dst p.dst;
    }

    pub header_patched : (p : Ipv4View) (l : List ℕ) → IpFrame p l → IpFrame (edited_header p) (fold changed l (ipv4_changes es (header_sum ∷ body_sums start p.body)))
    header_patched p l f =
        let sums = header_sum ∷ body_sums start p.body in
        let c1 = assigned es.ip_tos (λ v. whole 15 1 v (header_sum ∷ []) ∷ []) in
        let c2 = assigned es.ip_id (λ v. whole 18 2 v (header_sum ∷ []) ∷ []) in
        let c3 = assigned es.ip_df (λ v. part 20 1 6 1 (flag_number v) (header_sum ∷ []) ∷ []) in
        let c4 = assigned es.ip_ttl (λ v. whole 22 1 v (header_sum ∷ []) ∷ []) in
        let c5 = assigned es.ip_src (λ v. words 26 v sums) in
        let c6 = assigned es.ip_dst (λ v. words 30 v sums) in
        let p1 : Ipv4View = record p { tos = unwrap_or es.ip_tos p.tos } in
        let p2 : Ipv4View = record p1 { id = unwrap_or es.ip_id p.id } in
        let p3 : Ipv4View = record p2 { df = unwrap_or es.ip_df p.df } in
        let p4 : Ipv4View = record p3 { ttl = unwrap_or es.ip_ttl p.ttl } in
        let p5 : Ipv4View = record p4 { src = unwrap_or es.ip_src p.src } in
        let f1 = tos_assigned p l f es.ip_tos r.ip_tos in
        let f2 = in_turn (IpFrame p2) l c1 c2 (id_assigned p1 (fold changed l c1) f1 es.ip_id r.ip_id) in
        let f3 = in_turn (IpFrame p3) l (c1 ++ c2) c3 (df_assigned p2 (fold changed l (c1 ++ c2)) f2 es.ip_df) in
        let f4 = in_turn (IpFrame p4) l (c1 ++ c2 ++ c3) c4 (ttl_assigned p3 (fold changed l (c1 ++ c2 ++ c3)) f3 es.ip_ttl r.ip_ttl) in
        let f5 = in_turn (IpFrame p5) l (c1 ++ c2 ++ c3 ++ c4) c5 (src_assigned p4 (fold changed l (c1 ++ c2 ++ c3 ++ c4)) f4 es.ip_src r.ip_src) in
        in_turn (IpFrame (edited_header p)) l (c1 ++ c2 ++ c3 ++ c4 ++ c5) c6 (dst_assigned p5 (fold changed l (c1 ++ c2 ++ c3 ++ c4 ++ c5)) f5 es.ip_dst r.ip_dst)

    pub udp_patched : (ip : Ipv4View) (u : UdpView) (l : List ℕ) → IpFrame (record ip { body = UdpBody u }) l → IpFrame (record ip { body = UdpBody (edited_udp es u) }) (fold changed l (udp_changes es start (udp_sums start)))
    udp_patched ip u l f =
        let c1 = assigned es.udp_sport (λ v. whole start 2 v (udp_sums start) ∷ []) in
        let c2 = assigned es.udp_dport (λ v. whole (start + 2) 2 v (udp_sums start) ∷ []) in
        let u1 : UdpView = record u { sport = unwrap_or es.udp_sport u.sport } in
        let f1 = udp_sport_assigned ip u l f es.udp_sport r.udp_sport in
        in_turn (IpFrame (record ip { body = UdpBody (edited_udp es u) })) l c1 c2 (udp_dport_assigned ip u1 (fold changed l c1) f1 es.udp_dport r.udp_dport)

    pub tcp_patched : (ip : Ipv4View) (t : TcpView) (l : List ℕ) → IpFrame (record ip { body = TcpBody t }) l → IpFrame (record ip { body = TcpBody (edited_tcp es t) }) (fold changed l (tcp_changes es start (tcp_sums start)))
    tcp_patched ip t l f =
        let sums = tcp_sums start in
        let c1 = assigned es.tcp_sport (λ v. whole start 2 v sums ∷ []) in
        let c2 = assigned es.tcp_dport (λ v. whole (start + 2) 2 v sums ∷ []) in
        let c3 = assigned es.tcp_seq (λ v. words (start + 4) (big_endian 4 v) sums) in
        let c4 = assigned es.tcp_ack (λ v. words (start + 8) (big_endian 4 v) sums) in
        let c5 = assigned es.tcp_reserved (λ v. part (start + 12) 2 6 6 v sums ∷ []) in
        let c6 = assigned es.tcp_flags (λ v. part (start + 13) 1 0 6 v sums ∷ []) in
        let c7 = assigned es.tcp_window (λ v. whole (start + 14) 2 v sums ∷ []) in
        let c8 = assigned es.tcp_urgent (λ v. whole (start + 18) 2 v sums ∷ []) in
        let t1 : TcpView = record t { sport = unwrap_or es.tcp_sport t.sport } in
        let t2 : TcpView = record t1 { dport = unwrap_or es.tcp_dport t.dport } in
        let t3 : TcpView = record t2 { seq = unwrap_or es.tcp_seq t.seq } in
        let t4 : TcpView = record t3 { ack = unwrap_or es.tcp_ack t.ack } in
        let t5 : TcpView = record t4 { reserved = unwrap_or es.tcp_reserved t.reserved } in
        let t6 : TcpView = record t5 { flags = unwrap_or es.tcp_flags t.flags } in
        let t7 : TcpView = record t6 { window = unwrap_or es.tcp_window t.window } in
        let f1 = sport_assigned ip t l f es.tcp_sport r.tcp_sport in
        let f2 = in_turn (TcpIn ip t2) l c1 c2 (dport_assigned ip t1 (fold changed l c1) f1 es.tcp_dport r.tcp_dport) in
        let f3 = in_turn (TcpIn ip t3) l (c1 ++ c2) c3 (seq_assigned ip t2 (fold changed l (c1 ++ c2)) f2 es.tcp_seq r.tcp_seq) in
        let f4 = in_turn (TcpIn ip t4) l (c1 ++ c2 ++ c3) c4 (ack_assigned ip t3 (fold changed l (c1 ++ c2 ++ c3)) f3 es.tcp_ack r.tcp_ack) in
        let f5 = in_turn (TcpIn ip t5) l (c1 ++ c2 ++ c3 ++ c4) c5 (reserved_assigned ip t4 (fold changed l (c1 ++ c2 ++ c3 ++ c4)) f4 es.tcp_reserved r.tcp_reserved) in
        let f6 = in_turn (TcpIn ip t6) l (c1 ++ c2 ++ c3 ++ c4 ++ c5) c6 (flags_assigned ip t5 (fold changed l (c1 ++ c2 ++ c3 ++ c4 ++ c5)) f5 es.tcp_flags r.tcp_flags) in
        let f7 = in_turn (TcpIn ip t7) l (c1 ++ c2 ++ c3 ++ c4 ++ c5 ++ c6) c7 (window_assigned ip t6 (fold changed l (c1 ++ c2 ++ c3 ++ c4 ++ c5 ++ c6)) f6 es.tcp_window r.tcp_window) in
        in_turn (TcpIn ip (edited_tcp es t)) l (c1 ++ c2 ++ c3 ++ c4 ++ c5 ++ c6 ++ c7) c8 (urgent_assigned ip t7 (fold changed l (c1 ++ c2 ++ c3 ++ c4 ++ c5 ++ c6 ++ c7)) f7 es.tcp_urgent r.tcp_urgent)
