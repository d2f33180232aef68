-- A frame of an IPv4 packet with an address assigned.
use Rattle.std.proofs.Common.{◌≡◌, ℕ, ◌+◌, ◌*◌, ◌/◌, ◌<◌, ◌≤◌, List, [], ◌∷◌, length, fold, get_or, refl, ap, ◌∙◌, subst, arith, lit≤}
use Rattle.narc_bits.specs.Bits.{overlay}
use Rattle.narc_bits.specs.Octets.{IsOctets, big_endian}
use Rattle.narc_bits.proofs.Lists.{length-overlay, overlay-front, overlay-behind}
use Rattle.narc_bits.proofs.Octets.{IsOctets-big_endian}
use Rattle.narc_bits.proofs.Overlays.{IsOctets-overlay}
use Rattle.narc_bits.proofs.WordValues.{word_octets}
use Rattle.narc_packet.specs.PacketView.{Ipv4View, IpBodyView, UdpBody, TcpBody, RawBody}
use Rattle.narc_packet.specs.Ranges.{IsIp}
use Rattle.narc_patch.specs.declared.change.Checksum.{Checksum}
use Rattle.narc_patch.specs.Change.{changed, with_octets}
use Rattle.narc_patch.specs.Patched.{words, header_sum}
use Rattle.narc_patch.proofs.HeaderSteps.{IsIpv4Frame}
use Rattle.narc_patch.proofs.EndsSteps.{IsEndsChange, body_sums, udp_ends, tcp_ends, raw_ends}

-- both words are written
pub words_four : (l : List ℕ) → IsIp l → (frame : List ℕ) (at : ℕ) (sums : List Checksum) → fold changed frame (words at l sums)
    ≡ with_octets (with_octets frame at (get_or l 0 0 ∷ get_or l 1 0 ∷ []) sums) (at + 2) (get_or l 2 0 ∷ get_or l 3 0 ∷ []) sums
words_four [] is frame at sums = absurd (omega (arith, is.0))
words_four (a ∷ []) is frame at sums = absurd (omega (arith, is.0))
words_four (a ∷ b ∷ []) is frame at sums = absurd (omega (arith, is.0))
words_four (a ∷ b ∷ c ∷ []) is frame at sums = absurd (omega (arith, is.0))
words_four (a ∷ b ∷ c ∷ d ∷ e ∷ l) is frame at sums = absurd (omega (arith, is.0))
words_four (a ∷ b ∷ c ∷ d ∷ []) is frame at sums =
    ap (λ s. with_octets (with_octets frame at s sums) (at + 2) (big_endian 2 (256 * c + d)) sums) (word_octets a b is.1.0 is.1.1.0)
    ∙ ap (λ s. with_octets (with_octets frame at (a ∷ b ∷ []) sums) (at + 2) s sums) (word_octets c d is.1.1.1.0 is.1.1.1.1.0)

-- both words of an address
both_words : (l : List ℕ) (a b c d : ℕ) → length l ≡ 4 → overlay (overlay l 0 (a ∷ b ∷ [])) 2 (c ∷ d ∷ []) ≡ a ∷ b ∷ c ∷ d ∷ []
unfolding overlay
both_words [] a b c d h = absurd (omega arith)
both_words (w ∷ []) a b c d h = absurd (omega arith)
both_words (w ∷ x ∷ []) a b c d h = absurd (omega arith)
both_words (w ∷ x ∷ y ∷ []) a b c d h = absurd (omega arith)
both_words (w ∷ x ∷ y ∷ z ∷ []) a b c d h = refl
both_words (w ∷ x ∷ y ∷ z ∷ v ∷ l) a b c d h = absurd (omega arith)

with_word_is : (l : List ℕ) (k : ℕ) (s : List ℕ) → IsIp l → k + length s ≤ 4 → IsOctets s → IsIp (overlay l k s)
with_word_is l k s is room each = (length-overlay l k s (omega (arith, is.0, room)) ∙ is.0, IsOctets-overlay l k s is.1 each)

module _ (mac_dst mac_src : List ℕ) (start size : ℕ) (ip : Ipv4View) where
  abbrev Frame : (src dst : List ℕ) → IpBodyView → List ℕ → Type 0
  Frame src dst body l = IsIpv4Frame mac_dst mac_src src dst start size (record ip { src = src; dst = dst; body = body }) l

  -- a word of both addresses
  ends : (body : IpBodyView) (src dst next_src next_dst : List ℕ) (k : ℕ) (octets frame : List ℕ) → IsEndsChange (record ip { src = src; dst = dst }) next_src next_dst k octets
      → Frame src dst body frame → Frame next_src next_dst body (with_octets frame (14 + (12 + k)) octets (header_sum ∷ body_sums start body))
  ends (UdpBody u) src dst next_src next_dst k octets frame c f = udp_ends mac_dst mac_src start size (record ip { src = src; dst = dst }) next_src next_dst k octets frame c u f
  ends (TcpBody t) src dst next_src next_dst k octets frame c f = tcp_ends mac_dst mac_src start size (record ip { src = src; dst = dst }) next_src next_dst k octets frame c t f
  ends (RawBody protocol payload) src dst next_src next_dst k octets frame c f = raw_ends mac_dst mac_src start size (record ip { src = src; dst = dst }) next_src next_dst k octets frame c protocol payload f

  -- a word of the source
  src_change : (src dst : List ℕ) → IsIp src → IsIp dst → (k word : ℕ) → k + 2 ≤ 4 → k + 2 ≤ k / 2 * 2 + 2 → k / 2 * 2 + 2 ≤ 8 → IsEndsChange (record ip { src = src; dst = dst }) (overlay src k (big_endian 2 word)) dst k (big_endian 2 word)
  src_change src dst s d k word room end inside = record {
    overlaid = overlay-front src dst k (big_endian 2 word) (omega (arith, s.0, room));
    next_src_is = with_word_is src k (big_endian 2 word) s room (IsOctets-big_endian 2 word);
    next_dst_is = d;
    each = IsOctets-big_endian 2 word;
    in_word = end;
    inside = inside;
  }

  -- a word of the destination
  dst_change : (src dst : List ℕ) → IsIp src → IsIp dst → (k word : ℕ) → k + 2 ≤ 4 → (4 + k) + 2 ≤ (4 + k) / 2 * 2 + 2 → (4 + k) / 2 * 2 + 2 ≤ 8 → IsEndsChange (record ip { src = src; dst = dst }) src (overlay dst k (big_endian 2 word)) (4 + k) (big_endian 2 word)
  dst_change src dst s d k word room end inside = record {
    overlaid = overlay-behind src dst 4 k (big_endian 2 word) s.0;
    next_src_is = s;
    next_dst_is = with_word_is dst k (big_endian 2 word) d room (IsOctets-big_endian 2 word);
    each = IsOctets-big_endian 2 word;
    in_word = end;
    inside = inside;
  }

  module _ (body : IpBodyView) (src dst frame : List ℕ) (f : Frame src dst body frame) where
    s : IsIp src
    s = f.in_range.src

    d : IsIp dst
    d = f.in_range.dst

    whole_address : (l : List ℕ) → IsIp l → (a b c d : ℕ) → a < 256 → b < 256 → c < 256 → d < 256 → overlay (overlay l 0 (big_endian 2 (256 * a + b))) 2 (big_endian 2 (256 * c + d)) ≡ a ∷ b ∷ c ∷ d ∷ []
    whole_address l is a b c d p q r t =
        ap (λ m. overlay (overlay l 0 m) 2 (big_endian 2 (256 * c + d))) (word_octets a b p q) ∙ ap (λ m. overlay (overlay l 0 (a ∷ b ∷ [])) 2 m) (word_octets c d r t) ∙ both_words l a b c d is.0

    pub src_step : (v : List ℕ) → IsIp v → Frame v dst body (fold changed frame (words 26 v (header_sum ∷ body_sums start body)))
    src_step [] is = absurd (omega (arith, is.0))
    src_step (a ∷ []) is = absurd (omega (arith, is.0))
    src_step (a ∷ b ∷ []) is = absurd (omega (arith, is.0))
    src_step (a ∷ b ∷ c ∷ []) is = absurd (omega (arith, is.0))
    src_step (a ∷ b ∷ c ∷ e ∷ g ∷ l) is = absurd (omega (arith, is.0))
    src_step (a ∷ b ∷ c ∷ e ∷ []) is =
        let sums = header_sum ∷ body_sums start body in
        let high = 256 * a + b in
        let low = 256 * c + e in
        let half = overlay src 0 (big_endian 2 high) in
        let one = src_change src dst s d 0 high (lit≤ tt) (lit≤ tt) (lit≤ tt) in
        let first : Frame half dst body (with_octets frame 26 (big_endian 2 high) sums) = ends body src dst half dst 0 (big_endian 2 high) frame one f in
        let two = src_change half dst one.next_src_is d 2 low (lit≤ tt) (lit≤ tt) (lit≤ tt) in
        let second : Frame (overlay half 2 (big_endian 2 low)) dst body (with_octets (with_octets frame 26 (big_endian 2 high) sums) 28 (big_endian 2 low) sums) =
        ends body half dst (overlay half 2 (big_endian 2 low)) dst 2 (big_endian 2 low) (with_octets frame 26 (big_endian 2 high) sums) two first in
        subst (λ l. Frame l dst body (with_octets (with_octets frame 26 (big_endian 2 high) sums) 28 (big_endian 2 low) sums)) (whole_address src s a b c e is.1.0 is.1.1.0 is.1.1.1.0 is.1.1.1.1.0) second

    pub dst_step : (v : List ℕ) → IsIp v → Frame src v body (fold changed frame (words 30 v (header_sum ∷ body_sums start body)))
    dst_step [] is = absurd (omega (arith, is.0))
    dst_step (a ∷ []) is = absurd (omega (arith, is.0))
    dst_step (a ∷ b ∷ []) is = absurd (omega (arith, is.0))
    dst_step (a ∷ b ∷ c ∷ []) is = absurd (omega (arith, is.0))
    dst_step (a ∷ b ∷ c ∷ e ∷ g ∷ l) is = absurd (omega (arith, is.0))
    dst_step (a ∷ b ∷ c ∷ e ∷ []) is =
        let sums = header_sum ∷ body_sums start body in
        let high = 256 * a + b in
        let low = 256 * c + e in
        let half = overlay dst 0 (big_endian 2 high) in
        let one = dst_change src dst s d 0 high (lit≤ tt) (lit≤ tt) (lit≤ tt) in
        let first : Frame src half body (with_octets frame 30 (big_endian 2 high) sums) = ends body src dst src half 4 (big_endian 2 high) frame one f in
        let two = dst_change src half s one.next_dst_is 2 low (lit≤ tt) (lit≤ tt) (lit≤ tt) in
        let second : Frame src (overlay half 2 (big_endian 2 low)) body (with_octets (with_octets frame 30 (big_endian 2 high) sums) 32 (big_endian 2 low) sums) =
        ends body src half src (overlay half 2 (big_endian 2 low)) 6 (big_endian 2 low) (with_octets frame 30 (big_endian 2 high) sums) two first in
        subst (λ l. Frame src l body (with_octets (with_octets frame 30 (big_endian 2 high) sums) 32 (big_endian 2 low) sums)) (whole_address dst d a b c e is.1.0 is.1.1.0 is.1.1.1.0 is.1.1.1.1.0) second
