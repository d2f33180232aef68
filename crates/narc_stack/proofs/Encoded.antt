-- What is written of a well-formed packet.
use Rattle.std.proofs.Common.{◌≡◌, ℕ, ◌*◌, ◌≤◌, List, ◌++◌, length, drop, ap, ◌∙◌, arith}
use Rattle.narc_bits.specs.declared.limits.TheConstants.{MAX_FRAME}
use Rattle.narc_bits.specs.Octets.{IsOctets}
use Rattle.narc_bits.specs.Bits.{bits, overlay}
use Rattle.narc_bits.proofs.Numbers.{length-bits}
use Rattle.narc_packet.specs.declared.packet.Packet.{Packet}
use Rattle.narc_packet.specs.Canonical.{canonical_frame}
use Rattle.narc_packet.specs.PacketView.{view}
use Rattle.narc_packet.specs.WellFormed.{IsWellFormed, SpellsOptions}
use Rattle.narc_stack.specs.FramePart.{frame_part}
use Rattle.narc_stack.proofs.Canonical.{canonical_is_frame}
use Rattle.narc_stack.proofs.FrameAdmits.{frame_admits}
use Rattle.narc_stack.proofs.FrameWritten.{frame_written}
use Rattle.narc_stack.proofs.Rooms.{put_front}
use Rattle.narc_stack.proofs.WellFormed.{well_formed_admitted, canonical_small}

module _ (p : Packet) (well_formed : IsWellFormed (view p)) (spelled : SpellsOptions p) where
  pub encoded_admits : frame_part.admits tt p
  unfolding frame_part
  encoded_admits = (frame_admits p).1 (well_formed_admitted (view p) well_formed, spelled)

  spelling_is : frame_part.spelling tt p ≡ bits (canonical_frame (view p))
  unfolding frame_part
  spelling_is = frame_written p (well_formed_admitted (view p) well_formed) spelled

  pub spelling_size : length (frame_part.spelling tt p) ≡ 8 * length (canonical_frame (view p))
  spelling_size = ap length spelling_is ∙ length-bits (canonical_frame (view p))

  pub encoded_small : length (canonical_frame (view p)) ≤ MAX_FRAME
  encoded_small = canonical_small (view p) well_formed

  pub spelling_small : length (frame_part.spelling tt p) ≤ 8 * MAX_FRAME
  spelling_small = omega (arith, spelling_size, encoded_small)

  -- a room that the spelling was put into
  pub encoded_front : (old new : List ℕ) → IsOctets old → IsOctets new → length (canonical_frame (view p)) ≤ length old → bits new ≡ overlay (bits old) 0 (frame_part.spelling tt p)
      → new ≡ canonical_frame (view p) ++ drop (length (canonical_frame (view p))) old
  encoded_front old new old_each new_each enough put =
      let each = (canonical_is_frame (view p) (well_formed_admitted (view p) well_formed)).octets in
      put_front old new (canonical_frame (view p)) old_each new_each each enough (put ∙ ap (overlay (bits old) 0) spelling_is)
