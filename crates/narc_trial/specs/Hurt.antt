-- Frames with one bit changed.
use Rattle.std.specs.Prelude.{ℕ, ◌+◌, ◌*◌, ◌%◌, List, length, bit_xor, slice_index, slice_set}
use Rattle.narc_packet.specs.Canonical.{canonical_frame}
use Rattle.narc_trial.specs.Made.{made}

-- the octets with the lowest bit changed in the octet at this place
abbrev pub with_bit_changed : (place : ℕ) → List ℕ → List ℕ
with_bit_changed place octets = slice_set octets place (bit_xor (slice_index octets place) 1)

-- the place in a frame of so many octets, by the packet's number
abbrev pub hurt_place : (number size : ℕ) → ℕ
hurt_place number size = (12 + 7 * number) % size

-- how many octets the frame has that is written for the packet of this number
unfoldable pub made_size : ℕ → ℕ
made_size k = length (canonical_frame (made k))

-- the frame that is written for the packet of this number, with one bit changed
unfoldable pub hurt : ℕ → List ℕ
hurt k = with_bit_changed (hurt_place k (made_size k)) (canonical_frame (made k))
