-- What holds of frames after assignments, by the definitions alone.
use Rattle.std.specs.Prelude.{◌≡◌, ℕ, ◌+◌, ◌<◌, ◌≤◌, ◌⊎◌, List, length, slice_index}
use Rattle.std.specs.List.{AllByRecursion}
use Rattle.narc_packet.specs.PacketView.{PacketView}
use Rattle.narc_packet.specs.Frame.{IsFrame}
use Rattle.narc_edit.specs.declared.edits.Edits.{Edits}
use Rattle.narc_edit.specs.Ranges.{AreInRange}
use Rattle.narc_patch.specs.Change.{Change}
use Rattle.narc_edit.specs.Edited.{edited}
use Rattle.narc_patch.specs.Patched.{changes, patched}

-- A frame of a packet is, once it is patched, a frame of the edited packet, and as long.
abbrev pub PatchedIsEdited : Type 0
PatchedIsEdited = (es : Edits) → AreInRange es → (p : PacketView) (frame : List ℕ) → IsFrame p frame
    → IsFrame (edited es p) (patched es frame) × (length (patched es frame) ≡ length frame)

-- the octet at a place is none of so many from another on
abbrev pub IsOutside : (place at count : ℕ) → Type 0
IsOutside place at count = (place < at) ⊎ (at + count ≤ place)

-- the octet at a place is none that the change writes, and none of a checksum that it mends
abbrev pub IsLeft : (place : ℕ) → Change → Type 0
IsLeft place c = IsOutside place c.at c.count × AllByRecursion (λ sum. IsOutside place sum.at 2) c.sums

-- An octet stays that is in no field that is assigned, and in no checksum that is mended.
abbrev pub OtherOctetsStay : Type 0
OtherOctetsStay = (es : Edits) (frame : List ℕ) (place : ℕ) → place < length frame
    → AllByRecursion (IsLeft place) (changes es frame) → slice_index (patched es frame) place ≡ slice_index frame place
