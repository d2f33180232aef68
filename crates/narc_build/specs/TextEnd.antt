-- How the making of a capture ends behind the last line of its text.
use Rattle.std.specs.Prelude.{◌≡◌, ◌<◌, ℕ, [], List, length, Option, Result, Ok, Err}
use Rattle.narc_world.specs.declared.error.Failed.{Failed}
use Rattle.narc_world.specs.Outside.{Appends, IsEmptyWhereTold}
use Rattle.narc_world.specs.Intake.{Holds, Exceeds, taken}
use Rattle.narc_pcap.specs.Written.{Gathered}
use Rattle.narc_lines.specs.Reading.{Reading}
use Rattle.narc_build.specs.declared.ending.Built.{Built}
use Rattle.narc_build.specs.declared.ending.Built.TheVariants.{Done, Bad, ReadFault, Long}
use Rattle.narc_build.specs.Building.{WroteFront}

module _ (before now : Reading) (left left_after : Option (List ℕ)) where
  -- nothing stands behind it, or something does, or that is not known
  abbrev pub EndsBehind : Built → Type 0
  EndsBehind Done = Holds before.input now.input left left_after × (now.input.hand ≡ []) × IsEmptyWhereTold left_after
  EndsBehind (Bad at) = (at ≡ before.input.place) × Holds before.input now.input left left_after × (0 < length now.input.hand)
  EndsBehind (ReadFault at) = (at ≡ taken now.input) × Holds before.input now.input left left_after × (now.input.hand ≡ [])
  EndsBehind Long = Exceeds before.input now.input left left_after × (now.input.hand ≡ [])

  -- all that was gathered was pushed before; or the sink failed, and nothing was pulled
  abbrev pub IsTextEnded : Gathered → (held held_after : Option (List ℕ)) → Result Built Failed → Type 0
  IsTextEnded writer held held_after (Ok ending) = Appends writer.octets held held_after × EndsBehind ending
  IsTextEnded writer held held_after (Err e) = WroteFront writer.octets held held_after × (now ≡ before) × (left_after ≡ left)
