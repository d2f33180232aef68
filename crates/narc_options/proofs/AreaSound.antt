-- The conditions of the rules of an options area, and in how many octets its options can be written.
use Rattle.std.proofs.Common.{ℕ, ◌^◌, ◌<◌, ◌≤◌, List, length, arith}
use Rattle.std.specs.Borrow.{Bor}
use Rattle.narc_list.specs.Region.{region}
use Rattle.narc_list.specs.Until.{UntilSound, until}
use Rattle.narc_list.specs.UntilLaws.{until_fills, length-filled}
use Rattle.narc_options.specs.Option.{option_fields, option_area, option_region}
use Rattle.narc_options.proofs.OptionSound.{option_sound, option_valid, option_begins}

conditions : UntilSound {C = ℕ} 40 (λ c. c) (λ c. c < 2 ^ 64) option_fields
conditions = record { item_sound = option_sound; item_valid = option_valid; begins = option_begins }

pub area_sound : option_area.sound
unfolding until
area_sound = conditions

-- an area is written in as many octets as it was read in
pub region_sound : option_region.sound
unfolding region until
region_sound = record { part_sound = conditions; fills = λ c ok v b size p. until_fills 40 (λ c. c) (λ c. c < 2 ^ 64) option_fields c v.now b size p }

pub region_valid : (n : ℕ) → n < 2 ^ 64 → option_region.valid n
unfolding region until
region_valid n h = h

-- regions of up to 40 octets in which these options fit
pub record CanFit (v : Bor (List ℕ)) (n : ℕ) : Type 0 where
  pub short : length v.now ≤ 40
  pub fits : length v.now ≤ n
  pub most : n ≤ 40
  pub other : (m : ℕ) → length v.now ≤ m → m ≤ 40 → option_region.admits m v

-- options that some region holds can be written in any that they fit in
pub region_chosen : (n : ℕ) (v : Bor (List ℕ)) → option_region.admits n v → CanFit v n
unfolding region until
region_chosen n v a =
    let short = a.admitted.short in
    let size = length-filled 40 (λ (c : ℕ). c) (λ c. c < 2 ^ 64) option_fields n v.now in
    record {
      short = short;
      fits = omega (arith, short, a.filled, size);
      most = omega (arith, short, a.filled, size);
      other = λ m least most. record { admitted = a.admitted; filled = omega (arith, least, most, length-filled 40 (λ (c : ℕ). c) (λ c. c < 2 ^ 64) option_fields m v.now) };
    }
