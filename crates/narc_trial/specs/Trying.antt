-- What a trial finds: each frame with a bit changed is decoded, and what it stands for is compared with the packet.
use Rattle.std.specs.Prelude.{◌≡◌, ◌≢◌, ℕ, ◌+◌, ◌%◌, ◌^◌, Bool, true, false, List, map, IsSome}
use Rattle.std.specs.List.{AllByRecursion, range_with_len}
use Rattle.narc_packet.specs.PacketView.{PacketView}
use Rattle.narc_packet.specs.Frame.{IsFrame}
use Rattle.narc_packet.specs.Refusal.{refusal}
use Rattle.narc_trial.specs.declared.fate.Fate.{Fate}
use Rattle.narc_trial.specs.declared.fate.Fate.TheVariants.{Same, Other, Refused}
use Rattle.narc_trial.specs.Made.{made}
use Rattle.narc_trial.specs.Hurt.{hurt}

-- what became of a frame of the packet, now that it has these octets
abbrev pub IsFate : PacketView → List ℕ → Fate → Type 0
IsFate p octets Same = IsFrame p octets
IsFate p octets Other = (q : PacketView) × (q ≢ p) × IsFrame q octets
IsFate p octets Refused = IsSome (refusal octets)

-- a number, and what became of its packet's frame
pub record Tried : Type 0 where
  pub number : ℕ
  pub fate : Fate

abbrev pub IsRightlyTried : Tried → Type 0
IsRightlyTried t = IsFate (made t.number) (hurt t.number) t.fate

-- so many numbers in a row; 0 follows the greatest of 32 bits
abbrev pub numbers : (seed count : ℕ) → List ℕ
numbers seed count = map (λ i. (seed + i) % 2 ^ 32) (range_with_len 0 count)

-- what became of the frame of each number
pub record AreTried (seed count : ℕ) (tried : List Tried) : Type 0 where
  pub all : map (λ t. t.number) tried ≡ numbers seed count
  pub right : AllByRecursion IsRightlyTried tried

abbrev pub is_same : Tried → Bool
is_same t = elim t.fate [ Same ↦ true | Other ↦ false | Refused ↦ false ]

abbrev pub is_other : Tried → Bool
is_other t = elim t.fate [ Same ↦ false | Other ↦ true | Refused ↦ false ]

abbrev pub is_refused : Tried → Bool
is_refused t = elim t.fate [ Same ↦ false | Other ↦ false | Refused ↦ true ]
