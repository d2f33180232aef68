-- The octets of an input that are in hand, in a buffer of a fixed size.
use Rattle.std.specs.Prelude.{◌≡◌, ℕ, ◌+◌, ◌-◌, ◌<◌, ◌≤◌, List, [], ◌∷◌, ◌++◌, length, Option}
use Rattle.narc_world.specs.Outside.{TakesFront, IsEmptyWhereTold}
use Rattle.narc_world.specs.declared.input_buffer.TheConstants.{INPUT_LIMIT}
use Rattle.narc_world.specs.declared.input_buffer.Refill.{Refill}
use Rattle.narc_world.specs.declared.input_buffer.Refill.TheVariants as refill
use Rattle.narc_world.specs.declared.source.Pulled.{Pulled}
use Rattle.narc_world.specs.declared.source.Pulled.TheVariants.{Got, End, Failed}

-- what contracts see of a buffer
pub record Intake : Type 0 where
  -- the part that was passed last
  pub passed : List ℕ
  -- the octets in hand, which no one has used yet, and the place of the first of them
  pub hand : List ℕ
  pub place : ℕ
  -- how many octets there is room for
  pub size : ℕ

-- how many octets were taken
abbrev pub taken : Intake → ℕ
taken i = i.place + length i.hand

-- nothing was taken
pub record IsFresh (i : Intake) : Type 0 where
  pub passed : i.passed ≡ []
  pub hand : i.hand ≡ []
  pub place : i.place ≡ 0

-- the part that was passed stands from start to end, and the octets in hand behind it
pub record IsLaidOut (buffer : List ℕ) (start end from to place : ℕ) : Type 0 where
  pub passed : start ≤ end
  pub behind : end ≤ from
  pub hand : from ≤ to
  pub within : to ≤ length buffer
  pub limit : place + (to - from) ≤ INPUT_LIMIT

module _ (before now : Intake) (left left_after : Option (List ℕ)) where
  -- octets were pulled, and all stay in hand
  pub record Holds : Type 0 where
    pub pulled : List ℕ
    pub took : TakesFront pulled left left_after
    pub hand : now.hand ≡ before.hand ++ pulled
    pub place : now.place ≡ before.place
    pub size : now.size ≡ before.size

  -- as many octets were taken as an input may have, and another one came
  pub record Exceeds : Type 0 where
    pub pulled : List ℕ
    pub octet : ℕ
    pub took : TakesFront (pulled ++ octet ∷ []) left left_after
    pub hand : now.hand ≡ before.hand ++ pulled
    pub place : now.place ≡ before.place
    pub size : now.size ≡ before.size
    pub reached : taken now ≡ INPUT_LIMIT

  -- one pull, which never takes more than an input may have
  abbrev pub IsRefilled : Refill → Type 0
  IsRefilled refill.Got = Holds × (length before.hand < length now.hand)
  IsRefilled refill.End = Holds × (now.hand ≡ before.hand) × IsEmptyWhereTold left_after
  IsRefilled refill.Failed = Holds × (now.hand ≡ before.hand)
  IsRefilled refill.Long = Exceeds × (now.hand ≡ before.hand)

-- a fault of the source was counted, where one is answered
abbrev pub RefillFault : Refill → Type 0 → Type 0
RefillFault refill.Failed P = P
RefillFault refill.Got P = Unit {0}
RefillFault refill.End P = Unit {0}
RefillFault refill.Long P = Unit {0}

-- octets went from the source, to stand behind those in hand
pub record Pulls (before after : List ℕ) (left_before left_after : Option (List ℕ)) : Type 0 where
  pub pulled : List ℕ
  pub took : TakesFront pulled left_before left_after
  pub joined : after ≡ before ++ pulled

abbrev pub IsPulledBehind : Pulled → (most : ℕ) → (before after : List ℕ) → (left_before left_after : Option (List ℕ)) → Type 0
IsPulledBehind (Got n) most before after left left_after =
    (0 < n) × (n ≤ most) × (length after ≡ length before + n) × Pulls before after left left_after
IsPulledBehind End most before after left left_after = (after ≡ before) × TakesFront [] left left_after × IsEmptyWhereTold left_after
IsPulledBehind Failed most before after left left_after = (after ≡ before) × TakesFront [] left left_after

-- how many octets a pull gave
abbrev pub got : Pulled → ℕ
got (Got n) = n
got End = 0
got Failed = 0
