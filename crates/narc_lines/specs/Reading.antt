-- What contracts see of a reader of lines, and what its calls answer.
use Rattle.std.specs.Prelude.{◌≡◌, ℕ, ◌+◌, ◌<◌, ◌≤◌, List, [], ◌∷◌, ◌++◌, length, take, Option}
use Rattle.narc_world.specs.Outside.{TakesFront, IsEmptyWhereTold}
use Rattle.narc_world.specs.Intake.{Intake, Holds, Exceeds}
use Rattle.narc_lines.specs.Lines.{HasNoFeed, IsLine, BeginsLine, IsOpen, IsEndless}
use Rattle.narc_lines.specs.declared.reader.Ahead.{Ahead}
use Rattle.narc_lines.specs.declared.reader.Ahead.TheVariants as ahead
use Rattle.narc_lines.specs.declared.reader.Behind.{Behind}
use Rattle.narc_lines.specs.declared.reader.Behind.TheVariants as behind
use Rattle.narc_lines.specs.declared.reader.NextLine.{NextLine}
use Rattle.narc_lines.specs.declared.reader.NextLine.TheVariants as next

pub record Reading : Type 0 where
  -- what is in hand, behind the last line with its line feed
  pub input : Intake
  -- the most octets of a line, its line feed among them
  pub longest : ℕ

-- any line has its place; no line feed stands in the octets that were looked through
pub record IsReading (input : Intake) (longest through : ℕ) : Type 0 where
  pub room : longest ≤ input.size
  pub within : through ≤ length input.hand
  pub fits : through ≤ longest
  pub none : HasNoFeed (take through input.hand)

-- what the octets in hand begin with
abbrev pub IsAhead : (longest : ℕ) → (hand : List ℕ) → Ahead → Type 0
IsAhead longest hand (ahead.Line count) = BeginsLine hand count × (count ≤ longest)
IsAhead longest hand ahead.Open = IsOpen longest hand
IsAhead longest hand ahead.Endless = IsEndless longest hand

-- how a text ends with these octets
abbrev pub end_of : (hand : List ℕ) → NextLine
end_of [] = next.End
end_of (octet ∷ octets) = next.Torn

-- the next call answers without a pull
abbrev pub IsReady : Reading → Type 0
IsReady r = IsOpen r.longest r.input.hand → ⊥

module _ (before now : Reading) (left left_after : Option (List ℕ)) where
  -- the octets in hand began with a line, which is passed with its line feed
  pub record Passes : Type 0 where
    pub pulled : List ℕ
    pub took : TakesFront pulled left left_after
    pub line : IsLine now.input.passed
    pub fits : length now.input.passed ≤ before.longest
    pub hand : before.input.hand ++ pulled ≡ now.input.passed ++ now.input.hand
    pub place : now.input.place ≡ before.input.place + length now.input.passed
    pub size : now.input.size ≡ before.input.size

  -- octets were pulled, and all stay in hand
  abbrev pub HoldsAll : Type 0
  HoldsAll = Holds before.input now.input left left_after

  abbrev pub IsNext : NextLine → Type 0
  IsNext next.Line = Passes
  IsNext next.End = HoldsAll × (now.input.hand ≡ []) × IsEmptyWhereTold left_after
  IsNext next.Torn = HoldsAll × IsOpen before.longest now.input.hand × (0 < length now.input.hand) × IsEmptyWhereTold left_after
  IsNext next.Endless = HoldsAll × IsEndless before.longest now.input.hand
  IsNext next.ReadFault = HoldsAll × IsOpen before.longest now.input.hand
  IsNext next.Long = Exceeds before.input now.input left left_after × IsOpen before.longest now.input.hand

  abbrev pub IsBehind : Behind → Type 0
  IsBehind behind.End = HoldsAll × (now.input.hand ≡ []) × IsEmptyWhereTold left_after
  IsBehind behind.More = HoldsAll × (0 < length now.input.hand)
  IsBehind behind.ReadFault = HoldsAll × (now.input.hand ≡ [])
  IsBehind behind.Long = Exceeds before.input now.input left left_after × (now.input.hand ≡ [])

-- a fault of the source was counted, where one is answered
abbrev pub NextFault : NextLine → Type 0 → Type 0
NextFault next.ReadFault P = P
NextFault next.Line P = Unit {0}
NextFault next.End P = Unit {0}
NextFault next.Torn P = Unit {0}
NextFault next.Endless P = Unit {0}
NextFault next.Long P = Unit {0}

abbrev pub BehindFault : Behind → Type 0 → Type 0
BehindFault behind.ReadFault P = P
BehindFault behind.End P = Unit {0}
BehindFault behind.More P = Unit {0}
BehindFault behind.Long P = Unit {0}
