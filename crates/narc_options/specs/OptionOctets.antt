-- The octets of an option and of an options area, and the row that refuses an area.
use Rattle.std.specs.Prelude.{◌≡◌, ◌↔◌, ℕ, ◌+◌, ◌≤◌, Bool, List, [], ◌∷◌, ◌++◌, length}
use Rattle.std.specs.Borrow.{Bor}
use Rattle.narc_bits.specs.Octets.{IsOctets}
use Rattle.narc_bits.specs.Bits.{bits}
use Rattle.narc_format.specs.declared.fault.Fault.{Fault}
use Rattle.narc_format.specs.Meaning.{Meaning}
use Rattle.narc_layout.specs.FirstFault.{IsFirstFault}
use Rattle.narc_compose.specs.declared.either.Either.TheVariants.{Left, Right}
use Rattle.narc_packet.specs.Options.{IpOptionView, IpNop, IpOther, ip_option, IsOtherOption, IsListEnd, AreIpOptions}
use Rattle.narc_packet.specs.Refusal.{options_row}
use Rattle.narc_options.specs.Option.{RawOption}

-- the fields are those of an option that has a spelling
abbrev pub IsRawOption : RawOption → Type 0
IsRawOption (kind, Left u) = kind ≡ 1
IsRawOption (kind, Right rest) = IsOtherOption kind rest.1.now × (rest.0 ≡ 2 + length rest.1.now)

abbrev pub raw_view : RawOption → IpOptionView
raw_view (kind, Left u) = IpNop
raw_view (kind, Right rest) = IpOther kind rest.1.now

-- exactly the spellings of options stand for their fields
abbrev pub AreItsFields : Meaning (Unit {0}) RawOption → Type 0
AreItsFields m = (v : RawOption) (b : List Bool) → m.stands tt v b ↔ (IsRawOption v × (b ≡ bits (ip_option (raw_view v))))

-- The bits stand for fields that are seen as this option.
pub record StandsFor {O : Type 0} (option_of : IpOptionView → O) (m : Meaning (Unit {0}) RawOption) (option : O) (b : List Bool) : Type 0 where
  pub fields : RawOption
  pub is : option_of (raw_view fields) ≡ option
  pub stood : m.stands tt fields b

-- exactly the spelling of an option stands for it
abbrev pub IsItsOption : {O : Type 0} → (IpOptionView → O) → (O → Type 0) → (O → List ℕ) → Meaning (Unit {0}) RawOption → Type 0
IsItsOption {O} option_of IsOption spelling m = (option : O) (b : List Bool) → StandsFor option_of m option b ↔ (IsOption option × (b ≡ bits (spelling option)))

-- The octets are these spellings of options, and then an end; at most 40.
pub record IsAreaOf (spelled area : List ℕ) : Type 0 where
  pub short : length area ≤ 40
  pub are : AreIpOptions spelled
  pub rest : List ℕ
  pub joined : area ≡ spelled ++ rest
  pub ended : IsListEnd rest

-- exactly the octets of an area stand for the octets that spell its options
abbrev pub IsItsArea : Meaning ℕ (Bor (List ℕ)) → Type 0
IsItsArea m = (c : ℕ) (v : Bor (List ℕ)) (area : List ℕ) → IsOctets area → m.stands c v (bits area) ↔ IsAreaOf v.now area

-- up to 40 octets are refused exactly where an option in them is bad, at the first
abbrev pub IsRefusedByRow : Meaning ℕ (Bor (List ℕ)) → Type 0
IsRefusedByRow m = (c start : ℕ) (area : List ℕ) → IsOctets area → length area ≤ 40 → (f : Fault) → m.refuses c (bits area) f ↔ IsFirstFault start (options_row 0 start area ∷ []) f
