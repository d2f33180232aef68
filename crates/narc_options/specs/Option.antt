-- An option and an options area, as headers of IPv4 (RFC 791, section 3.1) and TCP (RFC 793, section 3.1) have them.
use Rattle.std.specs.Prelude.{ℕ, ◌-◌, ◌^◌, ◌<◌, Bool, not, ◌&&◌, List, nat_eq, nat_lt, if◌then◌else◌}
use Rattle.std.specs.Borrow.{Bor}
use Rattle.narc_format.specs.Meaning.{Meaning}
use Rattle.narc_scalar.specs.Word.{word}
use Rattle.narc_scalar.specs.Tested.{tested}
use Rattle.narc_compose.specs.declared.either.Either.{Either}
use Rattle.narc_compose.specs.declared.either.Either.TheVariants.{Left, Right}
use Rattle.narc_compose.specs.Measured.{measured}
use Rattle.narc_compose.specs.Seq.{seq}
use Rattle.narc_compose.specs.Union.{united}
use Rattle.narc_list.specs.Bytes.{all_octets}
use Rattle.narc_list.specs.Pad.{padding}
use Rattle.narc_list.specs.Region.{region}
use Rattle.narc_list.specs.Until.{until}

-- kind 0 ends the list
abbrev pub is_kind : Unit {0} → ℕ → Bool
is_kind c kind = not (nat_eq kind 0)

abbrev pub is_option_length : Unit {0} → ℕ → Bool
is_option_length c n = nat_lt 1 n && nat_lt n 41

-- no operation is a kind alone
abbrev pub by_kind : ℕ → Either ℕ (Unit {0})
by_kind kind = if nat_eq kind 1 then Left 0 else Right tt

-- the kind, and the length and the data that it has
abbrev pub RawOption : Type 0
RawOption = ℕ × Either (Unit {0}) (ℕ × Bor (List ℕ))

abbrev pub option_kind : Meaning (Unit {0}) ℕ
option_kind = tested is_kind (word 8)

abbrev pub option_length : Meaning (Unit {0}) ℕ
option_length = tested is_option_length (word 8)

-- all octets that are there
abbrev pub any_octets : Meaning ℕ (Bor (List ℕ))
any_octets = measured {C = ℕ} {D = Unit {0}} (λ c n. tt) (λ c. tt) (λ c. c < 2 ^ 64) all_octets

-- what `Data` means
abbrev pub option_data : Meaning ℕ (Bor (List ℕ))
option_data = region (λ c. c) any_octets

-- what `Nothing` means
abbrev pub nothing : Meaning ℕ (Unit {0})
nothing = region (λ c. c) padding

abbrev pub length_and_data : Meaning (Unit {0}) (ℕ × Bor (List ℕ))
length_and_data = seq {C = Unit {0}} {CA = Unit {0}} {CB = ℕ} (λ c. c) (λ c n. n - 2) (λ c. Unit {0}) option_length option_data

abbrev pub behind_kind : Meaning ℕ (Either (Unit {0}) (ℕ × Bor (List ℕ)))
behind_kind = united by_kind (λ kind. kind < 2 ^ 64) nothing length_and_data

-- what `OptionFields` means
abbrev pub option_fields : Meaning (Unit {0}) RawOption
option_fields = seq {C = Unit {0}} {CA = Unit {0}} {CB = ℕ} (λ c. c) (λ c kind. kind) (λ c. Unit {0}) option_kind behind_kind

-- what `OptionArea` means
abbrev pub option_area : Meaning ℕ (Bor (List ℕ))
option_area = until 40 (λ c. c) (λ c. c < 2 ^ 64) option_fields

-- what `OptionRegion` means
abbrev pub option_region : Meaning ℕ (Bor (List ℕ))
option_region = region (λ c. c) option_area
