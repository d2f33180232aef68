-- The options of IPv4 (RFC 791, section 3.1) and of TCP (RFC 793, section 3.1), and the areas that hold them.
use Rattle.std.specs.Prelude.{◌≡◌, ℕ, zero, suc, ◌+◌, ◌-◌, ◌%◌, ◌<◌, ◌≤◌, ◌^◌, Bool, true, false, ◌&&◌, ◌||◌, List, [], ◌∷◌, ◌++◌, length, map, take, drop, flat_map, replicate, nat_eq, nat_lt, Option, Some, None, if◌then◌else◌}
use Rattle.std.specs.List.{AllByRecursion}
use Rattle.narc_packet.specs.declared.limits.TheConstants.{MAX_AREA, MAX_BLOCKS}
use Rattle.narc_packet.specs.declared.blocks.SackBlock.{SackBlock}
use Rattle.narc_packet.specs.declared.option_type.TcpOptionType.{TcpOptionType}
use Rattle.narc_packet.specs.declared.option_type.TcpOptionType.TheVariants.{SegmentSize, WindowScale, SackPermitted, Sack, Timestamps, Untyped}
use Rattle.narc_bits.specs.Octets.{IsOctets, big_endian, number_of}

-- an option of an IPv4 header, without where its data lies
pub data IpOptionView : Type 0 where
  IpNop : IpOptionView
  IpOther : (kind : ℕ) → (data_octets : List ℕ) → IpOptionView

-- an option of a TCP header
pub data TcpOptionView : Type 0 where
  TcpNop : TcpOptionView
  TcpMss : (size : ℕ) → TcpOptionView
  TcpScale : (shift : ℕ) → TcpOptionView
  TcpSackOk : TcpOptionView
  TcpSack : (blocks : List SackBlock) → TcpOptionView
  TcpTimes : (value echo : ℕ) → TcpOptionView
  TcpOther : (kind : ℕ) → (data_octets : List ℕ) → TcpOptionView

-- any other option: kind, the length of the whole, and the data
abbrev pub other_option : (kind : ℕ) → List ℕ → List ℕ
other_option kind octets = kind ∷ (2 + length octets) ∷ octets

abbrev pub ip_option : IpOptionView → List ℕ
ip_option IpNop = 1 ∷ []
ip_option (IpOther kind octets) = other_option kind octets

-- the two edges of a block (RFC 2018, section 3)
abbrev pub sack_block : SackBlock → List ℕ
sack_block block = big_endian 4 block.left ++ big_endian 4 block.right

-- (RFC 793, section 3.1; RFC 7323, sections 2.2 and 3.2; RFC 2018, sections 2 and 3)
abbrev pub tcp_option : TcpOptionView → List ℕ
tcp_option TcpNop = 1 ∷ []
tcp_option (TcpMss size) = 2 ∷ 4 ∷ big_endian 2 size
tcp_option (TcpScale shift) = 3 ∷ 3 ∷ shift ∷ []
tcp_option TcpSackOk = 4 ∷ 2 ∷ []
tcp_option (TcpSack blocks) = other_option 5 (flat_map sack_block blocks)
tcp_option (TcpTimes value echo) = 8 ∷ 10 ∷ big_endian 4 value ++ big_endian 4 echo
tcp_option (TcpOther kind octets) = other_option kind octets

-- an option that has a spelling
pub record IsOtherOption (kind : ℕ) (octets : List ℕ) : Type 0 where
  pub least : 2 ≤ kind
  pub kind_range : kind < 256
  pub bound : length octets ≤ 38
  pub each : IsOctets octets

abbrev pub IsIpOption : IpOptionView → Type 0
IsIpOption IpNop = Unit {0}
IsIpOption (IpOther kind octets) = IsOtherOption kind octets

-- two numbers of 32 bits
abbrev pub IsSackBlock : SackBlock → Type 0
IsSackBlock block = (block.left < 2 ^ 32) × (block.right < 2 ^ 32)

-- one to four blocks
abbrev pub AreSackBlocks : List SackBlock → Type 0
AreSackBlocks blocks = (1 ≤ length blocks) × (length blocks ≤ MAX_BLOCKS) × AllByRecursion IsSackBlock blocks

-- what an option is, by its kind and how many octets of data it has
abbrev pub tcp_option_type : (kind count : ℕ) → TcpOptionType
tcp_option_type kind count =
    if nat_eq kind 2 && nat_eq count 2 then SegmentSize
    else if nat_eq kind 3 && nat_eq count 1 then WindowScale
    else if nat_eq kind 4 && nat_eq count 0 then SackPermitted
    else if nat_eq kind 5 && (nat_eq count 8 || nat_eq count 16 || nat_eq count 24 || nat_eq count 32) then Sack
    else if nat_eq kind 8 && nat_eq count 8 then Timestamps
    else Untyped

-- any other option has no kind and length of an option with a value of its own
abbrev pub IsTcpOption : TcpOptionView → Type 0
IsTcpOption TcpNop = Unit {0}
IsTcpOption (TcpMss size) = size < 2 ^ 16
IsTcpOption (TcpScale shift) = shift < 2 ^ 8
IsTcpOption TcpSackOk = Unit {0}
IsTcpOption (TcpSack blocks) = AreSackBlocks blocks
IsTcpOption (TcpTimes value echo) = (value < 2 ^ 32) × (echo < 2 ^ 32)
IsTcpOption (TcpOther kind octets) = IsOtherOption kind octets × (tcp_option_type kind (length octets) ≡ Untyped)

-- nothing, or an end of the option list and any octets after it
abbrev pub IsListEnd : List ℕ → Type 0
IsListEnd [] = Unit {0}
IsListEnd (octet ∷ l) = octet ≡ 0

-- The area has these options in order, and then the end of the list.
pub record IsArea {O : Type 0} (spelling : O → List ℕ) (IsOption : O → Type 0) (options : List O) (area : List ℕ) : Type 0 where
  pub rest : List ℕ
  pub layout : area ≡ flat_map spelling options ++ rest
  pub ended : IsListEnd rest
  pub each : AllByRecursion IsOption options
  pub octets : IsOctets area
  pub whole_words : length area % 4 ≡ 0
  pub bound : length area ≤ MAX_AREA

abbrev pub IsIpArea : List IpOptionView → List ℕ → Type 0
IsIpArea options area = IsArea ip_option IsIpOption options area

abbrev pub IsTcpArea : List TcpOptionView → List ℕ → Type 0
IsTcpArea options area = IsArea tcp_option IsTcpOption options area

-- the spellings and the fewest octets 0 that fill a 32-bit word
abbrev pub filled : List ℕ → List ℕ
filled spellings = spellings ++ replicate ((4 - length spellings % 4) % 4) 0

-- the shortest areas
abbrev pub ip_area : List IpOptionView → List ℕ
ip_area options = filled (flat_map ip_option options)

abbrev pub tcp_area : List TcpOptionView → List ℕ
tcp_area options = filled (flat_map tcp_option options)

-- A list that stands in an option's place is no option: a kind above 1 with no length, or with a length
-- below 2 or past the list.
abbrev pub is_bad_option : List ℕ → Bool
is_bad_option [] = false
is_bad_option (zero ∷ l) = false
is_bad_option (suc zero ∷ l) = false
is_bad_option (suc (suc kind) ∷ []) = true
is_bad_option (suc (suc kind) ∷ len ∷ l) = nat_lt len 2 || nat_lt (2 + length l) len

-- the octets of the option in front that come after its first
abbrev pub option_rest : List ℕ → ℕ
option_rest (suc (suc kind) ∷ len ∷ l) = len - 1
option_rest l = 0

-- the option in front, where it is none that is bad and no end
abbrev pub first_option : List ℕ → IpOptionView
first_option (suc (suc kind) ∷ len ∷ l) = IpOther (suc (suc kind)) (take (len - 2) l)
first_option l = IpNop

-- The options in order, and what is left behind them: nothing, an end of the list, or what begins with a bad option. Behind
-- skip octets of an option the next one begins.
abbrev pub walked : (skip : ℕ) → List ℕ → List IpOptionView × List ℕ
walked skip [] = ([], [])
walked (suc skip) (octet ∷ l) = walked skip l
walked zero (zero ∷ l) = ([], zero ∷ l)
walked zero (suc octet ∷ l) =
    let next = walked (option_rest (suc octet ∷ l)) l in
    if is_bad_option (suc octet ∷ l) then ([], suc octet ∷ l) else (first_option (suc octet ∷ l) ∷ next.0, next.1)

abbrev pub ip_options_in : List ℕ → List IpOptionView
ip_options_in spelled = (walked 0 spelled).0

-- the place of the first bad option in the area
abbrev pub bad_option : List ℕ → Option ℕ
bad_option area =
    let rest = (walked 0 area).1 in
    if is_bad_option rest then Some (length area - length rest) else None

-- the whole blocks in octets, in order
abbrev pub sack_blocks_in : List ℕ → List SackBlock
sack_blocks_in (a ∷ b ∷ c ∷ d ∷ e ∷ f ∷ g ∷ h ∷ l) = record { left = number_of (a ∷ b ∷ c ∷ d ∷ []); right = number_of (e ∷ f ∷ g ∷ h ∷ []) } ∷ sack_blocks_in l
sack_blocks_in l = []

-- the octets are the spellings of the blocks in them, and nothing else
abbrev pub AreSpelledBlocks : List ℕ → Type 0
AreSpelledBlocks spelled = (flat_map sack_block (sack_blocks_in spelled) ≡ spelled) × AllByRecursion IsSackBlock (sack_blocks_in spelled)

-- the option of this type with this kind and data
abbrev pub typed_option : TcpOptionType → (kind : ℕ) → (data_octets : List ℕ) → TcpOptionView
typed_option SegmentSize kind octets = TcpMss (number_of octets)
typed_option WindowScale kind octets = TcpScale (number_of octets)
typed_option SackPermitted kind octets = TcpSackOk
typed_option Sack kind octets = TcpSack (sack_blocks_in octets)
typed_option Timestamps kind octets = TcpTimes (number_of (take 4 octets)) (number_of (drop 4 octets))
typed_option Untyped kind octets = TcpOther kind octets

-- the option of TCP that is spelled like this one of IPv4
abbrev pub tcp_option_of : IpOptionView → TcpOptionView
tcp_option_of IpNop = TcpNop
tcp_option_of (IpOther kind octets) = typed_option (tcp_option_type kind (length octets)) kind octets

abbrev pub tcp_options_in : List ℕ → List TcpOptionView
tcp_options_in spelled = map tcp_option_of (ip_options_in spelled)

-- the octets are the spellings of the options in them, and nothing else
abbrev pub AreIpOptions : List ℕ → Type 0
AreIpOptions spelled = (flat_map ip_option (ip_options_in spelled) ≡ spelled) × AllByRecursion IsIpOption (ip_options_in spelled)

abbrev pub AreTcpOptions : List ℕ → Type 0
AreTcpOptions spelled = (flat_map tcp_option (tcp_options_in spelled) ≡ spelled) × AllByRecursion IsTcpOption (tcp_options_in spelled)
