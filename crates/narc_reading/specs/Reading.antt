-- Reading text: what is read is the text of the value that is answered, or the text of no value.
use Rattle.std.specs.Prelude.{◌≡◌, ◌≢◌, ◌<◌, ◌≤◌, ◌^◌, ℕ, List, [], ◌∷◌, ◌++◌, length, Result, Ok, Err}
use Rattle.narc_bits.specs.Octets.{IsOctets}
use Rattle.narc_packet.specs.declared.limits.TheConstants.{MAX_AREA}
use Rattle.narc_packet.specs.Options.{IpOptionView, IpNop, IpOther, TcpOptionView, TcpNop, TcpMss, TcpScale, TcpSackOk, TcpSack, TcpTimes, TcpOther, AreSackBlocks, ip_option, tcp_option, IsIpOption, IsTcpOption}
use Rattle.narc_packet.specs.WellFormed.{FitArea}
use Rattle.narc_packet.specs.PacketView.{view}
use Rattle.narc_text.specs.CaptureText.{TextEntry}
use Rattle.narc_reading.specs.declared.error.BadLine.{BadLine}
use Rattle.narc_reading.specs.declared.lines.RecordLine.{RecordLine}

-- These octets, or words, are the text of the value that is answered, or of no value.
abbrev pub IsReadBy : {T V X : Type 0} → (view : T → V) → (text : V → X) → (IsValue : V → Type 0) → (before : X) → Result T BadLine → Type 0
IsReadBy view text IsValue before (Ok value) = IsValue (view value) × (before ≡ text (view value))
IsReadBy view text IsValue before (Err e) = (v : _) → IsValue v → before ≢ text v

abbrev pub IsRead : {V X : Type 0} → (text : V → X) → (IsValue : V → Type 0) → (before : X) → Result V BadLine → Type 0
IsRead text IsValue before result = IsReadBy (λ value. value) text IsValue before result

-- The first part is the text of the value that is answered, and the others are left; or it is the text of no value.
abbrev pub IsPartRead : {V : Type 0} → (text : V → List ℕ) → (IsValue : V → Type 0) → (before after : List (List ℕ)) → Result V BadLine → Type 0
IsPartRead text IsValue before after (Ok value) = IsValue value × (before ≡ text value ∷ after)
IsPartRead text IsValue before after (Err e) = (v : _) (rest : List (List ℕ)) → IsValue v → before ≢ text v ∷ rest

-- octets of which there are at most so many
abbrev pub IsWithin : (most : ℕ) → List ℕ → Type 0
IsWithin most octets = IsOctets octets × (length octets ≤ most)

-- an option that has a text
abbrev pub IsTextOption : TcpOptionView → Type 0
IsTextOption TcpNop = Unit {0}
IsTextOption (TcpMss size) = size < 2 ^ 16
IsTextOption (TcpScale shift) = shift < 2 ^ 8
IsTextOption TcpSackOk = Unit {0}
IsTextOption (TcpSack blocks) = AreSackBlocks blocks
IsTextOption (TcpTimes value echo) = (value < 2 ^ 32) × (echo < 2 ^ 32)
IsTextOption (TcpOther kind octets) = (kind < 256) × IsWithin MAX_AREA octets

-- a record's line, without where its packet lies
abbrev pub entry_view : RecordLine → TextEntry
entry_view r = record { sec = r.sec; sub = r.sub; packet = view r.packet }

-- The word is an option's, which is appended. All options then fit an area.
pub record IsOptionPushed {O : Type 0} (word_of spelling : O → List ℕ) (IsOption : O → Type 0) (word : List ℕ) (before after : List O) : Type 0 where
  pub option : O
  pub is : word ≡ word_of option
  pub appended : after ≡ before ++ option ∷ []
  pub fits : FitArea spelling IsOption after

-- the word is of no option that can be appended
abbrev pub IsNoOption : {O : Type 0} → (word_of spelling : O → List ℕ) → (IsOption : O → Type 0) → (word : List ℕ) → (before : List O) → Type 0
IsNoOption word_of spelling IsOption word before = (option : _) → FitArea spelling IsOption (before ++ option ∷ []) → word ≢ word_of option

abbrev pub FitIpArea : List IpOptionView → Type 0
FitIpArea options = FitArea ip_option IsIpOption options

abbrev pub FitTcpArea : List TcpOptionView → Type 0
FitTcpArea options = FitArea tcp_option IsTcpOption options

-- an option of IPv4, as the one of TCP that has its word
abbrev pub as_tcp : IpOptionView → TcpOptionView
as_tcp IpNop = TcpNop
as_tcp (IpOther kind octets) = TcpOther kind octets
