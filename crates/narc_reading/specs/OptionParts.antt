-- The parts of an option's word.
use Rattle.std.specs.Prelude.{◌≡◌, ℕ, List, [], ◌∷◌, codes, decimal}
use Rattle.narc_packet.specs.Options.{TcpOptionView, TcpNop, TcpMss, TcpScale, TcpSackOk, TcpSack, TcpTimes, TcpOther}
use Rattle.narc_packet.specs.TextWords.{hex_word, blocks_word}
use Rattle.narc_reading.specs.Reading.{IsTextOption}

abbrev pub option_name : TcpOptionView → List ℕ
option_name TcpNop = codes "nop"
option_name (TcpMss size) = codes "mss"
option_name (TcpScale shift) = codes "scale"
option_name TcpSackOk = codes "sackok"
option_name (TcpSack blocks) = codes "sack"
option_name (TcpTimes value echo) = codes "ts"
option_name (TcpOther kind octets) = codes "opt"

-- what stands behind the name
abbrev pub option_rest : TcpOptionView → List (List ℕ)
option_rest TcpNop = []
option_rest (TcpMss size) = decimal size ∷ []
option_rest (TcpScale shift) = decimal shift ∷ []
option_rest TcpSackOk = []
option_rest (TcpSack blocks) = blocks_word blocks ∷ []
option_rest (TcpTimes value echo) = decimal value ∷ decimal echo ∷ []
option_rest (TcpOther kind octets) = decimal kind ∷ hex_word octets ∷ []

-- an option of this name that has a text
abbrev pub IsNamed : (name : List ℕ) → TcpOptionView → Type 0
IsNamed name option = IsTextOption option × (option_name option ≡ name)
