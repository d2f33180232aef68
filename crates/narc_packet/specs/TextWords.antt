-- The spellings of single words of the text form: decimal numbers are std's `decimal`.
use Rattle.std.specs.Prelude.{ℕ, ◌/◌, Bool, List, [], ◌∷◌, ◌++◌, codes, decimal, map, if◌then◌else◌}
use Rattle.std.specs.List.{join_with_byte}
use Rattle.hex.specs.Hex.{encode_lower}
use Rattle.narc_bits.specs.Bits.{is_odd}
use Rattle.narc_packet.specs.Options.{IpOptionView, IpNop, IpOther, TcpOptionView, TcpNop, TcpMss, TcpScale, TcpSackOk, TcpSack, TcpTimes, TcpOther}
use Rattle.narc_packet.specs.declared.blocks.SackBlock.{SackBlock}

-- two digits for each octet, and `-` for no octets
abbrev pub hex_word : List ℕ → List ℕ
hex_word [] = codes "-"
hex_word (octet ∷ octets) = encode_lower (octet ∷ octets)

abbrev pub mac_word : List ℕ → List ℕ
mac_word address = encode_lower address

-- four decimal numbers joined by points
abbrev pub ip_word : List ℕ → List ℕ
ip_word address = join_with_byte 46 (map decimal address)

-- each letter where its bit is set, and a point where it is not
abbrev pub marks : (letters : List ℕ) → List Bool → List ℕ
marks [] bits = []
marks (letter ∷ letters) [] = []
marks (letter ∷ letters) (bit ∷ bits) = (if bit then letter else 46) ∷ marks letters bits

-- do not fragment, and more fragments
abbrev pub fragment_marks : (df mf : Bool) → List ℕ
fragment_marks df mf = marks (codes "DM") (df ∷ mf ∷ [])

-- URG, ACK, PSH, RST, SYN and FIN
abbrev pub flags_word : (flags : ℕ) → List ℕ
flags_word flags = marks (codes "UAPRSF") (map (λ weight. is_odd (flags / weight)) (32 ∷ 16 ∷ 8 ∷ 4 ∷ 2 ∷ 1 ∷ []))

-- the edges of a block
abbrev pub block_word : SackBlock → List ℕ
block_word block = decimal block.left ++ codes "-" ++ decimal block.right

abbrev pub blocks_word : List SackBlock → List ℕ
blocks_word blocks = join_with_byte 47 (map block_word blocks)

-- an option of TCP, and one of IPv4, which has no value of its own
abbrev pub tcp_option_word : TcpOptionView → List ℕ
tcp_option_word TcpNop = codes "nop"
tcp_option_word (TcpMss size) = codes "mss:" ++ decimal size
tcp_option_word (TcpScale shift) = codes "scale:" ++ decimal shift
tcp_option_word TcpSackOk = codes "sackok"
tcp_option_word (TcpSack blocks) = codes "sack:" ++ blocks_word blocks
tcp_option_word (TcpTimes value echo) = codes "ts:" ++ decimal value ++ codes ":" ++ decimal echo
tcp_option_word (TcpOther kind octets) = codes "opt:" ++ decimal kind ++ codes ":" ++ hex_word octets

abbrev pub ip_option_word : IpOptionView → List ℕ
ip_option_word IpNop = codes "nop"
ip_option_word (IpOther kind octets) = tcp_option_word (TcpOther kind octets)

-- words joined by commas, and `-` for none
abbrev pub list_word : List (List ℕ) → List ℕ
list_word [] = codes "-"
list_word (word ∷ words) = join_with_byte 44 (word ∷ words)

abbrev pub ip_options_word : List IpOptionView → List ℕ
ip_options_word options = list_word (map ip_option_word options)

abbrev pub tcp_options_word : List TcpOptionView → List ℕ
tcp_options_word options = list_word (map tcp_option_word options)
