-- Lines of text. Each ends with a line feed.
use Rattle.std.specs.Prelude.{ℕ, List, [], ◌∷◌, ◌++◌, codes}
use Rattle.narc_packet.specs.PacketView.{PacketView}
use Rattle.narc_text.specs.PacketText.{text, spaced}

abbrev pub line_of_words : List (List ℕ) → List ℕ
line_of_words words = spaced words ++ 10 ∷ []

-- what is said of a frame with this packet
abbrev pub ok_line : PacketView → List ℕ
ok_line p = codes "ok " ++ text p ++ 10 ∷ []
