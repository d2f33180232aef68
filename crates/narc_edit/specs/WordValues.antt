-- The values that words spell: each value has one spelling, and every other word has no value.
use Rattle.std.specs.Prelude.{ℕ, ◌+◌, ◌-◌, ◌*◌, Bool, ◌&&◌, List, [], ◌∷◌, length, map, fold, decimal, nat_eq, nat_lt, bytes_eq, Option, Some, None, option_map, if◌then◌else◌}
use Rattle.std.specs.List.{list_all, slice_split}
use Rattle.std.specs.Str.Parse.{digits_value}
use Rattle.narc_packet.specs.TextWords.{mac_word, ip_word, flags_word}

-- the value, where the word is its spelling and it is one that is wanted
abbrev pub spelled_by : {V : Type 0} → (word : List ℕ) → (V → List ℕ) → (V → Bool) → V → Option V
spelled_by word spelling is_wanted value = if bytes_eq (spelling value) word && is_wanted value then Some value else None

-- a decimal number below the limit
abbrev pub number_below : (limit : ℕ) → (word : List ℕ) → Option ℕ
number_below limit word = spelled_by word decimal (λ n. nat_lt n limit) (digits_value 10 word)

-- 1 for true, and 0 for false
abbrev pub bit_value : List ℕ → Option Bool
bit_value word = option_map (λ n. nat_eq n 1) (number_below 2 word)

abbrev pub are_octets : List ℕ → Bool
are_octets l = list_all (λ octet. nat_lt octet 256) l

abbrev pub hex_value : ℕ → ℕ
hex_value digit = if nat_lt digit 58 then digit - 48 else digit - 87

abbrev pub hex_values : List ℕ → List ℕ
hex_values [] = []
hex_values (high ∷ []) = []
hex_values (high ∷ low ∷ l) = (16 * hex_value high + hex_value low) ∷ hex_values l

-- twelve digits
abbrev pub mac_value : List ℕ → Option (List ℕ)
mac_value word = spelled_by word mac_word (λ address. nat_eq (length address) 6 && are_octets address) (hex_values word)

-- four decimal numbers joined by points
abbrev pub ip_value : List ℕ → Option (List ℕ)
ip_value word =
    spelled_by word ip_word (λ address. nat_eq (length address) 4 && are_octets address)
    (map (digits_value 10) (slice_split (λ c. nat_eq c 46) word))

-- six letters or points, the first of weight 32
abbrev pub flags_value : List ℕ → Option ℕ
flags_value word =
    spelled_by word flags_word (λ flags. nat_lt flags 64) (fold (λ n c. 2 * n + (if nat_eq c 46 then 0 else 1)) 0 word)
