-- Numbers as words: each has one, its decimal text.
use Rattle.std.specs.Prelude.{ℕ, ◌&&◌, List, decimal, nat_le, bytes_eq, Option, Some, None, if◌then◌else◌}
use Rattle.std.specs.Str.Parse.{digits_value}

-- the number of the word, where it is at most the greatest; none where the word is no number's text
abbrev pub number_up_to : (greatest : ℕ) → (word : List ℕ) → Option ℕ
number_up_to greatest word =
    let number = digits_value 10 word in
    if bytes_eq (decimal number) word && nat_le number greatest then Some number else None
