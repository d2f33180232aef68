-- Exits of `?` at which no text of a value was found.
use Rattle.std.proofs.Common.{◌≡◌, ◌≢◌, ℕ, List, ◌∷◌, Result, Ok, Err, ap, ◌∙◌}
use Rattle.std.specs.Prelude.{IsErr, OnErr}
use Rattle.narc_reading.specs.declared.error.BadLine.{BadLine}
use Rattle.narc_reading.specs.Reading.{IsReadBy, IsPartRead}

pub IsReadBy-refused : {T V X : Type 0} (view : T → V) (text : V → X) (IsValue : V → Type 0) (before : X) (r : Result T BadLine) → IsErr r
    → ((v : V) → IsValue v → before ≢ text v) → IsReadBy view text IsValue before r
IsReadBy-refused view text IsValue before (Ok t) e none = cc e
IsReadBy-refused view text IsValue before (Err b) e none = none

pub IsPartRead-refused : {V : Type 0} (text : V → List ℕ) (IsValue : V → Type 0) (before after : List (List ℕ)) (r : Result V BadLine) → IsErr r
    → ((v : V) (rest : List (List ℕ)) → IsValue v → before ≢ text v ∷ rest) → IsPartRead text IsValue before after r
IsPartRead-refused text IsValue before after (Ok v) e none = cc e
IsPartRead-refused text IsValue before after (Err b) e none = none

-- the parts behind the first
pub behind : {before after rest : List (List ℕ)} {a b : List ℕ} → before ≡ a ∷ after → before ≡ b ∷ rest → after ≡ rest
behind e f = cc (e, f)

-- a part in front of those that were found
pub front : {before middle rest : List (List ℕ)} (a : List ℕ) → before ≡ a ∷ middle → middle ≡ rest → before ≡ a ∷ rest
front a e f = e ∙ ap (λ l. a ∷ l) f

pub first : {rest more : List (List ℕ)} {a b : List ℕ} → a ∷ rest ≡ b ∷ more → a ≡ b
first e = cc e

pub others : {rest more : List (List ℕ)} {a b : List ℕ} → a ∷ rest ≡ b ∷ more → rest ≡ more
others e = cc e

pub OnErr-refused : {T Q : Type 0} (r : Result T BadLine) → Q → OnErr r Q
OnErr-refused (Ok t) q = tt
OnErr-refused (Err e) q = q
