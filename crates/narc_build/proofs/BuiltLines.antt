-- What is built of one line.
use Rattle.std.proofs.Common.{◌≡◌, ◌≢◌, ℕ, Bool, true, false, List, Result, Ok, Err, refl, ap, ◌∙◌}
use Rattle.std.specs.Prelude.{IsErr, MatchBool, nat_eq}
use Rattle.std.proofs.lemmas.Bool.{eqb-true, eq-eqb}
use Rattle.narc_pcap.specs.Written.{Gathered}
use Rattle.narc_reading.specs.declared.error.BadLine.{BadLine}
use Rattle.narc_text.specs.CaptureText.{end_line}
use Rattle.narc_build.specs.BuiltLine.{IsHeaderBuilt, IsNoHeaderLine}

-- the answer is handed on
pub no_header : (line : List ℕ) (w : Gathered) (r : Result Unit BadLine) → IsErr r → IsNoHeaderLine line → IsHeaderBuilt line w w r
no_header line w (Ok done) e none = cc
no_header line w (Err f) e none = (refl, none)

-- the last line of so many records is that of no other number
pub end_told : (line : List ℕ) (packets records : ℕ) → line ≡ end_line packets packets 0 0 → (line ≡ end_line records records 0 0 → packets ≡ records)
    → MatchBool (nat_eq packets records) (line ≡ end_line records records 0 0) (line ≢ end_line records records 0 0)
end_told line packets records is only = at (nat_eq packets records) refl where
  at : (b : Bool) → nat_eq packets records ≡ b → MatchBool b (line ≡ end_line records records 0 0) (line ≢ end_line records records 0 0)
  at true e = is ∙ ap (λ n. end_line n n 0 0) (eqb-true packets records e)
  at false e = λ other. let yes : nat_eq packets records ≡ true = eq-eqb packets records (only other) in cc
