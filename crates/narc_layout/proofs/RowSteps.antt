-- The first row that fails of rows and others behind them.
use Rattle.std.proofs.Common.{◌≡◌, List, [], ◌++◌, None, sym, ap, ◌∙◌, append-nil, inl, inr}
use Rattle.narc_format.specs.Rows.{Row, first_failing}
use Rattle.narc_layout.proofs.Rows.{judged, first_failing-front, first_failing-back}

-- rows that judge alike, and behind them rows that judge alike where those pass
pub rows_same : (a b p q : List Row) → first_failing a ≡ first_failing b → (first_failing b ≡ None → first_failing p ≡ first_failing q) → first_failing (a ++ p) ≡ first_failing (b ++ q)
rows_same a b p q e same = elim (judged b) [
  | inl f ↦ first_failing-front a p f.refusal (e ∙ f.first) ∙ sym (first_failing-front b q f.refusal f.first)
  | inr none ↦ first_failing-back a p (e ∙ none) ∙ same none ∙ sym (first_failing-back b q none)
]

pub no_more_rows : (p : List Row) → first_failing (p ++ []) ≡ first_failing p
no_more_rows p = ap first_failing (append-nil p)
