-- A format, and behind it a tail, by the octets that stand for their values.
use Rattle.std.proofs.Common.{◌≡◌, ℕ, ◌+◌, ◌↔◌, List, ◌++◌, drop, None, sym, ap, ◌∙◌, subst}
use Rattle.narc_bits.specs.Octets.{IsOctets}
use Rattle.narc_format.specs.Meaning.{Meaning}
use Rattle.narc_compose.specs.Seq.{seq_tail}
use Rattle.narc_format.specs.Rows.{Row, first_failing}
use Rattle.narc_layout.proofs.ReadLayout.{Front, Parts, IsRead, IsTailRead, tail_judged}
use Rattle.narc_layout.proofs.InOrder.{cut, each_back, stands_both, refuses_both, places_both, passes_parts}

module _ {C CA CB V W : Type 0} {A : Meaning CA V} {B : Meaning CB W} {IsA : CA → V → List ℕ → Type 0} {IsB : CB → W → List ℕ → Type 0} {size_a : CA → List ℕ → ℕ}
    {rows_a : CA → (start : ℕ) → List ℕ → List Row} {rows_b : CB → (start : ℕ) → List ℕ → List Row}
    (first : C → CA) (second : C → V → CB) (valid : C → Type 0) (RA : IsRead A IsA size_a rows_a) (RB : IsTailRead B IsB rows_b)
    -- the context of the second part, read from the octets
    (context : C → List ℕ → CB) (knows : (c : C) (v : V) (o later : List ℕ) → IsOctets (o ++ later) → IsA (first c) v o → context c (o ++ later) ≡ second c v) where
  abbrev pair : Meaning C (V × W)
  pair = seq_tail first second valid A B

  abbrev back_of : C → List ℕ → List ℕ
  back_of c x = drop (size_a (first c) x) x

  abbrev IsBoth : C → V × W → List ℕ → Type 0
  IsBoth c v = Parts (IsA (first c) v.0) (IsB (second c v.0) v.1)

  abbrev front_rows : C → (start : ℕ) → List ℕ → List Row
  front_rows c start x = rows_a (first c) start x

  abbrev back_rows : C → (start : ℕ) → List ℕ → List Row
  back_rows c start x = rows_b (context c x) (start + size_a (first c) x) (back_of c x)

  abbrev rows_both : C → (start : ℕ) → List ℕ → List Row
  rows_both c start x = front_rows c start x ++ back_rows c start x

  front_both : (c : C) (x : List ℕ) → IsOctets x → Front (IsA (first c)) x → ((w : W) × IsB (context c x) w (back_of c x)) → ((v : V × W) × IsBoth c v x)
  front_both c x each p q =
      let k = cut first second RA (tail_judged RB) context knows c x p.found p.front p.later each p.is p.joined in
      ((p.found, q.0), record { front = p.front; back = back_of c x; joined = p.joined ∙ ap (λ l. p.front ++ l) (sym k.back); first = p.is; second = subst (λ d. IsB d q.0 (back_of c x)) k.context_is q.1 })

  front_first : (c : C) (x : List ℕ) → ((v : V × W) × IsBoth c v x) → Front (IsA (first c)) x
  front_first c x p = record { found = p.0.0; front = p.1.front; later = p.1.back; is = p.1.first; joined = p.1.joined }

  front_second : (c : C) (x : List ℕ) → IsOctets x → ((v : V × W) × IsBoth c v x) → ((w : W) × IsB (context c x) w (back_of c x))
  front_second c x each p =
      let k = cut first second RA (tail_judged RB) context knows c x p.0.0 p.1.front p.1.back each p.1.first p.1.joined in
      let here : IsB (context c x) p.0.1 p.1.back = subst (λ d. IsB d p.0.1 p.1.back) (sym k.context_is) p.1.second in
      (p.0.1, subst (IsB (context c x) p.0.1) (sym k.back) here)

  passes_both : (c : C) (start : ℕ) (x : List ℕ) → IsOctets x → (first_failing (rows_both c start x) ≡ None) ↔ ((v : V × W) × IsBoth c v x)
  passes_both c start x each = (
    λ h. let p = (passes_parts first second RA (tail_judged RB) context knows c start x each).0 h in front_both c x each p.0 ((RB.passes (context c x) (start + size_a (first c) x) (back_of c x) (each_back first second RA (tail_judged RB) context knows c x each)).0 p.1),
    λ p. (passes_parts first second RA (tail_judged RB) context knows c start x each).1 (front_first c x p, (RB.passes (context c x) (start + size_a (first c) x) (back_of c x) (each_back first second RA (tail_judged RB) context knows c x each)).1 (front_second c x each p)),
  )

  pub seq_tail_read : IsTailRead pair IsBoth rows_both
  unfolding seq_tail
  seq_tail_read = record {
    stands = stands_both first second RA (tail_judged RB) context knows;
    refuses = refuses_both first second RA (tail_judged RB) context knows;
    passes = passes_both;
    places = places_both first second RA (tail_judged RB) context knows;
  }
