-- A format, and behind it a second one, by the octets that stand for their values.
use Rattle.std.proofs.Common.{◌≡◌, ℕ, ◌+◌, ◌↔◌, List, ◌++◌, length, drop, None, refl, sym, ap, ◌∙◌, subst, append_assoc, arith, length-append}
use Rattle.narc_bits.specs.Octets.{IsOctets}
use Rattle.narc_format.specs.Meaning.{Meaning}
use Rattle.narc_compose.specs.Seq.{seq}
use Rattle.narc_format.specs.Rows.{Row, first_failing}
use Rattle.narc_layout.proofs.ReadLayout.{Front, Parts, IsRead, read_judged}
use Rattle.narc_layout.proofs.InOrder.{cut, each_back, stands_both, refuses_both, places_both, passes_parts}

module _ {C CA CB V W : Type 0} {A : Meaning CA V} {B : Meaning CB W} {IsA : CA → V → List ℕ → Type 0} {IsB : CB → W → List ℕ → Type 0} {size_a : CA → List ℕ → ℕ} {size_b : CB → List ℕ → ℕ}
    {rows_a : CA → (start : ℕ) → List ℕ → List Row} {rows_b : CB → (start : ℕ) → List ℕ → List Row}
    (first : C → CA) (second : C → V → CB) (valid : C → Type 0) (RA : IsRead A IsA size_a rows_a) (RB : IsRead B IsB size_b rows_b)
    -- the context of the second part, read from the octets
    (context : C → List ℕ → CB) (knows : (c : C) (v : V) (o later : List ℕ) → IsOctets (o ++ later) → IsA (first c) v o → context c (o ++ later) ≡ second c v) where
  abbrev pair : Meaning C (V × W)
  pair = seq first second valid A B

  abbrev back_of : C → List ℕ → List ℕ
  back_of c x = drop (size_a (first c) x) x

  abbrev IsBoth : C → V × W → List ℕ → Type 0
  IsBoth c v = Parts (IsA (first c) v.0) (IsB (second c v.0) v.1)

  abbrev size_both : C → List ℕ → ℕ
  size_both c x = size_a (first c) x + size_b (context c x) (back_of c x)

  abbrev front_rows : C → (start : ℕ) → List ℕ → List Row
  front_rows c start x = rows_a (first c) start x

  abbrev back_rows : C → (start : ℕ) → List ℕ → List Row
  back_rows c start x = rows_b (context c x) (start + size_a (first c) x) (back_of c x)

  abbrev rows_both : C → (start : ℕ) → List ℕ → List Row
  rows_both c start x = front_rows c start x ++ back_rows c start x

  front_both : (c : C) (x : List ℕ) → IsOctets x → Front (IsA (first c)) x → Front (IsB (context c x)) (back_of c x) → Front (IsBoth c) x
  front_both c x each p q =
      let k = cut first second RA (read_judged RB) context knows c x p.found p.front p.later each p.is p.joined in
      record {
        found = (p.found, q.found);
        front = p.front ++ q.front;
        later = q.later;
        is = record { front = p.front; back = q.front; joined = refl; first = p.is; second = subst (λ d. IsB d q.found q.front) k.context_is q.is };
        joined = p.joined ∙ ap (λ l. p.front ++ l) (sym k.back ∙ q.joined) ∙ sym (append_assoc p.front q.front q.later);
      }

  front_first : (c : C) (x : List ℕ) → Front (IsBoth c) x → Front (IsA (first c)) x
  front_first c x p = record { found = p.found.0; front = p.is.front; later = p.is.back ++ p.later; is = p.is.first; joined = p.joined ∙ ap (λ l. l ++ p.later) p.is.joined ∙ append_assoc p.is.front p.is.back p.later }

  front_second : (c : C) (x : List ℕ) → IsOctets x → Front (IsBoth c) x → Front (IsB (context c x)) (back_of c x)
  unfolding front_first
  front_second c x each p =
      let one = front_first c x p in
      let k = cut first second RA (read_judged RB) context knows c x p.found.0 p.is.front (p.is.back ++ p.later) each p.is.first one.joined in
      record { found = p.found.1; front = p.is.back; later = p.later; is = subst (λ d. IsB d p.found.1 p.is.back) (sym k.context_is) p.is.second; joined = k.back }

  passes_both : (c : C) (start : ℕ) (x : List ℕ) → IsOctets x → (first_failing (rows_both c start x) ≡ None) ↔ Front (IsBoth c) x
  passes_both c start x each = (
    λ h. let p = (passes_parts first second RA (read_judged RB) context knows c start x each).0 h in front_both c x each p.0 ((RB.passes (context c x) (start + size_a (first c) x) (back_of c x) (each_back first second RA (read_judged RB) context knows c x each)).0 p.1),
    λ p. (passes_parts first second RA (read_judged RB) context knows c start x each).1 (front_first c x p, (RB.passes (context c x) (start + size_a (first c) x) (back_of c x) (each_back first second RA (read_judged RB) context knows c x each)).1 (front_second c x each p)),
  )

  reads_both : (c : C) (v : V × W) (o later : List ℕ) → IsOctets (o ++ later) → IsBoth c v o → size_both c (o ++ later) ≡ length o
  reads_both c v o later each q =
      let x = o ++ later in
      let joined : x ≡ q.front ++ (q.back ++ later) = ap (λ l. l ++ later) q.joined ∙ append_assoc q.front q.back later in
      let k = cut first second RA (read_judged RB) context knows c x v.0 q.front (q.back ++ later) each q.first joined in
      let r = RB.reads (second c v.0) v.1 q.back later (subst IsOctets k.back (each_back first second RA (read_judged RB) context knows c x each)) q.second in
      let size : size_b (context c x) (back_of c x) ≡ length q.back = ap (λ d. size_b d (back_of c x)) k.context_is ∙ ap (size_b (second c v.0)) k.back ∙ r in
      omega (arith, k.size, size, ap length q.joined, length-append q.front q.back)

  pub seq_read : IsRead pair IsBoth size_both rows_both
  unfolding seq
  seq_read = record {
    stands = stands_both first second RA (read_judged RB) context knows;
    refuses = refuses_both first second RA (read_judged RB) context knows;
    passes = passes_both;
    reads = reads_both;
    places = places_both first second RA (read_judged RB) context knows;
  }
