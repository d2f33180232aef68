-- Pushes, one behind the other.
use Rattle.std.proofs.Common.{ℕ, ◌+◌, ◌≤◌, min, List, ◌++◌, length, subst, take, Option, Result, Ok, Err, sym, ◌∙◌, arith}
use Rattle.std.proofs.Math.Seq.{take-append-add}
use Rattle.std.specs.Prelude.{IsErr}
use Rattle.std.proofs.KnownBytes.{Appends-trans}
use Rattle.std.proofs.lemmas.List.{take_min, take-append-le}
use Rattle.narc_world.specs.declared.error.Failed.{Failed}
use Rattle.narc_world.specs.Outside.{Appends, IsPushed}

-- a push behind one that went well
pub IsPushed-then : (a b : List ℕ) (x y z : Option (List ℕ)) (r : Result Unit Failed) → Appends a x y → IsPushed r y z b → IsPushed r x z (a ++ b)
IsPushed-then a b x y z (Ok done) p q = Appends-trans x y z a b p q
IsPushed-then a b x y z (Err f) p q =
    (length a + q.0, subst (λ l. Appends l x z) (sym (take-append-add a b q.0)) (Appends-trans x y z a (take q.0 b) p q.1))

-- a push that failed has failed for all that was to come
pub IsPushed-cut : (a b : List ℕ) (x y : Option (List ℕ)) (r : Result Unit Failed) → IsErr r → (n : ℕ) × Appends (take n a) x y → IsPushed r x y (a ++ b)
IsPushed-cut a b x y (Ok done) e p = cc
IsPushed-cut a b x y (Err f) e p =
    let within : min p.0 (length a) ≤ length a = omega arith in
    (min p.0 (length a), subst (λ l. Appends l x y) (sym (take-append-le (min p.0 (length a)) a b within ∙ take_min p.0 a)) p.1)
