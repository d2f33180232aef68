-- The laws of one of two tails.
use Rattle.std.specs.Prelude.{◌⊎◌, Bool, true, List}
use Rattle.std.proofs.Common.{inl, inr}
use Rattle.narc_format.specs.declared.fault.Fault.{Fault}
use Rattle.narc_format.specs.Meaning.{Meaning}
use Rattle.narc_format.specs.Laws.{TailLaws, Fits, HasValue, IsRefused}
use Rattle.narc_compose.specs.declared.either.Either.{Either}
use Rattle.narc_compose.specs.declared.either.Either.TheVariants.{Left, Right}
use Rattle.narc_compose.specs.Union.{Side, Sides, UnionSound, united}
use Rattle.narc_compose.specs.UnionLaws.{Stands, Refuses, admitted_at, spelling_stands_at, one_fault_at, within_at}

module _ {C CA CB VA VB : Type 0} (pick : C → Either CA CB) (valid : C → Type 0) (A : Meaning CA VA) (B : Meaning CB VB) (LA : TailLaws A) (LB : TailLaws B) where
  one_reading_at : UnionSound pick valid A B → (p : Either CA CB) (v w : Either VA VB) (b : List Bool) → Stands A B b p v → Stands A B b p w → Sides A.alike B.alike v w
  one_reading_at s (Left a) (Left v) (Left w) b h j = LA.one_reading s.left_sound a v w b h j
  one_reading_at s (Right z) (Right v) (Right w) b h j = LB.one_reading s.right_sound z v w b h j
  one_reading_at s (Left a) (Right v) w b h j = absurd h
  one_reading_at s (Right z) (Left v) w b h j = absurd h
  one_reading_at s p v w b h j = absurd j

  read_at : UnionSound pick valid A B → (p : Either CA CB) → Side A.valid B.valid p → (b : List Bool) → Fits true b → HasValue (λ v l. Stands A B l p v) b ⊎ IsRefused (λ f. Refuses A B b f p)
  read_at s (Left a) ok b fits = elim (LA.read_or_refused s.left_sound a ok b fits) [
    | inl r ↦ inl (record { found = Left r.found; stood = r.stood })
    | inr r ↦ inr (record { fault = r.fault; refused = r.refused })
  ]
  read_at s (Right z) ok b fits = elim (LB.read_or_refused s.right_sound z ok b fits) [
    | inl r ↦ inl (record { found = Right r.found; stood = r.stood })
    | inr r ↦ inr (record { fault = r.fault; refused = r.refused })
  ]

  never_both_at : UnionSound pick valid A B → (p : Either CA CB) (v : Either VA VB) (b : List Bool) (f : Fault) → Stands A B b p v → Refuses A B b f p → ⊥
  never_both_at s (Left a) (Left v) b f h r = LA.never_both s.left_sound a v b f h r
  never_both_at s (Right z) (Right v) b f h r = LB.never_both s.right_sound z v b f h r
  never_both_at s p v b f h r = h

  pub united_tail_laws : TailLaws (united pick valid A B)
  unfolding united
  united_tail_laws = record {
    one_reading = λ s c. one_reading_at s (pick c);
    admitted = λ s c ok. admitted_at A B (LA.admitted s.left_sound) (LB.admitted s.right_sound) (pick c) (s.picked c ok);
    spelling_stands = λ s c ok. spelling_stands_at A B (LA.spelling_stands s.left_sound) (LB.spelling_stands s.right_sound) (pick c) (s.picked c ok);
    read_or_refused = λ s c ok. read_at s (pick c) (s.picked c ok);
    never_both = λ s c. never_both_at s (pick c);
    one_fault = λ s c. one_fault_at A B (LA.one_fault s.left_sound) (LB.one_fault s.right_sound) (pick c);
    within = λ s c. within_at A B (LA.within s.left_sound) (LB.within s.right_sound) (pick c);
  }
