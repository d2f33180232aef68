-- The laws of one of two formats or tails.
use Rattle.std.specs.Prelude.{◌≡◌, ◌%◌, ◌≤◌, ◌⊎◌, Bool, ◌&&◌, ◌||◌, List, ◌++◌, length, IsTrue}
use Rattle.std.proofs.Common.{inl, inr}
use Rattle.narc_format.specs.declared.fault.Fault.{Fault}
use Rattle.narc_format.specs.Meaning.{Meaning}
use Rattle.narc_format.specs.Laws.{Laws, Fits, HasFront, IsRefused}
use Rattle.narc_compose.specs.declared.either.Either.{Either}
use Rattle.narc_compose.specs.declared.either.Either.TheVariants.{Left, Right}
use Rattle.narc_compose.specs.Conditions.{and_left, and_right, or_left, or_right}
use Rattle.narc_compose.specs.Union.{Side, Sides, side_spelling, UnionSound, united}

-- what the members promise alike as formats and as tails
module _ {CA CB VA VB : Type 0} (A : Meaning CA VA) (B : Meaning CB VB) where
  abbrev pub Stands : List Bool → Either CA CB → Either VA VB → Type 0
  Stands b p v = Sides (λ a x. A.stands a x b) (λ z y. B.stands z y b) p v

  abbrev pub Refuses : List Bool → Fault → Either CA CB → Type 0
  Refuses b f p = Side (λ a. A.refuses a b f) (λ z. B.refuses z b f) p

  pub admitted_at : ((a : CA) → A.valid a → (x : VA) (b : List Bool) → A.stands a x b → A.admits a x) → ((z : CB) → B.valid z → (y : VB) (b : List Bool) → B.stands z y b → B.admits z y)
      → (p : Either CA CB) → Side A.valid B.valid p → (v : Either VA VB) (b : List Bool) → Stands b p v → Sides A.admits B.admits p v
  admitted_at left right (Left a) ok (Left x) b h = left a ok x b h
  admitted_at left right (Right z) ok (Right y) b h = right z ok y b h
  admitted_at left right p ok v b h = absurd h

  pub spelling_stands_at : ((a : CA) → A.valid a → (x : VA) → A.admits a x → A.stands a x (A.spelling a x)) → ((z : CB) → B.valid z → (y : VB) → B.admits z y → B.stands z y (B.spelling z y))
      → (p : Either CA CB) → Side A.valid B.valid p → (v : Either VA VB) → Sides A.admits B.admits p v → Stands (side_spelling A.spelling B.spelling p v) p v
  spelling_stands_at left right (Left a) ok (Left x) h = left a ok x h
  spelling_stands_at left right (Right z) ok (Right y) h = right z ok y h
  spelling_stands_at left right p ok v h = absurd h

  pub one_fault_at : ((a : CA) (b : List Bool) (f g : Fault) → A.refuses a b f → A.refuses a b g → f ≡ g) → ((z : CB) (b : List Bool) (f g : Fault) → B.refuses z b f → B.refuses z b g → f ≡ g)
      → (p : Either CA CB) (b : List Bool) (f g : Fault) → Refuses b f p → Refuses b g p → f ≡ g
  one_fault_at left right (Left a) = left a
  one_fault_at left right (Right z) = right z

  pub within_at : ((a : CA) (b : List Bool) (f : Fault) → A.refuses a b f → f.at ≤ length b) → ((z : CB) (b : List Bool) (f : Fault) → B.refuses z b f → f.at ≤ length b)
      → (p : Either CA CB) (b : List Bool) (f : Fault) → Refuses b f p → f.at ≤ length b
  within_at left right (Left a) = left a
  within_at left right (Right z) = right z

module _ {C CA CB VA VB : Type 0} (pick : C → Either CA CB) (valid : C → Type 0) (A : Meaning CA VA) (B : Meaning CB VB) (LA : Laws A) (LB : Laws B) where
  one_reading_at : UnionSound pick valid A B → (p : Either CA CB) (v w : Either VA VB) (x y d e : List Bool) → Stands A B x p v → Stands A B y p w → x ++ d ≡ y ++ e → (x ≡ y) × Sides A.alike B.alike v w
  one_reading_at s (Left a) (Left v) (Left w) x y d e h j = LA.one_reading s.left_sound a v w x y d e h j
  one_reading_at s (Right z) (Right v) (Right w) x y d e h j = LB.one_reading s.right_sound z v w x y d e h j
  one_reading_at s (Left a) (Right v) w x y d e h j = absurd h
  one_reading_at s (Right z) (Left v) w x y d e h j = absurd h
  one_reading_at s p v w x y d e h j = absurd j

  read_at : UnionSound pick valid A B → (p : Either CA CB) → Side A.valid B.valid p → (b : List Bool) → Fits (A.aligned || B.aligned) b → HasFront (λ v l. Stands A B l p v) b ⊎ IsRefused (λ f. Refuses A B b f p)
  read_at s (Left a) ok b fits = elim (LA.read_or_refused s.left_sound a ok b (record { small = fits.small; octets = λ h. fits.octets (or_left A.aligned B.aligned h) })) [
    | inl r ↦ inl (record { found = Left r.found; used = r.used; later = r.later; joined = r.joined; stood = r.stood })
    | inr r ↦ inr (record { fault = r.fault; refused = r.refused })
  ]
  read_at s (Right z) ok b fits = elim (LB.read_or_refused s.right_sound z ok b (record { small = fits.small; octets = λ h. fits.octets (or_right A.aligned B.aligned h) })) [
    | inl r ↦ inl (record { found = Right r.found; used = r.used; later = r.later; joined = r.joined; stood = r.stood })
    | inr r ↦ inr (record { fault = r.fault; refused = r.refused })
  ]

  never_both_at : UnionSound pick valid A B → (p : Either CA CB) (v : Either VA VB) (x e : List Bool) (f : Fault) → Stands A B x p v → Refuses A B (x ++ e) f p → ⊥
  never_both_at s (Left a) (Left v) x e f h r = LA.never_both s.left_sound a v x e f h r
  never_both_at s (Right z) (Right v) x e f h r = LB.never_both s.right_sound z v x e f h r
  never_both_at s p v x e f h r = h

  whole_octets_at : UnionSound pick valid A B → IsTrue (A.whole && B.whole) → (p : Either CA CB) (v : Either VA VB) (b : List Bool) → Stands A B b p v → length b % 8 ≡ 0
  whole_octets_at s w (Left a) (Left v) b h = LA.whole_octets s.left_sound (and_left A.whole B.whole w) a v b h
  whole_octets_at s w (Right z) (Right v) b h = LB.whole_octets s.right_sound (and_right A.whole B.whole w) z v b h
  whole_octets_at s w p v b h = absurd h

  pub united_laws : Laws (united pick valid A B)
  unfolding united
  united_laws = record {
    one_reading = λ s c. one_reading_at s (pick c);
    admitted = λ s c ok. admitted_at A B (LA.admitted s.left_sound) (LB.admitted s.right_sound) (pick c) (s.picked c ok);
    spelling_stands = λ s c ok. spelling_stands_at A B (LA.spelling_stands s.left_sound) (LB.spelling_stands s.right_sound) (pick c) (s.picked c ok);
    read_or_refused = λ s c ok. read_at s (pick c) (s.picked c ok);
    never_both = λ s c. never_both_at s (pick c);
    one_fault = λ s c. one_fault_at A B (LA.one_fault s.left_sound) (LB.one_fault s.right_sound) (pick c);
    within = λ s c. within_at A B (LA.within s.left_sound) (LB.within s.right_sound) (pick c);
    whole_octets = λ s w c. whole_octets_at s w (pick c);
  }
