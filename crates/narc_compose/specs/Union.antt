-- One of two formats or of two tails, as the context says.
use Rattle.std.specs.Prelude.{max, ◌&&◌, ◌||◌, List, [], Bool}
use Rattle.narc_format.specs.Meaning.{Meaning}
use Rattle.narc_compose.specs.declared.either.Either.{Either}
use Rattle.narc_compose.specs.declared.either.Either.TheVariants.{Left, Right}

-- the fact of its side
abbrev pub Side : {A B : Type 0} → (A → Type 0) → (B → Type 0) → Either A B → Type 0
Side P Q (Left a) = P a
Side P Q (Right b) = Q b

-- both are of one side, and the fact of that side holds of them
abbrev pub Sides : {A B V W : Type 0} → (A → V → Type 0) → (B → W → Type 0) → Either A B → Either V W → Type 0
Sides P Q (Left a) (Left v) = P a v
Sides P Q (Right b) (Right w) = Q b w
Sides P Q p v = ⊥

-- the spelling by the side that both are of, if they are of one
abbrev pub side_spelling : {A B V W : Type 0} → (A → V → List Bool) → (B → W → List Bool) → Either A B → Either V W → List Bool
side_spelling f g (Left a) (Left v) = f a v
side_spelling f g (Right b) (Right w) = g b w
side_spelling f g p v = []

module _ {C CA CB VA VB : Type 0} (pick : C → Either CA CB) (valid : C → Type 0) (A : Meaning CA VA) (B : Meaning CB VB) where
  pub record UnionSound : Type 0 where
    pub left_sound : A.sound
    pub right_sound : B.sound
    -- a valid context gives the picked member a valid one
    pub picked : (c : C) → valid c → Side A.valid B.valid (pick c)

  -- A or B, as pick says
  unfoldable pub united : Meaning C (Either VA VB)
  united = record {
    stands = λ c v b. Sides (λ a x. A.stands a x b) (λ z y. B.stands z y b) (pick c) v;
    refuses = λ c b f. Side (λ a. A.refuses a b f) (λ z. B.refuses z b f) (pick c);
    admits = λ c v. Sides A.admits B.admits (pick c) v;
    spelling = λ c v. side_spelling A.spelling B.spelling (pick c) v;
    alike = Sides A.alike B.alike;
    valid = valid;
    sound = UnionSound;
    depth = max A.depth B.depth;
    whole = A.whole && B.whole;
    aligned = A.aligned || B.aligned;
  }
