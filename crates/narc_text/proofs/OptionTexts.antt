-- Lists of words, joined by an octet, word by word.
use Rattle.std.proofs.Common.{◌≡◌, ℕ, List, [], ◌∷◌, ◌++◌, Option, Result, sym, ap, ◌∙◌, subst, append-nil, append_assoc, map}
use Rattle.std.specs.Prelude.{IsErr, flat_map}
use Rattle.std.specs.List.{join_with_byte}
use Rattle.narc_packet.specs.TextWords.{list_word}
use Rattle.narc_world.specs.declared.error.Failed.{Failed}
use Rattle.narc_text.specs.Printing.{Passes, Stops, IsPrinted}
use Rattle.narc_text.proofs.Printings.{Passes-then, IsPrinted-then, IsPrinted-stopped}

-- each word behind the octet
abbrev pub each_behind : (mark : ℕ) → List (List ℕ) → List ℕ
each_behind mark words = flat_map (λ word. (mark ∷ []) ++ word) words

join-each_behind : (mark : ℕ) (word : List ℕ) (words : List (List ℕ)) → join_with_byte mark (word ∷ words) ≡ word ++ each_behind mark words
join-each_behind mark word [] = sym (append-nil word)
join-each_behind mark word (next ∷ words) = ap (λ l. word ++ mark ∷ l) (join-each_behind mark next words)

-- the text of a list, up to the words that are left
pub record Prints {O : Type 0} (mark : ℕ) (word : O → List ℕ) (all : List ℕ) (left : List O) : Type 0 where
  pub done : List ℕ
  pub split : all ≡ done ++ each_behind mark (map word left)

module _ {O : Type 0} (mark : ℕ) (word : O → List ℕ) (option : O) (left : List O) where
  -- the first word of a list
  pub join-first : (options : List O) → options ≡ option ∷ left → join_with_byte mark (map word options) ≡ word option ++ each_behind mark (map word left)
  join-first options e = ap (λ l. join_with_byte mark (map word l)) e ∙ join-each_behind mark (word option) (map word left)

  module _ (all before : List ℕ) (now : List O) (cut : now ≡ option ∷ left) (so_far : Prints mark word all now) where
    next : each_behind mark (map word now) ≡ (mark ∷ []) ++ (word option ++ each_behind mark (map word left))
    next = ap (λ l. each_behind mark (map word l)) cut

    -- one word more
    pub Prints-next : all ≡ (so_far.done ++ ((mark ∷ []) ++ word option)) ++ each_behind mark (map word left)
    Prints-next = so_far.split ∙ ap (λ l. so_far.done ++ l) next ∙ sym (append_assoc so_far.done ((mark ∷ []) ++ word option) (each_behind mark (map word left)))

    module _ (page : List ℕ) (x y z : Option (List ℕ)) (printed : Passes (before ++ so_far.done) page x y) where
      stopped_at : (after : List ℕ) (r : Result Unit Failed) → IsPrinted r ((mark ∷ []) ++ (word option ++ each_behind mark (map word left))) page after y z → IsPrinted r all before after x z
      stopped_at after r p =
          subst (λ l. IsPrinted r l before after x z) (sym (so_far.split ∙ ap (λ l. so_far.done ++ l) next))
          (IsPrinted-then so_far.done ((mark ∷ []) ++ (word option ++ each_behind mark (map word left))) before page after x y z r printed p)

      -- the sink failed at the octet between
      pub IsPrinted-mark : (after : List ℕ) (r : Result Unit Failed) → IsErr r → Stops (page ++ (mark ∷ [])) y z → IsPrinted r all before after x z
      IsPrinted-mark after r e p = stopped_at after r (IsPrinted-stopped (mark ∷ []) (word option ++ each_behind mark (map word left)) page after y z r e p)

      -- the sink failed at the word
      pub IsPrinted-word : (middle after : List ℕ) (w : Option (List ℕ)) (r : Result Unit Failed) → Passes (page ++ (mark ∷ [])) middle y w → IsErr r
          → Stops (middle ++ word option) w z → IsPrinted r all before after x z
      IsPrinted-word middle after w r q e p =
          stopped_at after r (IsPrinted-then (mark ∷ []) (word option ++ each_behind mark (map word left)) page middle after y w z r q
          (IsPrinted-stopped (word option) (each_behind mark (map word left)) middle after w z r e p))

      pub Passes-next : (middle after : List ℕ) (w : Option (List ℕ)) → Passes (page ++ (mark ∷ [])) middle y w → Passes (middle ++ word option) after w z
          → Passes (before ++ (so_far.done ++ ((mark ∷ []) ++ word option))) after x z
      Passes-next middle after w q p =
          Passes-then so_far.done ((mark ∷ []) ++ word option) before page after x y z printed (Passes-then (mark ∷ []) (word option) page middle after y w z q p)

-- the first of options
pub list_word-first : {O : Type 0} (word : O → List ℕ) (option : O) (left options : List O) → options ≡ option ∷ left → list_word (map word options) ≡ word option ++ each_behind 44 (map word left)
list_word-first word option left options e = ap (λ l. list_word (map word l)) e ∙ join-each_behind 44 (word option) (map word left)
