-- Options that are read one behind the other.
use Rattle.std.proofs.Common.{◌≡◌, ◌≢◌, ◌==◌, ℕ, Bool, true, false, ◌≤◌, List, [], ◌∷◌, ◌++◌, codes, length, map, refl, sym, ap, ◌∙◌, subst, arith, length-append, append-nil}
use Rattle.std.specs.List.{AllByRecursion, flat_map}
use Rattle.std.proofs.lemmas.Bool.{false≢true}
use Rattle.std.proofs.lemmas.List.Splits.{length-slice_split}
use Rattle.narc_packet.specs.WellFormed.{FitArea}
use Rattle.narc_packet.specs.TextWords.{list_word}
use Rattle.narc_reading.specs.Parts.{parts_of}
use Rattle.narc_reading.specs.Reading.{IsNoOption}
use Rattle.narc_reading.proofs.Separated.{Lacks, Lacks-each, parts_of-join, join-parts_of}

-- what reading needs of the words of options
pub record HaveWords {O : Type 0} (word_of : O → List ℕ) (IsOption : O → Type 0) : Type 0 where
  pub one : (a b : O) → IsOption a → IsOption b → word_of a ≡ word_of b → a ≡ b
  pub lacks : (o : O) → IsOption o → Lacks 44 (word_of o)

-- options that begin with those that were read, and go on
pub record GoesOn {O : Type 0} (word_of : O → List ℕ) (all front : List O) (word : List ℕ) : Type 0 where
  pub option : O
  pub more : List O
  pub split : all ≡ front ++ option ∷ more
  pub is : word ≡ word_of option

pub goes-on : {O : Type 0} (word_of : O → List ℕ) (IsOption : O → Type 0) → HaveWords word_of IsOption → (all front : List O) (word : List ℕ) (rest : List (List ℕ))
    → AllByRecursion IsOption all → AllByRecursion IsOption front → map word_of all ≡ map word_of front ++ word ∷ rest → GoesOn word_of all front word
goes-on word_of IsOption readable [] [] word rest m n e = absurd (omega (arith, ap length e))
goes-on word_of IsOption readable (o ∷ all) [] word rest m n e = record { option = o; more = all; split = refl; is = cc e }
goes-on word_of IsOption readable [] (p ∷ front) word rest m n e = absurd (omega (arith, ap length e))
goes-on word_of IsOption readable (o ∷ all) (p ∷ front) word rest m n e =
    let same : word_of o ≡ word_of p = cc e in
    let tail : map word_of all ≡ map word_of front ++ word ∷ rest = cc e in
    let later = goes-on word_of IsOption readable all front word rest m.1 n.1 tail in
    record {
      option = later.option;
      more = later.more;
      split = ap (λ x. x ∷ all) (readable.one o p m.0 n.0 same) ∙ ap (λ l. p ∷ l) later.split;
      is = later.is;
    }

pub each-front : {O : Type 0} (P : O → Type 0) (front : List O) (o : O) (more : List O) → AllByRecursion P (front ++ o ∷ more) → AllByRecursion P (front ++ o ∷ [])
each-front P [] o more h = (h.0, tt)
each-front P (p ∷ front) o more h = (h.0, each-front P front o more h.1)

shorter-front : {O : Type 0} (spelling : O → List ℕ) (front : List O) (o : O) (more : List O)
    → length (flat_map spelling (front ++ o ∷ [])) ≤ length (flat_map spelling (front ++ o ∷ more))
shorter-front spelling [] o more = omega (arith, length-append (spelling o) [], length-append (spelling o) (flat_map spelling more))
shorter-front spelling (p ∷ front) o more =
    omega (arith, shorter-front spelling front o more, length-append (spelling p) (flat_map spelling (front ++ o ∷ [])), length-append (spelling p) (flat_map spelling (front ++ o ∷ more)))

FitArea-front : {O : Type 0} (spelling : O → List ℕ) (IsOption : O → Type 0) (front : List O) (o : O) (more : List O) → FitArea spelling IsOption (front ++ o ∷ more) → FitArea spelling IsOption (front ++ o ∷ [])
FitArea-front spelling IsOption front o more fits = record {
  each = each-front IsOption front o more fits.each;
  bound = omega (arith, shorter-front spelling front o more, fits.bound);
}

pub lacks-each : {O : Type 0} (word_of : O → List ℕ) (IsOption : O → Type 0) → HaveWords word_of IsOption → (options : List O) → AllByRecursion IsOption options → AllByRecursion (Lacks 44) (map word_of options)
lacks-each word_of IsOption readable options each = Lacks-each 44 word_of IsOption readable.lacks options each

-- the words of options are the parts of their text
pub list-parts : {O : Type 0} (word_of : O → List ℕ) (IsOption : O → Type 0) → HaveWords word_of IsOption → (word : List ℕ) (options : List O) → AllByRecursion IsOption options → word ≢ codes "-"
    → word ≡ list_word (map word_of options) → parts_of 44 word ≡ map word_of options
list-parts word_of IsOption readable word [] each other e = absurd (other e)
list-parts word_of IsOption readable word (o ∷ options) each other e =
    ap (parts_of 44) e ∙ parts_of-join 44 (word_of o) (map word_of options) (lacks-each word_of IsOption readable (o ∷ options) each)

-- a word that cannot be appended is in no text of options that begins so
pub no-options : {O : Type 0} (word_of spelling : O → List ℕ) (IsOption : O → Type 0) → HaveWords word_of IsOption → (text word : List ℕ) (rest : List (List ℕ)) (front : List O)
    → text ≢ codes "-" → parts_of 44 text ≡ map word_of front ++ word ∷ rest → FitArea spelling IsOption front → IsNoOption word_of spelling IsOption word front
    → (options : List O) → FitArea spelling IsOption options → text ≢ list_word (map word_of options)
no-options word_of spelling IsOption readable text word rest front other found before none options fits e =
    let parts = list-parts word_of IsOption readable text options fits.each other e in
    let next = goes-on word_of IsOption readable options front word rest fits.each before.each (sym parts ∙ found) in
    none next.option (FitArea-front spelling IsOption front next.option next.more (subst (FitArea spelling IsOption) next.split fits)) next.is

-- all words are options'
pub options-found : {O : Type 0} (word_of : O → List ℕ) (text : List ℕ) (options : List O) (rest : List (List ℕ)) → parts_of 44 text ≡ map word_of options ++ rest → rest ≡ [] → text ≡ list_word (map word_of options)
options-found word_of text [] rest found none = absurd (omega (arith, ap length (found ∙ none), length-slice_split (λ octet. octet == 44) text))
options-found word_of text (o ∷ options) rest found none =
    join-parts_of 44 text (map word_of (o ∷ options)) (found ∙ ap (λ l. map word_of (o ∷ options) ++ l) none ∙ append-nil (map word_of (o ∷ options)))

pub each-last : {O : Type 0} (P : O → Type 0) (front : List O) (o : O) → AllByRecursion P (front ++ o ∷ []) → P o
each-last P [] o h = h.0
each-last P (p ∷ front) o h = each-last P front o h.1

-- an option that could not be appended
pub not-pushed : {O : Type 0} (word_of spelling : O → List ℕ) (IsOption : O → Type 0) (word : List ℕ) (before : List O) (option : O) (tested ok : Bool) → tested ≡ false → tested ≡ ok
    → (FitArea spelling IsOption (before ++ option ∷ []) → ok ≡ true) → ((o : O) → IsOption o → word ≡ word_of o → o ≡ option) → IsNoOption word_of spelling IsOption word before
not-pushed word_of spelling IsOption word before option tested ok test value can only o fits e =
    false≢true (sym test ∙ value ∙ can (subst (λ x. FitArea spelling IsOption (before ++ x ∷ [])) (only o (each-last IsOption before o fits.each) e) fits))
