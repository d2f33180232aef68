-- Octets that are pushed right behind a page.
use Rattle.std.proofs.Common.{◌≡◌, ℕ, List, [], ◌++◌, take, drop, Option, Result, Ok, Err, sym, ap, ◌∙◌, append_assoc, append-nil}
use Rattle.std.proofs.lemmas.List.{take-append-drop}
use Rattle.narc_world.specs.declared.error.Failed.{Failed}
use Rattle.narc_world.specs.Outside.{IsPushed}
use Rattle.narc_text.specs.Printing.{IsPrinted, Passes}
use Rattle.narc_text.proofs.Printings.{Appends-append}

module _ (octets page cleared : List ℕ) (x y z : Option (List ℕ)) (flushed : Passes (page ++ []) cleared x y) (empty : cleared ≡ []) where
  all_pushed : page ≡ flushed.pushed
  all_pushed = sym (append-nil page) ∙ flushed.split ∙ ap (λ l. flushed.pushed ++ l) empty ∙ append-nil flushed.pushed

  pub IsPrinted-behind : (r : Result (Unit {0}) Failed) → IsPushed r y z octets → IsPrinted r octets page cleared x z
  IsPrinted-behind (Ok done) h = record {
    pushed = flushed.pushed ++ octets;
    appended = Appends-append flushed.pushed octets x y z flushed.appended h;
    split = ap (λ l. l ++ octets) all_pushed ∙ sym (append-nil (flushed.pushed ++ octets)) ∙ ap (λ l. (flushed.pushed ++ octets) ++ l) (sym empty);
  }
  IsPrinted-behind (Err e) h = record {
    pushed = flushed.pushed ++ take h.0 octets;
    appended = Appends-append flushed.pushed (take h.0 octets) x y z flushed.appended h.1;
    lost = drop h.0 octets;
    split =
        ap (λ l. l ++ octets) all_pushed ∙ ap (λ l. flushed.pushed ++ l) (sym (take-append-drop h.0 octets))
        ∙ sym (append_assoc flushed.pushed (take h.0 octets) (drop h.0 octets));
  }
