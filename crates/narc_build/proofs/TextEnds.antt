-- How a text ends.
use Rattle.std.proofs.Common.{◌≡◌, ℕ, List, [], ◌++◌, length, take, drop, Option, Result, Ok, Err, refl, sym, ap, ◌∙◌, append-nil, subst, take-append-drop}
use Rattle.std.specs.Prelude.{IsErr, OnOk}
use Rattle.std.proofs.lemmas.List.{take_at}
use Rattle.narc_world.specs.declared.error.Failed.{Failed}
use Rattle.narc_world.specs.Outside.{Appends, IsPushed}
use Rattle.narc_text.specs.Printing.{Stops, IsPrinted}
use Rattle.narc_pcap.specs.Written.{Gathered}
use Rattle.narc_lines.specs.Reading.{Reading}
use Rattle.narc_build.specs.declared.ending.Built.{Built}
use Rattle.narc_build.specs.Building.{WroteFront, IsShown}
use Rattle.narc_build.specs.TextEnd.{IsTextEnded}

-- all that was gathered was pushed, and nothing is left
pub IsPrinted-pushed : (page after : List ℕ) (x y : Option (List ℕ)) (r : Result Unit Failed) → IsPushed r x y page → OnOk r (after ≡ []) → IsPrinted r [] page after x y
IsPrinted-pushed page after x y (Ok done) p none = record { pushed = page; appended = p; split = ap (λ l. page ++ l) (sym none) }
IsPrinted-pushed page after x y (Err e) p none = record { pushed = take p.0 page; appended = p.1; lost = drop p.0 page; split = append-nil page ∙ sym (take-append-drop p.0 page) }

-- the answer of a sink that failed, handed on
pub shown_failed : (octets : List ℕ) (v : Built) (x y : Option (List ℕ)) (r : Result Built Failed) → IsErr r → WroteFront octets x y → IsShown r octets v x y
shown_failed octets v x y (Ok o) e p = cc
shown_failed octets v x y (Err f) e p = p

-- the sink failed before the end of the source was looked for
pub ended_cut : (lines : Reading) (left : Option (List ℕ)) (w : Gathered) (x y : Option (List ℕ)) (r : Result Built Failed) → IsErr r
    → WroteFront w.octets x y → IsTextEnded lines lines left left w x y r
ended_cut lines left w x y (Ok o) e p = cc
ended_cut lines left w x y (Err f) e p = (p, refl, refl)

-- a front of what was gathered was pushed
pub front_stopped : (page : List ℕ) (x y : Option (List ℕ)) → Stops (page ++ []) x y → WroteFront page x y
front_stopped page x y p =
    (length p.pushed, subst (λ l. Appends l x y) (sym (ap (take (length p.pushed)) (sym (append-nil page) ∙ p.split) ∙ take_at p.pushed p.lost (length p.pushed) refl)) p.appended)
