use Rattle.narc_laws.proofs.Shown.{shown_of_text}
use Rattle.narc_laws.proofs.Texts.{text_of_shown}
use Rattle.narc_laws.proofs.laws.capture_texts_are_shown.Goals as goal

pub returns : goal.returns
returns c = λ t. (shown_of_text t, text_of_shown t)
