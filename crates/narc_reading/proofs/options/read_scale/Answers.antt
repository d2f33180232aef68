use Rattle.std.proofs.Common.{[], codes, decimal, refl}
use Rattle.narc_packet.specs.PacketView.{tcp_option_view}
use Rattle.narc_reading.specs.OptionParts.{option_rest, IsNamed}
use Rattle.narc_reading.proofs.OptionNames.{scale-only}
use Rattle.narc_reading.proofs.OptionParts.{Differs}
use Rattle.narc_reading.proofs.Refusals.{IsReadBy-refused, behind, front}
use Rattle.narc_reading.proofs.options.read_scale.Goals as goal

pub returns-in_err-shift : goal.returns-in_err-shift
returns-in_err-shift c =
    IsReadBy-refused tcp_option_view option_rest (IsNamed (codes "scale")) _ _ c.from_residual.ensures.0
    (λ o is. scale-only (Differs c.args.parts.now) o is.1 (λ shift is e. c.in_err-shift.ensures shift [] is e) is.0)

pub returns-in_err-end : goal.returns-in_err-end
returns-in_err-end c =
    IsReadBy-refused tcp_option_view option_rest (IsNamed (codes "scale")) _ _ c.from_residual-in_err-end.ensures.0
    (λ o is. scale-only (Differs c.args.parts.now) o is.1 (λ shift is e. c.in_err-end.ensures.err (behind c.in_ok-shift.ensures.1 e)) is.0)

pub returns : goal.returns
returns c = ((c.in_ok-shift.ensures.0, refl), front (decimal c.in_ok-shift.shift) c.in_ok-shift.ensures.1 c.in_ok-end.ensures.ok)
