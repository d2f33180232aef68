use Rattle.std.proofs.Common.{[], codes, decimal, refl}
use Rattle.narc_packet.specs.PacketView.{tcp_option_view}
use Rattle.narc_reading.specs.OptionParts.{option_rest, IsNamed}
use Rattle.narc_reading.proofs.OptionNames.{mss-only}
use Rattle.narc_reading.proofs.OptionParts.{Differs}
use Rattle.narc_reading.proofs.Refusals.{IsReadBy-refused, behind, front}
use Rattle.narc_reading.proofs.options.read_size.Goals as goal

pub returns-in_err-size : goal.returns-in_err-size
returns-in_err-size c =
    IsReadBy-refused tcp_option_view option_rest (IsNamed (codes "mss")) _ _ c.from_residual.ensures.0
    (λ o is. mss-only (Differs c.args.parts.now) o is.1 (λ size is e. c.in_err-size.ensures size [] is e) is.0)

pub returns-in_err-end : goal.returns-in_err-end
returns-in_err-end c =
    IsReadBy-refused tcp_option_view option_rest (IsNamed (codes "mss")) _ _ c.from_residual-in_err-end.ensures.0
    (λ o is. mss-only (Differs c.args.parts.now) o is.1 (λ size is e. c.in_err-end.ensures.err (behind c.in_ok-size.ensures.1 e)) is.0)

pub returns : goal.returns
returns c = ((c.in_ok-size.ensures.0, refl), front (decimal c.in_ok-size.size) c.in_ok-size.ensures.1 c.in_ok-end.ensures.ok)
