use Rattle.std.proofs.Common.{[], codes, decimal, refl}
use Rattle.narc_packet.specs.PacketView.{tcp_option_view}
use Rattle.narc_reading.specs.OptionParts.{option_rest, IsNamed}
use Rattle.narc_reading.proofs.OptionNames.{times-only}
use Rattle.narc_reading.proofs.OptionParts.{Differs}
use Rattle.narc_reading.proofs.Refusals.{IsReadBy-refused, behind, front}
use Rattle.narc_reading.proofs.options.read_times.Goals as goal

pub returns-in_err-value : goal.returns-in_err-value
returns-in_err-value c =
    IsReadBy-refused tcp_option_view option_rest (IsNamed (codes "ts")) _ _ c.from_residual.ensures.0
    (λ o is. times-only (Differs c.args.parts.now) o is.1 (λ value echo is e. c.in_err-value.ensures value _ is.0 e) is.0)

pub returns-in_err-echo : goal.returns-in_err-echo
returns-in_err-echo c =
    IsReadBy-refused tcp_option_view option_rest (IsNamed (codes "ts")) _ _ c.from_residual-in_err-echo.ensures.0
    (λ o is. times-only (Differs c.args.parts.now) o is.1 (λ value echo is e. c.in_err-echo.ensures echo [] is.1 (behind c.in_ok-value.ensures.1 e)) is.0)

pub returns-in_err-end : goal.returns-in_err-end
returns-in_err-end c =
    IsReadBy-refused tcp_option_view option_rest (IsNamed (codes "ts")) _ _ c.from_residual-in_err-end.ensures.0
    (λ o is. times-only (Differs c.args.parts.now) o is.1 (λ value echo is e. c.in_err-end.ensures.err (behind c.in_ok-echo.ensures.1 (behind c.in_ok-value.ensures.1 e))) is.0)

pub returns : goal.returns
returns c = (
  ((c.in_ok-value.ensures.0, c.in_ok-echo.ensures.0), refl),
  front (decimal c.in_ok-value.value) c.in_ok-value.ensures.1 (front (decimal c.in_ok-echo.echo) c.in_ok-echo.ensures.1 c.in_ok-end.ensures.ok),
)
