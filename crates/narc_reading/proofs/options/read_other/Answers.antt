use Rattle.std.proofs.Common.{codes, decimal, refl, arith}
use Rattle.narc_packet.specs.PacketView.{tcp_option_view}
use Rattle.narc_reading.specs.OptionParts.{option_rest, IsNamed}
use Rattle.narc_reading.proofs.OptionNames.{opt-only}
use Rattle.narc_reading.proofs.OptionParts.{Differs}
use Rattle.narc_reading.proofs.Refusals.{IsReadBy-refused, behind, front}
use Rattle.narc_reading.proofs.options.read_other.Goals as goal

pub returns-in_err-kind : goal.returns-in_err-kind
returns-in_err-kind c =
    IsReadBy-refused tcp_option_view option_rest (IsNamed (codes "opt")) _ _ c.from_residual.ensures.0
    (λ o is. opt-only (Differs c.args.parts.now) o is.1 (λ kind octets is e. c.in_err-kind.ensures kind _ is.0 e) is.0)

pub returns-in_err-data : goal.returns-in_err-data
returns-in_err-data c =
    IsReadBy-refused tcp_option_view option_rest (IsNamed (codes "opt")) _ _ c.from_residual-in_err-data.ensures.0
    (λ o is. opt-only (Differs c.args.parts.now) o is.1 (λ kind octets is e. c.in_err-data.ensures octets (is.1.0, omega (arith, is.1.1, c.requires)) (behind c.in_ok-kind.ensures.1 e)) is.0)

pub returns : goal.returns
returns c =
    let last = c.in_ok-data.ensures in
    (((c.in_ok-kind.ensures.0, (last.0.0, omega (arith, last.0.1, c.requires))), refl), front (decimal c.in_ok-kind.kind) c.in_ok-kind.ensures.1 last.1)
