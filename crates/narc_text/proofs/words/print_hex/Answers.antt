use Rattle.std.proofs.Common.{rules, ◌≡◌, ◌++◌, [], length, drop, refl, sym, ap, ◌∙◌, subst, arith, append-nil, append_assoc, take-append-drop}
use Rattle.hex.specs.Hex.{encode_lower}
use Rattle.narc_packet.specs.TextWords.{hex_word}
use Rattle.narc_text.specs.Printing.{Passes, Stops}
use Rattle.narc_text.proofs.HexWords.{encode_lower-append, encode_lower-nil, hex_word-split, is_some}
use Rattle.narc_text.proofs.Printings.{Passes-put, Passes-room, Passes-then, Stops-then, Stops-more, IsPrinted-failed}
use Rattle.narc_text.proofs.words.print_hex.Goals as goal

pub loop-rest-init : goal.loop-rest-init
loop-rest-init g c = record {
  done = record { front = []; joined = refl };
  printed = Passes-put (encode_lower []) c.args.page.now c.args.page.now (g.K.Sink.held c.args.sink.now) (sym (append-nil c.args.page.now) ∙ ap (λ l. c.args.page.now ++ l) (sym encode_lower-nil));
  later = omega arith;
}

pub loop-rest-preserved : goal.loop-rest-preserved
loop-rest-preserved g c =
    let so_far = c.loop-rest.invariant in
    let piece = c.split_at.result.0.now in
    let start = c.args.page.now in
    let before = g.K.Sink.held c.args.sink.now in
    let now = g.K.Sink.held c.make_room.new.sink in
    let middle = c.min.result in
    let rest = c.loop-rest.rest.now in
    let later = c.split_at.result.1.now in
    let cut : rest ≡ piece ++ later = sym (take-append-drop middle rest) ∙ ap (λ l. l ++ drop middle rest) (sym c.split_at.ensures.front) ∙ ap (λ l. piece ++ l) (sym c.split_at.ensures.back) in
    record {
      done = record {
        front = so_far.done.front ++ piece;
        joined = so_far.done.joined ∙ ap (λ l. so_far.done.front ++ l) cut ∙ sym (append_assoc so_far.done.front piece later);
      };
      printed = subst (λ l. Passes (start ++ l) c.put_digits.new.self before now) (sym (encode_lower-append so_far.done.front piece))
          (Passes-then (encode_lower so_far.done.front) (encode_lower piece) start c.loop-rest.page c.put_digits.new.self before (g.K.Sink.held c.loop-rest.sink) now so_far.printed
          (Passes-room (encode_lower piece) c.loop-rest.page c.make_room.new.self c.put_digits.new.self (g.K.Sink.held c.loop-rest.sink) now c.in_ok-make_room.ensures.printed c.put_digits.ensures));
      later = omega (arith, so_far.later, c.in_ok-make_room.ensures.faults.later);
    }

pub returns-in_err-make_room-clause-printed : goal.returns-in_err-make_room-clause-printed
returns-in_err-make_room-clause-printed g c =
    let so_far = c.loop-rest.invariant in
    let rest = c.loop-rest.rest.now in
    let before = g.K.Sink.held c.args.sink.now in
    let middle = g.K.Sink.held c.loop-rest.sink in
    let now = g.K.Sink.held c.make_room.new.sink in
    let stopped = Stops-then (encode_lower so_far.done.front) (encode_lower rest) c.args.page.now c.loop-rest.page before middle now so_far.printed
    (Stops-more [] (encode_lower rest) c.loop-rest.page middle now c.in_err-make_room.ensures.printed) in
    IsPrinted-failed (hex_word c.args.octets.now) c.args.page.now c.make_room.new.self before now c.from_residual.result c.from_residual.ensures.0
    (subst (λ l. Stops (c.args.page.now ++ l) before now) (sym (hex_word-split c.args.octets.now so_far.done.front rest (is_some (length c.args.octets.now) c.is_empty.result c.is_empty.ensures c.if-is_empty.false) so_far.done.joined)) stopped)

pub returns-then-is_empty-clause-printed : goal.returns-then-is_empty-clause-printed
returns-then-is_empty-clause-printed g c = search rules
