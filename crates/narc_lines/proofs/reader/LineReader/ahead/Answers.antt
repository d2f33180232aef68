use Rattle.std.proofs.Common.{◌-◌, ◌≤◌, ap, subst, arith, length, length-take, take}
use Rattle.std.proofs.lemmas.List.{take-take}
use Rattle.narc_lines.specs.Lines.{HasNoFeed}
use Rattle.narc_lines.proofs.Feeds.{before_feed}
use Rattle.narc_lines.proofs.reader.LineReader.ahead.Goals as goal

pub invariant_of-self : goal.invariant_of-self
invariant_of-self c =
    let hand = c.hand-hand.result.now in
    let looked = take c.min-end.result hand in
    let count = c.in-Some.count in
    let within : count ≤ length looked = (c.in-Some.ensures).within in
    let fits : count ≤ c.min-end.result = omega (arith, within, length-take c.min-end.result hand) in
    let few : count - 1 ≤ c.min-end.result = omega arith in
    record {
      room = c.self.invariant.room;
      within = omega (arith, within, length-take c.min-end.result hand, ap length c.hand-hand.ensures.hand);
      fits = omega (arith, fits, c.min-end.ensures);
      none = subst (λ l. HasNoFeed (take (count - 1) l)) c.hand-hand.ensures.hand
          (subst HasNoFeed (take-take (count - 1) c.min-end.result hand few) (before_feed looked count c.in-Some.ensures));
    }
