use Rattle.std.proofs.Common.{◌≡◌, ◌++◌, ◌<◌, refl, sym, ap, ◌∙◌, subst, length, take, arith}
use Rattle.std.specs.List.{AllByRecursion}
use Rattle.narc_world.specs.Outside.{TakesFront}
use Rattle.narc_world.proofs.Intakes.{each-drop}
use Rattle.narc_pcap.specs.Reading.{Reading}
use Rattle.narc_pcap.specs.Capture.{header_of}
use Rattle.narc_pcap.proofs.Readings.{Holds-then}
use Rattle.narc_pcap.proofs.reader.Reader.start.Goals as goal

pub pulls-preserved : goal.pulls-preserved
pulls-preserved g c =
    let i = c.pulls.invariant in
    let x = g.S.Source.left c.args.source.now in
    let y = g.S.Source.left c.pulls.source in
    let z = g.S.Source.left c.pull.new.source in
    record {
      holds = Holds-then c.args.self.now c.pulls.self c.pull.new.self x y z i.holds (c.in-Got.ensures.refilled).0;
      later = omega (arith, i.later, c.in-Got.ensures.faults.later);
    }

pub returns-in-End : goal.returns-in-End
returns-in-End g c =
    let i = c.pulls.invariant in
    let came = c.in-End.ensures.refilled in
    let x = g.S.Source.left c.args.source.now in
    let y = g.S.Source.left c.pulls.source in
    let z = g.S.Source.left c.pull.new.source in
    let few : length c.pull.new.self.hand < 24 = omega (arith, ap length came.2, c.len.ensures, c.pulls-test.true, ap (λ (r : Reading). length r.hand) c.self.view_is) in
    record {
      started = (Holds-then c.args.self.now c.pulls.self c.pull.new.self x y z i.holds came.0, few, came.3);
      faults = record { later = omega (arith, i.later, c.in-End.ensures.faults.later); cause = tt };
      reach = c.in-End.ensures.reach;
    }

pub returns-in-Failed : goal.returns-in-Failed
returns-in-Failed g c =
    let i = c.pulls.invariant in
    let came = c.in-Failed.ensures.refilled in
    let x = g.S.Source.left c.args.source.now in
    let y = g.S.Source.left c.pulls.source in
    let z = g.S.Source.left c.pull.new.source in
    let few : length c.pull.new.self.hand < 24 = omega (arith, ap length came.2, c.len.ensures, c.pulls-test.true, ap (λ (r : Reading). length r.hand) c.self.view_is) in
    record {
      started = (Holds-then c.args.self.now c.pulls.self c.pull.new.self x y z i.holds came.0, few);
      faults = record {
        later = omega (arith, i.later, c.in-Failed.ensures.faults.later);
        cause = omega (arith, i.later, c.in-Failed.ensures.faults.cause);
      };
      reach = c.in-Failed.ensures.reach;
    }

pub returns-clause-started : goal.returns-clause-started
returns-clause-started g c =
    let holds = c.pulls.invariant.holds in
    let all : holds.pulled ≡ c.pulls.self.hand = sym (holds.hand ∙ ap (λ l. l ++ holds.pulled) c.requires.0) in
    let hand = c.self-2.inside.input.hand in
    let seen : hand ≡ c.pulls.self.hand = ap (λ (r : Reading). r.hand) c.self-2.view_is in
    record {
      pulled = hand;
      took = subst (λ l. TakesFront l (g.S.Source.left c.args.source.now) (g.S.Source.left c.pulls.source)) (all ∙ sym seen) holds.took;
      enough = omega (arith, c.len.ensures, c.pulls-test.false, ap (λ (r : Reading). length r.hand) c.self.view_is, ap length seen);
      is = ap (λ l. header_of (take 24 l)) (sym c.hand.ensures.hand) ∙ sym c.of.ensures ∙ c.in-Ok.is;
      header = refl;
      hand = c.skip.ensures.hand;
      place = omega (arith, c.skip.ensures.place, ap (λ (r : Reading). r.place) c.self-2.view_is, holds.place, c.requires.1);
      opened = refl;
      octets = subst (AllByRecursion (λ octet. octet < 256)) (sym c.skip.ensures.hand) (each-drop (λ octet. octet < 256) 24 hand c.hand.ensures.octets);
    }
