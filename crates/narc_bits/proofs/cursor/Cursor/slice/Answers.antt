use Rattle.std.proofs.Common.{◌≡◌, ◌+◌, ◌*◌, ◌-◌, ◌/◌, ◌≤◌, length, take, drop, ap, ◌∙◌, arith}
use Rattle.narc_bits.specs.Bits.{bits}
use Rattle.narc_bits.specs.Scan.{Scan, bits_left}
use Rattle.narc_bits.proofs.Octets.{IsOctets-take, IsOctets-drop}
use Rattle.narc_bits.proofs.Scans.{length-bits_left, bits-slice}
use Rattle.narc_bits.proofs.cursor.Cursor.slice.Goals as goal

pub overflow_mul-self : goal.overflow_mul-self
overflow_mul-self g c = omega (arith, c.requires.enough, length-bits_left c.args.self.now, c.self.invariant, ap (λ (s : Scan). length s.octets) c.self.view_is, ap (λ (s : Scan). s.place) c.self.view_is)

pub overflow_add-self : goal.overflow_add-self
overflow_add-self g c = omega (arith, c.requires.enough, length-bits_left c.args.self.now, c.self.invariant, ap (λ (s : Scan). length s.octets) c.self.view_is, ap (λ (s : Scan). s.place) c.self.view_is)

pub overflow_add-result : goal.overflow_add-result
overflow_add-result g c = omega (arith, c.requires.enough, length-bits_left c.args.self.now, c.self.invariant, ap (λ (s : Scan). length s.octets) c.self.view_is, ap (λ (s : Scan). s.place) c.self.view_is)

pub slice_bounds-result-end : goal.slice_bounds-result-end
slice_bounds-result-end g c = omega (arith, c.requires.enough, c.requires.aligned, length-bits_left c.args.self.now, c.self.invariant, ap (λ (s : Scan). length s.octets) c.self.view_is, ap (λ (s : Scan). s.place) c.self.view_is)

pub returns-clause-value : goal.returns-clause-value
returns-clause-value g c =
    let at = c.self.inside.place / 8 in
    let b = c.self.inside.octets.now in
    let less : at + c.args.count - at ≡ c.args.count = omega arith in
    let start : 8 * at ≡ c.self.inside.place = omega (arith, c.requires.aligned, ap (λ (s : Scan). s.place) c.self.view_is) in
    let room : at + c.args.count ≤ length b = omega (arith, start, c.requires.enough, length-bits_left c.args.self.now, ap (λ (s : Scan). length s.octets) c.self.view_is, ap (λ (s : Scan). s.place) c.self.view_is) in
    ap (λ n. bits (take n (drop at b))) less
    ∙ bits-slice b at c.args.count room
    ∙ ap (λ p. take (8 * c.args.count) (drop p (bits b))) start
    ∙ ap (λ (s : Scan). take (8 * c.args.count) (bits_left s)) c.self.view_is

pub returns-clause-each : goal.returns-clause-each
returns-clause-each g c = IsOctets-take _ _ (IsOctets-drop (c.self.inside.place / 8) c.self.inside.octets.now c.self.invariant.2)
