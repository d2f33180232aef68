-- A line has room for the text of any packet that has a frame.
use Rattle.std.proofs.Common.{◌≡◌, ℕ, ◌-◌, ◌^◌, ◌≤◌, List, length, take, nat_lt, ap, arith, length-take, rules}
use Rattle.std.specs.Prelude.{Some, Result, Ok, Err, OnErr, IsOk, if◌then◌else◌}
use Rattle.narc_packet.specs.PacketView.{PacketView}
use Rattle.narc_packet.specs.WellFormed.{IsWellFormed}
use Rattle.narc_world.specs.declared.error.Failed.{Failed}
use Rattle.narc_world.specs.Outside.{CountsFaults, IsPushed}
use Rattle.narc_text.specs.PacketText.{text}
use Rattle.narc_text.proofs.TextSizes.{text-sized}
use Rattle.narc_c.specs.declared.limits.TheConstants.{LINE_SIZE}

-- the faults of a line
abbrev pub faults_at : (len : ℕ) → ℕ
faults_at len = if nat_lt len LINE_SIZE then 0 else 2 ^ 64 - 1

-- a line that lost octets is full
full : (len : ℕ) → 1 ≤ faults_at len → LINE_SIZE ≤ len
full len e = grind arith

pub text_fits : (p : PacketView) → IsWellFormed p → (r : Result (Unit {0}) Failed) (len : ℕ) (before octets : List ℕ) → length octets ≡ LINE_SIZE
    → IsPushed r (Some (take 0 before)) (Some (take len octets)) (text p) → CountsFaults (OnErr r) (faults_at 0) (faults_at len) → IsOk r
text_fits p w (Ok done) len before octets size pushed faults = search rules
text_fits p w (Err e) len before octets size pushed faults =
    let n = pushed.0 in
    let same : length (take len octets) ≡ length (take n (text p)) = ap length pushed.1 in
    absurd (omega (arith, same, size, full len faults.cause, length-take len octets, length-take n (text p), (text-sized p w).most))
