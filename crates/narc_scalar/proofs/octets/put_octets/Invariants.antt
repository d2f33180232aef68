use Rattle.std.proofs.Common.{◌≡◌, ◌+◌, ◌*◌, take, length}
use Rattle.narc_bits.specs.Bits.{bits, overlay}
use Rattle.narc_scalar.proofs.octets.put_octets.Given as goal

abbrev pub invariant-loop-octet : goal.invariant-loop-octet
invariant-loop-octet l = record {
  len : length l.room ≡ length l.fn.room;
  place : l.writer ≡ l.fn.writer + 8 * l.octet-index;
  put : bits l.room ≡ overlay (bits l.fn.room) l.fn.writer (bits (take l.octet-index l.octets));
}
