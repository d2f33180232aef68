-- The octets of a capture that is written.
use Rattle.std.specs.Prelude.{ℕ, Bool, List, ◌++◌, length, if◌then◌else◌}
use Rattle.byteorder.specs.Endian.{big_bytes, little_bytes}
use Rattle.narc_pcap.specs.declared.header.Unit.{Unit as TimeUnit}
use Rattle.narc_pcap.specs.declared.header.Unit.TheVariants.{Micro, Nano}
use Rattle.narc_pcap.specs.declared.header.Header.{Header}
use Rattle.narc_pcap.specs.declared.record.Record.{Record}

-- a number in k octets, in the byte order of the capture
abbrev pub number_octets : (big : Bool) → (k n : ℕ) → List ℕ
number_octets big k n = if big then big_bytes k n else little_bytes k n

-- the magic number that tells the unit
abbrev pub magic_of : TimeUnit → ℕ
magic_of Micro = 0xa1b2c3d4
magic_of Nano = 0xa1b23c4d

-- magic number, version 2.4, zone, accuracy, snapshot length and link type 1, Ethernet
abbrev pub header_octets : Header → List ℕ
header_octets h =
    number_octets h.big 4 (magic_of h.unit) ++ number_octets h.big 2 2 ++ number_octets h.big 2 4
    ++ number_octets h.big 4 h.zone ++ number_octets h.big 4 h.accuracy ++ number_octets h.big 4 h.snap
    ++ number_octets h.big 4 1

-- the header of a record
abbrev pub head_octets : (big : Bool) → (sec sub captured original : ℕ) → List ℕ
head_octets big sec sub captured original =
    number_octets big 4 sec ++ number_octets big 4 sub ++ number_octets big 4 captured ++ number_octets big 4 original

-- a record, and the octets of its frame that it has
abbrev pub record_octets : (big : Bool) → Record → (frame : List ℕ) → List ℕ
record_octets big r frame = head_octets big r.sec r.sub r.captured r.original ++ frame

-- a record that has its whole frame
abbrev pub whole_record : (big : Bool) → (sec sub : ℕ) → (frame : List ℕ) → List ℕ
whole_record big sec sub frame = head_octets big sec sub (length frame) (length frame) ++ frame

-- octets gathered in a buffer of this size
pub record Gathered : Type 0 where
  pub octets : List ℕ
  pub size : ℕ
