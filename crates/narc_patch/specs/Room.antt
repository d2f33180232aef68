-- Room for the headers of a frame.
use Rattle.std.specs.Prelude.{◌≡◌, ℕ, ◌+◌, ◌≤◌, List, length}
use Rattle.narc_bits.specs.Octets.{number_at}
use Rattle.narc_packet.specs.Frame.{ipv4_type}
use Rattle.narc_patch.specs.declared.headers.Headers.{Headers}
use Rattle.narc_patch.specs.declared.headers.Headers.TheVariants.{Unread, Arp, Ipv4, Udp, Tcp}
use Rattle.narc_patch.specs.Patched.{headers_in}

-- so many octets of frame hold these headers
abbrev pub HasRoom : Headers → ℕ → Type 0
HasRoom Unread size = 14 ≤ size
HasRoom Arp size = 42 ≤ size
HasRoom Ipv4 size = 34 ≤ size
HasRoom (Udp start) size = (34 ≤ size) × (start + 8 ≤ size)
HasRoom (Tcp start) size = (34 ≤ size) × (start + 20 ≤ size)

-- The frame holds its headers.
pub record HasHeaders (frame : List ℕ) : Type 0 where
  pub ethernet : 14 ≤ length frame
  pub ipv4 : number_at frame 12 2 ≡ ipv4_type → 34 ≤ length frame
  pub all : HasRoom (headers_in frame) (length frame)
