-- The capture that is made of a text.
use Rattle.std.specs.Prelude.{true, List, ℕ, [], ◌++◌, flat_map}
use Rattle.narc_packet.specs.Canonical.{canonical_frame}
use Rattle.narc_pcap.specs.declared.header.Header.{Header}
use Rattle.narc_pcap.specs.Written.{header_octets, whole_record}
use Rattle.narc_text.specs.CaptureText.{TextEntry}
use Rattle.narc_build.specs.CaptureFront.{TextCapture, TextFront, NoLine, Begun, Whole}

-- the header: most significant octet first
abbrev pub built_header : TextCapture → Header
built_header c = record { big = true; unit = c.unit; zone = 0; accuracy = 0; snap = c.snap }

-- the record of a packet, with the frame that is written for it
abbrev pub built_record : TextEntry → List ℕ
built_record e = whole_record true e.sec e.sub (canonical_frame e.packet)

abbrev pub built_capture : TextCapture → List ℕ
built_capture c = header_octets (built_header c) ++ flat_map built_record c.entries

-- what is made of the first lines of a text
abbrev pub built : TextFront → List ℕ
built NoLine = []
built (Begun c) = built_capture c
built (Whole c) = built_capture c
