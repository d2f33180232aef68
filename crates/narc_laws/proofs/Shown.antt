-- The text of a capture is shown for what is made of it.
use Rattle.std.proofs.Common.{◌≡◌, ℕ, ◌+◌, true, List, [], ◌∷◌, ◌++◌, length, map, Some, Ok, refl, sym, ap, ◌∙◌, subst, arith}
use Rattle.std.specs.Prelude.{IsTrue, IsSome, flat_map}
use Rattle.std.specs.List.{AllByRecursion}
use Rattle.std.proofs.lemmas.Bool.{le-ltb}
use Rattle.narc_bits.specs.Octets.{IsOctets}
use Rattle.narc_bits.proofs.Octets.{IsOctets-append, IsOctets-big_endian}
use Rattle.narc_packet.specs.Answer.{IsOnlyAnswer}
use Rattle.narc_packet.specs.Frame.{IsFrame}
use Rattle.narc_packet.specs.PacketView.{PacketView}
use Rattle.narc_packet.specs.WellFormed.{IsWellFormed}
use Rattle.narc_packet.specs.Canonical.{canonical_frame}
use Rattle.narc_stack.proofs.Canonical.{canonical_is_frame}
use Rattle.narc_stack.proofs.WellFormed.{well_formed_admitted, canonical_small}
use Rattle.narc_pcap.specs.Capture.{CaptureView, capture}
use Rattle.narc_pcap.specs.Laws.{size_of}
use Rattle.narc_pcap.specs.Written.{header_octets, head_octets, magic_of, number_octets}
use Rattle.narc_text.specs.CaptureText.{TextEntry, IsTextEntry}
use Rattle.narc_build.specs.BuiltCapture.{built_header, built_record, built_capture}
use Rattle.narc_build.specs.CaptureFront.{TextCapture, IsTextCapture, IsCaptureText, capture_text}
use Rattle.narc_run.specs.Findings.{Findings, Told, IsTold, AreTold}
use Rattle.narc_run.specs.Output.{is_packet}
use Rattle.narc_run.proofs.Answered.{frame_answered}
use Rattle.narc_run.proofs.FrameAnswers.{no_findings}
use Rattle.narc_laws.specs.CaptureTexts.{IsShownFor, IsShownText}
use Rattle.narc_laws.proofs.BuiltShown.{entry_at, entries_at, made_is, built_is_shown}

-- ---- octets

number_each : (k n : ℕ) → IsOctets (number_octets true k n)
number_each k n = IsOctets-big_endian k n

-- a number, and octets behind it
number_before : (k n : ℕ) (l : List ℕ) → IsOctets l → IsOctets (number_octets true k n ++ l)
number_before k n l each = IsOctets-append (number_octets true k n) l (number_each k n) each

head_each : (sec sub captured original : ℕ) → IsOctets (head_octets true sec sub captured original)
head_each sec sub captured original =
    let last = number_octets true 4 original in
    let sizes = number_octets true 4 captured ++ last in
    number_before 4 sec (number_octets true 4 sub ++ sizes) (number_before 4 sub sizes (number_before 4 captured last (number_each 4 original)))

header_each : (c : TextCapture) → IsOctets (header_octets (built_header c))
header_each c =
    let link = number_octets true 4 1 in
    let snap = number_octets true 4 c.snap ++ link in
    let accuracy = number_octets true 4 0 ++ snap in
    let zone = number_octets true 4 0 ++ accuracy in
    let minor = number_octets true 2 4 ++ zone in
    let version = number_octets true 2 2 ++ minor in
    number_before 4 (magic_of c.unit) version (number_before 2 2 minor (number_before 2 4 zone
    (number_before 4 0 accuracy (number_before 4 0 snap (number_before 4 c.snap link (number_each 4 1))))))

frame_is : (p : PacketView) → IsWellFormed p → IsFrame p (canonical_frame p)
frame_is p h = canonical_is_frame p (well_formed_admitted p h)

records_each : (entries : List TextEntry) → AllByRecursion IsTextEntry entries → IsOctets (flat_map built_record entries)
records_each [] valid = tt
records_each (e ∷ entries) valid =
    let frame = canonical_frame e.packet in
    let n = length frame in
    let head = head_octets true e.sec e.sub n n in
    let e_valid = valid.0 in
    IsOctets-append (head ++ frame) (flat_map built_record entries) (IsOctets-append head frame (head_each e.sec e.sub n n) (frame_is e.packet e_valid.packet).octets) (records_each entries valid.1)

-- ---- what is found

only : (p : PacketView) → IsWellFormed p → IsOnlyAnswer (canonical_frame p) (Ok p)
only p h =
    let is = frame_is p h in
    let a = frame_answered (canonical_frame p) is.octets (canonical_small p h) in
    subst (IsOnlyAnswer (canonical_frame p)) ((a.1).packet p is) a.1

-- the record of an entry at this place, with its packet
abbrev told_at : (place : ℕ) → TextEntry → Told
told_at place e = record { entry = entry_at place e; answer = Some (Ok e.packet) }

abbrev all_at : (place : ℕ) → List TextEntry → List Told
all_at place [] = []
all_at place (e ∷ entries) = told_at place e ∷ all_at (place + size_of (entry_at place e)) entries

-- their records are those that are made
all_entries : (place : ℕ) (entries : List TextEntry) → map (λ (t : Told). t.entry) (all_at place entries) ≡ entries_at place entries
all_entries place [] = refl
all_entries place (e ∷ entries) = ap (λ l. entry_at place e ∷ l) (all_entries (place + size_of (entry_at place e)) entries)

all_told : (place : ℕ) (entries : List TextEntry) → AllByRecursion IsTextEntry entries → AllByRecursion IsTold (all_at place entries)
all_told place [] valid = tt
all_told place (e ∷ entries) valid =
    let n = length (canonical_frame e.packet) in
    let e_valid = valid.0 in
    ((le-ltb n n (omega arith), only e.packet e_valid.packet), all_told (place + size_of (entry_at place e)) entries valid.1)

all_packets : (place : ℕ) (entries : List TextEntry) → AllByRecursion (λ t. IsTrue (is_packet t)) (all_at place entries)
all_packets place [] = tt
all_packets place (e ∷ entries) = (refl, all_packets (place + size_of (entry_at place e)) entries)

-- `show` writes the text for what is made of it
pub shown_for : (t : List ℕ) (c : TextCapture) → IsTextCapture c → t ≡ capture_text c → IsShownFor (built_capture c) t
shown_for t c valid is =
    let view = made_is c valid in
    let told = all_at 24 c.entries in
    let found : Findings = record no_findings { records = told } in
    let are : AreTold (capture (built_capture c)).entries told = record {
      same = all_entries 24 c.entries ∙ ap (λ (v : CaptureView). v.entries) (sym view);
      right = all_told 24 c.entries valid.entries;
    } in (
      IsOctets-append (header_octets (built_header c)) (flat_map built_record c.entries) (header_each c) (records_each c.entries valid.entries),
      record {
        found = found;
        are = are;
        holds = (
          record {
            header = subst (λ (v : CaptureView). IsSome v.header) (sym view) refl;
            ends = ap (λ (v : CaptureView). v.end) view;
            packets = all_packets 24 c.entries;
          },
          built_is_shown c found valid are ∙ sym is,
        );
      },
    )

pub shown_of_text : (t : List ℕ) → IsCaptureText t → IsShownText t
shown_of_text t text = (built_capture text.0, shown_for t text.0 text.1 text.2)
