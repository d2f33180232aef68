-- What `show` writes for a whole capture of packets is a text.
use Rattle.std.proofs.Common.{◌≡◌, ℕ, ◌+◌, ◌<◌, ◌^◌, Bool, true, false, List, [], ◌∷◌, ◌++◌, length, map, cond, drop, Option, Some, None, Ok, Err, refl, sym, ap, ◌∙◌, subst, arith}
use Rattle.std.specs.Prelude.{IsTrue, IsSome, count_by, flat_map}
use Rattle.std.specs.List.{AllByRecursion}
use Rattle.std.proofs.lemmas.List.Sums.{sum_by-cons}
use Rattle.narc_bits.specs.Octets.{IsOctets}
use Rattle.narc_bits.proofs.Octets.{IsOctets-front, IsOctets-back, IsOctets-drop}
use Rattle.narc_packet.specs.Answer.{Answer}
use Rattle.narc_stack.proofs.WellFormed.{well_formed_of}
use Rattle.narc_pcap.specs.declared.header.Header.{Header}
use Rattle.narc_pcap.specs.declared.record.Record.{Record}
use Rattle.narc_pcap.specs.declared.record.End.{End}
use Rattle.narc_pcap.specs.declared.record.End.TheVariants.{Clean}
use Rattle.narc_pcap.specs.Capture.{Entry, CaptureView, capture, headed}
use Rattle.narc_pcap.specs.Laws.{AreRecords, IsCut, IsRecord, size_of}
use Rattle.narc_pcap.proofs.CaptureCuts.{captures_cut}
use Rattle.narc_text.specs.CaptureText.{TextEntry, IsTextEntry, entry_line, end_line}
use Rattle.narc_build.specs.CaptureFront.{TextCapture, IsCaptureText}
use Rattle.narc_run.specs.Job.{Capture, Show}
use Rattle.narc_run.specs.Findings.{Findings, Told, IsTold, AreTold, IsEntryAnswer}
use Rattle.narc_run.specs.Output.{header_line, capture_body, is_packet, is_refused, is_snap, last_line, output, show_line}
use Rattle.narc_laws.specs.CaptureTexts.{IsOfPackets, IsShownFor, IsShownText}
use Rattle.narc_laws.proofs.BuiltShown.{IsShownAs}
use Rattle.narc_laws.proofs.Numbers.{number_lt, snap_lt}

-- a record with a packet, as an entry of a text
record IsEntryOf (t : Told) : Type 0 where
  entry : TextEntry
  valid : IsTextEntry entry
  line : show_line t ≡ entry_line entry
  packet : is_packet t ≡ true
  refused : is_refused t ≡ false
  snapped : is_snap t ≡ false

entry_of : (big : Bool) (place : ℕ) (e : Entry) (octets : List ℕ) → IsRecord big place e octets → IsOctets octets
    → (answer : Option Answer) → IsEntryAnswer e answer → IsTrue (is_packet (record { entry = e; answer = answer })) → IsEntryOf (record { entry = e; answer = answer })
entry_of big place e octets r each None is packet = cc
entry_of big place e octets r each (Some (Err f)) is packet = cc
entry_of big place e octets r each (Some (Ok p)) is packet =
    let head = IsOctets-front r.header e.octets (subst IsOctets r.layout each) in
    record {
      entry = record { sec = e.head.sec; sub = e.head.sub; packet = p };
      valid = record {
        sec = subst (λ n. n < 2 ^ 32) (ap (λ (x : Record). x.sec) r.reads) (number_lt big r.header head);
        sub = subst (λ n. n < 2 ^ 32) (ap (λ (x : Record). x.sub) r.reads) (number_lt big (drop 4 r.header) (IsOctets-drop 4 r.header head));
        packet = well_formed_of p e.octets (is.1).right (omega (arith, r.frame, r.fits));
      };
      line = refl;
      packet = refl;
      refused = refl;
      snapped = refl;
    }

-- the entries of a text for these records
record AreEntriesOf (told : List Told) : Type 0 where
  entries : List TextEntry
  valid : AllByRecursion IsTextEntry entries
  shown : IsShownAs entries told

entries_of : (big : Bool) (place : ℕ) (told : List Told) (octets rest : List ℕ) → AreRecords big place (map (λ t. t.entry) told) octets rest → IsOctets octets
    → AllByRecursion IsTold told → AllByRecursion (λ t. IsTrue (is_packet t)) told → AreEntriesOf told
entries_of big place [] octets rest r each is packets = record {
  entries = [];
  valid = tt;
  shown = record { lines = refl; count = refl; packets = refl; refused = refl; snapped = refl };
}
entries_of big place (t ∷ told) octets rest r each is packets =
    let parts : IsOctets (r.0 ++ r.1) = subst IsOctets r.2 each in
    let first : IsEntryOf t = entry_of big place t.entry r.0 r.3 (IsOctets-front r.0 r.1 parts) t.answer is.0 packets.0 in
    let more = entries_of big (place + size_of t.entry) told r.1 rest r.4 (IsOctets-back r.0 r.1 parts) is.1 packets.1 in
    let later = more.shown in
    record {
      entries = first.entry ∷ more.entries;
      valid = (first.valid, more.valid);
      shown = record {
        lines = ap (λ l. l ++ flat_map show_line told) first.line ∙ ap (λ l. entry_line first.entry ++ l) later.lines;
        count = omega (arith, later.count);
        packets = omega (arith, sum_by-cons (λ (u : Told). cond {A = ℕ} (is_packet u) 1 0) t told, ap {B = ℕ} (λ b. cond {A = ℕ} b 1 0) first.packet, later.packets);
        refused = omega (arith, sum_by-cons (λ (u : Told). cond {A = ℕ} (is_refused u) 1 0) t told, ap {B = ℕ} (λ b. cond {A = ℕ} b 1 0) first.refused, later.refused);
        snapped = omega (arith, sum_by-cons (λ (u : Told). cond {A = ℕ} (is_snap u) 1 0) t told, ap {B = ℕ} (λ b. cond {A = ℕ} b 1 0) first.snapped, later.snapped);
      };
    }

-- the last line, where each record has a packet
last_is : (entries : List TextEntry) (told : List Told) → IsShownAs entries told → last_line told Clean ≡ end_line (length entries) (length entries) 0 0
last_is entries told shown =
    ap (λ n. end_line n (count_by is_packet told) (count_by is_refused told) (count_by is_snap told)) shown.count
    ∙ ap (λ n. end_line (length entries) n (count_by is_refused told) (count_by is_snap told)) shown.packets
    ∙ ap (λ n. end_line (length entries) (length entries) n (count_by is_snap told)) shown.refused
    ∙ ap (λ n. end_line (length entries) (length entries) 0 n) shown.snapped

module _ (s : List ℕ) (each : IsOctets s) (found : Findings) (are : AreTold (capture s).entries found.records) (whole : IsOfPackets s found) where
  text_with : (header : Option Header) → (capture s).header ≡ header → IsCaptureText (output (Capture Show) s found)
  text_with None e = let none : IsSome {T = Header} None = subst IsSome e whole.header in cc
  text_with (Some h) e =
      let told = found.records in
      let entries = map (λ (t : Told). t.entry) told in
      let view : capture s ≡ headed h (record { entries = entries; end = Clean }) =
      ap (λ (x : Option Header). record { header = x; entries = (capture s).entries; end = (capture s).end }) e
      ∙ ap (λ (x : List Entry). record { header = Some h; entries = x; end = (capture s).end }) (sym are.same)
      ∙ ap (λ (x : End). record { header = Some h; entries = entries; end = x }) whole.ends in
      let cut : IsCut s h entries Clean = (captures_cut s h entries Clean).0 view in
      let parts : IsOctets (cut.header ++ cut.behind) = subst IsOctets cut.layout each in
      let text = entries_of h.big 24 told cut.behind cut.rest cut.records (IsOctets-back cut.header cut.behind parts) are.right whole.packets in
      let c : TextCapture = record { unit = h.unit; snap = h.snap; entries = text.entries } in (
        c,
        record { snap = snap_lt cut.header h (IsOctets-front cut.header cut.behind parts) cut.reads; entries = text.valid },
        ap (λ (v : CaptureView). capture_body Show v.header told ++ last_line told v.end) view
            ∙ ap (λ l. (header_line h ++ l) ++ last_line told Clean) (text.shown).lines
            ∙ ap (λ l. (header_line h ++ flat_map entry_line text.entries) ++ l) (last_is text.entries told text.shown),
      )

pub text_of_shown : (t : List ℕ) → IsShownText t → IsCaptureText t
text_of_shown t shown =
    let s = shown.0 in
    let is : IsShownFor s t = shown.1 in
    let found = is.1 in
    subst IsCaptureText (found.holds).1 (text_with s is.0 found.found found.are (found.holds).0 (capture s).header refl)
