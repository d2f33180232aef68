-- `show` of what is made of a text writes the text again.
use Rattle.std.proofs.Common.{◌≡◌, ℕ, ◌+◌, ◌<◌, true, List, [], ◌∷◌, ◌++◌, length, map, cond, drop, get_or, Option, Some, None, Ok, refl, ap, ◌∙◌, subst, arith, length-append}
use Rattle.std.specs.Prelude.{count_by, flat_map}
use Rattle.std.specs.List.{AllByRecursion}
use Rattle.std.proofs.lemmas.Bool.{ltb-true}
use Rattle.std.proofs.lemmas.List.Sums.{sum_by-cons}
use Rattle.narc_packet.specs.Answer.{Answer}
use Rattle.narc_packet.specs.Canonical.{canonical_frame}
use Rattle.narc_stack.proofs.Canonical.{canonical_is_frame}
use Rattle.narc_stack.proofs.WellFormed.{well_formed_admitted, canonical_small}
use Rattle.narc_pcap.specs.declared.record.End.TheVariants.{Clean}
use Rattle.narc_pcap.specs.Capture.{Entry, CaptureView, capture, headed}
use Rattle.narc_pcap.specs.Laws.{AreRecords, IsRecord, size_of}
use Rattle.narc_pcap.specs.Written.{header_octets, head_octets}
use Rattle.narc_pcap.proofs.CaptureCuts.{captures_cut}
use Rattle.narc_pcap.proofs.WrittenRead.{header_read, head_read}
use Rattle.narc_pcap.proofs.WrittenSizes.{header-size, head-size}
use Rattle.narc_text.specs.CaptureText.{TextEntry, IsTextEntry, entry_line, end_line}
use Rattle.narc_build.specs.BuiltCapture.{built_header, built_record, built_capture}
use Rattle.narc_build.specs.CaptureFront.{TextCapture, IsTextCapture}
use Rattle.narc_run.specs.Job.{Show}
use Rattle.narc_run.specs.Findings.{Told, IsTold, AreTold, IsEntryAnswer}
use Rattle.narc_run.specs.Output.{header_line, capture_body, is_packet, is_refused, is_snap, last_line, show_line}
use Rattle.narc_laws.specs.CaptureTexts.{BuiltIsShown}

-- ---- the capture that is made

-- the record of an entry at this place
abbrev pub entry_at : (place : ℕ) → TextEntry → Entry
entry_at place e =
    let frame = canonical_frame e.packet in
    record { head = record { offset = place; sec = e.sec; sub = e.sub; captured = length frame; original = length frame }; octets = frame }

abbrev pub entries_at : (place : ℕ) → List TextEntry → List Entry
entries_at place [] = []
entries_at place (e ∷ entries) = entry_at place e ∷ entries_at (place + size_of (entry_at place e)) entries

is_record : (place : ℕ) (e : TextEntry) → IsTextEntry e → IsRecord true place (entry_at place e) (built_record e)
is_record place e valid =
    let n = length (canonical_frame e.packet) in
    let small = canonical_small e.packet valid.packet in
    record {
      header = head_octets true e.sec e.sub n n;
      layout = refl;
      size = head-size true e.sec e.sub n n;
      reads = head_read true ((entry_at place e).head) (record { sec = valid.sec; sub = valid.sub; captured = omega (arith, small); original = omega (arith, small) });
      frame = refl;
      fits = omega (arith, small);
    }

are_records : (place : ℕ) (entries : List TextEntry) → AllByRecursion IsTextEntry entries → AreRecords true place (entries_at place entries) (flat_map built_record entries) []
are_records place [] valid = refl
are_records place (e ∷ entries) valid =
    (built_record e, flat_map built_record entries, refl, is_record place e valid.0, are_records (place + size_of (entry_at place e)) entries valid.1)

pub made_is : (c : TextCapture) → IsTextCapture c → capture (built_capture c) ≡ headed (built_header c) (record { entries = entries_at 24 c.entries; end = Clean })
made_is c valid =
    let h = built_header c in
    (captures_cut (built_capture c) h (entries_at 24 c.entries) Clean).1 (record {
      header = header_octets h;
      behind = flat_map built_record c.entries;
      rest = [];
      layout = refl;
      size = header-size h;
      reads = header_read h (record { zone = omega arith; accuracy = omega arith; snap = valid.snap });
      records = are_records 24 c.entries valid.entries;
      stops = λ e first later split is. absurd (omega (arith, ap length split, length-append first later, ap length is.layout, length-append is.header e.octets, is.size));
      ends = refl;
    })

-- ---- what is told of it

-- a record that is made has the packet of its entry
answered : (place : ℕ) (e : TextEntry) → IsTextEntry e → (answer : Option Answer) → IsEntryAnswer (entry_at place e) answer → answer ≡ Some (Ok e.packet)
answered place e valid None snapped =
    let less : length (canonical_frame e.packet) < length (canonical_frame e.packet) = ltb-true (length (canonical_frame e.packet)) (length (canonical_frame e.packet)) snapped in
    absurd (omega (arith, less))
answered place e valid (Some answer) is = ap Some ((is.1).packet e.packet (canonical_is_frame e.packet (well_formed_admitted e.packet valid.packet)))

told_is : (place : ℕ) (e : TextEntry) (t : Told) → IsTextEntry e → t.entry ≡ entry_at place e → IsTold t → t ≡ record { entry = entry_at place e; answer = Some (Ok e.packet) }
told_is place e t valid same is =
    let answer = answered place e valid t.answer (subst (λ (x : Entry). IsEntryAnswer x t.answer) same is) in
    ap (λ (x : Entry). record { entry = x; answer = t.answer }) same ∙ ap (λ (a : Option Answer). record { entry = entry_at place e; answer = a }) answer

-- the lines, and the counts
pub record IsShownAs (entries : List TextEntry) (told : List Told) : Type 0 where
  pub lines : flat_map show_line told ≡ flat_map entry_line entries
  pub count : length told ≡ length entries
  pub packets : count_by is_packet told ≡ length entries
  pub refused : count_by is_refused told ≡ 0
  pub snapped : count_by is_snap told ≡ 0

shown_as : (place : ℕ) (entries : List TextEntry) (told : List Told) → AllByRecursion IsTextEntry entries → map (λ t. t.entry) told ≡ entries_at place entries → AllByRecursion IsTold told
    → IsShownAs entries told
shown_as place [] [] valid same is = record { lines = refl; count = refl; packets = refl; refused = refl; snapped = refl }
shown_as place [] (t ∷ told) valid same is = cc
shown_as place (e ∷ entries) [] valid same is = cc
shown_as place (e ∷ entries) (t ∷ told) valid same is =
    let first : t.entry ≡ entry_at place e = ap (λ (l : List Entry). get_or l 0 t.entry) same in
    let t_is = told_is place e t valid.0 first is.0 in
    let later = shown_as (place + size_of (entry_at place e)) entries told valid.1 (ap (drop 1) same) is.1 in
    record {
      lines = ap (λ (u : Told). show_line u ++ flat_map show_line told) t_is ∙ ap (λ l. entry_line e ++ l) later.lines;
      count = omega (arith, later.count);
      packets = omega (arith, sum_by-cons (λ (u : Told). cond {A = ℕ} (is_packet u) 1 0) t told, ap {B = ℕ} (λ (u : Told). cond {A = ℕ} (is_packet u) 1 0) t_is, later.packets);
      refused = omega (arith, sum_by-cons (λ (u : Told). cond {A = ℕ} (is_refused u) 1 0) t told, ap {B = ℕ} (λ (u : Told). cond {A = ℕ} (is_refused u) 1 0) t_is, later.refused);
      snapped = omega (arith, sum_by-cons (λ (u : Told). cond {A = ℕ} (is_snap u) 1 0) t told, ap {B = ℕ} (λ (u : Told). cond {A = ℕ} (is_snap u) 1 0) t_is, later.snapped);
    }

pub built_is_shown : BuiltIsShown
built_is_shown c found valid are =
    let view = made_is c valid in
    let told = subst (λ (v : CaptureView). AreTold v.entries found.records) view are in
    let shown = shown_as 24 c.entries found.records valid.entries told.same told.right in
    let head = header_line (built_header c) in
    let last : last_line found.records Clean ≡ end_line (length c.entries) (length c.entries) 0 0 =
    ap (λ n. end_line n (count_by is_packet found.records) (count_by is_refused found.records) (count_by is_snap found.records)) shown.count
    ∙ ap (λ n. end_line (length c.entries) n (count_by is_refused found.records) (count_by is_snap found.records)) shown.packets
    ∙ ap (λ n. end_line (length c.entries) (length c.entries) n (count_by is_snap found.records)) shown.refused
    ∙ ap (λ n. end_line (length c.entries) (length c.entries) 0 n) shown.snapped in
    ap (λ (v : CaptureView). capture_body Show v.header found.records ++ last_line found.records v.end) view
    ∙ ap (λ l. (head ++ l) ++ last_line found.records Clean) shown.lines
    ∙ ap (λ l. (head ++ flat_map entry_line c.entries) ++ l) last
