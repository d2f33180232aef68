-- `rewrite` without assignments of what `rewrite` wrote writes the same octets.
use Rattle.std.proofs.Common.{◌≡◌, ℕ, ◌+◌, ◌<◌, ◌^◌, Bool, List, [], ◌∷◌, ◌++◌, length, map, drop, Option, Some, None, Ok, Err, refl, sym, ap, ◌∙◌, subst, arith, append-nil, length-append}
use Rattle.std.specs.Prelude.{flat_map}
use Rattle.std.specs.List.{AllByRecursion}
use Rattle.std.proofs.lemmas.Bool.{ltb-true}
use Rattle.narc_bits.specs.Octets.{IsOctets}
use Rattle.narc_bits.proofs.Octets.{IsOctets-front, IsOctets-back, IsOctets-drop}
use Rattle.narc_packet.specs.Answer.{Answer}
use Rattle.narc_packet.specs.Canonical.{canonical_frame}
use Rattle.narc_packet.specs.PacketView.{PacketView, EthBodyView, ArpBody, Ipv4Body, OtherBody, IpBodyView, UdpBody, TcpBody, RawBody}
use Rattle.narc_packet.specs.WellFormed.{IsWellFormed}
use Rattle.narc_stack.proofs.Canonical.{canonical_is_frame}
use Rattle.narc_stack.proofs.WellFormed.{well_formed_admitted, well_formed_of, canonical_small}
use Rattle.narc_pcap.specs.declared.header.Header.{Header}
use Rattle.narc_pcap.specs.declared.record.Record.{Record}
use Rattle.narc_pcap.specs.declared.record.End.TheVariants.{Clean}
use Rattle.narc_pcap.specs.Capture.{Entry, CaptureView, capture, headed}
use Rattle.narc_pcap.specs.Laws.{AreRecords, IsCut, IsRecord, size_of}
use Rattle.narc_pcap.specs.Written.{header_octets, head_octets, record_octets, whole_record}
use Rattle.narc_pcap.proofs.CaptureCuts.{captures_cut}
use Rattle.narc_pcap.proofs.Cuts.{capture-torn}
use Rattle.narc_pcap.proofs.WrittenRead.{head_read}
use Rattle.narc_pcap.proofs.WrittenSizes.{head-size}
use Rattle.narc_edit.specs.declared.edits.Edits.{Edits}
use Rattle.narc_edit.specs.Assignments.{no_edits}
use Rattle.narc_edit.specs.Edited.{edited, edited_eth_body, edited_ip_body}
use Rattle.narc_edit.specs.Ranges.{AreInRange}
use Rattle.narc_edit.proofs.EditedWellFormed.{edited_is_well_formed}
use Rattle.narc_run.specs.Job.{Rewrite}
use Rattle.narc_run.specs.Findings.{Findings, Told, IsTold, AreTold, IsEntryAnswer}
use Rattle.narc_run.specs.Output.{capture_body, output}
use Rattle.narc_run.specs.Editing.{rewritten_as}
use Rattle.narc_laws.specs.RewrittenCaptures.{UneditedPacketsStay, RewrittenCapturesStay, rewriting}
use Rattle.narc_laws.proofs.Numbers.{number_lt}
use Rattle.narc_laws.proofs.ReadWritten.{header_written, record_written}

-- ---- without assignments

unedited_ip : (b : IpBodyView) → edited_ip_body no_edits b ≡ b
unedited_ip (UdpBody u) = refl
unedited_ip (TcpBody t) = refl
unedited_ip (RawBody protocol payload) = refl

unedited_eth : (b : EthBodyView) → edited_eth_body no_edits b ≡ b
unedited_eth (ArpBody a) = refl
unedited_eth (Ipv4Body p) = ap (λ (b : IpBodyView). Ipv4Body (record p { body = b })) (unedited_ip p.body)
unedited_eth (OtherBody ether_type payload) = refl

pub unedited : UneditedPacketsStay
unedited p = ap (λ (b : EthBodyView). record p { body = b }) (unedited_eth p.body)

-- ---- a record that is written

abbrev rewritten : Edits → (big : Bool) → Told → List ℕ
rewritten es big t = rewritten_as es big t.entry t.answer

-- the same record at another place
abbrev moved : (place : ℕ) → Entry → Entry
moved place e = record { head = record e.head { offset = place }; octets = e.octets }

module _ (big : Bool) (es : Edits) (given : AreInRange es) where
  -- what is read of the record that is written at this place, and its answer
  abbrev entry_as : (place : ℕ) → Entry → Option Answer → Entry
  entry_as place e None = moved place e
  entry_as place e (Some (Ok p)) =
      let frame = canonical_frame (edited es p) in
      record { head = record { offset = place; sec = e.head.sec; sub = e.head.sub; captured = length frame; original = length frame }; octets = frame }
  entry_as place e (Some (Err r)) = moved place e

  abbrev answer_as : Option Answer → Option Answer
  answer_as None = None
  answer_as (Some (Ok p)) = Some (Ok (edited es p))
  answer_as (Some (Err r)) = Some (Err r)

  module _ (from : ℕ) (e : Entry) (octets : List ℕ) (r : IsRecord big from e octets) (each : IsOctets octets) where
    head_each : IsOctets r.header
    head_each = IsOctets-front r.header e.octets (subst IsOctets r.layout each)

    passed : (place : ℕ) → IsRecord big place (moved place e) (record_octets big e.head e.octets)
    passed place = record {
      header = r.header;
      layout = ap (λ (x : Record). record_octets big x e.octets) (sym r.reads) ∙ record_written big from r.header e.octets head_each r.size;
      size = r.size;
      reads = ap (λ (x : Record). record x { offset = place }) r.reads;
      frame = r.frame;
      fits = r.fits;
    }

    well : (p : PacketView) → IsEntryAnswer e (Some (Ok p)) → IsWellFormed (edited es p)
    well p is = edited_is_well_formed es p given (well_formed_of p e.octets (is.1).right (omega (arith, r.frame, r.fits)))

    is_record : (place : ℕ) (answer : Option Answer) → IsEntryAnswer e answer → IsRecord big place (entry_as place e answer) (rewritten_as es big e answer)
    is_record place None is = passed place
    is_record place (Some (Err f)) is = passed place
    is_record place (Some (Ok p)) is =
        let n = length (canonical_frame (edited es p)) in
        let small = canonical_small (edited es p) (well p is) in
        record {
          header = head_octets big e.head.sec e.head.sub n n;
          layout = refl;
          size = head-size big e.head.sec e.head.sub n n;
          reads = head_read big ((entry_as place e (Some (Ok p))).head) (record {
            sec = subst (λ n. n < 2 ^ 32) (ap (λ (x : Record). x.sec) r.reads) (number_lt big r.header head_each);
            sub = subst (λ n. n < 2 ^ 32) (ap (λ (x : Record). x.sub) r.reads) (number_lt big (drop 4 r.header) (IsOctets-drop 4 r.header head_each));
            captured = omega (arith, small);
            original = omega (arith, small);
          });
          frame = refl;
          fits = omega (arith, small);
        }

    answered : (place : ℕ) (answer again : Option Answer) → IsEntryAnswer e answer → IsEntryAnswer (entry_as place e answer) again → again ≡ answer_as answer
    answered place None None is more = refl
    answered place None (Some a) is more = cc
    answered place (Some (Err f)) None is more = cc
    answered place (Some (Err f)) (Some a) is more = ap Some ((more.1).refused f (is.1).right)
    answered place (Some (Ok p)) None is more =
        let n = length (canonical_frame (edited es p)) in
        let less : n < n = ltb-true n n more in
        absurd (omega (arith, less))
    answered place (Some (Ok p)) (Some a) is more =
        ap Some ((more.1).packet (edited es p) (canonical_is_frame (edited es p) (well_formed_admitted (edited es p) (well p is))))

  same_again : (place : ℕ) (e : Entry) (answer : Option Answer) → rewritten_as no_edits big (entry_as place e answer) (answer_as answer) ≡ rewritten_as es big e answer
  same_again place e None = refl
  same_again place e (Some (Err r)) = refl
  same_again place e (Some (Ok p)) = ap (λ (q : PacketView). whole_record big e.head.sec e.head.sub (canonical_frame q)) (unedited (edited es p))

  -- ---- the records

  abbrev entries_at : (place : ℕ) → List Told → List Entry
  entries_at place [] = []
  entries_at place (t ∷ told) = entry_as place t.entry t.answer ∷ entries_at (place + size_of (entry_as place t.entry t.answer)) told

  are_records : (place from : ℕ) (told : List Told) (octets rest : List ℕ) → AreRecords big from (map (λ t. t.entry) told) octets rest → IsOctets octets
      → AllByRecursion IsTold told → AreRecords big place (entries_at place told) (flat_map (rewritten es big) told) []
  are_records place from [] octets rest r each is = refl
  are_records place from (t ∷ told) octets rest r each is =
      let parts : IsOctets (r.0 ++ r.1) = subst IsOctets r.2 each in (
        rewritten es big t,
        flat_map (rewritten es big) told,
        refl,
        is_record from t.entry r.0 r.3 (IsOctets-front r.0 r.1 parts) place t.answer is.0,
        are_records (place + size_of (entry_as place t.entry t.answer)) (from + size_of t.entry) told r.1 rest r.4 (IsOctets-back r.0 r.1 parts) is.1,
      )

  written_again : (place from : ℕ) (told again : List Told) (octets rest : List ℕ) → AreRecords big from (map (λ t. t.entry) told) octets rest → IsOctets octets
      → AllByRecursion IsTold told → map (λ t. t.entry) again ≡ entries_at place told → AllByRecursion IsTold again
      → flat_map (rewritten no_edits big) again ≡ flat_map (rewritten es big) told
  written_again place from [] [] octets rest r each is same more = refl
  written_again place from [] (u ∷ again) octets rest r each is same more = cc
  written_again place from (t ∷ told) [] octets rest r each is same more = cc
  written_again place from (t ∷ told) (u ∷ again) octets rest r each is same more =
      let parts : IsOctets (r.0 ++ r.1) = subst IsOctets r.2 each in
      let new : Entry = entry_as place t.entry t.answer in
      let first : u.entry ≡ new = cc in
      let later : map (λ (t : Told). t.entry) again ≡ entries_at (place + size_of new) told = cc in
      let answer : u.answer ≡ answer_as t.answer =
      answered from t.entry r.0 r.3 (IsOctets-front r.0 r.1 parts) place t.answer u.answer is.0 (subst (λ (x : Entry). IsEntryAnswer x u.answer) first more.0) in
      let line : rewritten no_edits big u ≡ rewritten es big t =
      ap (λ (x : Entry). rewritten_as no_edits big x u.answer) first ∙ ap (λ (a : Option Answer). rewritten_as no_edits big new a) answer ∙ same_again place t.entry t.answer in
      ap (λ l. l ++ flat_map (rewritten no_edits big) again) line
      ∙ ap (λ l. rewritten es big t ++ l) (written_again (place + size_of new) (from + size_of t.entry) told again r.1 rest r.4 (IsOctets-back r.0 r.1 parts) is.1 later more.1)

-- ---- the capture

module _ (es : Edits) (s : List ℕ) (found again : Findings) (given : AreInRange es) (each : IsOctets s) (are : AreTold (capture s).entries found.records) where
  abbrev all_written : Option Header → List ℕ
  all_written header = capture_body (Rewrite es) header found.records ++ []

  stays_with : (header : Option Header) → (capture s).header ≡ header → AreTold (capture (all_written header)).entries again.records
      → output (rewriting no_edits) (all_written header) again ≡ all_written header
  stays_with None e more = ap (λ (v : CaptureView). capture_body (Rewrite no_edits) v.header again.records ++ []) (capture-torn [] (omega arith))
  stays_with (Some h) e more =
      let told = found.records in
      let entries = map (λ (t : Told). t.entry) told in
      let view : capture s ≡ headed h (record { entries = entries; end = (capture s).end }) =
      ap (λ (x : Option Header). record { header = x; entries = (capture s).entries; end = (capture s).end }) e
      ∙ ap (λ (x : List Entry). record { header = Some h; entries = x; end = (capture s).end }) (sym are.same) in
      let cut : IsCut s h entries (capture s).end = (captures_cut s h entries (capture s).end).0 view in
      let parts : IsOctets (cut.header ++ cut.behind) = subst IsOctets cut.layout each in
      let behind_each = IsOctets-back cut.header cut.behind parts in
      let lines = flat_map (rewritten es h.big) told in
      let header = header_written cut.header h (IsOctets-front cut.header cut.behind parts) cut.size cut.reads in
      let new : capture (all_written (Some h)) ≡ headed h (record { entries = entries_at h.big es given 24 told; end = Clean }) =
      (captures_cut (all_written (Some h)) h (entries_at h.big es given 24 told) Clean).1 (record {
        header = cut.header;
        behind = lines;
        rest = [];
        layout = append-nil (header_octets h ++ lines) ∙ ap (λ l. l ++ lines) header;
        size = cut.size;
        reads = cut.reads;
        records = are_records h.big es given 24 24 told cut.behind cut.rest cut.records behind_each are.right;
        stops = λ e first later split is. absurd (omega (arith, ap length split, length-append first later, ap length is.layout, length-append is.header e.octets, is.size));
        ends = refl;
      }) in
      ap (λ (v : CaptureView). capture_body (Rewrite no_edits) v.header again.records ++ []) new
      ∙ ap (λ l. (header_octets h ++ l) ++ []) (written_again h.big es given 24 24 told again.records cut.behind cut.rest cut.records behind_each are.right
      (more.same ∙ ap (λ (v : CaptureView). v.entries) new) more.right)

pub rewritten_stays : RewrittenCapturesStay
rewritten_stays es s found again given each are more = stays_with es s found again given each are (capture s).header refl more
