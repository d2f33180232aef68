-- A capture with a header is what its octets are cut into.
use Rattle.std.proofs.Common.{◌≡◌, ℕ, zero, suc, ◌+◌, ◌≤◌, Bool, true, false, List, [], ◌∷◌, ◌++◌, length, take, drop, Some, None, Result, Ok, Err, refl, sym, ap, ◌∙◌, subst, arith, append_assoc, length-append, length-drop}
use Rattle.std.specs.Prelude.{not, ◌&&◌, nat_eq, nat_lt, if◌then◌else◌}
use Rattle.std.proofs.lemmas.List.{take_at, drop_at, take-append-drop, length-take-le}
use Rattle.std.proofs.lemmas.Bool.{ltb-true, ltb-false}
use Rattle.std.proofs.Math.Seq.{take-add}
use Rattle.narc_pcap.specs.declared.header.Header.{Header}
use Rattle.narc_pcap.specs.declared.record.Record.{Record}
use Rattle.narc_pcap.specs.declared.record.TheConstants.{LONGEST_FRAME}
use Rattle.narc_pcap.specs.declared.record.End.{End}
use Rattle.narc_pcap.specs.declared.record.End.TheVariants.{Clean, Torn, Bad}
use Rattle.narc_pcap.specs.Capture.{front, record_at, Entry, Cut, ends, begins, cut, capture, CaptureView, header_of, headed}
use Rattle.narc_pcap.specs.Laws.{IsRecord, BeginsNoRecord, size_of, AreRecords, end_with, IsCut, CapturesAreCut, place_behind}
use Rattle.narc_pcap.proofs.Cuts.{front_by, IsWhole, whole_of, of_whole, entry_of, cut-end, cut-record, cut-head, capture-torn, capture-bad, capture-headed}

-- ---- one record

-- a record begins the octets
record_is_whole : (big : Bool) (place : ℕ) (e : Entry) (s first later : List ℕ) → s ≡ first ++ later → IsRecord big place e first → IsWhole big place s e.head
record_is_whole big place e s first later split r =
    let whole : s ≡ r.header ++ (e.octets ++ later) = split ∙ ap (λ l. l ++ later) r.layout ∙ append_assoc r.header e.octets later in
    record {
      is = ap (record_at big place) (ap (take 16) whole ∙ take_at r.header (e.octets ++ later) 16 r.size) ∙ r.reads;
      size = r.fits;
      within = omega (arith, ap length whole, length-append r.header (e.octets ++ later), length-append e.octets later, r.size, r.frame);
    }

record_size : (big : Bool) (place : ℕ) (e : Entry) (first : List ℕ) → IsRecord big place e first → length first ≡ size_of e
record_size big place e first r = omega (arith, ap length r.layout, length-append r.header e.octets, r.size, r.frame)

-- the frame of the record that begins the octets
record_frame : (big : Bool) (place : ℕ) (e : Entry) (s first later : List ℕ) → s ≡ first ++ later → IsRecord big place e first → entry_of e.head s ≡ e
record_frame big place e s first later split r =
    let whole : s ≡ r.header ++ (e.octets ++ later) = split ∙ ap (λ l. l ++ later) r.layout ∙ append_assoc r.header e.octets later in
    ap (λ (l : List ℕ). record { head = e.head; octets = l })
    (ap (λ l. take e.head.captured (drop 16 l)) whole ∙ ap (take e.head.captured) (drop_at r.header (e.octets ++ later) 16 r.size)
    ∙ take_at e.octets later e.head.captured r.frame)

-- what begins the octets is a record
whole_is_record : (big : Bool) (place : ℕ) (s : List ℕ) (head : Record) → IsWhole big place s head → IsRecord big place (entry_of head s) (take (16 + head.captured) s)
whole_is_record big place s head w = record {
  header = take 16 s;
  layout = take-add 16 head.captured s;
  size = length-take-le 16 s (omega (arith, w.within));
  reads = w.is;
  frame = length-take-le head.captured (drop 16 s) (omega (arith, w.within, length-drop 16 s));
  fits = w.size;
}

-- ---- no record

end_by : (e s b t : Bool) (place : ℕ) (head : Record) (end : End) → front_by e s b t place head ≡ Err end
    → (if e then Clean else if not s && b then Bad (place + 8) else Torn place) ≡ end
end_by true s b t place head end h = cc
end_by false true b t place head end h = cc
end_by false false true t place head end h = cc
end_by false false false true place head end h = cc
end_by false false false false place head end h = cc

front_ends : (big : Bool) (place : ℕ) (s : List ℕ) (end : End) → front big place s ≡ Err end → end_with big place s ≡ end
front_ends big place s end h =
    let at = record_at big place (take 16 s) in
    end_by (nat_eq (length s) 0) (nat_lt (length s) 16) (nat_lt LONGEST_FRAME at.captured) (nat_lt (length s) (16 + at.captured)) place at end h

front_stops : (big : Bool) (place : ℕ) (s : List ℕ) (end : End) → front big place s ≡ Err end → BeginsNoRecord big place s
front_stops big place s end h e first later split r =
    let same = of_whole big place s e.head (record_is_whole big place e s first later split r) in cc

-- ---- the records of octets

-- octets from this place on are cut so
record IsCutFrom (big : Bool) (place : ℕ) (s : List ℕ) (entries : List Entry) (end : End) : Type 0 where
  rest : List ℕ
  records : AreRecords big place entries s rest
  stops : BeginsNoRecord big (place_behind place entries) rest
  ends_ : end_with big (place_behind place entries) rest ≡ end

cut_none : (big : Bool) (place : ℕ) (s : List ℕ) (end : End) → front big place s ≡ Err end → IsCutFrom big place s [] end
cut_none big place s end h = record {
  rest = s;
  records = refl;
  stops = front_stops big place s end h;
  ends_ = front_ends big place s end h;
}

cut_one : (big : Bool) (place : ℕ) (s : List ℕ) (head : Record) (entries : List Entry) (end : End) → front big place s ≡ Ok head
    → IsCutFrom big (place + (16 + head.captured)) (drop (16 + head.captured) s) entries end → IsCutFrom big place s (entry_of head s ∷ entries) end
cut_one big place s head entries end h later =
    let size = 16 + head.captured in
    record {
      rest = later.rest;
      records = (take size s, drop size s, sym (take-append-drop size s), whole_is_record big place s head (whole_of big place s head h), later.records);
      stops = later.stops;
      ends_ = later.ends_;
    }

abbrev IsCutBy : (big : Bool) → (place : ℕ) → List ℕ → Cut → Type 0
IsCutBy big place s c = IsCutFrom big place s c.entries c.end

module _ (big : Bool) (place o : ℕ) (octets : List ℕ)
    (later : (behind : ℕ) → behind ≤ length octets → IsCutBy big (suc place + behind) (drop behind octets) (cut big behind (suc place) octets)) where
  cuts_at : (r : Result Record End) → front big place (o ∷ octets) ≡ r → IsCutBy big place (o ∷ octets) (cut big 0 place (o ∷ octets))
  cuts_at (Err end) e =
      subst (IsCutBy big place (o ∷ octets)) (sym (cut-end big place (o ∷ octets) end e)) (cut_none big place (o ∷ octets) end e)
  cuts_at (Ok head) e =
      let w = whole_of big place (o ∷ octets) head e in
      let n = 15 + head.captured in
      let c = cut big n (suc place) octets in
      let within : n ≤ length octets = omega (arith, w.within) in
      let moved : suc place + n ≡ place + (16 + head.captured) = omega arith in
      let one : suc n ≡ 16 + head.captured = omega arith in
      let there : IsCutBy big (place + (16 + head.captured)) (drop (16 + head.captured) (o ∷ octets)) c =
      subst (λ k. IsCutBy big (place + (16 + head.captured)) (drop k (o ∷ octets)) c) one (subst (λ k. IsCutBy big k (drop n octets) c) moved (later n within)) in
      subst (IsCutBy big place (o ∷ octets)) (sym (cut-head big place o octets head e)) (cut_one big place (o ∷ octets) head c.entries c.end e there)

cuts : (big : Bool) (behind place : ℕ) (s : List ℕ) → behind ≤ length s → IsCutBy big (place + behind) (drop behind s) (cut big behind place s)
unfolding cut
cuts big zero place [] h = cut_none big (place + 0) [] Clean refl
cuts big (suc behind) place [] h = absurd (omega arith)
cuts big (suc behind) place (o ∷ octets) h =
    let moved : suc place + behind ≡ place + suc behind = omega arith in
    subst (λ n. IsCutBy big n (drop behind octets) (cut big behind (suc place) octets)) moved (cuts big behind (suc place) octets (omega arith))
cuts big zero place (o ∷ octets) h =
    let same : place ≡ place + 0 = omega arith in
    subst (λ n. IsCutBy big n (o ∷ octets) (cut big 0 place (o ∷ octets))) same
    (cuts_at big place o octets (λ behind within. cuts big behind (suc place) octets within) (front big place (o ∷ octets)) refl)

-- the records of octets, and a rest behind them
pub cut_records : (big : Bool) (place : ℕ) (s : List ℕ) → (rest : List ℕ) × AreRecords big place (cut big 0 place s).entries s rest
cut_records big place s =
    let none : 0 ≤ length s = omega arith in
    let same : place + 0 ≡ place = omega arith in
    let c = cut big 0 place s in
    let found : IsCutBy big place s c = subst (λ n. IsCutBy big n s c) same (cuts big 0 place s none) in
    (found.rest, found.records)

-- octets that are cut so are these records and this end
recut_none : (big : Bool) (place : ℕ) (s : List ℕ) (end : End) → BeginsNoRecord big place s → end_with big place s ≡ end → cut big 0 place s ≡ ends end
recut_none big place s end stops is = at (front big place s) refl where
  at : (r : Result Record End) → front big place s ≡ r → cut big 0 place s ≡ ends end
  at (Err found) e = cut-end big place s found e ∙ ap ends (sym (front_ends big place s found e) ∙ is)
  at (Ok head) e =
      let size = 16 + head.captured in
      absurd (stops (entry_of head s) (take size s) (drop size s) (sym (take-append-drop size s)) (whole_is_record big place s head (whole_of big place s head e)))

recut : (big : Bool) (place : ℕ) (s : List ℕ) (entries : List Entry) (end : End) → IsCutFrom big place s entries end
    → cut big 0 place s ≡ record { entries = entries; end = end }
recut big place s [] end c =
    recut_none big place s end (subst (BeginsNoRecord big place) (sym c.records) c.stops) (ap (end_with big place) c.records ∙ c.ends_)
recut big place s (e ∷ entries) end c =
    let first = c.records.0 in
    let later = c.records.1 in
    let split = c.records.2 in
    let r = c.records.3 in
    let size = 16 + e.head.captured in
    let behind : drop size s ≡ later = ap (drop size) split ∙ drop_at first later size (record_size big place e first r) in
    cut-record big place s e.head (of_whole big place s e.head (record_is_whole big place e s first later split r))
    ∙ ap (λ (x : Entry). begins x (cut big 0 (place + size) (drop size s))) (record_frame big place e s first later split r)
    ∙ ap (λ l. begins e (cut big 0 (place + size) l)) behind
    ∙ ap (begins e) (recut big (place + size) later entries end (record { rest = c.rest; records = c.records.4; stops = c.stops; ends_ = c.ends_ }))

-- ---- whole captures

none_some : (h : Header) → None ≡ Some h → ⊥
none_some h e = cc

same_some : (g h : Header) → Some g ≡ Some h → g ≡ h
same_some g h e = cc

module _ (s : List ℕ) (h : Header) (entries : List Entry) (end : End) where
  abbrev whole : CaptureView
  whole = headed h (record { entries = entries; end = end })

  cut_so : IsCut s h entries end → capture s ≡ whole
  cut_so c =
      let first : take 24 s ≡ c.header = ap (take 24) c.layout ∙ take_at c.header c.behind 24 c.size in
      let behind : drop 24 s ≡ c.behind = ap (drop 24) c.layout ∙ drop_at c.header c.behind 24 c.size in
      let long : 24 ≤ length s = omega (arith, ap length c.layout, length-append c.header c.behind, c.size) in
      capture-headed s h long (ap header_of first ∙ c.reads)
      ∙ ap (λ l. headed h (cut h.big 0 24 l)) behind
      ∙ ap (headed h) (recut h.big 24 c.behind entries end (record { rest = c.rest; records = c.records; stops = c.stops; ends_ = c.ends }))

  so_cut_at : capture s ≡ whole → 24 ≤ length s → (r : Result Header ℕ) → header_of (take 24 s) ≡ r → IsCut s h entries end
  so_cut_at is long (Err at) e = absurd (none_some h (ap (λ (v : CaptureView). v.header) (sym (capture-bad s at long e) ∙ is)))
  so_cut_at is long (Ok g) e =
      let c = cut g.big 0 24 (drop 24 s) in
      let same : headed g c ≡ whole = sym (capture-headed s g long e) ∙ is in
      let one : g ≡ h = same_some g h (ap (λ (v : CaptureView). v.header) same) in
      let all : c.entries ≡ entries = ap (λ (v : CaptureView). v.entries) same in
      let last : c.end ≡ end = ap (λ (v : CaptureView). v.end) same in
      let none : 0 ≤ length (drop 24 s) = omega arith in
      let found : IsCutFrom g.big 24 (drop 24 s) c.entries c.end = cuts g.big 0 24 (drop 24 s) none in
      let there : IsCutFrom h.big 24 (drop 24 s) entries end =
      subst (λ (e : End). IsCutFrom h.big 24 (drop 24 s) entries e) last
      (subst (λ (l : List Entry). IsCutFrom h.big 24 (drop 24 s) l c.end) all
      (subst (λ (k : Header). IsCutFrom k.big 24 (drop 24 s) c.entries c.end) one found)) in
      record {
        header = take 24 s;
        behind = drop 24 s;
        rest = there.rest;
        layout = sym (take-append-drop 24 s);
        size = length-take-le 24 s long;
        reads = e ∙ ap Ok one;
        records = there.records;
        stops = there.stops;
        ends = there.ends_;
      }

  so_cut : capture s ≡ whole → (short : Bool) → nat_lt (length s) 24 ≡ short → IsCut s h entries end
  so_cut is true e = absurd (none_some h (ap (λ (v : CaptureView). v.header) (sym (capture-torn s (ltb-true (length s) 24 e)) ∙ is)))
  so_cut is false e = so_cut_at is (ltb-false (length s) 24 e) (header_of (take 24 s)) refl

pub captures_cut : CapturesAreCut
captures_cut s h entries end = (λ is. so_cut s h entries end is (nat_lt (length s) 24) refl, cut_so s h entries end)
