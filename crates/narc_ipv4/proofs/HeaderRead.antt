-- The octets that are a header, and the rows that refuse others, made of those of its fields.
use Rattle.std.proofs.Common.{◌≡◌, ℕ, ◌+◌, ◌^◌, ◌<◌, not, List, [], ◌∷◌, ◌++◌, length, take, drop, lit≤, refl, sym, ap, ◌∙◌, append_assoc, append-nil, take-append-drop}
use Rattle.std.proofs.lemmas.List.{take_at}
use Rattle.narc_bits.specs.Octets.{IsOctets, is_shorter, number_at, big_endian}
use Rattle.narc_bits.proofs.Octets.{IsOctets-take, IsOctets-drop}
use Rattle.narc_packet.specs.declared.field.TheConstants as field
use Rattle.narc_scalar.specs.Octets.{fixed_octets}
use Rattle.narc_scalar.specs.OctetsLaws.{fixed_octets_laws}
use Rattle.narc_compose.specs.Gap.{gapped}
use Rattle.narc_bits.specs.InternetSum.{IsGoodSum, is_good_sum}
use Rattle.narc_format.specs.Rows.{Row, row}
use Rattle.std.specs.Borrow.{Bor}
use Rattle.narc_options.proofs.AreaRead.{IsArea, area_rows, area_read}
use Rattle.narc_layout.proofs.Fronts.{few, long, cut}
use Rattle.narc_ipv4.specs.declared.as_header.IpHeader.{IpHeader}
use Rattle.narc_ipv4.specs.Header.{area_length_of, RawBefore, RawBehind, RawHeader, header_of, raw_header, SameHeader, ip_before, ip_area, ip_behind, ip_fields, ip_head}
use Rattle.narc_layout.proofs.ContextLayouts.{IsShaped}
use Rattle.narc_layout.proofs.FieldLayout.{IsUnnamed, unnamed_layout}
use Rattle.narc_layout.proofs.TestLayout.{unnamed_word}
use Rattle.narc_layout.proofs.ReadLayout.{Parts, IsRead, read_layout}
use Rattle.narc_layout.proofs.SeqRead.{seq_read}
use Rattle.narc_layout.proofs.RegionReads.{region_read}
use Rattle.narc_layout.proofs.RuleReads.{checked_read}
use Rattle.narc_layout.proofs.NamedReads.{rename, named_read}
use Rattle.narc_layout.proofs.ViewReads.{gap_read, stripped_read}
use Rattle.narc_ipv4.proofs.BeforeRead.{IsBefore, before_rows, before_read}

-- an address
abbrev pub IsAddress : Unit {0} → List ℕ → Type 0
IsAddress c v = (length v ≡ 4) × IsOctets v

shape_address : IsShaped (fixed_octets 4) (λ c. Unit {0}) IsAddress (λ v. v) 4
unfolding fixed_octets
shape_address = record {
  laws = fixed_octets_laws 4;
  sound = tt;
  valid = λ c ok. tt;
  whole = refl;
  depth = refl;
  alike = λ v w e. e;
  admits = λ c ok v. (λ h. h, λ h. h);
  stands = λ c v b. (λ p. ((p.size, p.each), p.is), λ h. record { size = h.0.0; each = h.0.1; is = h.1 });
  sized = λ c v h. h.0;
  each = λ c v h. h.1;
}

value_at : (skip : ℕ) → List ℕ → List ℕ
value_at skip x = take 4 (drop skip x)

unnamed_address : IsUnnamed (fixed_octets 4) IsAddress (λ v. v) value_at (λ c skip x. is_shorter x (skip + 4))
unfolding fixed_octets value_at
unnamed_address = record {
  refuses = λ c skip x each f. (λ p. ((few 4 skip x (lit≤ tt)).0 p.0, p.1), λ h. ((few 4 skip x (lit≤ tt)).1 h.0, h.1));
  passes = λ c skip x each. (
    λ h. record {
      found = take 4 (drop skip x);
      in_range = (cut 4 skip x h, IsOctets-take 4 (drop skip x) (IsOctets-drop skip x each));
      later = drop 4 (drop skip x);
      joined = sym (take-append-drop 4 (drop skip x));
    },
    λ p. long 4 skip x p.found p.later (lit≤ tt) p.in_range.0 p.joined,
  );
  reads = λ c skip x v later range joined. ap (take 4) joined ∙ take_at v later 4 range.0;
}

address_read : IsRead (fixed_octets 4) (λ c v o. IsAddress c v × (o ≡ v)) (λ c x. 4) (λ c start x. row 0 (start + 0) (is_shorter x (0 + 4)) ∷ [])
address_read = read_layout (unnamed_layout shape_address unnamed_address)

-- the fields before the sum, and the sum
abbrev pub IsSummedFront : ℕ → RawBefore → List ℕ → Type 0
IsSummedFront n v = Parts (IsBefore n v) (λ w. length w ≡ 2)

abbrev pub summed_front_rows : ℕ → (start : ℕ) → List ℕ → List Row
summed_front_rows n start x = before_rows n start x ++ (row 0 (start + 10) (is_shorter x 12) ∷ [])

summed_front_read : IsRead (gapped 80 ip_before) IsSummedFront (λ n x. 12) summed_front_rows
summed_front_read = gap_read 10 (λ n x. refl) before_read

-- the length of the options area, in the header's octets
abbrev pub area_length : ℕ → List ℕ → ℕ
area_length n x = area_length_of (number_at x 0 1)

record BeginsWith (w o : List ℕ) : Type 0 where
  pub later : List ℕ
  pub is : o ≡ w ++ later

longer : (w front back o : List ℕ) → o ≡ front ++ back → BeginsWith w front → BeginsWith w o
longer w f d o h s = record { later = s.later ++ d; is = h ∙ ap (λ l. l ++ d) s.is ∙ append_assoc w s.later d }

knows_area : (n : ℕ) (v : RawBefore) (o later : List ℕ) → IsOctets (o ++ later) → IsSummedFront n v o → area_length n (o ++ later) ≡ area_length_of v.0.0.0
knows_area n v o later each p =
    let q = p.first in
    let r = q.first in
    let s = r.first in
    let start : BeginsWith (big_endian 1 v.0.0.0) s.front = record { later = []; is = s.first.0.1 ∙ sym (append-nil (big_endian 1 v.0.0.0)) } in
    let b = longer _ o later (o ++ later) refl (longer _ p.front p.back o p.joined (longer _ q.front q.back p.front q.joined (longer _ r.front r.back q.front r.joined (longer _ s.front s.back r.front s.joined start)))) in
    ap area_length_of ((unnamed_word 1 (lit≤ tt) (lit≤ tt)).reads tt 0 (o ++ later) v.0.0.0 b.later s.first.0.0.0 b.is)

-- the options area in its octets
abbrev pub IsOptions : ℕ → Bor (List ℕ) → List ℕ → Type 0
IsOptions n l o = (length o ≡ n) × IsArea n l o

abbrev pub options_rows : ℕ → (start : ℕ) → List ℕ → List Row
options_rows n start x = rename field.IPV4_OPTIONS ((row 0 start (is_shorter x n) ∷ []) ++ area_rows n start (take n x))

options_read : IsRead ip_area IsOptions (λ n x. n) options_rows
options_read = named_read field.IPV4_OPTIONS (region_read (λ c. c) area_read)

abbrev pub IsBehind : ℕ → RawBehind → List ℕ → Type 0
IsBehind n v = Parts (Parts (λ o. IsAddress tt v.0.0 × (o ≡ v.0.0)) (λ o. IsAddress tt v.0.1 × (o ≡ v.0.1))) (IsOptions n v.1)

abbrev pub behind_rows : ℕ → (start : ℕ) → List ℕ → List Row
behind_rows n start x =
    ((row 0 (start + 0) (is_shorter x (0 + 4)) ∷ []) ++ (row 0 (start + 4 + 0) (is_shorter (drop 4 x) (0 + 4)) ∷ []))
    ++ options_rows n (start + 8) (drop 8 x)

behind_read : IsRead ip_behind IsBehind (λ n x. 8 + n) behind_rows
behind_read =
    seq_read (λ n. tt) (λ n v. n) (λ n. n < 2 ^ 64)
    (seq_read (λ c. c) (λ c v. c) (λ c. Unit {0}) address_read address_read (λ c x. tt) (λ c v o later each is. refl))
    options_read (λ n x. n) (λ n v o later each is. refl)

abbrev pub IsFields : ℕ → RawHeader → List ℕ → Type 0
IsFields n v = Parts (IsSummedFront n v.0) (IsBehind (area_length_of v.0.0.0.0) v.1)

abbrev pub composed_size : ℕ → List ℕ → ℕ
composed_size n x = 12 + (8 + area_length n x)

abbrev pub fields_rows : ℕ → (start : ℕ) → List ℕ → List Row
fields_rows n start x = summed_front_rows n start x ++ behind_rows (area_length n x) (start + 12) (drop 12 x)

fields_read : IsRead ip_fields IsFields composed_size fields_rows
fields_read = seq_read (λ n. n) (λ n v. area_length_of v.0.0.0) (λ n. n < 2 ^ 64) summed_front_read behind_read area_length knows_area

-- the octets that stand for a header, and the rows that refuse others
abbrev pub IsComposed : ℕ → IpHeader → List ℕ → Type 0
IsComposed n h o = (w : RawHeader) × (IsFields n w o × IsGoodSum o) × (header_of w ≡ h)

abbrev pub composed_rows : ℕ → (start : ℕ) → List ℕ → List Row
composed_rows n start x = rename field.IPV4_CHECKSUM (fields_rows n start x ++ (row 0 (start + 10) (not (is_good_sum (take (composed_size n x) x))) ∷ []))

pub composed_read : IsRead ip_head IsComposed composed_size composed_rows
composed_read = stripped_read header_of (λ c h. raw_header h) SameHeader (named_read field.IPV4_CHECKSUM (checked_read (λ c n. []) (λ c n. refl) 10 fields_read))
