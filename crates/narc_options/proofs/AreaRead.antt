-- The octets of an options area, and the row that refuses others: that of the first bad option.
use Rattle.std.proofs.Common.{◌≡◌, ℕ, ◌+◌, ◌*◌, ◌/◌, ◌^◌, ◌<◌, ◌≤◌, ◌↔◌, ◌⊎◌, Bool, true, false, List, [], ◌∷◌, ◌++◌, length, drop, nat_lt, Option, Some, None, refl, sym, ap, ◌∙◌, subst, arith, inl, inr, lit<, length-append}
use Rattle.std.specs.Prelude.{unwrap_or, is_some}
use Rattle.std.specs.Borrow.{Bor}
use Rattle.std.proofs.lemmas.Bool.{lt-ltb, le-ltb, ltb-true, ltb-false}
use Rattle.std.proofs.lemmas.List.{take_at}
use Rattle.narc_bits.specs.Octets.{IsOctets}
use Rattle.narc_bits.specs.Bits.{bits, bits_of_number, number_of_bits, octets_of_bits}
use Rattle.narc_bits.proofs.Numbers.{length-bits, bits-append, length-bits_of_number, number_of_bits-bits_of_number_lt}
use Rattle.narc_bits.proofs.Octets.{IsOctets-append, IsOctets-drop}
use Rattle.narc_bits.proofs.Spelled.{bits_same, bits-octets_of_bits, IsOctets-octets_of_bits}
use Rattle.narc_format.specs.Laws.{HasValue, IsRefused}
use Rattle.narc_format.specs.Faults.{fault_at, unnamed_fault}
use Rattle.narc_format.specs.declared.fault.Fault.{Fault}
use Rattle.narc_format.specs.Rows.{Row, RefusalView, row, first_failing}
use Rattle.narc_layout.specs.FirstFault.{IsFirstFault}
use Rattle.narc_layout.proofs.Rows.{told}
use Rattle.narc_layout.proofs.Layouts.{front_octets}
use Rattle.narc_layout.proofs.SameRows.{row_passes, refused_by, stands_as}
use Rattle.narc_layout.proofs.ReadLayout.{Spelled, IsTailRead}
use Rattle.narc_list.specs.Items.{InRow}
use Rattle.narc_list.specs.Region.{region}
use Rattle.narc_list.specs.Until.{IsEnd, AreItems, until}
use Rattle.narc_list.specs.UntilLaws.{zero_spelled, length-filled}
use Rattle.narc_packet.specs.Options.{IpOptionView, ip_option, IsListEnd, is_bad_option, bad_option, ip_options_in, AreIpOptions}
use Rattle.narc_packet.specs.Refusal.{options_row}
use Rattle.narc_options.specs.OptionOctets.{raw_view, IsAreaOf, IsItsArea, IsRefusedByRow}
use Rattle.narc_options.specs.Option.{RawOption, option_fields, option_area, option_region}
use Rattle.narc_options.specs.Laws.{option_fields_laws, option_area_laws}
use Rattle.narc_options.proofs.OptionSound.{option_sound}
use Rattle.narc_options.proofs.AreaSound.{area_sound}
use Rattle.narc_options.proofs.Spellings.{spelled, AreOptions, are_options, none_bad, bad_behind, option_there, spelled_each}
use Rattle.narc_options.proofs.OptionOctets.{fields_of, raw_option, fields_are_raw, view_of_fields, option_octets}

-- the options that octets are
pub record OptionsOf (b : List Bool) : Type 0 where
  pub options : List IpOptionView
  pub are : AreOptions options
  pub is : b ≡ bits (spelled options)

-- items in a row are options
row_options : (items : List RawOption) (b : List Bool) → InRow (option_fields.stands tt) items b → OptionsOf b
unfolding InRow bits
row_options [] b p = record { options = []; are = tt; is = p }
row_options (v ∷ items) b p =
    let one = (option_octets v p.front).0 p.first in
    let rest = row_options items p.back p.rest in
    record {
      options = raw_view v ∷ rest.options;
      are = (raw_option v one.0, rest.are);
      is = p.joined ∙ ap (λ l. l ++ p.back) one.1 ∙ ap (λ l. bits (ip_option (raw_view v)) ++ l) rest.is ∙ sym (bits-append (ip_option (raw_view v)) (spelled rest.options));
    }

-- and options are items in a row
record RowOf (os : List IpOptionView) : Type 0 where
  items : List RawOption
  row_is : InRow (option_fields.stands tt) items (bits (spelled os))

options_row_of : (os : List IpOptionView) → AreOptions os → RowOf os
unfolding InRow bits
options_row_of [] h = record { items = []; row_is = refl }
options_row_of (o ∷ os) h =
    let rest = options_row_of os h.1 in
    record {
      items = fields_of o ∷ rest.items;
      row_is = record {
        front = bits (ip_option o);
        back = bits (spelled os);
        joined = bits-append (ip_option o) (spelled os);
        first = (option_octets (fields_of o) (bits (ip_option o))).1 (fields_are_raw o h.0, ap (λ v. bits (ip_option v)) (sym (view_of_fields o)));
        rest = rest.row_is;
      };
    }

abbrev AreListed : List ℕ → Type 0
AreListed l = AreItems {C = ℕ} 40 (λ c. c) (λ c. c < 2 ^ 64) option_fields l

-- octets are those of items exactly where they are the spellings of the options in them
pub items_are_options : (l : List ℕ) → AreListed l → AreIpOptions l
items_are_options l a =
    let r = row_options a.items (bits l) a.row in
    let same : spelled r.options ≡ l = sym (bits_same l (spelled r.options) a.each (spelled_each r.options r.are) r.is) in
    subst AreIpOptions same (are_options r.options r.are)

pub options_are_items : (l : List ℕ) → AreIpOptions l → AreListed l
options_are_items l h =
    let os = ip_options_in l in
    let r = options_row_of os h.1 in
    record {
      each = subst IsOctets h.0 (spelled_each os h.1);
      items = r.items;
      row = subst (λ k. InRow (option_fields.stands tt) r.items (bits k)) h.0 r.row_is;
    }

-- an end, in bits and in octets
end_octets : (r : List ℕ) → IsOctets r → IsEnd (bits r) → IsListEnd r
unfolding bits
end_octets [] each e = tt
end_octets (octet ∷ r) each (inl e) = absurd (some (ap length e ∙ refl)) where
  some : length (bits (octet ∷ r)) ≡ 0 → ⊥
  some e = omega (arith, e, length-bits (octet ∷ r))
end_octets (octet ∷ r) each (inr z) =
    sym (number_of_bits-bits_of_number_lt 8 octet (omega (arith, each.0)))
    ∙ ap number_of_bits (sym (take_at (bits_of_number 8 octet) (bits r) 8 (length-bits_of_number 8 octet)))
    ∙ zero_spelled (bits (octet ∷ r)) z

octets_end : (r : List ℕ) → IsListEnd r → IsEnd (bits r)
unfolding bits
octets_end [] h = inl refl
octets_end (octet ∷ r) h = inr (record { later = bits r; is = ap (λ n. bits_of_number 8 n ++ bits r) h })

abbrev pub IsArea : ℕ → Bor (List ℕ) → List ℕ → Type 0
IsArea c v area = IsAreaOf v.now area

-- more than 40 octets, or a bad option
abbrev pub area_rows : ℕ → (start : ℕ) → List ℕ → List Row
area_rows c start x = row 0 start (nat_lt 40 (length x)) ∷ options_row 0 start x ∷ []

area_stands : (c : ℕ) (v : Bor (List ℕ)) (b : List Bool) → option_area.stands c v b ↔ Spelled (IsArea c v) b
unfolding until
area_stands c v b = (
  λ p.
      let rest = octets_of_bits (length p.back / 8) p.back in
      let whole : length p.back ≡ 8 * (length p.back / 8) = omega (arith, p.octets, ap length p.joined, length-append (bits v.now) p.back, length-bits v.now) in
      let back : bits rest ≡ p.back = bits-octets_of_bits (length p.back / 8) p.back whole in
      let each : IsOctets rest = IsOctets-octets_of_bits (length p.back / 8) p.back in
      let is : b ≡ bits (v.now ++ rest) = p.joined ∙ ap (λ l. bits v.now ++ l) (sym back) ∙ sym (bits-append v.now rest) in
      record {
        octets = v.now ++ rest;
        each = IsOctets-append v.now rest p.are.each each;
        is = record {
          short = omega (arith, p.short, ap length is, length-bits (v.now ++ rest));
          are = items_are_options v.now p.are;
          rest = rest;
          joined = refl;
          ended = end_octets rest each (subst IsEnd (sym back) p.ended);
        };
        spelled = is;
      },
  λ s.
      let a = s.is in
      record {
        short = omega (arith, a.short, ap length s.spelled, length-bits s.octets);
        octets = omega (arith, ap length s.spelled, length-bits s.octets);
        are = options_are_items v.now a.are;
        back = bits a.rest;
        joined = s.spelled ∙ ap bits a.joined ∙ bits-append v.now a.rest;
        ended = octets_end a.rest a.ended;
      },
)

-- where an area stands, no row fails
none_fails : (start : ℕ) (l x : List ℕ) → IsAreaOf l x → first_failing (area_rows 0 start x) ≡ None
none_fails start l x a =
    let os = ip_options_in l in
    let none : bad_option x ≡ None =
    ap bad_option (a.joined ∙ ap (λ k. k ++ a.rest) (sym a.are.0)) ∙ none_bad os a.rest a.are.1 a.ended
    in
    both (nat_lt 40 (length x)) (bad_option x) (le-ltb 40 (length x) a.short) none where
      both : (many : Bool) (bad : Option ℕ) → many ≡ false → bad ≡ None → first_failing (row 0 start many ∷ row 0 (start + unwrap_or bad 0) (is_some bad) ∷ []) ≡ None
      both many bad h k = ap (λ t. first_failing (row 0 start t ∷ row 0 (start + unwrap_or bad 0) (is_some bad) ∷ [])) h ∙ ap (λ o. first_failing (row 0 (start + unwrap_or o 0) (is_some o) ∷ [])) k

-- the rows, where too many octets are there, and where a bad option is
many_told : (start : ℕ) (many : Bool) (bad : Option ℕ) → many ≡ true → first_failing (row 0 start many ∷ row 0 (start + unwrap_or bad 0) (is_some bad) ∷ []) ≡ told 0 (start + 0)
many_told start many bad h = ap (λ t. first_failing (row 0 start t ∷ row 0 (start + unwrap_or bad 0) (is_some bad) ∷ [])) h ∙ ap (told 0) (let e : start ≡ start + 0 = omega arith in e)

bad_told : (start place : ℕ) (many : Bool) (bad : Option ℕ) → many ≡ false → bad ≡ Some place → first_failing (row 0 start many ∷ row 0 (start + unwrap_or bad 0) (is_some bad) ∷ []) ≡ told 0 (start + place)
bad_told start place many bad h k = ap (λ t. first_failing (row 0 start t ∷ row 0 (start + unwrap_or bad 0) (is_some bad) ∷ [])) h ∙ ap (λ o. first_failing (row 0 (start + unwrap_or o 0) (is_some o) ∷ [])) k

-- octets that are refused as an option, and are no end, are bad
refused_bad : (x : List ℕ) → IsOctets x → length x ≤ 40 → (IsListEnd x → ⊥) → (f : Fault) → option_fields.refuses tt (bits x) f → is_bad_option x ≡ true
refused_bad x each short more f r = cases (is_bad_option x) refl where
  cases : (t : Bool) → is_bad_option x ≡ t → is_bad_option x ≡ true
  cases true e = e
  cases false e =
      let p = option_there x each short more e in
      let stood = (option_octets (fields_of p.option) (bits (ip_option p.option))).1 (fields_are_raw p.option p.is, ap (λ v. bits (ip_option v)) (sym (view_of_fields p.option))) in
      absurd (option_fields_laws.never_both option_sound tt (fields_of p.option) (bits (ip_option p.option)) (bits p.later) f stood (subst (λ b. option_fields.refuses tt b f) (ap bits p.joined ∙ bits-append (ip_option p.option) p.later) r))

-- what is refused is the first bad option
fails_at : (start : ℕ) (x : List ℕ) → IsOctets x → (f : Fault) → option_area.refuses 0 (bits x) f → IsFirstFault start (area_rows 0 start x) f
unfolding until
fails_at start x each f (inl p) = record {
  octet = 0;
  first = many_told start (nat_lt 40 (length x)) (bad_option x) (lt-ltb 40 (length x) (omega (arith, p.many, length-bits x))) ∙ ap (λ n. told n (start + 0)) (sym (ap (λ (g : Fault). g.field) p.is));
  place = ap (λ (g : Fault). g.at) p.is;
}
fails_at start x each f (inr p) =
    let r = row_options p.before p.front p.row in
    let o = spelled r.options in
    let here = front_octets x o p.back each (spelled_each r.options r.are) (p.joined ∙ ap (λ l. l ++ p.back) r.is) in
    let back = drop (length o) x in
    let in_back : IsOctets back = IsOctets-drop (length o) x each in
    let short : length x ≤ 40 = omega (arith, p.short, length-bits x) in
    let few : length back ≤ 40 = omega (arith, short, ap length here.0, length-append o back) in
    let bad = refused_bad back in_back few (λ e. p.more (subst IsEnd (sym here.1) (octets_end back e))) p.fault (subst (λ b. option_fields.refuses tt b p.fault) here.1 p.refused) in
    let found : bad_option x ≡ Some (length o) = ap bad_option here.0 ∙ bad_behind r.options back r.are bad in
    record {
      octet = length o;
      first = bad_told start (length o) (nat_lt 40 (length x)) (bad_option x) (le-ltb 40 (length x) short) found ∙ ap (λ n. told n (start + length o)) (sym (ap (λ (g : Fault). g.field) p.is));
      place = ap (λ (g : Fault). g.at) p.is ∙ ap length r.is ∙ length-bits o;
    }

area_valid : option_area.valid 0
unfolding until
area_valid = lit< tt

-- up to 40 octets are an area, or are refused
area_or_refused : (x : List ℕ) → length x ≤ 40 → HasValue (option_area.stands 0) (bits x) ⊎ IsRefused (option_area.refuses 0 (bits x))
area_or_refused x short = option_area_laws.read_or_refused area_sound 0 area_valid (bits x) (record { small = omega (arith, short, length-bits x); octets = λ a. omega (arith, length-bits x) })

-- an area that stands for its octets
area_of_octets : (x : List ℕ) → IsOctets x → HasValue (option_area.stands 0) (bits x) → (v : Bor (List ℕ)) × IsAreaOf v.now x
area_of_octets x each p =
    let s = (area_stands 0 p.found (bits x)).0 p.stood in
    (p.found, subst (IsAreaOf p.found.now) (sym (bits_same x s.octets each s.each s.spelled)) s.is)

not_none : {A : Type 0} (o : Option RefusalView) (r : RefusalView) → o ≡ None → o ≡ Some r → A
not_none o r h k = let e : None ≡ Some r = sym h ∙ k in cc

-- two faults of the same rows are one
same_fault : (start : ℕ) (rows : List Row) (f g : Fault) → IsFirstFault start rows f → IsFirstFault start rows g → f ≡ g
same_fault start rows f g h k =
    let same : told f.field (start + h.octet) ≡ told g.field (start + k.octet) = sym h.first ∙ k.first in
    let here : RefusalView = record { field = f.field; at = start + h.octet } in
    let there : RefusalView = record { field = g.field; at = start + k.octet } in
    let one : here ≡ there = cc in
    let octet : h.octet ≡ k.octet = omega (arith, ap (λ (r : RefusalView). r.at) one) in
    ap (λ (r : RefusalView). fault_at r.field f.at) one ∙ ap (fault_at g.field) (h.place ∙ ap (λ n. 8 * n) octet ∙ sym k.place)

too_many : (start : ℕ) (x : List ℕ) → nat_lt 40 (length x) ≡ true → IsFirstFault start (area_rows 0 start x) unnamed_fault
too_many start x h = record { octet = 0; first = many_told start (nat_lt 40 (length x)) (bad_option x) h; place = refl }

refused_many : (x : List ℕ) → nat_lt 40 (length x) ≡ true → option_area.refuses 0 (bits x) unnamed_fault
unfolding until
refused_many x h = inl (record { many = omega (arith, ltb-true 40 (length x) h, length-bits x); is = refl })

at_row : (start : ℕ) (x : List ℕ) → IsOctets x → (f : Fault) → IsFirstFault start (area_rows 0 start x) f → option_area.refuses 0 (bits x) f
at_row start x each f h = cases (nat_lt 40 (length x)) refl where
  cases : (many : Bool) → nat_lt 40 (length x) ≡ many → option_area.refuses 0 (bits x) f
  cases true e = subst (option_area.refuses 0 (bits x)) (same_fault start (area_rows 0 start x) unnamed_fault f (too_many start x e) h) (refused_many x e)
  cases false e = elim (area_or_refused x (ltb-false 40 (length x) e)) [
    | inl p ↦ let a = area_of_octets x each p in not_none (first_failing (area_rows 0 start x)) _ (none_fails start a.0.now x a.1) h.first
    | inr r ↦ subst (option_area.refuses 0 (bits x)) (same_fault start (area_rows 0 start x) r.fault f (fails_at start x each r.fault r.refused) h) r.refused
  ]

passes_row : (start : ℕ) (x : List ℕ) → IsOctets x → first_failing (area_rows 0 start x) ≡ None → (v : Bor (List ℕ)) × IsAreaOf v.now x
passes_row start x each h = cases (nat_lt 40 (length x)) refl where
  cases : (many : Bool) → nat_lt 40 (length x) ≡ many → (v : Bor (List ℕ)) × IsAreaOf v.now x
  cases true e = not_none (first_failing (area_rows 0 start x)) _ h (too_many start x e).first
  cases false e = elim (area_or_refused x (ltb-false 40 (length x) e)) [
    | inl p ↦ area_of_octets x each p
    | inr r ↦ not_none (first_failing (area_rows 0 start x)) _ h (fails_at start x each r.fault r.refused).first
  ]

-- what is refused lies in the area
at_least : (start : ℕ) (many : Bool) (bad : Option ℕ) (r : RefusalView) → first_failing (row 0 start many ∷ row 0 (start + unwrap_or bad 0) (is_some bad) ∷ []) ≡ Some r → start ≤ r.at
at_least start true bad r h = let here : RefusalView = record { field = 0; at = start } in let same : here ≡ r = cc in omega (arith, ap (λ (q : RefusalView). q.at) same)
at_least start false None r h = cc
at_least start false (Some place) r h = let here : RefusalView = record { field = 0; at = start + place } in let same : here ≡ r = cc in omega (arith, ap (λ (q : RefusalView). q.at) same)

pub area_read : IsTailRead option_area IsArea area_rows
unfolding until
area_read = record {
  stands = area_stands;
  refuses = λ c start x each f. (fails_at start x each f, at_row start x each f);
  passes = λ c start x each. (passes_row start x each, λ p. none_fails start p.0.now x p.1);
  places = λ c start x. at_least start (nat_lt 40 (length x)) (bad_option x);
}

-- octets stand where they are an area's
pub its_area : IsItsArea option_area
its_area c v area each = stands_as area_read c v area each

-- up to 40 octets are not too many
few_same : (start : ℕ) (area : List ℕ) → length area ≤ 40 → first_failing (area_rows 0 start area) ≡ first_failing (options_row 0 start area ∷ [])
few_same start area short = row_passes 0 start (nat_lt 40 (length area)) (options_row 0 start area ∷ []) (le-ltb 40 (length area) short)

pub refused_by_row : IsRefusedByRow option_area
refused_by_row c start area each short = refused_by area_read c start area each (options_row 0 start area ∷ []) (few_same start area short)

-- options can be written in a region that they fit in
pub region_admits : (n : ℕ) (v : Bor (List ℕ)) → AreIpOptions v.now → length v.now ≤ n → n ≤ 40 → option_region.admits n v
unfolding region until
region_admits n v are fits most = record {
  admitted = record { are = options_are_items v.now are; short = omega (arith, fits, most) };
  filled = omega (arith, fits, most, length-filled 40 (λ (c : ℕ). c) (λ c. c < 2 ^ 64) option_fields n v.now);
}
