-- The header of an IPv4 packet meets the conditions of its rules.
use Rattle.std.proofs.Common.{◌≡◌, ℕ, ◌+◌, ◌*◌, ◌/◌, ◌%◌, ◌^◌, ◌<◌, ◌≤◌, Bool, List, [], length, IsTrue, nat_lt, refl, sym, ap, ◌∙◌, subst, arith, lit≤, length-append}
use Rattle.std.proofs.Math.Nat.{mod-eq_of_lt}
use Rattle.std.proofs.lemmas.Bool.{ltb-false, not-true}
use Rattle.narc_bits.specs.Bits.{number_of_bits}
use Rattle.narc_bits.proofs.Numbers.{length-bits}
use Rattle.narc_format.specs.Holes.{IsHoled}
use Rattle.narc_scalar.specs.Octets.{fixed_octets}
use Rattle.narc_compose.specs.Gap.{gapped}
use Rattle.narc_compose.specs.GapLaws.{gapped_is_holed}
use Rattle.narc_compose.specs.Named.{named}
use Rattle.narc_compose.specs.Seq.{seq}
use Rattle.narc_compose.specs.SeqHoles.{seq_is_holed}
use Rattle.narc_compose.specs.Strip.{stripped}
use Rattle.narc_list.specs.Region.{region}
use Rattle.narc_list.specs.Until.{until}
use Rattle.narc_sum.specs.Checked.{checked}
use Rattle.narc_options.proofs.AreaSound.{region_sound}
use Rattle.narc_ipv4.specs.Laws.{ip_before_laws}
use Rattle.narc_ipv4.specs.Header.{is_header_length, header_length_of, area_length_of, RawBefore, RawHeader, HeaderView, header_view, SameHeader, header_of, raw_header, ip_before, ip_area, ip_behind, ip_fields, ip_summed, ip_head}
use Rattle.narc_layout.proofs.Sizes.{pair_eq}
use Rattle.narc_ipv4.proofs.BeforeSound.{front_sound, front_alike, IsFrontInRange, front_ranges, front_size, front_wide, front_tests, front_some, version_four}
use Rattle.narc_sum.proofs.SomeSums.{some-front, checked_is_sound}
use Rattle.narc_ipv4.proofs.FragmentWord.{fragment_back}

pub length_five : (first : ℕ) → IsTrue (is_header_length tt first) → 5 ≤ first % 16
length_five first h = ltb-false (first % 16) 5 (not-true (nat_lt (first % 16) 5) h)

pub area_sound : ip_area.sound
unfolding named
area_sound = record { part_sound = region_sound; some = lit≤ tt; known = lit≤ tt }

behind_sound : ip_behind.sound
unfolding seq named region until fixed_octets
behind_sound = record {
  first_sound = record {
    first_sound = tt;
    second_sound = tt;
    carries = record { first_valid = λ c ok. tt; second_valid = λ c v ok a. tt; same = λ c v w a. refl };
    meets = λ h. refl;
  };
  second_sound = area_sound;
  carries = record { first_valid = λ c ok. tt; second_valid = λ c v ok a. ok; same = λ c v w a. refl };
  meets = λ h. refl;
}

pub fields_sound : ip_fields.sound
unfolding seq gapped named region until
fields_sound = record {
  first_sound = record { part_sound = front_sound; wide = front_wide; words = refl };
  second_sound = behind_sound;
  carries = record {
    first_valid = λ c ok. ok;
    second_valid = λ c v ok a. omega arith;
    same = λ c v w a. ap (λ (r : RawBefore). area_length_of r.0.0.0) (front_alike v w a);
  };
  meets = λ h. refl;
}

fields_holed : IsHoled ip_fields 10
fields_holed = seq_is_holed (λ n. n) (λ n v. area_length_of v.0.0.0) (λ n. n < 2 ^ 64) (gapped 80 ip_before) ip_behind 10 (gapped_is_holed 80 ip_before ip_before_laws)

-- a header has as many octets as it says
pub fields_size : (c : ℕ) (v : RawHeader) (b : List Bool) → ip_fields.stands c v b → (length b ≡ 8 * header_length_of v.0.0.0.0) × (5 ≤ v.0.0.0.0 % 16)
unfolding seq named gapped region fixed_octets
fields_size c v b p =
    let g = p.first in
    let d = p.second in
    let a = d.first in
    let least = length_five v.0.0.0.0 (front_tests c v.0 g.front g.stood).1 in (
      omega (
        arith,
        least,
        ap length p.joined,
        length-append p.front p.back,
        ap length g.joined,
        length-append g.front g.word,
        g.size,
        front_size c v.0 g.front g.stood,
        ap length d.joined,
        length-append d.front d.back,
        ap length a.joined,
        length-append a.front a.back,
        ap length a.first.is,
        ap length a.second.is,
        length-bits v.1.0.0,
        length-bits v.1.0.1,
        a.first.size,
        a.second.size,
        d.second.size,
      ),
      least,
    )

fields_some : (c : ℕ) (v : RawHeader) (b : List Bool) → ip_fields.stands c v b → 0 < number_of_bits b
unfolding seq gapped
fields_some c v b p = let g = p.first in some-front p.front p.back p.joined (some-front g.front g.word g.joined (front_some c v.0 g.front g.stood))

pub summed_sound : ip_summed.sound
unfolding named checked seq gapped fixed_octets region
summed_sound = record {
  part_sound =
      checked_is_sound (λ c n. []) 10 ip_fields fields_sound fields_holed refl refl refl (λ c ok v b p. let size = (fields_size c v b p).0 in (omega (arith, size), omega (arith, size)))
      (λ c ok. fields_some c);
  some = lit≤ tt;
  known = lit≤ tt;
}

-- the view of a header, by its fields
abbrev header_seen : RawBefore → (src dst spelled : List ℕ) → HeaderView
header_seen v src dst spelled = header_view (header_of (v, ((src, dst), record { ref_ptr = (0, 0); now = spelled })))

same_header : (v w : RawHeader) → ip_summed.alike v w → SameHeader (header_of v) (header_of w)
unfolding named checked seq gapped region until fixed_octets
same_header v w h =
    ap (λ b. header_seen b v.1.0.0 v.1.0.1 v.1.1.now) (front_alike v.0 w.0 h.0)
    ∙ ap (λ s. header_seen w.0 s v.1.0.1 v.1.1.now) h.1.0.0
    ∙ ap (λ d. header_seen w.0 w.1.0.0 d v.1.1.now) h.1.0.1
    ∙ ap (λ o. header_seen w.0 w.1.0.0 w.1.0.1 o) h.1.1

-- the fields of a header that can be written are those of its view
first_back : (first : ℕ) → first / 16 ≡ 4 → 64 + header_length_of first / 4 ≡ first
first_back first h = omega (arith, h)

header_back : (n : ℕ) (v : RawHeader) → IsFrontInRange n v.0 → raw_header (header_of v) ≡ v
header_back n v r =
    pair_eq (raw_header (header_of v)) v
    (pair_eq _ v.0
    (pair_eq _ v.0.0 (pair_eq _ v.0.0.0 (first_back v.0.0.0.0 (version_four v.0.0.0.0 r.version)) (mod-eq_of_lt r.tos)) (mod-eq_of_lt r.total))
    (pair_eq _ v.0.1 (pair_eq _ v.0.1.0 (mod-eq_of_lt r.id) (fragment_back v.0.1.0.1 r.fragment r.flags)) (pair_eq _ v.0.1.1 (mod-eq_of_lt r.ttl) (mod-eq_of_lt r.protocol))))
    refl

summed_ranges : (n : ℕ) (v : RawHeader) → ip_summed.admits n v → IsFrontInRange n v.0
unfolding named checked seq gapped
summed_ranges n v a = front_ranges n v.0 a.admitted.1

pub head_sound : ip_head.sound
unfolding stripped
head_sound = record {
  part_sound = summed_sound;
  same = same_header;
  chosen = λ c ok w a.
      let back = header_back c w (summed_ranges c w a) in
      record { admitted = subst (λ r. ip_summed.admits c r) (sym back) a; back = ap header_of back };
}
