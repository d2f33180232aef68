-- The fields before the checksum meet the conditions of their rules.
use Rattle.std.proofs.Common.{◌≡◌, ℕ, ◌/◌, ◌^◌, ◌<◌, Bool, List, length, IsTrue, refl, sym, ap, subst, arith, lit≤, length-append}
use Rattle.std.proofs.lemmas.Bool.{eqb-true}
use Rattle.narc_bits.specs.Bits.{number_of_bits}
use Rattle.narc_bits.proofs.Numbers.{length-bits_of_number}
use Rattle.narc_format.specs.Widths.{IsWide}
use Rattle.narc_format.proofs.Widths.{wide-sized}
use Rattle.narc_scalar.specs.Tested.{tested}
use Rattle.narc_scalar.specs.Word.{word}
use Rattle.narc_compose.specs.Named.{named}
use Rattle.narc_compose.specs.Seq.{seq}
use Rattle.narc_sum.proofs.SomeSums.{some_number, some-front}
use Rattle.narc_ipv4.specs.Laws.{ip_before_laws}
use Rattle.narc_ipv4.specs.Header.{is_version, is_header_length, is_total_length, is_flags, header_length_of, RawBefore, first_octet, ip_lengths, ip_middle, ip_before}
use Rattle.narc_layout.proofs.Sizes.{pair_eq}

first_octet_sound : first_octet.sound
unfolding named tested word
first_octet_sound = record {
  part_sound = record {
    format = record { part_sound = record { format = (lit≤ tt, lit≤ tt); steady = λ c v w e. ap (is_version c) e }; some = lit≤ tt; known = lit≤ tt };
    steady = λ c v w e. ap (is_header_length c) e;
  };
  some = lit≤ tt;
  known = lit≤ tt;
}

lengths_sound : ip_lengths.sound
unfolding seq named tested word
lengths_sound = record {
  first_sound = record {
    first_sound = first_octet_sound;
    second_sound = record { part_sound = (lit≤ tt, lit≤ tt); some = lit≤ tt; known = lit≤ tt };
    carries = record { first_valid = λ c ok. tt; second_valid = λ c v ok a. tt; same = λ c v w a. refl };
    meets = λ h. cc;
  };
  second_sound = record { part_sound = record { format = (lit≤ tt, lit≤ tt); steady = λ c v w e. ap (is_total_length c) e }; some = lit≤ tt; known = lit≤ tt };
  carries = record { first_valid = λ c ok. tt; second_valid = λ c v ok a. tt; same = λ c v w a. ap (λ first. (header_length_of first, c)) a.0 };
  meets = λ h. cc;
}

middle_sound : ip_middle.sound
unfolding seq named tested word
middle_sound = record {
  first_sound = record {
    first_sound = (lit≤ tt, lit≤ tt);
    second_sound = record { part_sound = record { format = (lit≤ tt, lit≤ tt); steady = λ c v w e. ap (is_flags c) e }; some = lit≤ tt; known = lit≤ tt };
    carries = record { first_valid = λ c ok. tt; second_valid = λ c v ok a. tt; same = λ c v w a. refl };
    meets = λ h. cc;
  };
  second_sound = record {
    first_sound = (lit≤ tt, lit≤ tt);
    second_sound = (lit≤ tt, lit≤ tt);
    carries = record { first_valid = λ c ok. tt; second_valid = λ c v ok a. tt; same = λ c v w a. refl };
    meets = λ h. cc;
  };
  carries = record { first_valid = λ c ok. tt; second_valid = λ c v ok a. tt; same = λ c v w a. refl };
  meets = λ h. cc;
}

pub front_sound : ip_before.sound
unfolding seq named tested word
front_sound = record {
  first_sound = lengths_sound;
  second_sound = middle_sound;
  carries = record { first_valid = λ c ok. ok; second_valid = λ c v ok a. tt; same = λ c v w a. refl };
  meets = λ h. cc;
}

-- values that are the same are equal
pub front_alike : (v w : RawBefore) → ip_before.alike v w → v ≡ w
unfolding seq named tested word
front_alike v w h =
    pair_eq v w (pair_eq v.0 w.0 (pair_eq v.0.0 w.0.0 h.0.0.0 h.0.0.1) h.0.1)
    (pair_eq v.1 w.1 (pair_eq v.1.0 w.1.0 h.1.0.0 h.1.0.1) (pair_eq v.1.1 w.1.1 h.1.1.0 h.1.1.1))

-- the ranges of the numbers, and what the tests say
pub record IsFrontInRange (there : ℕ) (v : RawBefore) : Type 0 where
  pub first : v.0.0.0 < 2 ^ 8
  pub version : IsTrue (is_version tt v.0.0.0)
  pub least : IsTrue (is_header_length tt v.0.0.0)
  pub tos : v.0.0.1 < 2 ^ 8
  pub total : v.0.1 < 2 ^ 16
  pub fits : IsTrue (is_total_length (header_length_of v.0.0.0, there) v.0.1)
  pub id : v.1.0.0 < 2 ^ 16
  pub fragment : v.1.0.1 < 2 ^ 16
  pub flags : IsTrue (is_flags tt v.1.0.1)
  pub ttl : v.1.1.0 < 2 ^ 8
  pub protocol : v.1.1.1 < 2 ^ 8

pub front_ranges : (n : ℕ) (v : RawBefore) → ip_before.admits n v → IsFrontInRange n v
unfolding seq named tested word
front_ranges n v a = record {
  first = a.1.1.1.0.0;
  version = a.1.1.1.0.1;
  least = a.1.1.1.1;
  tos = a.1.1.2;
  total = a.1.2.0;
  fits = a.1.2.1;
  id = a.2.1.1;
  fragment = a.2.1.2.0;
  flags = a.2.1.2.1;
  ttl = a.2.2.1;
  protocol = a.2.2.2;
}

-- and they admit the value
pub front_admits : (n : ℕ) → n < 2 ^ 64 → (v : RawBefore) → IsFrontInRange n v → ip_before.admits n v
unfolding seq named tested word
front_admits n ok v r = (ok, (ok, (tt, ((r.first, r.version), r.least), r.tos), (r.total, r.fits)), (tt, (tt, r.id, (r.fragment, r.flags)), (tt, r.ttl, r.protocol)))

-- a front of 80 bits that stands, and what is known of it
pub front_size : (c : ℕ) (v : RawBefore) (b : List Bool) → ip_before.stands c v b → length b ≡ 80
unfolding seq named tested word
front_size c v b p =
    let l = p.first in
    let o = l.first in
    let m = p.second in
    omega (
      arith,
      ap length p.joined,
      length-append p.front p.back,
      ap length l.joined,
      length-append l.front l.back,
      ap length o.joined,
      length-append o.front o.back,
      ap length o.first.0.0.1,
      length-bits_of_number 8 v.0.0.0,
      ap length o.second.1,
      length-bits_of_number 8 v.0.0.1,
      ap length l.second.0.1,
      length-bits_of_number 16 v.0.1,
      ap length m.joined,
      length-append m.front m.back,
      ap length m.first.joined,
      length-append m.first.front m.first.back,
      ap length m.first.first.1,
      length-bits_of_number 16 v.1.0.0,
      ap length m.first.second.0.1,
      length-bits_of_number 16 v.1.0.1,
      ap length m.second.joined,
      length-append m.second.front m.second.back,
      ap length m.second.first.1,
      length-bits_of_number 8 v.1.1.0,
      ap length m.second.second.1,
      length-bits_of_number 8 v.1.1.1,
    )

pub front_wide : IsWide ip_before 80
front_wide = wide-sized ip_before_laws (λ s. front_size)

-- the tests of the first octet
pub front_tests : (c : ℕ) (v : RawBefore) (b : List Bool) → ip_before.stands c v b → IsTrue (is_version tt v.0.0.0) × IsTrue (is_header_length tt v.0.0.0)
unfolding seq named tested word
front_tests c v b p = let first = p.first.first.first in (first.0.1, first.1)

pub version_four : (first : ℕ) → IsTrue (is_version tt first) → first / 16 ≡ 4
version_four first h = eqb-true (first / 16) 4 h

-- the bits are not all 0, since the version is 4
pub front_some : (c : ℕ) (v : RawBefore) (b : List Bool) → ip_before.stands c v b → 0 < number_of_bits b
unfolding seq named tested word
front_some c v b p =
    let l = p.first in
    let o = l.first in
    let four = version_four v.0.0.0 o.first.0.1 in
    let first = some_number 8 v.0.0.0 o.first.0.0.0 (omega (arith, four)) in
    some-front p.front p.back p.joined (some-front l.front l.back l.joined (some-front o.front o.back o.joined (subst (λ x. 0 < number_of_bits x) (sym o.first.0.0.1) first)))
