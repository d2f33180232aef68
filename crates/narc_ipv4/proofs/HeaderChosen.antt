-- Headers in other contexts, and with the shortest area.
use Rattle.std.proofs.Common.{◌≡◌, ℕ, ◌+◌, ◌*◌, ◌/◌, ◌%◌, ◌^◌, ◌<◌, ◌≤◌, Bool, not, List, length, IsTrue, nat_eq, nat_lt, refl, sym, ap, ◌∙◌, subst, arith}
use Rattle.std.specs.Borrow.{Bor}
use Rattle.std.proofs.lemmas.Bool.{ltb-false, le-ltb, not-true, and_parts, and_from}
use Rattle.std.proofs.Math.Nat.{mod-eq_of_lt}
use Rattle.narc_scalar.specs.Octets.{fixed_octets}
use Rattle.narc_scalar.specs.Tested.{tested}
use Rattle.narc_scalar.specs.Word.{word}
use Rattle.narc_compose.specs.Gap.{gapped}
use Rattle.narc_compose.specs.Named.{named}
use Rattle.narc_compose.specs.Seq.{seq}
use Rattle.narc_compose.specs.Strip.{stripped}
use Rattle.narc_sum.specs.Checked.{checked}
use Rattle.narc_packet.specs.Ranges.{IsIp}
use Rattle.narc_options.specs.Option.{option_region}
use Rattle.narc_options.proofs.AreaSound.{region_chosen}
use Rattle.narc_ipv4.specs.declared.as_header.IpHeader.{IpHeader}
use Rattle.narc_ipv4.specs.Header.{is_version, is_total_length, header_length_of, area_length_of, RawBefore, RawHeader, header_of, raw_header, ip_before, ip_fields, ip_summed, ip_head}
use Rattle.narc_ipv4.proofs.BeforeSound.{IsFrontInRange, front_ranges, front_admits}
use Rattle.narc_ipv4.proofs.HeaderSound.{fields_size}

pub at_least : (n m : ℕ) → m ≤ n → IsTrue (not (nat_lt n m))
at_least n m h = ap not (le-ltb n m h)

pub total_fits : (c : ℕ × ℕ) (n : ℕ) → c.0 ≤ n → n ≤ c.1 → IsTrue (is_total_length c n)
total_fits c n h k = and_from (not (nat_lt n c.0)) (not (nat_lt c.1 n)) (at_least n c.0 h) (at_least c.1 n k)

pub total_least : (c : ℕ × ℕ) (n : ℕ) → IsTrue (is_total_length c n) → c.0 ≤ n
total_least c n h = ltb-false n c.0 (not-true (nat_lt n c.0) (and_parts (not (nat_lt n c.0)) (not (nat_lt c.1 n)) h).0)

pub total_most : (c : ℕ × ℕ) (n : ℕ) → IsTrue (is_total_length c n) → n ≤ c.1
total_most c n h = ltb-false c.1 n (not-true (nat_lt c.1 n) (and_parts (not (nat_lt n c.0)) (not (nat_lt c.1 n)) h).1)

-- a front stands wherever its total length has room
front_moves : (c d : ℕ) (v : RawBefore) (b : List Bool) → v.0.1 ≤ d → ip_before.stands c v b → ip_before.stands d v b
unfolding seq named tested
front_moves c d v b h p =
    let l = p.first in
    record {
      front = p.front;
      back = p.back;
      joined = p.joined;
      first = record {
        front = l.front;
        back = l.back;
        joined = l.joined;
        first = l.first;
        second = (l.second.0, total_fits (header_length_of v.0.0.0, d) v.0.1 (total_least (header_length_of v.0.0.0, c) v.0.1 l.second.1) h);
      };
      second = p.second;
    }

front_total : (c : ℕ) (v : RawBefore) (b : List Bool) → ip_before.stands c v b → (v.0.1 < 2 ^ 16) × IsTrue (is_total_length (header_length_of v.0.0.0, c) v.0.1)
unfolding seq named tested word
front_total c v b p = (p.first.second.0.0, p.first.second.1)

fields_move : (c d : ℕ) (v : RawHeader) (b : List Bool) → v.0.0.1 ≤ d → ip_fields.stands c v b → ip_fields.stands d v b
unfolding seq gapped
fields_move c d v b h p =
    let g = p.first in
    record {
      front = p.front;
      back = p.back;
      joined = p.joined;
      first = record { front = g.front; word = g.word; joined = g.joined; stood = front_moves c d v.0 g.front h g.stood; size = g.size };
      second = p.second;
    }

fields_total : (c : ℕ) (v : RawHeader) (b : List Bool) → ip_fields.stands c v b → (v.0.0.1 < 2 ^ 16) × IsTrue (is_total_length (header_length_of v.0.0.0.0, c) v.0.0.1)
unfolding seq gapped
fields_total c v b p = let g = p.first in front_total c v.0 g.front g.stood

-- what is known of a header that stands
pub record IsSizedHeader (there : ℕ) (h : IpHeader) (b : List Bool) : Type 0 where
  pub size : length b ≡ 8 * h.length
  pub fits : h.length ≤ h.total
  pub small : h.total < 2 ^ 16
  pub most : h.total ≤ there

raw_sized : (c : ℕ) (v : RawHeader) (b : List Bool) → ip_fields.stands c v b → IsSizedHeader c (header_of v) b
raw_sized c v b p =
    let t = fields_total c v b p in
    let same : v.0.0.1 % 65536 ≡ v.0.0.1 = mod-eq_of_lt t.0 in
    record {
      size = (fields_size c v b p).0;
      fits = omega (arith, same, total_least (header_length_of v.0.0.0.0, c) v.0.0.1 t.1);
      small = omega (arith, same, t.0);
      most = omega (arith, same, total_most (header_length_of v.0.0.0.0, c) v.0.0.1 t.1);
    }

pub head_size : (c : ℕ) (h : IpHeader) (b : List Bool) → ip_head.stands c h b → IsSizedHeader c h b
unfolding stripped named checked
head_size c h b p = subst (λ x. IsSizedHeader c x b) p.is (raw_sized c p.raw b p.holds.stood)

raw_moves : (c d : ℕ) (v : RawHeader) (b : List Bool) → (header_of v).total ≤ d → ip_summed.stands c v b → ip_summed.stands d v b
unfolding named checked
raw_moves c d v b h p =
    let t = fields_total c v b p.stood in
    let same : v.0.0.1 % 65536 ≡ v.0.0.1 = mod-eq_of_lt t.0 in
    record { stood = fields_move c d v b (omega (arith, same, h)) p.stood; passed = p.passed }

-- a header stands wherever its total length has room
pub head_moves : (c d : ℕ) (h : IpHeader) (b : List Bool) → h.total ≤ d → ip_head.stands c h b → ip_head.stands d h b
unfolding stripped
head_moves c d h b k p = record { raw = p.raw; holds = raw_moves c d p.raw b (subst (λ (x : IpHeader). x.total ≤ d) (sym p.is) k) p.holds; is = p.is }

-- what is known of the fields that can be written
pub record IsBehindInRange (n : ℕ) (from to : List ℕ) (l : Bor (List ℕ)) : Type 0 where
  pub src : IsIp from
  pub dst : IsIp to
  pub options : option_region.admits n l

pub record AreFields (there : ℕ) (v : RawHeader) : Type 0 where
  pub front : IsFrontInRange there v.0
  pub behind : IsBehindInRange (area_length_of v.0.0.0.0) v.1.0.0 v.1.0.1 v.1.1

fields_ranges : (n : ℕ) (v : RawHeader) → ip_fields.admits n v → AreFields n v
unfolding seq gapped named fixed_octets
fields_ranges n v a = record { front = front_ranges n v.0 a.1; behind = record { src = a.2.1.1; dst = a.2.1.2; options = a.2.2 } }

fields_admit : (n : ℕ) → n < 2 ^ 64 → (v : RawHeader) → AreFields n v → ip_fields.admits n v
unfolding seq gapped named fixed_octets
fields_admit n ok v r = (ok, front_admits n ok v.0 r.front, (omega arith, (tt, r.behind.src, r.behind.dst), r.behind.options))

pub head_fields : (n : ℕ) (h : IpHeader) → ip_head.admits n h → AreFields n (raw_header h)
unfolding stripped named checked
head_fields n h a = fields_ranges n (raw_header h) a.admitted.admitted

pub head_back : (n : ℕ) (h : IpHeader) → ip_head.admits n h → header_of (raw_header h) ≡ h
unfolding stripped
head_back n h a = a.back

-- the header with these lengths, for this protocol
abbrev pub with_lengths : IpHeader → (size total protocol : ℕ) → IpHeader
with_lengths h size total protocol = record h { length = size; total = total; protocol = protocol }

is_first : (n : ℕ) → n / 16 ≡ 4 → IsTrue (is_version tt n)
is_first n h = subst (λ k. IsTrue (nat_eq k 4)) (sym h) refl

fields_chosen : (n : ℕ) (h : IpHeader) → AreFields n (raw_header h) → (k total protocol : ℕ) → length h.options.spelled.now ≤ 4 * k → k ≤ 10 → 20 + 4 * k ≤ total → total < 2 ^ 16 → protocol < 2 ^ 8
    → (m : ℕ) → total ≤ m → AreFields m (raw_header (with_lengths h (20 + 4 * k) total protocol))
fields_chosen n h r k total protocol area few least small known m most =
    let f = r.front in
    let first : 64 + (20 + 4 * k) / 4 ≡ 69 + k = omega arith in
    let words : header_length_of (64 + (20 + 4 * k) / 4) ≡ 20 + 4 * k = omega (arith, first, few) in
    let octets : area_length_of (64 + (20 + 4 * k) / 4) ≡ 4 * k = omega (arith, words) in
    record {
      front = record {
        first = omega (arith, first, few);
        version = is_first (64 + (20 + 4 * k) / 4) (omega (arith, first, few));
        least = at_least ((64 + (20 + 4 * k) / 4) % 16) 5 (omega (arith, first, few));
        tos = f.tos;
        total = small;
        fits = total_fits (header_length_of (64 + (20 + 4 * k) / 4), m) total (omega (arith, words, least)) most;
        id = f.id;
        fragment = f.fragment;
        flags = f.flags;
        ttl = f.ttl;
        protocol = known;
      };
      behind = record {
        src = r.behind.src;
        dst = r.behind.dst;
        options = subst (λ a. option_region.admits a h.options.spelled) (sym octets) ((region_chosen (area_length_of (raw_header h).0.0.0.0) h.options.spelled r.behind.options).other (4 * k) area (omega (arith, few)));
      };
    }

pub summed_admits : (n : ℕ) → n < 2 ^ 64 → (v : RawHeader) → AreFields n v → ip_summed.admits n v
unfolding named checked seq
summed_admits n ok v r = record { valid = ok; admitted = fields_admit n ok v r }

-- a header that can be written can be with a shorter area, and with other data
pub head_chosen : (n : ℕ) (h : IpHeader) → ip_head.admits n h → (k total protocol : ℕ) → length h.options.spelled.now ≤ 4 * k → k ≤ 10 → 20 + 4 * k ≤ total → total < 2 ^ 16 → protocol < 2 ^ 8
    → (m : ℕ) → total ≤ m → m < 2 ^ 64 → ip_head.admits m (with_lengths h (20 + 4 * k) total protocol)
unfolding stripped
head_chosen n h a k total protocol area few least small known m most ok =
    let size : header_length_of (64 + (20 + 4 * k) / 4) ≡ 20 + 4 * k = omega (arith, few) in
    record {
      admitted = summed_admits m ok (raw_header (with_lengths h (20 + 4 * k) total protocol)) (fields_chosen n h (head_fields n h a) k total protocol area few least small known m most);
      back =
          ap (λ x. with_lengths x (header_length_of (64 + (20 + 4 * k) / 4)) (total % 65536) (protocol % 256)) a.back
          ∙ ap (λ s. with_lengths h s (total % 65536) (protocol % 256)) size
          ∙ ap (λ t. with_lengths h (20 + 4 * k) t (protocol % 256)) (mod-eq_of_lt small)
          ∙ ap (λ p. with_lengths h (20 + 4 * k) total p) (mod-eq_of_lt known);
    }
