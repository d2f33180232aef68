-- An options area by the slice of its options, and by the options in it.
use Rattle.std.proofs.Common.{◌≡◌, ℕ, ◌%◌, List, ◌++◌, length, sym, ap, ◌∙◌}
use Rattle.std.specs.Prelude.{flat_map}
use Rattle.narc_bits.specs.Octets.{IsOctets}
use Rattle.narc_packet.specs.Options.{IpOptionView, ip_option, ip_options_in, AreIpOptions, IsIpArea}
use Rattle.narc_options.specs.OptionOctets.{IsAreaOf}
use Rattle.narc_options.proofs.Spellings.{are_options, options_again}

-- the options of a slice that an area begins with
pub ip_area_of : (l area : List ℕ) → IsOctets area → length area % 4 ≡ 0 → IsAreaOf l area → IsIpArea (ip_options_in l) area
ip_area_of l area each words a = record {
  rest = a.rest;
  layout = a.joined ∙ ap (λ k. k ++ a.rest) (sym a.are.0);
  ended = a.ended;
  each = a.are.1;
  octets = each;
  whole_words = words;
  bound = a.short;
}

-- and the area begins with the slice that spells its options
pub area_of_ip : (l area : List ℕ) → flat_map ip_option (ip_options_in l) ≡ l → IsIpArea (ip_options_in l) area → IsAreaOf l area
area_of_ip l area same a = record { short = a.bound; are = (same, a.each); rest = a.rest; joined = a.layout ∙ ap (λ k. k ++ a.rest) same; ended = a.ended }

-- the slice that spells some options
pub record SliceOf (os : List IpOptionView) (area : List ℕ) : Type 0 where
  pub slice : List ℕ
  pub options : ip_options_in slice ≡ os
  pub are : AreIpOptions slice
  pub area_is : IsAreaOf slice area

pub slice_of : (os : List IpOptionView) (area : List ℕ) → IsIpArea os area → SliceOf os area
slice_of os area a = record {
  slice = flat_map ip_option os;
  options = options_again os a.each;
  are = are_options os a.each;
  area_is = record { short = a.bound; are = are_options os a.each; rest = a.rest; joined = a.layout; ended = a.ended };
}
