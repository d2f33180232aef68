-- The octets of an option's fields.
use Rattle.std.proofs.Common.{◌≡◌, ℕ, ◌+◌, ◌*◌, ◌^◌, ◌<◌, ◌≤◌, Bool, true, false, not, List, [], ◌++◌, length, IsTrue, nat_eq, nat_lt, refl, sym, ap, ◌∙◌, subst, arith, if◌then◌else◌}
use Rattle.std.specs.Borrow.{Bor}
use Rattle.std.proofs.lemmas.Bool.{lt-ltb, eqb-true, eqb-false, ne_eqb, and_from}
use Rattle.std.proofs.lemmas.List.{nil_from_length}
use Rattle.narc_bits.specs.Bits.{bits, bits_of_number}
use Rattle.narc_bits.proofs.Numbers.{length-bits}
use Rattle.narc_scalar.specs.Tested.{tested}
use Rattle.narc_scalar.specs.Word.{word}
use Rattle.narc_compose.specs.declared.either.Either.{Either}
use Rattle.narc_compose.specs.declared.either.Either.TheVariants.{Left, Right}
use Rattle.narc_compose.specs.Measured.{measured}
use Rattle.narc_compose.specs.Seq.{seq}
use Rattle.narc_compose.specs.Union.{united, Sides}
use Rattle.narc_list.specs.Bytes.{all_octets}
use Rattle.narc_list.specs.Pad.{padding}
use Rattle.narc_list.specs.Region.{region}
use Rattle.narc_packet.specs.Options.{IpOptionView, IpNop, IpOther, ip_option, tcp_option, IsIpOption, IsTcpOption, tcp_option_of}
use Rattle.narc_packet.proofs.TypedOptions.{ip_option_like, tcp_option_of-like, IsIpOption-like, IsTcpOption-of}
use Rattle.narc_packet.proofs.SpelledOptions.{tcp_option-of}
use Rattle.narc_options.specs.OptionOctets.{IsRawOption, raw_view, AreItsFields, IsItsOption}
use Rattle.narc_options.specs.Option.{is_kind, is_option_length, RawOption, nothing, length_and_data, option_fields}
use Rattle.narc_options.proofs.OptionSound.{kind_some, length_least, length_most}

-- the fields of an option
abbrev pub fields_of : IpOptionView → RawOption
fields_of IpNop = (1, Left tt)
fields_of (IpOther kind octets) = (kind, Right ((2 + length octets, record { ref_ptr = (0, 0); now = octets })))

pub raw_option : (v : RawOption) → IsRawOption v → IsIpOption (raw_view v)
raw_option (kind, Left u) h = tt
raw_option (kind, Right rest) h = h.0

pub fields_are_raw : (o : IpOptionView) → IsIpOption o → IsRawOption (fields_of o)
fields_are_raw IpNop h = refl
fields_are_raw (IpOther kind octets) h = (h, refl)

pub view_of_fields : (o : IpOptionView) → raw_view (fields_of o) ≡ o
view_of_fields IpNop = refl
view_of_fields (IpOther kind octets) = refl

pub kind_holds : (n : ℕ) → 1 ≤ n → IsTrue (is_kind tt n)
kind_holds n h = ap not (ne_eqb n 0 (λ e. omega (arith, h, e)))

pub length_holds : (n : ℕ) → 2 ≤ n → n ≤ 40 → IsTrue (is_option_length tt n)
length_holds n h k = and_from (nat_lt 1 n) (nat_lt n 41) (lt-ltb 1 n (omega (arith, h))) (lt-ltb n 41 (omega (arith, k)))

pub no_bits : (b : List Bool) → length b ≡ 8 * 0 → b ≡ []
no_bits b h = nil_from_length b (omega (arith, h))

-- what stands behind a kind
abbrev Behind : Bool → Either (Unit {0}) (ℕ × Bor (List ℕ)) → List Bool → Type 0
Behind one rest b = Sides (λ a x. nothing.stands a x b) (λ z y. length_and_data.stands z y b) (if one then Left 0 else Right tt) rest

behind_octets : (kind : ℕ) (one : Bool) → nat_eq kind 1 ≡ one → kind < 256 → IsTrue (is_kind tt kind) → (rest : Either (Unit {0}) (ℕ × Bor (List ℕ))) (b : List Bool) → Behind one rest b
    → IsRawOption (kind, rest) × (bits_of_number 8 kind ++ b ≡ bits (ip_option (raw_view (kind, rest))))
unfolding region padding seq tested word measured all_octets bits
behind_octets kind true e small some (Left u) b p =
    let is : kind ≡ 1 = eqb-true kind 1 e in
    (is, ap (λ l. bits_of_number 8 kind ++ l) (no_bits b p.size) ∙ ap (λ n. bits_of_number 8 n ++ []) is)
behind_octets kind true e small some (Right r) b p = absurd p
behind_octets kind false e small some (Left u) b p = absurd p
behind_octets kind false e small some (Right r) b p =
    let least = length_least r.0 p.first.1 in
    let most = length_most r.0 p.first.1 in
    let d = p.second in
    let size : r.0 ≡ 2 + length r.1.now = omega (arith, least, d.size, ap length d.stood.1, length-bits r.1.now) in (
      (record { least = at_least kind e (kind_some kind some); kind_range = small; bound = omega (arith, size, most); each = d.stood.0 }, size),
      ap (λ l. bits_of_number 8 kind ++ l) (p.joined ∙ ap (λ l. l ++ p.back) p.first.0.1 ∙ ap (λ n. bits_of_number 8 n ++ p.back) size ∙ ap (λ l. bits_of_number 8 (2 + length r.1.now) ++ l) d.stood.1),
    ) where
      at_least : (kind : ℕ) → nat_eq kind 1 ≡ false → (kind ≡ 0 → ⊥) → 2 ≤ kind
      at_least kind e some = omega (arith, eqb-false kind 1 e, some)

-- the bits of an option, cut behind its kind
record CutOption (kind : ℕ) (rest : Either (Unit {0}) (ℕ × Bor (List ℕ))) : Type 0 where
  back : List Bool
  joined : bits (ip_option (raw_view (kind, rest))) ≡ bits_of_number 8 kind ++ back
  some : 1 ≤ kind
  small : kind < 2 ^ 8
  behind : Behind (nat_eq kind 1) rest back

cut_option : (kind : ℕ) (rest : Either (Unit {0}) (ℕ × Bor (List ℕ))) → IsRawOption (kind, rest) → CutOption kind rest
unfolding region padding seq tested word measured all_octets bits
cut_option kind (Left u) h = record {
  back = [];
  joined = ap (λ n. bits_of_number 8 n ++ []) (sym h);
  some = omega (arith, h);
  small = omega (arith, h);
  behind = subst (λ n. Behind (nat_eq n 1) (Left u) []) (sym h) (record { size = refl; stood = refl });
}
cut_option kind (Right r) h = record {
  back = bits_of_number 8 r.0 ++ bits r.1.now;
  joined = ap (λ n. bits_of_number 8 kind ++ (bits_of_number 8 n ++ bits r.1.now)) (sym h.1);
  some = omega (arith, h.0.least);
  small = omega (arith, h.0.kind_range);
  behind = subst (λ t. Behind t (Right r) (bits_of_number 8 r.0 ++ bits r.1.now)) (sym (ne_eqb kind 1 (λ e. omega (arith, h.0.least, e)))) (record {
    front = bits_of_number 8 r.0;
    back = bits r.1.now;
    joined = refl;
    first = ((omega (arith, h.1, h.0.bound), refl), length_holds r.0 (omega (arith, h.1)) (omega (arith, h.1, h.0.bound)));
    second = record { size = omega (arith, length-bits r.1.now, h.1); stood = (h.0.each, refl) };
  });
}

-- exactly the spellings of options stand
pub option_octets : AreItsFields option_fields
unfolding seq tested word united
option_octets v b = (
  λ p.
      let kind = p.first in
      let q = behind_octets v.0 (nat_eq v.0 1) refl (omega (arith, kind.0.0)) kind.1 v.1 p.back p.second in
      (q.0, p.joined ∙ ap (λ l. l ++ p.back) kind.0.1 ∙ q.1),
  λ h.
      let c = cut_option v.0 v.1 h.0 in
      record { front = bits_of_number 8 v.0; back = c.back; joined = h.1 ∙ c.joined; first = ((c.small, refl), kind_holds v.0 c.some); second = c.behind },
)

-- options that are told apart by kind and data: each has a spelling, and is that of its kind and data
record AreLike {O : Type 0} (option_of : IpOptionView → O) (like : O → IpOptionView) (IsOption : O → Type 0) (spelling : O → List ℕ) : Type 0 where
  is : (option : IpOptionView) → IsIpOption option → IsOption (option_of option)
  spelled : (option : IpOptionView) → IsIpOption option → spelling (option_of option) ≡ ip_option option
  is_like : (option : O) → IsOption option → IsIpOption (like option)
  again : (option : O) → IsOption option → option_of (like option) ≡ option

-- exactly the spellings of such options stand
its_option : {O : Type 0} (option_of : IpOptionView → O) (like : O → IpOptionView) (IsOption : O → Type 0) (spelling : O → List ℕ)
    → AreLike option_of like IsOption spelling → IsItsOption option_of IsOption spelling option_fields
its_option option_of like IsOption spelling are option b = (
  λ p.
      let h = (option_octets p.fields b).0 p.stood in
      let is = raw_option p.fields h.0 in
      (subst IsOption p.is (are.is (raw_view p.fields) is), h.1 ∙ ap bits (sym (are.spelled (raw_view p.fields) is)) ∙ ap (λ o. bits (spelling o)) p.is),
  λ h.
      let is = are.is_like option h.0 in
      let fields = fields_of (like option) in
      let view = view_of_fields (like option) in
      let same = ap option_of view ∙ are.again option h.0 in
      let octets = ap spelling (sym (are.again option h.0)) ∙ are.spelled (like option) is ∙ ap ip_option (sym view) in
      record { fields = fields; is = same; stood = (option_octets fields b).1 (fields_are_raw (like option) is, h.1 ∙ ap bits octets) },
)

pub its_ip_option : IsItsOption (λ option. option) IsIpOption ip_option option_fields
its_ip_option = its_option (λ option. option) (λ option. option) IsIpOption ip_option (record { is = λ option is. is; spelled = λ option is. refl; is_like = λ option is. is; again = λ option is. refl })

pub its_tcp_option : IsItsOption tcp_option_of IsTcpOption tcp_option option_fields
its_tcp_option = its_option tcp_option_of ip_option_like IsTcpOption tcp_option (record { is = IsTcpOption-of; spelled = tcp_option-of; is_like = IsIpOption-like; again = tcp_option_of-like })
