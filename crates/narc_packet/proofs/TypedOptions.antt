-- The options of TCP that have a value of their own, and the kinds and data that they are spelled with.
use Rattle.std.proofs.Common.{◌≡◌, ℕ, zero, suc, ◌+◌, ◌*◌, ◌%◌, ◌≤◌, Bool, true, false, ◌&&◌, ◌||◌, nat_eq, List, [], ◌∷◌, ◌++◌, length, take, drop, get_or, refl, sym, ap, ◌∙◌, subst, arith, if◌then◌else◌}
use Rattle.std.specs.Prelude.{flat_map}
use Rattle.std.specs.List.{AllByRecursion}
use Rattle.std.proofs.lemmas.Bool.Decides.{nat_tests}
use Rattle.narc_bits.specs.Octets.{IsOctets, big_endian, number_of}
use Rattle.narc_bits.proofs.Octets.{IsOctets-append, IsOctets-big_endian}
use Rattle.narc_bits.proofs.NetworkOrder.{number_of-big_endian, big_endian-number_of}
use Rattle.narc_packet.specs.declared.option_type.TcpOptionType.{TcpOptionType}
use Rattle.narc_packet.specs.declared.option_type.TcpOptionType.TheVariants.{SegmentSize, WindowScale, SackPermitted, Sack, Timestamps, Untyped}
use Rattle.narc_packet.specs.Options.{IpOptionView, IpNop, IpOther, TcpOptionView, TcpNop, TcpMss, TcpScale, TcpSackOk, TcpSack, TcpTimes, TcpOther, sack_block, sack_blocks_in, tcp_option_type, typed_option, tcp_option_of, ip_option, tcp_option, IsIpOption, IsTcpOption}
use Rattle.narc_packet.proofs.SpelledBlocks.{block-octets, blocks_again, sack_blocks_in-spelled, length-blocks, IsOctets-blocks, each_block}

-- the kind and the number of octets of data that a type has
abbrev pub HasType : TcpOptionType → (kind count : ℕ) → Type 0
HasType SegmentSize kind count = (kind ≡ 2) × (count ≡ 2)
HasType WindowScale kind count = (kind ≡ 3) × (count ≡ 1)
HasType SackPermitted kind count = (kind ≡ 4) × (count ≡ 0)
HasType Sack kind count = (kind ≡ 5) × (count % 8 ≡ 0) × (8 ≤ count) × (count ≤ 32)
HasType Timestamps kind count = (kind ≡ 8) × (count ≡ 8)
HasType Untyped kind count = Unit {0}

either_type : (kind count : ℕ) (b : Bool) (t u : TcpOptionType) → (b ≡ true → HasType t kind count) → HasType u kind count → HasType (if b then t else u) kind count
either_type kind count true t u h k = h refl
either_type kind count false t u h k = k

both_are : (kind count k n : ℕ) → (nat_eq kind k && nat_eq count n) ≡ true → (kind ≡ k) × (count ≡ n)
both_are kind count k n e = (grind (arith, nat_tests), grind (arith, nat_tests))

blocks_are : (kind count : ℕ) → (nat_eq kind 5 && (nat_eq count 8 || nat_eq count 16 || nat_eq count 24 || nat_eq count 32)) ≡ true → HasType Sack kind count
blocks_are kind count e = (grind (arith, nat_tests), grind (arith, nat_tests), grind (arith, nat_tests), grind (arith, nat_tests))

pub has_type : (kind count : ℕ) → HasType (tcp_option_type kind count) kind count
has_type kind count =
    either_type kind count _ SegmentSize _ (both_are kind count 2 2)
    (either_type kind count _ WindowScale _ (both_are kind count 3 1)
    (either_type kind count _ SackPermitted _ (both_are kind count 4 0)
    (either_type kind count _ Sack _ (blocks_are kind count)
    (either_type kind count _ Timestamps _ (both_are kind count 8 8) tt))))

pub sack_type : (n : ℕ) → 1 ≤ n → n ≤ 4 → tcp_option_type 5 (8 * n) ≡ Sack
sack_type zero least most = absurd (omega (arith, least))
sack_type (suc zero) least most = refl
sack_type (suc (suc zero)) least most = refl
sack_type (suc (suc (suc zero))) least most = refl
sack_type (suc (suc (suc (suc zero)))) least most = refl
sack_type (suc (suc (suc (suc (suc n))))) least most = absurd (omega (arith, most))

-- kind and data of an option
abbrev pub ip_option_like : TcpOptionView → IpOptionView
ip_option_like TcpNop = IpNop
ip_option_like (TcpMss size) = IpOther 2 (big_endian 2 size)
ip_option_like (TcpScale shift) = IpOther 3 (shift ∷ [])
ip_option_like TcpSackOk = IpOther 4 []
ip_option_like (TcpSack blocks) = IpOther 5 (flat_map sack_block blocks)
ip_option_like (TcpTimes value echo) = IpOther 8 (big_endian 4 value ++ big_endian 4 echo)
ip_option_like (TcpOther kind octets) = IpOther kind octets

-- an option of TCP is spelled like the one of IPv4 with its kind and data
pub tcp_option-like : (option : TcpOptionView) → tcp_option option ≡ ip_option (ip_option_like option)
tcp_option-like TcpNop = refl
tcp_option-like (TcpMss size) = refl
tcp_option-like (TcpScale shift) = refl
tcp_option-like TcpSackOk = refl
tcp_option-like (TcpSack blocks) = refl
tcp_option-like (TcpTimes value echo) = refl
tcp_option-like (TcpOther kind octets) = refl

-- the octets of blocks are the data of an option exactly where these are one to four
pub tcp_option_of-blocks : (octets data_octets : List ℕ) → IsOctets octets → data_octets ≡ flat_map sack_block (sack_blocks_in octets) → tcp_option_type 5 (length data_octets) ≡ Sack
    → tcp_option_of (IpOther 5 data_octets) ≡ TcpSack (sack_blocks_in octets)
tcp_option_of-blocks octets data_octets each e is =
    ap (λ t. typed_option t 5 data_octets) is ∙ ap (λ l. TcpSack (sack_blocks_in l)) e ∙ ap TcpSack (sack_blocks_in-spelled (sack_blocks_in octets) (each_block octets each))

pub blocks_type : (octets data_octets : List ℕ) → data_octets ≡ flat_map sack_block (sack_blocks_in octets) → IsTcpOption (TcpSack (sack_blocks_in octets)) → tcp_option_type 5 (length data_octets) ≡ Sack
blocks_type octets data_octets e h =
    ap (λ l. tcp_option_type 5 (length l)) e ∙ ap (tcp_option_type 5) (length-blocks (sack_blocks_in octets)) ∙ sack_type (length (sack_blocks_in octets)) h.0 h.1

-- an option of TCP, read from its kind and data
pub tcp_option_of-like : (option : TcpOptionView) → IsTcpOption option → tcp_option_of (ip_option_like option) ≡ option
tcp_option_of-like TcpNop h = refl
tcp_option_of-like (TcpMss size) h = ap TcpMss (number_of-big_endian 2 size h)
tcp_option_of-like (TcpScale shift) h = ap TcpScale (omega arith)
tcp_option_of-like TcpSackOk h = refl
tcp_option_of-like (TcpSack blocks) h =
    let octets = flat_map sack_block blocks in
    let is : tcp_option_type 5 (length octets) ≡ Sack = ap (tcp_option_type 5) (length-blocks blocks) ∙ sack_type (length blocks) h.0 h.1 in
    ap (λ t. typed_option t 5 octets) is ∙ ap TcpSack (sack_blocks_in-spelled blocks h.2)
tcp_option_of-like (TcpTimes value echo) h = ap (λ n. TcpTimes n (number_of (big_endian 4 echo))) (number_of-big_endian 4 value h.0) ∙ ap (TcpTimes value) (number_of-big_endian 4 echo h.1)
tcp_option_of-like (TcpOther kind octets) h = ap (λ t. typed_option t kind octets) h.1

pub IsIpOption-like : (option : TcpOptionView) → IsTcpOption option → IsIpOption (ip_option_like option)
IsIpOption-like TcpNop h = tt
IsIpOption-like (TcpMss size) h = record { least = omega arith; kind_range = omega arith; bound = omega arith; each = IsOctets-big_endian 2 size }
IsIpOption-like (TcpScale shift) h = record { least = omega arith; kind_range = omega arith; bound = omega arith; each = (h, tt) }
IsIpOption-like TcpSackOk h = record { least = omega arith; kind_range = omega arith; bound = omega arith; each = tt }
IsIpOption-like (TcpSack blocks) h = record { least = omega arith; kind_range = omega arith; bound = omega (arith, length-blocks blocks, h.1); each = IsOctets-blocks blocks }
IsIpOption-like (TcpTimes value echo) h = record { least = omega arith; kind_range = omega arith; bound = omega arith; each = IsOctets-append (big_endian 4 value) (big_endian 4 echo) (IsOctets-big_endian 4 value) (IsOctets-big_endian 4 echo) }
IsIpOption-like (TcpOther kind octets) h = h.0

-- the kind and data that an option of TCP was read from
typed_like : (t : TcpOptionType) (kind : ℕ) (octets : List ℕ) → HasType t kind (length octets) → IsOctets octets → ip_option_like (typed_option t kind octets) ≡ IpOther kind octets
typed_like SegmentSize kind (a ∷ b ∷ []) h o = ap (λ k. IpOther k (big_endian 2 (number_of (a ∷ b ∷ [])))) (sym h.0) ∙ ap (IpOther kind) (big_endian-number_of (a ∷ b ∷ []) o)
typed_like SegmentSize kind octets h o = absurd (omega (arith, h.1))
typed_like WindowScale kind (a ∷ []) h o = ap (λ k. IpOther k (number_of (a ∷ []) ∷ [])) (sym h.0) ∙ ap (λ n. IpOther kind (n ∷ [])) {y = a} (omega arith)
typed_like WindowScale kind octets h o = absurd (omega (arith, h.1))
typed_like SackPermitted kind [] h o = ap (λ k. IpOther k []) (sym h.0)
typed_like SackPermitted kind (a ∷ octets) h o = absurd (omega (arith, h.1))
typed_like Sack kind octets h o = ap (λ k. IpOther k (flat_map sack_block (sack_blocks_in octets))) (sym h.0) ∙ ap (IpOther kind) (blocks_again octets o h.1)
typed_like Timestamps kind (a ∷ b ∷ c ∷ d ∷ e ∷ f ∷ g ∷ i ∷ []) h o =
    ap (λ k. IpOther k (big_endian 4 (number_of (a ∷ b ∷ c ∷ d ∷ [])) ++ big_endian 4 (number_of (e ∷ f ∷ g ∷ i ∷ [])))) (sym h.0) ∙ ap (IpOther kind) (block-octets a b c d e f g i [] o)
typed_like Timestamps kind octets h o = absurd (omega (arith, h.1))
typed_like Untyped kind octets h o = refl

-- the data of an option is in octets
abbrev pub HasOctets : IpOptionView → Type 0
HasOctets IpNop = Unit {0}
HasOctets (IpOther kind octets) = IsOctets octets

pub ip_option_like-of : (option : IpOptionView) → HasOctets option → ip_option_like (tcp_option_of option) ≡ option
ip_option_like-of IpNop h = refl
ip_option_like-of (IpOther kind octets) h = typed_like (tcp_option_type kind (length octets)) kind octets (has_type kind (length octets)) h

-- what is read from an option of IPv4 is an option of TCP
typed_is : (t : TcpOptionType) (kind : ℕ) (octets : List ℕ) → tcp_option_type kind (length octets) ≡ t → HasType t kind (length octets) → IsIpOption (IpOther kind octets) → IsTcpOption (typed_option t kind octets)
typed_is SegmentSize kind (a ∷ b ∷ []) e h is = omega (arith, is.each.0, is.each.1.0)
typed_is SegmentSize kind octets e h is = absurd (omega (arith, h.1))
typed_is WindowScale kind (a ∷ []) e h is = omega (arith, is.each.0)
typed_is WindowScale kind octets e h is = absurd (omega (arith, h.1))
typed_is SackPermitted kind octets e h is = tt
typed_is Sack kind octets e h is =
    let size = ap length (sym (blocks_again octets is.each h.1)) ∙ length-blocks (sack_blocks_in octets) in
    (omega (arith, size, h.2), omega (arith, size, h.3), each_block octets is.each)
typed_is Timestamps kind (a ∷ b ∷ c ∷ d ∷ e ∷ f ∷ g ∷ i ∷ []) t h is =
    let o = is.each in
    (omega (arith, o.0, o.1.0, o.1.1.0, o.1.1.1.0), omega (arith, o.1.1.1.1.0, o.1.1.1.1.1.0, o.1.1.1.1.1.1.0, o.1.1.1.1.1.1.1.0))
typed_is Timestamps kind octets e h is = absurd (omega (arith, h.1))
typed_is Untyped kind octets e h is = (is, e)

pub IsTcpOption-of : (option : IpOptionView) → IsIpOption option → IsTcpOption (tcp_option_of option)
IsTcpOption-of IpNop h = tt
IsTcpOption-of (IpOther kind octets) h = typed_is (tcp_option_type kind (length octets)) kind octets refl (has_type kind (length octets)) h

-- the two numbers of eight octets, as the code adds them up
pub times_in : (octets : List ℕ) → length octets ≡ 8
    → (number_of (take 4 octets) ≡ get_or octets 0 0 * 16777216 + get_or octets 1 0 * 65536 + get_or octets 2 0 * 256 + get_or octets 3 0)
    × (number_of (drop 4 octets) ≡ get_or octets 4 0 * 16777216 + get_or octets 5 0 * 65536 + get_or octets 6 0 * 256 + get_or octets 7 0)
times_in (a ∷ b ∷ c ∷ d ∷ e ∷ f ∷ g ∷ h ∷ []) size = (omega arith, omega arith)
times_in octets size = absurd (omega (arith, size))

-- options are spelled in octets
pub IsOctets-ip_option : (option : IpOptionView) → IsIpOption option → IsOctets (ip_option option)
IsOctets-ip_option IpNop h = (omega arith, tt)
IsOctets-ip_option (IpOther kind octets) h = (h.kind_range, (omega (arith, h.bound), h.each))

pub IsOctets-tcp_option : (option : TcpOptionView) → IsTcpOption option → IsOctets (tcp_option option)
IsOctets-tcp_option option h = subst IsOctets (sym (tcp_option-like option)) (IsOctets-ip_option (ip_option_like option) (IsIpOption-like option h))

pub IsOctets-spellings : {O : Type 0} (spelling : O → List ℕ) (IsOption : O → Type 0) → ((option : O) → IsOption option → IsOctets (spelling option))
    → (options : List O) → AllByRecursion IsOption options → IsOctets (flat_map spelling options)
IsOctets-spellings spelling IsOption each [] h = tt
IsOctets-spellings spelling IsOption each (option ∷ options) h =
    IsOctets-append (spelling option) (flat_map spelling options) (each option h.0) (IsOctets-spellings spelling IsOption each options h.1)
