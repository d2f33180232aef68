-- Octets that spell options and nothing else.
use Rattle.std.proofs.Common.{◌≡◌, ◌↔◌, ℕ, ◌+◌, ◌≤◌, Result, Ok, Err, List, [], ◌∷◌, ◌++◌, length, length-append, append-nil, map, refl, sym, ap, ◌∙◌, subst, arith}
use Rattle.std.specs.Prelude.{flat_map, IsOk, OnOk, OnErr}
use Rattle.std.proofs.lemmas.Grind.{flat_map-append}
use Rattle.std.proofs.lemmas.List.{map-append}
use Rattle.std.specs.List.{AllByRecursion}
use Rattle.narc_bits.specs.Octets.{IsOctets}
use Rattle.narc_packet.specs.declared.blocks.SackBlock.{SackBlock}
use Rattle.narc_packet.specs.declared.limits.TheConstants.{MAX_AREA}
use Rattle.narc_packet.specs.Options.{IpOptionView, IpNop, IpOther, TcpOptionView, ip_option, tcp_option, IsSackBlock, sack_block, sack_blocks_in, AreSpelledBlocks, IsIpOption, IsTcpOption, ip_options_in, tcp_options_in, tcp_option_of, AreIpOptions, AreTcpOptions}
use Rattle.narc_packet.specs.WellFormed.{FitArea}
use Rattle.narc_packet.proofs.OptionLists.{IsFound, each_found, ip_options_in-append, ip_options_in-cons, ip_options_in-other, AreIpOptions-few}
use Rattle.narc_packet.proofs.SpelledBlocks.{sack_blocks_in-spelled}
use Rattle.narc_packet.proofs.TypedOptions.{HasOctets, tcp_option-like, IsIpOption-like, ip_option_like-of, IsTcpOption-of}

AllByRecursion-append : {X : Type 0} (P : X → Type 0) (xs ys : List X) → AllByRecursion P xs → AllByRecursion P ys → AllByRecursion P (xs ++ ys)
AllByRecursion-append P [] ys h k = k
AllByRecursion-append P (x ∷ xs) ys h k = (h.0, AllByRecursion-append P xs ys h.1 k)

AllByRecursion-last : {X : Type 0} (P : X → Type 0) (xs : List X) (x : X) → AllByRecursion P (xs ++ x ∷ []) → AllByRecursion P xs × P x
AllByRecursion-last P [] x h = (tt, h.0)
AllByRecursion-last P (y ∷ xs) x h = let rest = AllByRecursion-last P xs x h.1 in ((h.0, rest.0), rest.1)

-- an option behind others
pub ip_options_in-last : (l : List ℕ) (option : IpOptionView) → AreIpOptions l → IsIpOption option
    → ip_options_in (l ++ ip_option option) ≡ ip_options_in l ++ option ∷ []
ip_options_in-last l option are is =
    let options = ip_options_in l in
    ap (λ t. ip_options_in (t ++ ip_option option)) (sym are.0)
    ∙ ip_options_in-append options (ip_option option) are.1
    ∙ ap (λ t. options ++ ip_options_in t) (sym (append-nil (ip_option option)))
    ∙ ap (λ t. options ++ t) (ip_options_in-cons option [] is)

spelling-last : {O : Type 0} (spelling : O → List ℕ) (options : List O) (option : O)
    → flat_map spelling (options ++ option ∷ []) ≡ flat_map spelling options ++ spelling option
spelling-last spelling options option =
    flat_map-append spelling options (option ∷ []) ∙ ap (λ t. flat_map spelling options ++ t) (append-nil (spelling option))

pub AreIpOptions-last : (l : List ℕ) (option : IpOptionView) → AreIpOptions l → IsIpOption option → AreIpOptions (l ++ ip_option option)
AreIpOptions-last l option are is =
    let last = ip_options_in-last l option are is in (
      ap (flat_map ip_option) last ∙ spelling-last ip_option (ip_options_in l) option ∙ ap (λ t. t ++ ip_option option) are.0,
      subst (AllByRecursion IsIpOption) (sym last) (AllByRecursion-append IsIpOption (ip_options_in l) (option ∷ []) are.1 (is, tt)),
    )

-- options fit an area together with one more exactly where that one has a spelling and there is room
pub FitArea-last : {O : Type 0} (spelling : O → List ℕ) (IsOption : O → Type 0) (options : List O) (option : O) → AllByRecursion IsOption options
    → (IsOption option × (length (flat_map spelling options) + length (spelling option) ≤ 40)) ↔ FitArea spelling IsOption (options ++ option ∷ [])
FitArea-last spelling IsOption options option each =
    let size : length (flat_map spelling (options ++ option ∷ [])) ≡ length (flat_map spelling options) + length (spelling option) =
    ap length (spelling-last spelling options option) ∙ length-append (flat_map spelling options) (spelling option) in (
      λ h. record { each = AllByRecursion-append IsOption options (option ∷ []) each (h.0, tt); bound = omega (arith, size, h.1) },
      λ h. ((AllByRecursion-last IsOption options option h.each).1, omega (arith, size, h.bound)),
    )

-- an option without a spelling fits no area
pub FitArea-none : {O : Type 0} (spelling : O → List ℕ) (IsOption : O → Type 0) (options : List O) (option : O) → (IsOption option → ⊥) → FitArea spelling IsOption (options ++ option ∷ []) → ⊥
FitArea-none spelling IsOption options option none fit = none (AllByRecursion-last IsOption options option fit.each).1

IsFound-ip : (option : IpOptionView) → IsIpOption option → IsFound option
IsFound-ip IpNop h = tt
IsFound-ip (IpOther kind octets) h = (h.least, h.kind_range, h.each)

each_found-ip : (options : List IpOptionView) → AllByRecursion IsIpOption options → AllByRecursion IsFound options
each_found-ip [] h = tt
each_found-ip (option ∷ options) h = (IsFound-ip option h.0, each_found-ip options h.1)

HasOctets-found : (option : IpOptionView) → IsFound option → HasOctets option
HasOctets-found IpNop h = tt
HasOctets-found (IpOther kind octets) h = h.2

-- an option of TCP is spelled like one of IPv4
tcp_option-found : (option : IpOptionView) → IsFound option → tcp_option (tcp_option_of option) ≡ ip_option option
tcp_option-found option h = tcp_option-like (tcp_option_of option) ∙ ap ip_option (ip_option_like-of option (HasOctets-found option h))

pub tcp_option-of : (option : IpOptionView) → IsIpOption option → tcp_option (tcp_option_of option) ≡ ip_option option
tcp_option-of option h = tcp_option-found option (IsFound-ip option h)

flat_map-found : (options : List IpOptionView) → AllByRecursion IsFound options → flat_map tcp_option (map tcp_option_of options) ≡ flat_map ip_option options
flat_map-found [] h = refl
flat_map-found (option ∷ options) h =
    ap (λ t. t ++ flat_map tcp_option (map tcp_option_of options)) (tcp_option-found option h.0) ∙ ap (λ t. ip_option option ++ t) (flat_map-found options h.1)

pub flat_map-tcp_option : (options : List IpOptionView) → AllByRecursion IsIpOption options
    → flat_map tcp_option (map tcp_option_of options) ≡ flat_map ip_option options
flat_map-tcp_option options h = flat_map-found options (each_found-ip options h)

pub AllByRecursion-tcp : (options : List IpOptionView) → AllByRecursion IsIpOption options → AllByRecursion IsTcpOption (map tcp_option_of options)
AllByRecursion-tcp [] h = tt
AllByRecursion-tcp (option ∷ options) h = (IsTcpOption-of option h.0, AllByRecursion-tcp options h.1)

pub AreTcpOptions-ip : (l : List ℕ) → AreIpOptions l → AreTcpOptions l
AreTcpOptions-ip l are = (flat_map-tcp_option (ip_options_in l) are.1 ∙ are.0, AllByRecursion-tcp (ip_options_in l) are.1)

pub FitArea-tcp : (options : List IpOptionView) → FitArea ip_option IsIpOption options → FitArea tcp_option IsTcpOption (map tcp_option_of options)
FitArea-tcp options fit = record {
  each = AllByRecursion-tcp options fit.each;
  bound = omega (arith, ap length (flat_map-tcp_option options fit.each), fit.bound);
}

-- what is spelled after an attempt to append an option
pub AreIpOptions-pushed : {E : Type 0} (old new : List ℕ) (option : IpOptionView) (r : Result Unit E) → AreIpOptions old × (length old ≤ 40)
    → (IsOk r ↔ (IsIpOption option × (length old + length (ip_option option) ≤ 40))) → OnOk r (new ≡ old ++ ip_option option) → OnErr r (new ≡ old)
    → AreIpOptions new × (length new ≤ 40)
AreIpOptions-pushed old new option (Ok done) h fits ok err =
    let can = fits.0 refl in (
      subst AreIpOptions (sym ok) (AreIpOptions-last old option h.0 can.0),
      omega (arith, ap length ok, length-append old (ip_option option), can.1),
    )
AreIpOptions-pushed old new option (Err e) h fits ok err = subst (λ l. AreIpOptions l × (length l ≤ 40)) (sym err) h

pub FitArea-pushed : {E : Type 0} (old : List ℕ) (shown : List IpOptionView) (option : IpOptionView) (r : Result Unit E) → AreIpOptions old
    → ip_options_in old ≡ shown → (IsOk r ↔ (IsIpOption option × (length old + length (ip_option option) ≤ 40)))
    → IsOk r ↔ FitArea ip_option IsIpOption (shown ++ option ∷ [])
FitArea-pushed old shown option r are e fits =
    let size = ap length are.0 in
    let as_shown = ap (λ l. l ++ option ∷ []) e in
    let last = FitArea-last ip_option IsIpOption (ip_options_in old) option are.1 in (
      λ h. let can = fits.0 h in subst (FitArea ip_option IsIpOption) as_shown (last.0 (can.0, omega (arith, size, can.1))),
      λ h. let both = last.1 (subst (FitArea ip_option IsIpOption) (sym as_shown) h) in fits.1 (both.0, omega (arith, size, both.1)),
    )

pub ip_options_in-pushed : {E : Type 0} (old new : List ℕ) (shown : List IpOptionView) (option : IpOptionView) (r : Result Unit E) → AreIpOptions old
    → ip_options_in old ≡ shown → (IsOk r → IsIpOption option) → OnOk r (new ≡ old ++ ip_option option) → OnOk r (ip_options_in new ≡ shown ++ option ∷ [])
ip_options_in-pushed old new shown option (Ok done) are e can ok =
    ap ip_options_in ok ∙ ip_options_in-last old option are (can refl) ∙ ap (λ l. l ++ option ∷ []) e
ip_options_in-pushed old new shown option (Err f) are e can ok = ok

-- an option of TCP is appended as the one of IPv4 that is spelled alike
pub FitArea-alike : {E : Type 0} (options : List IpOptionView) (shown : List TcpOptionView) (option : IpOptionView) (r : Result Unit E)
    → AllByRecursion IsIpOption options → map tcp_option_of options ≡ shown → HasOctets option
    → (IsOk r ↔ FitArea ip_option IsIpOption (options ++ option ∷ [])) → IsOk r ↔ FitArea tcp_option IsTcpOption (shown ++ tcp_option_of option ∷ [])
FitArea-alike options shown option r each shows octets fits =
    let alike = tcp_option_of option in
    let like = ip_option_like-of option octets in
    let as_tcp = map-append tcp_option_of options (option ∷ []) ∙ ap (λ l. l ++ alike ∷ []) shows in
    let ip = FitArea-last ip_option IsIpOption options option each in
    let tcp = FitArea-last tcp_option IsTcpOption shown alike (subst (AllByRecursion IsTcpOption) shows (AllByRecursion-tcp options each)) in
    let sizes : length (flat_map ip_option options) ≡ length (flat_map tcp_option shown) = ap length (sym (flat_map-tcp_option options each)) ∙ ap (λ l. length (flat_map tcp_option l)) shows in
    let size : length (ip_option option) ≡ length (tcp_option alike) = ap (λ o. length (ip_option o)) (sym like) ∙ ap length (sym (tcp_option-like alike)) in (
      λ h. subst (FitArea tcp_option IsTcpOption) as_tcp (FitArea-tcp (options ++ option ∷ []) (fits.0 h)),
      λ h.
          let both = tcp.1 h in
          fits.1 (ip.0 (subst IsIpOption like (IsIpOption-like alike both.0), omega (arith, size, sizes, both.1))),
    )

-- an option has a spelling exactly where the one of TCP that is spelled alike has
pub IsTcpOption-alike : (option : IpOptionView) → HasOctets option → IsTcpOption (tcp_option_of option) ↔ IsIpOption option
IsTcpOption-alike option octets = (λ h. subst IsIpOption (ip_option_like-of option octets) (IsIpOption-like (tcp_option_of option) h), IsTcpOption-of option)

-- few octets that spell options fit an area
pub FitArea-ip : (l : List ℕ) → IsOctets l → length l ≤ 40
    → (flat_map ip_option (ip_options_in l) ≡ l) ↔ (FitArea ip_option IsIpOption (ip_options_in l) × AreIpOptions l)
FitArea-ip l octets few = (
  λ e. let are = AreIpOptions-few l octets few e in (record { each = are.1; bound = omega (arith, ap length e, few) }, are),
  λ h. h.1.0,
)

pub FitArea-tcp_options : (l : List ℕ) → IsOctets l → length l ≤ 40
    → (flat_map ip_option (ip_options_in l) ≡ l) ↔ (FitArea tcp_option IsTcpOption (tcp_options_in l) × AreTcpOptions l)
FitArea-tcp_options l octets few = (
  λ e. let both = (FitArea-ip l octets few).0 e in (FitArea-tcp (ip_options_in l) both.0, AreTcpOptions-ip l both.1),
  λ h. sym (flat_map-found (ip_options_in l) (each_found 0 l octets)) ∙ h.1.0,
)

-- octets that fill an area with options, and nothing else
pub fill_ip : (l : List ℕ) → IsOctets l
    → ((length l ≤ MAX_AREA) × (flat_map ip_option (ip_options_in l) ≡ l)) ↔ (FitArea ip_option IsIpOption (ip_options_in l) × AreIpOptions l)
fill_ip l octets = (
  λ h. (FitArea-ip l octets h.0).0 h.1,
  λ h. let bound = h.0.bound in (omega (arith, ap length h.1.0, bound), h.1.0),
)

pub fill_tcp : (l : List ℕ) → IsOctets l
    → ((length l ≤ MAX_AREA) × (flat_map ip_option (ip_options_in l) ≡ l)) ↔ (FitArea tcp_option IsTcpOption (tcp_options_in l) × AreTcpOptions l)
fill_tcp l octets = (
  λ h. (FitArea-tcp_options l octets h.0).0 h.1,
  λ h.
      let bound = h.0.bound in
      let few : length l ≤ MAX_AREA = omega (arith, ap length h.1.0, bound) in
      (few, (FitArea-tcp_options l octets few).1 h),
)

-- octets that spell the same options of IPv4 are those that spell the same options of TCP
found_again : (options : List IpOptionView) → AllByRecursion IsFound options → ip_options_in (flat_map ip_option options) ≡ options
found_again [] h = refl
found_again (IpNop ∷ options) h = ap (λ os. IpNop ∷ os) (found_again options h.1)
found_again (IpOther kind octets ∷ options) h =
    ip_options_in-other kind octets (flat_map ip_option options) h.0.0 ∙ ap (λ os. IpOther kind octets ∷ os) (found_again options h.1)

pub same_tcp_options : (a b : List ℕ) → IsOctets a → IsOctets b → (ip_options_in a ≡ ip_options_in b) ↔ (tcp_options_in a ≡ tcp_options_in b)
same_tcp_options a b a_octets b_octets =
    let a_found = each_found 0 a a_octets in
    let b_found = each_found 0 b b_octets in (
      ap (map tcp_option_of),
      λ e.
          sym (found_again (ip_options_in a) a_found)
          ∙ ap ip_options_in (sym (flat_map-found (ip_options_in a) a_found) ∙ ap (flat_map tcp_option) e ∙ flat_map-found (ip_options_in b) b_found)
          ∙ found_again (ip_options_in b) b_found,
    )

-- a block behind others
pub sack_blocks_in-last : (l : List ℕ) (block : SackBlock) → AreSpelledBlocks l → IsSackBlock block → sack_blocks_in (l ++ sack_block block) ≡ sack_blocks_in l ++ block ∷ []
sack_blocks_in-last l block are is =
    let blocks = sack_blocks_in l in
    let spelled = ap (λ k. k ++ sack_block block) (sym are.0) ∙ sym (spelling-last sack_block blocks block) in
    ap sack_blocks_in spelled ∙ sack_blocks_in-spelled (blocks ++ block ∷ []) (AllByRecursion-append IsSackBlock blocks (block ∷ []) are.1 (is, tt))

pub AreSpelledBlocks-last : (l : List ℕ) (block : SackBlock) → AreSpelledBlocks l → IsSackBlock block → AreSpelledBlocks (l ++ sack_block block)
AreSpelledBlocks-last l block are is =
    let last = sack_blocks_in-last l block are is in (
      ap (flat_map sack_block) last ∙ spelling-last sack_block (sack_blocks_in l) block ∙ ap (λ k. k ++ sack_block block) are.0,
      subst (AllByRecursion IsSackBlock) (sym last) (AllByRecursion-append IsSackBlock (sack_blocks_in l) (block ∷ []) are.1 (is, tt)),
    )
