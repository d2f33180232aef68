-- How long the words of a text are.
use Rattle.std.proofs.Common.{◌≡◌, ℕ, ◌+◌, ◌*◌, ◌<◌, ◌≤◌, ◌^◌, suc, List, [], ◌∷◌, ◌++◌, codes, decimal, length, map, refl, ap, ◌∙◌, arith, length-append}
use Rattle.std.specs.Prelude.{flat_map}
use Rattle.std.specs.List.{AllByRecursion, join_with_byte}
use Rattle.std.proofs.Math.Nat.{mul-add, mul-suc}
use Rattle.std.proofs.lemmas.Fmt.{length-decimal-le, decimal_nonempty}
use Rattle.hex.specs.Hex.{lower_digits}
use Rattle.hex.proofs.HexLemmas.{length-encode_with}
use Rattle.narc_packet.specs.declared.blocks.SackBlock.{SackBlock}
use Rattle.narc_packet.specs.Options.{IpOptionView, IpNop, IpOther, TcpOptionView, TcpNop, TcpMss, TcpScale, TcpSackOk, TcpSack, TcpTimes, TcpOther, IsSackBlock, sack_block, ip_option, tcp_option, IsIpOption, IsTcpOption}
use Rattle.narc_packet.specs.Ranges.{IsMac, IsIp}
use Rattle.narc_packet.specs.TextWords.{hex_word, mac_word, ip_word, list_word, block_word, blocks_word, ip_option_word, tcp_option_word}

-- ---- words

pub hex-least : (l : List ℕ) → length l ≤ length (hex_word l)
hex-least [] = omega arith
hex-least (o ∷ l) = omega (arith, length-encode_with lower_digits (o ∷ l))

pub hex-some : (l : List ℕ) → 0 < length (hex_word l)
hex-some [] = omega arith
hex-some (o ∷ l) = omega (arith, length-encode_with lower_digits (o ∷ l))

pub hex-most : (l : List ℕ) → length (hex_word l) ≤ 2 * length l + 1
hex-most [] = omega arith
hex-most (o ∷ l) = omega (arith, length-encode_with lower_digits (o ∷ l))

-- data that has room for one octet
pub hex-within : (l : List ℕ) (n : ℕ) → length l ≤ n → 0 < n → length (hex_word l) ≤ 2 * n
hex-within [] n few some = omega arith
hex-within (o ∷ l) n few some = omega (arith, length-encode_with lower_digits (o ∷ l))

pub mac-size : (l : List ℕ) → IsMac l → length (mac_word l) ≡ 12
mac-size l mac = let size = mac.0 in omega (arith, length-encode_with lower_digits l)

-- a number has at least one digit
pub digits-some : (n : ℕ) → n < 2 ^ 32 → 0 < length (decimal n)
digits-some n few = decimal_nonempty n (omega arith)

pub digits-ten : (n : ℕ) → n < 2 ^ 32 → length (decimal n) ≤ 10
digits-ten n few = length-decimal-le 10 n (omega arith) (omega arith) (omega arith)

pub digits-five : (n : ℕ) → n < 2 ^ 16 → length (decimal n) ≤ 5
digits-five n few = length-decimal-le 5 n (omega arith) (omega arith) (omega arith)

pub digits-three : (n : ℕ) → n < 256 → length (decimal n) ≤ 3
digits-three n few = length-decimal-le 3 n (omega arith) (omega arith) (omega arith)

-- an address
pub record IsIpSize (l : List ℕ) : Type 0 where
  pub least : 7 ≤ length (ip_word l)
  pub most : length (ip_word l) ≤ 15

pub ip-size : (l : List ℕ) → IsIp l → IsIpSize l
ip-size [] ip = let size = ip.0 in absurd (omega arith)
ip-size (a ∷ []) ip = let size = ip.0 in absurd (omega arith)
ip-size (a ∷ b ∷ []) ip = let size = ip.0 in absurd (omega arith)
ip-size (a ∷ b ∷ c ∷ []) ip = let size = ip.0 in absurd (omega arith)
ip-size (a ∷ b ∷ c ∷ d ∷ []) ip =
    let each = ip.1 in
    let is : length (ip_word (a ∷ b ∷ c ∷ d ∷ [])) ≡ length (decimal a) + suc (length (decimal b) + suc (length (decimal c) + suc (length (decimal d)))) = simp length-append (omega arith) in
    record {
      least = omega (arith, is, digits-some a (omega (arith, each.0)), digits-some b (omega (arith, each.1.0)), digits-some c (omega (arith, each.1.1.0)), digits-some d (omega (arith, each.1.1.1.0)));
      most = omega (arith, is, digits-three a each.0, digits-three b each.1.0, digits-three c each.1.1.0, digits-three d each.1.1.1.0);
    }
ip-size (a ∷ b ∷ c ∷ d ∷ e ∷ l) ip = let size = ip.0 in absurd (omega arith)

-- ---- options

-- the words of options that have so many octets for each octet of their text
module _ {O : Type 0} (spelling word : O → List ℕ) (IsOption : O → Type 0) (k : ℕ) (each : (o : O) → IsOption o → length (spelling o) ≤ k * length (word o)) where
  joined-least : (options : List O) → AllByRecursion IsOption options → length (flat_map spelling options) ≤ k * length (join_with_byte 44 (map word options))
  joined-least [] are = omega arith
  joined-least (o ∷ []) are = omega (arith, length-append (spelling o) [], each o are.0)
  joined-least (o ∷ next ∷ options) are =
      let later = join_with_byte 44 (map word (next ∷ options)) in
      omega (
        arith,
        length-append (spelling o) (flat_map spelling (next ∷ options)),
        each o are.0,
        joined-least (next ∷ options) are.1,
        ap (λ n. k * n) (length-append (word o) (44 ∷ later)) ∙ mul-add k (length (word o)) (suc (length later)),
        mul-suc k (length later),
      )

  pub options-least : (options : List O) → AllByRecursion IsOption options → length (flat_map spelling options) ≤ k * length (list_word (map word options))
  options-least [] are = omega arith
  options-least (o ∷ options) are = joined-least (o ∷ options) are

-- the words of options of which each, with an octet behind it, has at most five octets for each octet of the option
module _ {O : Type 0} (spelling word : O → List ℕ) (IsOption : O → Type 0) (each : (o : O) → IsOption o → suc (length (word o)) ≤ 5 * length (spelling o)) where
  joined-most : (o : O) (options : List O) → AllByRecursion IsOption (o ∷ options) → length (join_with_byte 44 (map word (o ∷ options))) ≤ 5 * length (flat_map spelling (o ∷ options))
  joined-most o [] are = omega (arith, length-append (spelling o) [], each o are.0)
  joined-most o (next ∷ options) are =
      let later = join_with_byte 44 (map word (next ∷ options)) in
      omega (
        arith,
        length-append (spelling o) (flat_map spelling (next ∷ options)),
        length-append (word o) (44 ∷ later),
        each o are.0,
        joined-most next options are.1,
      )

  pub options-most : (options : List O) → AllByRecursion IsOption options → length (list_word (map word options)) ≤ 5 * length (flat_map spelling options) + 1
  options-most [] are = omega arith
  options-most (o ∷ options) are = let most = joined-most o options are in omega arith

pub options-some : {O : Type 0} (word : O → List ℕ) → ((o : O) → 0 < length (word o)) → (options : List O) → 0 < length (list_word (map word options))
options-some word some [] = omega arith
options-some word some (o ∷ []) = some o
options-some word some (o ∷ next ∷ options) = omega (arith, length-append (word o) (44 ∷ join_with_byte 44 (map word (next ∷ options))))

-- blocks: eight octets each, and at least four of the text, with an octet behind it
pub record IsBlocksSize (blocks : List SackBlock) : Type 0 where
  pub octets : length (flat_map sack_block blocks) ≡ 8 * length blocks
  pub least : 4 * length blocks ≤ suc (length (blocks_word blocks))
  pub most : length (blocks_word blocks) ≤ 22 * length blocks

-- two parts, and what stands between them
three-size : (a b c : List ℕ) → length (a ++ b ++ c) ≡ length a + length b + length c
three-size a b c = simp length-append refl

block-size : (b : SackBlock) → length (block_word b) ≡ length (decimal b.left) + 1 + length (decimal b.right)
block-size b = three-size (decimal b.left) (codes "-") (decimal b.right)

pub blocks-size : (blocks : List SackBlock) → AllByRecursion IsSackBlock blocks → IsBlocksSize blocks
blocks-size [] are = record { octets = refl; least = omega arith; most = omega arith }
blocks-size (b ∷ []) are = record {
  octets = omega arith;
  least = omega (arith, block-size b, digits-some b.left are.0.0, digits-some b.right are.0.1);
  most = omega (arith, block-size b, digits-ten b.left are.0.0, digits-ten b.right are.0.1);
}
blocks-size (b ∷ next ∷ blocks) are =
    let later = blocks-size (next ∷ blocks) are.1 in
    let joined = length-append (block_word b) (47 ∷ blocks_word (next ∷ blocks)) in
    record {
      octets = omega (arith, length-append (sack_block b) (flat_map sack_block (next ∷ blocks)), later.octets);
      least = omega (arith, joined, block-size b, digits-some b.left are.0.0, digits-some b.right are.0.1, later.least);
      most = omega (arith, joined, block-size b, digits-ten b.left are.0.0, digits-ten b.right are.0.1, later.most);
    }

-- an option of IPv4
pub ip_option-least : (o : IpOptionView) → IsIpOption o → length (ip_option o) ≤ 1 * length (ip_option_word o)
ip_option-least IpNop is = omega arith
ip_option-least (IpOther kind octets) is =
    omega (arith, three-size (decimal kind) (codes ":") (hex_word octets), hex-least octets)

pub ip_option-most : (o : IpOptionView) → IsIpOption o → suc (length (ip_option_word o)) ≤ 5 * length (ip_option o)
ip_option-most IpNop is = omega arith
ip_option-most (IpOther kind octets) is =
    omega (arith, three-size (decimal kind) (codes ":") (hex_word octets), hex-most octets, digits-three kind is.kind_range)

pub ip_option-some : (o : IpOptionView) → 0 < length (ip_option_word o)
ip_option-some IpNop = omega arith
ip_option-some (IpOther kind octets) = omega arith

-- an option of TCP
pub tcp_option-least : (o : TcpOptionView) → IsTcpOption o → length (tcp_option o) ≤ 2 * length (tcp_option_word o)
tcp_option-least TcpNop is = omega arith
tcp_option-least (TcpMss size) is = omega arith
tcp_option-least (TcpScale shift) is = omega arith
tcp_option-least TcpSackOk is = omega arith
tcp_option-least (TcpSack blocks) is = let size = blocks-size blocks is.2 in omega (arith, is.0, size.octets, size.least)
tcp_option-least (TcpTimes value echo) is = omega (arith, three-size (decimal value) (codes ":") (decimal echo), digits-some value is.0, digits-some echo is.1)
tcp_option-least (TcpOther kind octets) is = omega (arith, three-size (decimal kind) (codes ":") (hex_word octets), hex-least octets)

pub tcp_option-most : (o : TcpOptionView) → IsTcpOption o → suc (length (tcp_option_word o)) ≤ 5 * length (tcp_option o)
tcp_option-most TcpNop is = omega arith
tcp_option-most (TcpMss size) is = omega (arith, digits-five size is)
tcp_option-most (TcpScale shift) is = omega (arith, digits-three shift is)
tcp_option-most TcpSackOk is = omega arith
tcp_option-most (TcpSack blocks) is = let size = blocks-size blocks is.2 in omega (arith, size.octets, size.most)
tcp_option-most (TcpTimes value echo) is = omega (arith, three-size (decimal value) (codes ":") (decimal echo), digits-ten value is.0, digits-ten echo is.1)
tcp_option-most (TcpOther kind octets) is =
    omega (arith, three-size (decimal kind) (codes ":") (hex_word octets), hex-most octets, digits-three kind is.0.kind_range)

pub tcp_option-some : (o : TcpOptionView) → 0 < length (tcp_option_word o)
tcp_option-some TcpNop = omega arith
tcp_option-some (TcpMss size) = omega arith
tcp_option-some (TcpScale shift) = omega arith
tcp_option-some TcpSackOk = omega arith
tcp_option-some (TcpSack blocks) = omega arith
tcp_option-some (TcpTimes value echo) = omega arith
tcp_option-some (TcpOther kind octets) = omega arith
