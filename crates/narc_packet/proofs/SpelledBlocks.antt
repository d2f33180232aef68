-- The blocks of a selective acknowledgment, and the octets that spell them.
use Rattle.std.proofs.Common.{◌≡◌, ℕ, suc, ◌+◌, ◌-◌, ◌*◌, ◌%◌, ◌≤◌, List, [], ◌∷◌, ◌++◌, length, take, drop, get_or, refl, sym, ap, ◌∙◌, arith}
use Rattle.std.specs.Prelude.{flat_map}
use Rattle.std.specs.List.{AllByRecursion}
use Rattle.std.proofs.Math.Seq.{take-length}
use Rattle.narc_bits.specs.Octets.{IsOctets, big_endian, number_of}
use Rattle.narc_bits.proofs.Octets.{IsOctets-append, IsOctets-front, IsOctets-big_endian}
use Rattle.narc_bits.proofs.NetworkOrder.{number_of-big_endian, big_endian-number_of}
use Rattle.narc_packet.specs.declared.blocks.SackBlock.{SackBlock}
use Rattle.narc_packet.specs.Options.{IsSackBlock, sack_block, sack_blocks_in}

-- the octets of a block
pub block-octets : (a b c d e f g h : ℕ) (l : List ℕ) → IsOctets (a ∷ b ∷ c ∷ d ∷ e ∷ f ∷ g ∷ h ∷ l)
    → sack_block (record { left = number_of (a ∷ b ∷ c ∷ d ∷ []); right = number_of (e ∷ f ∷ g ∷ h ∷ []) }) ≡ a ∷ b ∷ c ∷ d ∷ e ∷ f ∷ g ∷ h ∷ []
block-octets a b c d e f g h l o =
    ap (λ k. k ++ big_endian 4 (number_of (e ∷ f ∷ g ∷ h ∷ []))) (big_endian-number_of (a ∷ b ∷ c ∷ d ∷ []) (IsOctets-front (a ∷ b ∷ c ∷ d ∷ []) (e ∷ f ∷ g ∷ h ∷ l) o))
    ∙ ap (λ k. a ∷ b ∷ c ∷ d ∷ k) (big_endian-number_of (e ∷ f ∷ g ∷ h ∷ []) (IsOctets-front (e ∷ f ∷ g ∷ h ∷ []) l o.1.1.1.1))

-- the whole blocks in octets, spelled again
pub blocks_again : (l : List ℕ) → IsOctets l → length l % 8 ≡ 0 → flat_map sack_block (sack_blocks_in l) ≡ l
blocks_again [] o whole = refl
blocks_again (a ∷ b ∷ c ∷ d ∷ e ∷ f ∷ g ∷ h ∷ l) o whole =
    ap (λ k. k ++ flat_map sack_block (sack_blocks_in l)) (block-octets a b c d e f g h l o)
    ∙ ap (λ k. a ∷ b ∷ c ∷ d ∷ e ∷ f ∷ g ∷ h ∷ k) (blocks_again l o.1.1.1.1.1.1.1.1 (omega (arith, whole)))
blocks_again l o whole = absurd (omega (arith, whole))

-- the octets of the whole blocks in front
pub blocks_whole : (l : List ℕ) → IsOctets l → take (length l - length l % 8) l ≡ flat_map sack_block (sack_blocks_in l)
blocks_whole (a ∷ b ∷ c ∷ d ∷ e ∷ f ∷ g ∷ h ∷ l) o =
    ap (λ n. take n (a ∷ b ∷ c ∷ d ∷ e ∷ f ∷ g ∷ h ∷ l)) {y = suc (suc (suc (suc (suc (suc (suc (suc (length l - length l % 8))))))))} (omega arith)
    ∙ ap (λ k. a ∷ b ∷ c ∷ d ∷ e ∷ f ∷ g ∷ h ∷ k) (blocks_whole l o.1.1.1.1.1.1.1.1)
    ∙ ap (λ k. k ++ flat_map sack_block (sack_blocks_in l)) (sym (block-octets a b c d e f g h l o))
blocks_whole l o = refl

-- blocks, read from the octets that spell them
pub sack_blocks_in-spelled : (blocks : List SackBlock) → AllByRecursion IsSackBlock blocks → sack_blocks_in (flat_map sack_block blocks) ≡ blocks
sack_blocks_in-spelled [] h = refl
sack_blocks_in-spelled (block ∷ blocks) h =
    ap (λ n. record { left = n; right = number_of (big_endian 4 block.right) } ∷ sack_blocks_in (flat_map sack_block blocks)) (number_of-big_endian 4 block.left h.0.0)
    ∙ ap (λ n. record { left = block.left; right = n } ∷ sack_blocks_in (flat_map sack_block blocks)) (number_of-big_endian 4 block.right h.0.1)
    ∙ ap (λ k. block ∷ k) (sack_blocks_in-spelled blocks h.1)

pub length-blocks : (blocks : List SackBlock) → length (flat_map sack_block blocks) ≡ 8 * length blocks
length-blocks [] = refl
length-blocks (block ∷ blocks) = omega (arith, length-blocks blocks)

pub IsOctets-blocks : (blocks : List SackBlock) → IsOctets (flat_map sack_block blocks)
IsOctets-blocks [] = tt
IsOctets-blocks (block ∷ blocks) =
    IsOctets-append (sack_block block) (flat_map sack_block blocks) (IsOctets-append (big_endian 4 block.left) (big_endian 4 block.right) (IsOctets-big_endian 4 block.left) (IsOctets-big_endian 4 block.right)) (IsOctets-blocks blocks)

pub each_block : (l : List ℕ) → IsOctets l → AllByRecursion IsSackBlock (sack_blocks_in l)
each_block (a ∷ b ∷ c ∷ d ∷ e ∷ f ∷ g ∷ h ∷ l) o =
    ((omega (arith, o.0, o.1.0, o.1.1.0, o.1.1.1.0), omega (arith, o.1.1.1.1.0, o.1.1.1.1.1.0, o.1.1.1.1.1.1.0, o.1.1.1.1.1.1.1.0)), each_block l o.1.1.1.1.1.1.1.1)
each_block l o = tt

-- the first of at least eight octets, as the code reads it
pub sack_blocks_in-first : (octets : List ℕ) (left right : ℕ) → 8 ≤ length octets
    → left ≡ get_or octets 0 0 * 16777216 + get_or octets 1 0 * 65536 + get_or octets 2 0 * 256 + get_or octets 3 0
    → right ≡ get_or octets 4 0 * 16777216 + get_or octets 5 0 * 65536 + get_or octets 6 0 * 256 + get_or octets 7 0
    → sack_blocks_in octets ≡ record { left = left; right = right } ∷ sack_blocks_in (take (length octets - 8) (drop 8 octets))
sack_blocks_in-first (a ∷ b ∷ c ∷ d ∷ e ∷ f ∷ g ∷ h ∷ l) left right size p q =
    ap (λ n. record { left = n; right = number_of (e ∷ f ∷ g ∷ h ∷ []) } ∷ sack_blocks_in l) {y = left} (omega (arith, p))
    ∙ ap (λ n. record { left = left; right = n } ∷ sack_blocks_in l) {y = right} (omega (arith, q))
    ∙ ap (λ k. record { left = left; right = right } ∷ sack_blocks_in k) (sym (ap (λ n. take n l) {y = length l} (omega arith) ∙ take-length l))
sack_blocks_in-first octets left right size p q = absurd (omega (arith, size))
