use Rattle.std.proofs.Common.{◌≡◌, [], ◌∷◌, ◌++◌, length, sym, ap, ◌∙◌, subst, arith, rules}
use Rattle.std.specs.Prelude.{OnOk}
use Rattle.narc_packet.specs.Options.{IsSackBlock, sack_block, sack_blocks_in, AreSpelledBlocks}
use Rattle.narc_packet.proofs.SpelledBlocks.{length-blocks}
use Rattle.narc_packet.proofs.SpelledOptions.{sack_blocks_in-last, AreSpelledBlocks-last}
use Rattle.narc_packet.proofs.blocks.SackBlockList.push.Goals as goal

pub unwrap-requires : goal.unwrap-requires
unwrap-requires c =
    let l = c.self.inside.spelled.items in
    let size = ap length (sym c.self.invariant.0) ∙ length-blocks (sack_blocks_in l) in
    let few : length (sack_blocks_in l) ≡ length c.args.self.now = ap length c.self.view_is in
    c.try_extend_from_slice.ensures.variant.1 (omega (arith, size, few, ap length c.to_be_bytes.ensures, c.requires))

is_block : (c : goal.After-unwrap) → IsSackBlock c.args.block
is_block c = (search rules, search rules)

joined : (c : goal.After-unwrap) → c.try_extend_from_slice.new.self.items ≡ c.self.inside.spelled.items ++ sack_block c.args.block
joined c =
    subst (λ r. OnOk r (c.try_extend_from_slice.new.self.items ≡ c.self.inside.spelled.items ++ c.to_be_bytes.result)) c.unwrap.ensures c.try_extend_from_slice.ensures.ok
    ∙ ap (λ k. c.self.inside.spelled.items ++ k) c.to_be_bytes.ensures

pub invariant_of-self : goal.invariant_of-self
invariant_of-self c = subst AreSpelledBlocks (sym (joined c)) (AreSpelledBlocks-last c.self.inside.spelled.items c.args.block c.self.invariant (is_block c))

pub returns : goal.returns
returns c =
    ap sack_blocks_in (joined c) ∙ sack_blocks_in-last c.self.inside.spelled.items c.args.block c.self.invariant (is_block c) ∙ ap (λ k. k ++ c.args.block ∷ []) c.self.view_is
