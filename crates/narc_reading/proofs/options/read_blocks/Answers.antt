use Rattle.std.proofs.Common.{◌≡◌, ◌≤◌, ◌++◌, length, map, sym, ap, ◌∙◌, subst, arith}
use Rattle.narc_packet.specs.Options.{AreSackBlocks, sack_blocks_in}
use Rattle.narc_packet.specs.TextWords.{block_word, blocks_word}
use Rattle.narc_reading.proofs.BlockLoops.{have-room, too-many, no-block, blocks-some, blocks-found}
use Rattle.narc_reading.proofs.Refusals.{IsReadBy-refused}
use Rattle.narc_reading.proofs.options.read_blocks.Goals as goal

pub returns-then-count-eq-MAX_BLOCKS : goal.returns-then-count-eq-MAX_BLOCKS
returns-then-count-eq-MAX_BLOCKS c =
    let i = c.loop-next.invariant in
    let blocks = c.loop-next.blocks in
    too-many c.args.word.now c.in-Ok.next.now c.next.new.self blocks (i.parts ∙ ap (λ l. map block_word blocks ++ l) c.in-Ok.ensures.ok) (sym i.count ∙ c.if-count-eq-MAX_BLOCKS.true)

pub returns-in_err-read_block : goal.returns-in_err-read_block
returns-in_err-read_block c =
    let i = c.loop-next.invariant in
    let blocks = c.loop-next.blocks in
    let word = c.args.word.now in
    IsReadBy-refused (λ blocks. sack_blocks_in blocks.spelled.now) blocks_word AreSackBlocks _ _ c.from_residual.ensures.0
    (no-block word c.in-Ok.next.now c.next.new.self blocks (i.parts ∙ ap (λ l. map block_word blocks ++ l) c.in-Ok.ensures.ok) i.each c.in_err-read_block.ensures)

pub slice_bounds-front-end : goal.slice_bounds-front-end
slice_bounds-front-end c =
    let i = c.loop-next.invariant in
    let few : length c.loop-next.blocks ≤ 4 = omega (arith, i.count, i.few) in
    sym (have-room c.as_blocks.result.spelled.now c.args.room.now c.loop-next.blocks c.known_octets.ensures c.as_blocks.ensures few c.requires)

pub copy_from_slice-requires : goal.copy_from_slice-requires
copy_from_slice-requires c =
    let i = c.loop-next.invariant in
    let few : length c.loop-next.blocks ≤ 4 = omega (arith, i.count, i.few) in
    have-room c.as_blocks.result.spelled.now c.args.room.now c.loop-next.blocks c.known_octets.ensures c.as_blocks.ensures few c.requires

pub returns : goal.returns
returns c =
    let i = c.loop-next.invariant in
    let blocks = c.loop-next.blocks in
    let word = c.args.word.now in
    let same : sack_blocks_in c.copy_from_slice.new.self ≡ blocks = ap sack_blocks_in c.copy_from_slice.ensures.after ∙ c.as_blocks.ensures in
    let some = blocks-some word blocks c.loop-next.words i.parts c.in_default.ensures.err in
    let few : length blocks ≤ 4 = omega (arith, i.count, i.few) in
    let are : AreSackBlocks blocks = (some, few, i.each) in
    (subst AreSackBlocks (sym same) are, blocks-found word blocks c.loop-next.words i.parts c.in_default.ensures.err ∙ ap blocks_word (sym same))
