-- `panel::worked_in` meets its contract. The loop's invariant: the blocks passed are counted, at most once in each lane. Assumes nothing.
use Rattle.std.proofs.Common.{◌≡◌, ◌<◌, ◌*◌, ◌/◌, length, drop, ap, ◌∙◌, arith}
use Rattle.panel.proofs.Lanes.{none_yet, next_block, part_counted, block_is}
use Rattle.panel.proofs.worked_in.Goals as goal

pub loop-block-init : goal.loop-block-init
loop-block-init c = none_yet c.args.booth c.args.part.now

pub loop-block-preserved : goal.loop-block-preserved
loop-block-preserved c =
    let q = c.count_block.ensures in
    let inside : c.loop-block.block-index < length c.args.part.now / 128 = omega (arith, c.as_chunks.ensures.front_len) in
    next_block _ _ c.loop-block.invariant _ (block_is _ c.args.part.now c.as_chunks.ensures.front c.loop-block.block-index inside) c.count_block.new.lanes q.each q.sum

pub returns : goal.returns
returns c =
    let part = c.args.part.now in
    let passed : length part / 128 * 128 ≡ c.loop-block.block-index * 128 = omega (arith, c.as_chunks.ensures.front_len) in
    let rest = c.as_chunks.ensures.back ∙ ap (λ at. drop at part) passed in
    c.add_up.ensures ∙ part_counted _ _ c.loop-block.invariant _ rest c.count_block-2.new.lanes c.count_block-2.ensures.sum
