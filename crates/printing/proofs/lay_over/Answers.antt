-- `printing::lay_over` meets its contract: after the last byte all of them stand. Assumes nothing.
use Rattle.std.proofs.Common.{arith}
use Rattle.std.proofs.lemmas.List.{ext_get_or}
use Rattle.printing.proofs.lay_over.Goals as goal

pub returns : goal.returns
returns c = ext_get_or 0 c.loop-i.part c.args.bytes.now (omega arith) (λ k h. c.loop-i.invariant k (omega arith))
