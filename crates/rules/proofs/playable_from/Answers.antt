-- `rules::playable_from` meets its contract: its value fits, and so does each part of it. Assumes nothing.
use borrow.Author.Rules.{rules}
use Rattle.rules.specs.Due.{playable_from}
use Rattle.rules.proofs.playable_from.Goals as goal

pub overflow_mul-result : goal.overflow_mul-result
unfolding playable_from
overflow_mul-result c = search rules

pub overflow_add-result : goal.overflow_add-result
unfolding playable_from
overflow_add-result c = search rules

pub returns : goal.returns
unfolding playable_from
returns c = search rules
