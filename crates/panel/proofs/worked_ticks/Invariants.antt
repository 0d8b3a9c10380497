-- `panel::worked_ticks` meets its contract. The loop's invariant: what is counted, with what the parts left hold, is how often the booth stands in
-- the first `t` bytes. Assumes nothing.
use Rattle.std.proofs.Common.{◌≡◌, ◌+◌, take}
use Rattle.std.specs.Slice.Iter.{chunks_rest, chunks_size}
use Rattle.rules.specs.Session.{count}
use Rattle.panel.proofs.worked_ticks.Given as goal

abbrev pub invariant-loop-part : goal.invariant-loop-part
invariant-loop-part l = record {
  can_next : goal.iterator-loop-part.can_next l.part-iterator;
  finite : goal.iterator-loop-part.is_finite l.part-iterator;
  size : chunks_size l.part-iterator ≡ 32512;
  together : l.worked + count l.number (chunks_rest l.part-iterator) ≡ count l.number (take l.t l.wall);
}
