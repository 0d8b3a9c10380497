-- `arrivals::check_entries` meets its contract: the reader stands where entries are still to be checked. Assumes nothing.
use Rattle.std.proofs.Common.{sym, arith}
use Rattle.std.proofs.lemmas.Result.{err_from_is_err_and}
use Rattle.base.specs.Refusals.{fault_in, as_read}
use Rattle.arrivals.proofs.LogReading.{entry_whole, stands_on, stands_refused, stands_done}
use Rattle.arrivals.proofs.check_entries.Goals as goal

pub returns-in_err-entry : goal.returns-in_err-entry
unfolding as_read fault_in
returns-in_err-entry c =
    let p = err_from_is_err_and c.from_residual.result c.from_residual.ensures.1 in
    rw (p.1, p.2) (sym (stands_refused _ _ _ c.loop-at.invariant c.requires.1 (omega arith) _ (sym c.in_err-entry.ensures.fault)))

-- an entry that is passed has no fault, so the reader stands behind it
pub loop-at-preserved : goal.loop-at-preserved
unfolding fault_in
loop-at-preserved c = rw c.in_ok-entry.ensures.entry (stands_on _ _ _ c.loop-at.invariant c.requires.1 (sym c.in_ok-entry.ensures.fault))

-- what is left is too short for an entry, so it has a fault
pub returns-in_err-read_entry : goal.returns-in_err-read_entry
unfolding as_read fault_in
returns-in_err-read_entry c =
    let p = err_from_is_err_and c.from_residual-in_err-read_entry.result c.from_residual-in_err-read_entry.ensures.1 in
    rw (p.1, p.2) (sym (stands_refused _ _ _ c.loop-at.invariant c.requires.1 (omega arith) _ (sym c.in_err-read_entry.ensures.fault)))

pub returns-in_ok-read_entry : goal.returns-in_ok-read_entry
unfolding fault_in
returns-in_ok-read_entry c = absurd (omega (arith, entry_whole _ _ _ _ _ (sym c.in_ok-read_entry.ensures.fault)))

pub returns-else-at-bytes : goal.returns-else-at-bytes
unfolding as_read
returns-else-at-bytes c = sym (stands_done _ _ _ c.loop-at.invariant (omega arith))
