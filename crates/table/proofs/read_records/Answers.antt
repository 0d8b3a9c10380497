-- `table::read_records` meets its contract: the reader stands where the rules still have to read. Assumes nothing.
use Rattle.std.proofs.Common.{◌≡◌, sym, subst, ◌+◌, arith}
use Rattle.std.proofs.lemmas.Result.{err_from_is_err_and}
use lib.ListN.{get_or, set}
use Rattle.base.specs.Refusals.{refusal, said, number_of, fault_in, taken_as}
use Rattle.rules.specs.BoothTable.{record_l, record_end}
use Rattle.table.specs.TableAnswered.{filled}
use Rattle.table.proofs.Reading.{Standing, records_full, records_fault, stands_on, stands_first, stands_refused, stands_done}
use Rattle.table.proofs.read_records.Goals as goal

pub loop-at-init : goal.loop-at-init
loop-at-init c = stands_first c.args.bytes.now c.args.records.now c.requires

pub returns-then-booths-eq-BOOTHS_ALLOWED-clause-read : goal.returns-then-booths-eq-BOOTHS_ALLOWED-clause-read
unfolding filled taken_as said number_of
returns-then-booths-eq-BOOTHS_ALLOWED-clause-read c =
    let bs = c.args.bytes.now in
    let now = c.loop-at in
    let whole = stands_refused bs now.records.table.lines now.records.starts now.booths now.at now.invariant (refusal 4 now.at) (records_full bs now.booths now.at c.if-booths-eq-BOOTHS_ALLOWED.true c.loop-at-test.true) in
    simp (whole, c.at.ensures)

pub returns-in_err-record_at-clause-read : goal.returns-in_err-record_at-clause-read
unfolding filled taken_as fault_in
returns-in_err-record_at-clause-read c =
    let bs = c.args.bytes.now in
    let now = c.loop-at in
    let p = err_from_is_err_and c.from_residual.result c.from_residual.ensures.1 in
    let whole = stands_refused bs now.records.table.lines now.records.starts now.booths now.at now.invariant _ (records_fault bs now.booths now.at _ (omega arith) (omega arith) (sym c.in_err-record_at.ensures.fault)) in
    rw (p.1, p.2, whole)

pub loop-at-preserved : goal.loop-at-preserved
unfolding record_end record_l fault_in
loop-at-preserved c =
    let bs = c.args.bytes.now in
    let now = c.loop-at in
    let l = c.record_at.new.line in
    let end : now.at + 1 + get_or bs now.at 0 ≡ now.at + (1 + c.from.result) = omega (arith, c.from.ensures) in
    subst (Standing bs (set now.records.table.lines now.booths l) (set now.records.starts now.booths now.at) (now.booths + 1)) end
    (stands_on bs now.records.table.lines now.records.starts now.booths now.at l now.invariant (omega arith) (omega arith) (sym c.in_ok-record_at.ensures.fault) c.in_ok-record_at.ensures.line)

pub returns-clause-read : goal.returns-clause-read
unfolding filled taken_as
returns-clause-read c =
    let now = c.loop-at in
    let done = stands_done c.args.bytes.now now.records.table.lines now.records.starts now.booths now.at now.invariant (omega arith) in
    rw (done.0, done.1)
