-- `arrivals::read_log` meets its contract: header, H and entries in the order of the rules. Assumes nothing.
use mathlib.Core.Option.{none}
use Rattle.std.proofs.Common.{◌≡◌, sym, ap, ◌∙◌, arith, length, ◌-◌, ◌/◌}
use Rattle.std.proofs.lemmas.Result.{err_from_is_err_and}
use Rattle.base.specs.Refusals.{first_fault, taken, fault_in, as_read, taken_as}
use Rattle.rules.specs.ArrivalLog.{log_head_checks, horizon_checks, log_h, with_horizon, read_entries}
use Rattle.rules.specs.Values.{lines_held}
use Rattle.rules.proofs.WholeFile.{head_whole}
use Rattle.arrivals.specs.LogAnswered.{checked}
use Rattle.arrivals.proofs.EntryChecks.{lines_fit}
use Rattle.arrivals.proofs.LogReading.{Room, horizon_room, head_refused, horizon_refused, entries_read, entries_refused, entries_taken, taken_answer}
use Rattle.arrivals.proofs.read_log.Goals as goal
use Rattle.arrivals.proofs.read_log.Goals.{In_ok-check_head, In_ok-check_horizon}

pub returns-in_err-check_head : goal.returns-in_err-check_head
unfolding as_read taken_as fault_in
returns-in_err-check_head c =
    let p = err_from_is_err_and c.from_residual.result c.from_residual.ensures.1 in
    rw (p.1, p.2, head_refused (lines_held c.args.table) c.args.bytes.now _ (sym c.in_err-check_head.ensures))

-- what is known past the header's checks, and past those of N and H
head : (c : In_ok-check_head) → first_fault (log_head_checks c.args.bytes.now) ≡ none
unfolding fault_in
head c = sym c.in_ok-check_head.ensures

horizon : (c : In_ok-check_horizon) → first_fault (horizon_checks c.args.bytes.now) ≡ none
unfolding fault_in
horizon c = sym c.in_ok-check_horizon.ensures

room : (c : In_ok-check_horizon) → Room c.args.bytes.now
unfolding fault_in
room c = horizon_room _ (head_whole 4 _ (sym c.in_ok-check_head.ensures)) (horizon c)

pub check_horizon-requires : goal.check_horizon-requires
check_horizon-requires c = head_whole 4 _ (head (goal.at.check_horizon-requires c).In_ok-check_head)

pub returns-in_err-check_horizon : goal.returns-in_err-check_horizon
unfolding as_read taken_as fault_in
returns-in_err-check_horizon c =
    let p = err_from_is_err_and c.from_residual-in_err-check_horizon.result c.from_residual-in_err-check_horizon.ensures.1 in
    rw (p.1, p.2, horizon_refused (lines_held c.args.table) c.args.bytes.now _ (head (goal.at.returns-in_err-check_horizon c).In_ok-check_head) (sym c.in_err-check_horizon.ensures))

pub number-horizon-requires : goal.number-horizon-requires
number-horizon-requires c = (omega arith, (room (goal.at.number-horizon-requires c).In_ok-check_horizon).least)

pub check_entries-requires : goal.check_entries-requires
check_entries-requires c =
    let r = room (goal.at.check_entries-requires c).In_ok-check_horizon in
    (r.least, r.most, lines_fit c.args.table c.requires)

pub returns-in_err-check_entries : goal.returns-in_err-check_entries
unfolding log_h with_horizon lines_held as_read taken_as
returns-in_err-check_entries c =
    let ls = lines_held c.args.table in
    let bs = c.args.bytes.now in
    let p = err_from_is_err_and c.from_residual-in_err-check_entries.result c.from_residual-in_err-check_entries.ensures.1 in
    let found = ap (λ h. checked (read_entries 4096 ls h 0 bs 9)) (sym c.number-horizon.ensures.0) ∙ sym c.in_err-check_entries.ensures in
    let at = goal.at.returns-in_err-check_entries c in
    rw (p.1, p.2, entries_read ls bs (head at.In_ok-check_head) (horizon at.In_ok-check_horizon) _ (entries_refused _ _ found))

pub overflow_sub-entries : goal.overflow_sub-entries
overflow_sub-entries c = (room (goal.at.overflow_sub-entries c).In_ok-check_horizon).least

pub returns : goal.returns
unfolding log_h lines_held as_read
returns c =
    let ls = lines_held c.args.table in
    let bs = c.args.bytes.now in
    let found = ap (λ h. checked (read_entries 4096 ls h 0 bs 9)) (sym c.number-horizon.ensures.0) ∙ sym c.in_ok-check_entries.ensures in
    let (es, read) = entries_taken _ found in
    let at = goal.at.returns c in
    ap (λ h. taken (record { horizon = h; entries = (length bs - 9) / 9 })) c.number-horizon.ensures.0
    ∙ taken_answer ls bs (head at.In_ok-check_head) (horizon at.In_ok-check_horizon) es read
