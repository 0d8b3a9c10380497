-- `table::read_table` meets its contract: header, records and admission, in the rules' order. Assumes nothing.
use Rattle.std.proofs.Common.{sym, ap, ◌∙◌}
use Rattle.std.proofs.lemmas.Result.{err_from_is_err_and}
use Rattle.base.specs.Refusals.{taken, fault_in, as_read, taken_as}
use Rattle.rules.specs.BoothTable.{read_records}
use Rattle.table.proofs.Reading.{filled_taken, filled_refused, header_refused, records_refused, found_held, table_held, admission_refused, admitted}
use Rattle.table.proofs.read_table.Goals as goal

pub returns-in_err-check_header-clause-read : goal.returns-in_err-check_header-clause-read
unfolding as_read taken_as fault_in
returns-in_err-check_header-clause-read c =
    let p = err_from_is_err_and c.from_residual.result c.from_residual.ensures.1 in
    rw (p.1, p.2, header_refused c.args.bytes.now _ (sym c.in_err-check_header.ensures))

pub returns-in_err-read_records-clause-read : goal.returns-in_err-read_records-clause-read
unfolding as_read taken_as fault_in
returns-in_err-read_records-clause-read c =
    let bs = c.args.bytes.now in
    let p = err_from_is_err_and c.from_residual-in_err-read_records.result c.from_residual-in_err-read_records.ensures.1 in
    let e = c.in_err-read_records.field-0.0 in
    rw (p.1, p.2, records_refused bs _ (sym c.in_ok-check_header.ensures) (filled_refused (read_records 8 bs 3) c.read_records.new.records e c.in_err-read_records.ensures.read))

pub returns-in_err-check_admission-clause-read : goal.returns-in_err-check_admission-clause-read
unfolding as_read taken_as fault_in
returns-in_err-check_admission-clause-read c =
    let bs = c.args.bytes.now in
    let p = err_from_is_err_and c.from_residual-in_err-check_admission.result c.from_residual-in_err-check_admission.ensures.1 in
    let h = c.read_records.new.records in
    let k = filled_taken (read_records 8 bs 3) h c.in_ok-read_records.ensures.read in
    rw (p.1, p.2, admission_refused bs k.0 (sym c.in_ok-check_header.ensures) k.1.0 _ (sym (found_held k.0 h k.1.1) ∙ sym c.in_err-check_admission.ensures))

pub returns-clause-read : goal.returns-clause-read
unfolding as_read taken_as fault_in
returns-clause-read c =
    let bs = c.args.bytes.now in
    let h = c.read_records.new.records in
    let k = filled_taken (read_records 8 bs 3) h c.in_ok-read_records.ensures.read in
    rw (admitted bs k.0 (sym c.in_ok-check_header.ensures) k.1.0 (sym (found_held k.0 h k.1.1) ∙ sym c.in_ok-check_admission.ensures)) (ap taken (table_held k.0 h k.1.1))
