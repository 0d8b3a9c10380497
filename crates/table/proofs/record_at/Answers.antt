-- `table::record_at` meets its contract: each return is the first check that fails. Assumes nothing.
use Rattle.std.proofs.Common.{◌≡◌, sym, ap, ◌∙◌, arith, List, ℕ, ◌+◌, ◌-◌, ◌/◌, length, get_or}
use Rattle.std.proofs.lemmas.Result.{err_from_is_err_and}
use borrow.Author.Tests.{lt-ltb, le-ltb}
use Rattle.base.specs.Refusals.{refuse_if, first_fault, fault_in, said, number_of}
use Rattle.rules.specs.BoothTable.{record_checks, record_l, record_end, line_at, jobs_at, line_checks}
use Rattle.rules.specs.declared.Line.{Line as HeldLine}
use Rattle.rules.specs.Values.{held_line, line_held}
use Rattle.rules.proofs.Held.{line_held_lem}
use Rattle.rules.proofs.Records.{length_jobs}
use Rattle.table.proofs.Lines.{allowed_within}
use Rattle.table.proofs.record_at.Goals as goal

-- the line as it is held has the checks of the line
the_line : (bs : List ℕ) (at : ℕ) (line : HeldLine) → line ≡ held_line (line_at bs at) → first_fault (line_checks (line_held line) at) ≡ first_fault (line_checks (line_at bs at) at)
the_line bs at line e = ap (λ l. first_fault (line_checks l at)) (ap line_held e ∙ line_held_lem (line_at bs at))

pub returns-then-not-length_allowed-clause-fault : goal.returns-then-not-length_allowed-clause-fault
unfolding record_checks record_l first_fault refuse_if fault_in said number_of
returns-then-not-length_allowed-clause-fault c = simp (c.at.ensures, ← c.from-l.ensures, ← c.length_allowed.ensures, c.if-not-length_allowed.true)

pub returns-then-bytes-at-clause-fault : goal.returns-then-bytes-at-clause-fault
unfolding record_checks record_l record_end first_fault refuse_if fault_in said number_of
returns-then-bytes-at-clause-fault c =
    let fine = sym c.length_allowed.ensures ∙ c.if-not-length_allowed.false in
    simp (c.at-then-bytes-at.ensures, ← c.from-l.ensures, fine, lt-ltb (length c.args.bytes.now) (c.args.at + 1 + c.from-l.result) c.if-bytes-at.true)

pub line_at-requires : goal.line_at-requires
line_at-requires c =
    let fine = sym c.length_allowed.ensures ∙ c.if-not-length_allowed.false in
    let L = allowed_within c.from-l.result fine in
    (c.requires, c.from-l.ensures, L.0, L.1, c.if-bytes-at.false)

pub check_line-requires : goal.check_line-requires
unfolding held_line line_at record_l
check_line-requires c =
    let L = get_or c.args.bytes.now c.args.at 0 in
    let n : length (jobs_at ((L - 4) / 2) c.args.bytes.now (c.args.at + 5)) ≡ (L - 4) / 2 = length_jobs ((L - 4) / 2) c.args.bytes.now (c.args.at + 5) in
    let t : c.line_at.result.tasks ≡ length (jobs_at ((L - 4) / 2) c.args.bytes.now (c.args.at + 5)) = ap (λ l. l.tasks) c.line_at.ensures in
    omega (arith, c.from-l.ensures, allowed_within c.from-l.result (sym c.length_allowed.ensures ∙ c.if-not-length_allowed.false))

pub returns-in_err-check_line-clause-fault : goal.returns-in_err-check_line-clause-fault
unfolding record_checks record_l record_end first_fault refuse_if fault_in
returns-in_err-check_line-clause-fault c =
    let p = err_from_is_err_and c.from_residual.result c.from_residual.ensures.1 in
    let fine = sym c.length_allowed.ensures ∙ c.if-not-length_allowed.false in
    rw (p.1, p.2) (simp (← c.from-l.ensures, fine, le-ltb (length c.args.bytes.now) (c.args.at + 1 + c.from-l.result) c.if-bytes-at.false) (c.in_err-check_line.ensures ∙ the_line c.args.bytes.now c.args.at c.line_at.result c.line_at.ensures))

pub returns-clause-fault : goal.returns-clause-fault
unfolding record_checks record_l record_end first_fault refuse_if fault_in
returns-clause-fault c =
    let fine = sym c.length_allowed.ensures ∙ c.if-not-length_allowed.false in
    simp (← c.from-l.ensures, fine, le-ltb (length c.args.bytes.now) (c.args.at + 1 + c.from-l.result) c.if-bytes-at.false)
    (c.in_ok-check_line.ensures ∙ the_line c.args.bytes.now c.args.at c.line_at.result c.line_at.ensures)
