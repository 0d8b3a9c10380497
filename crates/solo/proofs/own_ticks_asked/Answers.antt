-- `solo::own_ticks_asked` meets its contract: booth, number, buffer, in this order. Assumes nothing.
use mathlib.Core.Path.{◌≡◌, sym, ap, ◌∙◌}
use native.Mathlib.Omega.{arith}
use Prim.Native.Nat.{◌<◌}
use lib.ListN.{length, get_or}
use Rattle.base.specs.Refusals.{said, fault_in, number_of}
use Rattle.rules.specs.BoothTable.{no_line}
use Rattle.rules.specs.Due.{due}
use Rattle.rules.specs.Values.{lines_held}
use Rattle.rules.proofs.Fitting.{lines_in, fit_sound}
use Rattle.solo.proofs.Calls.{promise_in, call_absent, call_many, call_long, call_fits}
use Rattle.solo.proofs.own_ticks_asked.Goals as goal
use Rattle.solo.proofs.own_ticks_asked.Goals.{After-due-all, then-all-asked-via-then-all-asked, then-all-asked-via-else-all-asked+then-room-n}

pub returns-then-files-booth-clause-fault : goal.returns-then-files-booth-clause-fault
unfolding fault_in said number_of
returns-then-files-booth-clause-fault c buffer fits =
    rw (c.at.ensures) (sym (call_absent _ _ _ _ buffer (omega (arith, lines_in _ c.requires, c.if-files-booth.true))))

pub due-all-requires : goal.due-all-requires
due-all-requires c = fit_sound _ (c.requires.lines.line _ c.if-files-booth.false)

-- the booth is there, and what it is due is what the rules say
present : (c : After-due-all) → c.args.booth < length (lines_held c.args.files.now.table)
present c = omega (arith, lines_in _ c.requires, c.if-files-booth.false)

all_due : (c : After-due-all)
    → c.due-all.result.0 ≡ due (get_or (lines_held c.args.files.now.table) c.args.booth no_line).promise c.args.files.now.horizon
all_due c = c.due-all.ensures ∙ ap (λ p. due p c.args.files.now.horizon) (sym (promise_in _ _ c.if-files-booth.false))

pub returns-in_default-clause-fault : goal.returns-in_default-clause-fault
unfolding fault_in said number_of
returns-in_default-clause-fault c buffer fits =
    let due = (goal.at.returns-in_default-clause-fault c).After-due-all in
    rw (c.at-in_default.ensures) (sym (call_many _ _ _ _ buffer (present due) (omega (arith, all_due due, c.in_default.ensures))))

pub returns-then-all-asked-clause-fault : goal.returns-then-all-asked-clause-fault
unfolding fault_in said number_of
returns-then-all-asked-clause-fault c buffer fits =
    let due = (goal.at.returns-then-all-asked-clause-fault c).After-due-all in
    rw (c.at-then-all-asked.ensures)
    (sym (elim c.then-all-asked.branch [
      | then-all-asked-via-then-all-asked w ↦ call_many _ _ _ _ buffer (present due) (omega (arith, all_due due, c.in-Ok.ensures, w.if-all-asked.true))
      | then-all-asked-via-else-all-asked+then-room-n w ↦ call_long _ _ _ _ buffer (present due) (omega (arith, all_due due, c.in-Ok.ensures, w.if-all-asked.false)) (omega (arith, w.if-room-n.true))
    ]))

pub returns-clause-fault : goal.returns-clause-fault
unfolding fault_in
returns-clause-fault c buffer fits =
    let due = (goal.at.returns-clause-fault c).After-due-all in
    sym (call_fits _ _ _ _ buffer (present due) (omega (arith, all_due due, c.in-Ok.ensures, c.if-all-asked.false)) (omega (arith, c.if-room-n.false)))
