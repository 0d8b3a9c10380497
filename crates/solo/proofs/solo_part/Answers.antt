-- `solo::solo_part` meets its contract: the files, the call, then the part. Assumes nothing.
use Rattle.std.proofs.Common.{rules, Result, Ok, Err}
use Rattle.std.proofs.lemmas.Result.{err_from_is_err_and}
use mathlib.Core.Path.{◌≡◌, refl, sym, ap, ◌∙◌}
use mathlib.Core.Option.{none}
use Prim.Native.Nat.{◌<◌}
use native.Mathlib.Omega.{arith}
use lib.ListN.{get_or}
use Rattle.base.specs.declared.Refusal.{Refusal as HeldRefusal}
use Rattle.base.specs.Bytes.{written}
use Rattle.base.specs.Refusals.{first_fault}
use Rattle.base.proofs.Checks.{nothing_found, fault_found, ok_once, ok_not_err}
use Rattle.rules.specs.declared.OwnTick.{OwnTick}
use Rattle.rules.specs.declared.Refused.TheVariants.{Call}
use Rattle.rules.specs.Verdicts.{verdict_said, verdict_in}
use Rattle.rules.specs.BoothTable.{no_line}
use Rattle.rules.specs.SoloPart.{solo, solo_checks, ask_solo}
use Rattle.rules.specs.Values.{lines_held}
use Rattle.rules.proofs.Fitting.{lines_in, line_in}
use Rattle.arrivals.specs.Places.{entries_of, log_of, waiting_at}
use Rattle.solo.proofs.Calls.{Fits, call_passed, bad_files, bad_call, part_written}
use Rattle.solo.proofs.OneBooth.{alone}
use Rattle.solo.proofs.solo_part.Goals as goal
use Rattle.solo.proofs.solo_part.Goals.{In_err-files, In_err-asked, In_ok-asked}

-- a file was refused so
files_said : (c : In_err-files)
    → ask_solo c.args.table.now c.args.log.now c.args.booth c.args.n c.args.part.now ≡ record { verdict = verdict_said c.in_err-files.field-0.0; buffer = c.args.part.now }
files_said c = bad_files _ _ _ _ _ _ c.in_err-files.ensures.refused

pub returns-in_err-files-clause-verdict : goal.returns-in_err-files-clause-verdict
unfolding verdict_in
returns-in_err-files-clause-verdict c =
    let p = err_from_is_err_and c.from_residual.result c.from_residual.ensures.1 in
    rw (p.1, p.2) (sym (ap (λ o. o.verdict) (files_said (goal.at.returns-in_err-files-clause-verdict c).In_err-files)))

pub returns-in_err-files-clause-buffer : goal.returns-in_err-files-clause-buffer
returns-in_err-files-clause-buffer c = sym (ap (λ o. o.buffer) (files_said (goal.at.returns-in_err-files-clause-buffer c).In_err-files))

-- the call was refused so
call_said : (c : In_err-asked)
    → ask_solo c.args.table.now c.args.log.now c.args.booth c.args.n c.args.part.now ≡ record { verdict = verdict_said c.in_err-asked.field-0.0; buffer = c.args.part.now }
unfolding verdict_said log_of
call_said c = go c.own_ticks_asked.result refl
  where
    go : (r : Result OwnTick HeldRefusal) → c.own_ticks_asked.result ≡ r
        → ask_solo c.args.table.now c.args.log.now c.args.booth c.args.n c.args.part.now ≡ record { verdict = verdict_said c.in_err-asked.field-0.0; buffer = c.args.part.now }
    go (Ok a) q = let h = rw q at c.in_err-asked.ensures.cases in absurd (ok_not_err (sym h))
    go (Err e) q =
        let h = rw q at c.in_err-asked.ensures.cases in
        let why : c.in_err-asked.field-0.0 ≡ Call e = search rules in
        bad_call _ _ _ _ _ _ _ c.in_ok-files.ensures.taken.read _ (fault_found c.own_ticks_asked.result e _ (c.own_ticks_asked.ensures.fault c.args.part.now refl) q)
        ∙ ap (λ w. record { verdict = verdict_said w; buffer = c.args.part.now }) (sym why)

pub returns-in_err-asked-clause-verdict : goal.returns-in_err-asked-clause-verdict
unfolding verdict_in
returns-in_err-asked-clause-verdict c =
    let p = err_from_is_err_and c.from_residual-in_err-asked.result c.from_residual-in_err-asked.ensures.1 in
    rw (p.1, p.2) (sym (ap (λ o. o.verdict) (call_said (goal.at.returns-in_err-asked-clause-verdict c).In_err-asked)))

pub returns-in_err-asked-clause-buffer : goal.returns-in_err-asked-clause-buffer
returns-in_err-asked-clause-buffer c = sym (ap (λ o. o.buffer) (call_said (goal.at.returns-in_err-asked-clause-buffer c).In_err-asked))

-- past the call's checks
asked_was : (c : In_ok-asked) → c.own_ticks_asked.result ≡ Ok c.in_ok-asked.asked
asked_was c = go c.own_ticks_asked.result refl
  where
    go : (r : Result OwnTick HeldRefusal) → c.own_ticks_asked.result ≡ r → c.own_ticks_asked.result ≡ Ok c.in_ok-asked.asked
    go (Ok a) q = let h = rw q at c.in_ok-asked.ensures.cases in q ∙ ap Ok (sym (ok_once h))
    go (Err e) q = let h = rw q at c.in_ok-asked.ensures.cases in absurd h

asked_is : (c : In_ok-asked) → c.in_ok-asked.asked.0 ≡ c.args.n
asked_is c = let h = rw (asked_was c) at c.own_ticks_asked.ensures.asked in h

fine : (c : In_ok-asked) → first_fault (solo_checks (lines_held c.in_ok-files.files.table) c.in_ok-files.files.horizon c.args.booth c.args.n c.args.part.now) ≡ none
fine c = nothing_found c.own_ticks_asked.result _ _ (c.own_ticks_asked.ensures.fault c.args.part.now refl) (asked_was c)

fits : (c : In_ok-asked) → Fits (lines_held c.in_ok-files.files.table) c.in_ok-files.files.horizon c.args.booth c.args.n c.args.part.now
fits c = call_passed _ _ _ _ _ (fine c)

present : (c : In_ok-asked) → c.args.booth < c.in_ok-files.files.table.booths
present c = omega (arith, (fits c).present, lines_in _ c.in_ok-files.ensures.taken.fit)

eight : (c : In_ok-asked) → c.args.booth < 8
eight c = omega (arith, present c, c.in_ok-files.ensures.taken.fit.lines.few)

pub offset_bounds-files-booth : goal.offset_bounds-files-booth
offset_bounds-files-booth c = omega (arith, eight c)

pub bounds-files-booth : goal.bounds-files-booth
bounds-files-booth c = eight c

pub invariant_of-alone : goal.invariant_of-alone
invariant_of-alone c = record { alone = alone _ _ _ c.in_ok-files.ensures.taken _ (present (goal.at.invariant_of-alone c).In_ok-asked) }

pub write_part-requires : goal.write_part-requires
write_part-requires c =
    let at = (goal.at.write_part-requires c).In_ok-asked in
    omega (arith, asked_is at, (fits at).room)

pub returns-clause-verdict : goal.returns-clause-verdict
unfolding verdict_in log_of
returns-clause-verdict c =
    let at = (goal.at.returns-clause-verdict c).In_ok-asked in
    sym (ap (λ o. o.verdict) (part_written c.args.table.now c.args.log.now c.args.booth c.args.n c.args.part.now _ _ c.in_ok-files.ensures.taken.read (fine at)))

pub returns-clause-buffer : goal.returns-clause-buffer
unfolding log_of entries_of waiting_at
returns-clause-buffer c =
    let at = (goal.at.returns-clause-buffer c).In_ok-asked in
    let es = waiting_at c.args.log.now c.args.booth 9 in
    let line = line_in c.in_ok-files.files.table c.args.booth (present at) in
    c.write_part.ensures
    ∙ ap (λ l. written 0 (solo l es c.in_ok-asked.asked.0) c.args.part.now) (sym line)
    ∙ ap (λ n. written 0 (solo (get_or (lines_held c.in_ok-files.files.table) c.args.booth no_line) es n) c.args.part.now) (asked_is at)
    ∙ sym (ap (λ o. o.buffer) (part_written c.args.table.now c.args.log.now c.args.booth c.args.n c.args.part.now _ _ c.in_ok-files.ensures.taken.read (fine at)))
