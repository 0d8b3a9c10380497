-- `booth::Booth::take_next` meets its contract: the moves of the code, one after the other, are the rule's. Assumes nothing.
use mathlib.Core.Path.{◌≡◌, sym, ap, ◌∙◌, subst}
use Prim.Native.Nat.{ℕ, ◌+◌, ◌-◌}
use native.Mathlib.Omega.{arith}
use lib.ListN.{get_or, set}
use Rattle.rules.specs.InRange.{Sound}
use Rattle.arrivals.proofs.PlaceLaws.{whole_entry}
use Rattle.booth.specs.declared.Booth.{Booth}
use Rattle.booth.specs.BoothHeld.{OneOfEight, owed, shown, Looked, looking_at, demanding, clock_at}
use Rattle.booth.proofs.Taking.{entry_of, added, own_task, owed_moved, shown_taken, fit_taken}
use Rattle.booth.proofs.Demand.{eight_moved}
use Rattle.booth.proofs.Working.{one_of_eight}
use Rattle.booth.proofs.Booth.take_next.Goals as goal

pub at-entry-requires : goal.at-entry-requires
at-entry-requires c = (whole_entry c.args.log.now c.args.self.at c.requires.whole_log.1.waits.place c.requires.whole_log.2).0

pub pass-self-requires : goal.pass-self-requires
pass-self-requires c =
    let s = c.requires.whole_log.1.steady in
    record {
      clock_in_bounds = (c.requires.clock_in_bounds.0, c.requires.clock_in_bounds.1);
      allowance_nonzero = (s.sound.allowance, s.opens, c.requires.clock_in_bounds.2);
    }

pub add-self-requires : goal.add-self-requires
unfolding clock_at
add-self-requires c =
    let bs = c.args.log.now in
    let h = c.args.self in
    let fit = c.requires.whole_log.1 in
    let more = c.requires.whole_log.2 in
    let moved = c.pass-self.ensures.state in
    let k = c.at-entry.ensures.task in
    let d = c.at-entry.ensures.small in
    let ds : owed c.pass-self.result ≡ owed h = ap owed moved ∙ owed_moved h (h.clock.0 + (h.point.0 - h.clock.0)) in (
      omega (arith, k, own_task bs h fit more, fit.steady.tasks),
      subst OneOfEight (sym moved) (eight_moved h (h.clock.0 + (h.point.0 - h.clock.0)) (one_of_eight h fit.steady)),
      omega (arith, d, fit.room c.at-entry.result.task, ap (λ xs. get_or xs c.at-entry.result.task 0) ds),
    )

pub overflow_add-at : goal.overflow_add-at
overflow_add-at c = omega (arith, c.requires.whole_log.0.short, (whole_entry c.args.log.now c.args.self.at c.requires.whole_log.1.waits.place c.requires.whole_log.2).0)

pub look-self-requires : goal.look-self-requires
unfolding clock_at demanding
look-self-requires c =
    let fit = c.requires.whole_log.1 in
    let promise : c.add-self.result.promise ≡ c.args.self.promise = ap (λ (x : Booth). x.promise) c.add-self.ensures ∙ ap (λ (x : Booth). x.promise) c.pass-self.ensures.state in (
      c.requires.whole_log.0,
      (whole_entry c.args.log.now c.args.self.at fit.waits.place c.requires.whole_log.2).1,
      subst Sound (sym promise) fit.steady.sound,
    )

pub returns : goal.returns
unfolding looking_at demanding clock_at
returns c =
    let bs = c.args.log.now in
    let h = c.args.self in
    let fit = c.requires.whole_log.1 in
    let more = c.requires.whole_log.2 in
    let entry = c.at-entry in
    let pass = c.pass-self in
    let e = entry_of bs h in
    let is : c.add-self.result ≡ added bs h =
    c.add-self.ensures
    ∙ ap (λ (x : Booth). demanding x (set (owed x) entry.result.task (get_or (owed x) entry.result.task 0 + entry.result.demand))) pass.ensures.state
    ∙ ap (λ ds. demanding (clock_at h (h.clock.0 + (h.point.0 - h.clock.0))) (set ds entry.result.task (get_or ds entry.result.task 0 + entry.result.demand))) (owed_moved h (h.clock.0 + (h.point.0 - h.clock.0)))
    ∙ ap (λ (n : ℕ). demanding (clock_at h (h.clock.0 + (h.point.0 - h.clock.0))) (set (owed h) n (get_or (owed h) n 0 + entry.result.demand))) entry.ensures.task
    ∙ ap (λ (n : ℕ). demanding (clock_at h (h.clock.0 + (h.point.0 - h.clock.0))) (set (owed h) e.task (get_or (owed h) e.task 0 + n))) entry.ensures.demand in
    let looked : Looked bs (added bs h) (h.at + 9) c.look-self.result = subst (λ (x : Booth). Looked bs x (h.at + 9) c.look-self.result) is c.look-self.ensures in record {
      fit = (
        fit_taken bs h fit more c.args.row.now c.requires.clock_in_bounds.0 c.look-self.result looked (omega (arith, entry.ensures.demand, entry.ensures.small)),
        omega (arith, looked.later),
        record { number = ap (λ (x : Booth). x.number) looked.is; promise = ap (λ (x : Booth). x.promise) looked.is; tasks = ap (λ (x : Booth). x.tasks) looked.is },
      );
      state = λ l q. ap (shown l bs c.look-self.result) pass.ensures.row ∙ shown_taken bs h fit more c.args.row.now c.requires.clock_in_bounds.0 c.look-self.result looked l q;
      row = pass.ensures.row;
    }
