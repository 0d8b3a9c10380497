-- `booth::Booth::catch_up` meets its contract: taking entries one by one, then resting, is document 01's settle. Assumes nothing.
use mathlib.Core.Path.{◌≡◌, sym, ap, ◌∙◌, subst}
use Prim.Native.Nat.{◌+◌, ◌-◌, ◌≤◌}
use native.Mathlib.Omega.{arith}
use lib.ListN.{drop}
use Rattle.rules.specs.declared.Promise.{Promise}
use Rattle.rules.specs.Due.{due}
use Rattle.booth.specs.declared.Booth.{Booth}
use Rattle.booth.specs.BoothHeld.{shown, clock_at, Fit}
use Rattle.booth.proofs.Taking.{fit_moved}
use Rattle.booth.proofs.Settling.{near, settles_first, settles_on, due_fits, settled_busy, settled_free, takes_inside, point_due, behind_moved}
use Rattle.booth.proofs.Demand.{none_told}
use Rattle.booth.proofs.Booth.catch_up.Goals as goal

pub loop-self-init : goal.loop-self-init
loop-self-init c = settles_first c.args.log.now c.args.t.0 c.args.self c.args.row.now c.requires.fit c.requires.cap

pub take_next-self-requires : goal.take_next-self-requires
take_next-self-requires c =
    let bs = c.args.log.now in
    let t = c.args.t.0 in
    let h = c.loop-self.self in
    let row = c.loop-self.row in
    let s = c.loop-self.invariant in
    let fits = due_fits bs t c.args.self c.args.row.now h row s c.requires.room in
    let test = sym c.takes.ensures ∙ c.loop-self-test.true in
    let more = takes_inside bs h row t s.fit c.requires.early test in
    let due-by = point_due bs h row t s.fit more test in
    record {
      whole_log = (c.requires.log, s.fit, more);
      clock_in_bounds = (fits.0, omega (arith, fits.1, due-by), near h.promise h.point.0 t s.fit.steady.sound s.fit.steady.short c.requires.early due-by);
    }

pub loop-self-smaller : goal.loop-self-smaller
loop-self-smaller c =
    let bs = c.args.log.now in
    let t = c.args.t.0 in
    let h = c.loop-self.self in
    let row = c.loop-self.row in
    let s = c.loop-self.invariant in
    let fits = due_fits bs t c.args.self c.args.row.now h row s c.requires.room in
    let test = sym c.takes.ensures ∙ c.loop-self-test.true in
    omega (arith, takes_inside bs h row t s.fit c.requires.early test, c.take_next-self.ensures.fit)

pub loop-self-preserved : goal.loop-self-preserved
loop-self-preserved c =
    let bs = c.args.log.now in
    let t = c.args.t.0 in
    let h = c.loop-self.self in
    let row = c.loop-self.row in
    let s = c.loop-self.invariant in
    let fits = due_fits bs t c.args.self c.args.row.now h row s c.requires.room in
    let test = sym c.takes.ensures ∙ c.loop-self-test.true in
    let more = takes_inside bs h row t s.fit c.requires.early test in
    let next = c.take_next-self in
    settles_on bs t c.args.self c.args.row.now h row s fits.0 more test next.result next.new.row next.ensures.fit.0 next.ensures.fit.2
    next.ensures.state next.ensures.row next.auto.row

pub due-to-requires : goal.due-to-requires
due-to-requires c = c.loop-self.invariant.fit.steady.sound

pub pass-self-requires : goal.pass-self-requires
pass-self-requires c =
    let bs = c.args.log.now in
    let t = c.args.t.0 in
    let h = c.loop-self.self in
    let row = c.loop-self.row in
    let s = c.loop-self.invariant in
    let fits = due_fits bs t c.args.self c.args.row.now h row s c.requires.room in
    let test = sym c.takes.ensures ∙ c.loop-self-test.false in
    let steady = s.fit.steady in
    record {
      clock_in_bounds = (fits.0, omega (arith, fits.1, c.due-to.ensures));
      allowance_nonzero = (steady.sound.allowance, steady.opens, near h.promise c.due-to.result.0 t steady.sound steady.short c.requires.early (omega (arith, c.due-to.ensures)));
    }

pub returns-then-is_none : goal.returns-then-is_none
unfolding clock_at
returns-then-is_none c =
    let bs = c.args.log.now in
    let t = c.args.t.0 in
    let h = c.loop-self.self in
    let row = c.loop-self.row in
    let s = c.loop-self.invariant in
    let fits = due_fits bs t c.args.self c.args.row.now h row s c.requires.room in
    let test = sym c.takes.ensures ∙ c.loop-self-test.false in
    let pass = c.pass-self in
    let v = c.due-to.result.0 in
    let point = c.due-to.ensures in
    let clock : pass.result.clock.0 ≡ h.clock.0 + (v - h.clock.0) = ap (λ (x : Booth). x.clock.0) pass.ensures.state in
    let cap : h.clock.0 + (v - h.clock.0) ≤ due h.promise t = omega (arith, point, s.cap) in record {
      fit = record {
        fit = subst (Fit bs) (sym pass.ensures.state) (fit_moved bs h (h.clock.0 + (v - h.clock.0)) s.fit);
        stays = record {
          number = ap (λ (x : Booth). x.number) pass.ensures.state ∙ s.stays.number;
          promise = ap (λ (x : Booth). x.promise) pass.ensures.state ∙ s.stays.promise;
          tasks = ap (λ (x : Booth). x.tasks) pass.ensures.state ∙ s.stays.tasks;
        };
        grown = omega (arith, clock, s.grown);
        cap = rw clock (subst (λ (p : Promise). h.clock.0 + (v - h.clock.0) ≤ due p t) s.stays.promise cap);
      };
      state = λ l q.
          ap (λ (x : Booth). shown l bs x pass.new.row) pass.ensures.state
          ∙ ap (shown l bs (clock_at h (h.clock.0 + (v - h.clock.0)))) pass.ensures.row
          ∙ settled_free bs t c.args.self c.args.row.now h row s fits.0 c.requires.log c.requires.fit c.requires.cap test l q (none_told _ _ _ c.is_none.ensures c.if-is_none.true) v point;
      row = ap (λ u. drop u pass.new.row) clock
          ∙ ap (drop (h.clock.0 + (v - h.clock.0))) pass.ensures.row
          ∙ behind_moved bs t c.args.self c.args.row.now h row s fits.0 v
          ∙ ap (λ u. drop u c.args.row.now) (sym clock);
    }

pub returns-else-is_none : goal.returns-else-is_none
returns-else-is_none c =
    let bs = c.args.log.now in
    let t = c.args.t.0 in
    let h = c.loop-self.self in
    let row = c.loop-self.row in
    let s = c.loop-self.invariant in
    let fits = due_fits bs t c.args.self c.args.row.now h row s c.requires.room in
    let test = sym c.takes.ensures ∙ c.loop-self-test.false in record {
      fit = record { fit = s.fit; stays = s.stays; grown = s.grown; cap = subst (λ (p : Promise). h.clock.0 ≤ due p t) s.stays.promise s.cap };
      state = λ l q. settled_busy bs t c.args.self c.args.row.now h row s fits.0 c.requires.log c.requires.fit c.requires.cap test l q (none_told _ _ _ c.is_none.ensures c.if-is_none.false);
      row = s.behind;
    }
