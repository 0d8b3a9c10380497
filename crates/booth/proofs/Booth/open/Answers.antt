-- `Booth::open` meets its contract. Assumes nothing.
use mathlib.Core.Path.{◌≡◌, ap, ◌∙◌, subst}
use native.Mathlib.Omega.{arith}
use Rattle.rules.specs.declared.Opens.{Opens}
use Rattle.booth.specs.declared.Booth.{Booth}
use Rattle.laws.proofs.DueLaws.{due_zero}
use Rattle.rules.proofs.Fitting.{fit_sound, fit_short}
use Rattle.arrivals.proofs.PlaceLaws.{first_place}
use Rattle.booth.proofs.FreshBooth.{unopened, open_fit, open_fresh}
use Rattle.booth.proofs.Settling.{near}
use Rattle.booth.specs.BoothHeld.{absent_booth, Looked}
use Rattle.booth.proofs.Booth.open.Goals as goal

pub opens_at-opens-requires : goal.opens_at-opens-requires
opens_at-opens-requires c =
    let p = c.args.line.promise in
    let s = fit_sound _ c.requires.whole_log.1 in
    (s.allowance, near p 0 0 s (fit_short _ c.requires.whole_log.1) (omega arith) (omega (arith, due_zero p)))

pub look-requires : goal.look-requires
look-requires c = let p = c.requires.whole_log in (p.0, first_place p.0, fit_sound _ p.1)

pub returns : goal.returns
unfolding absent_booth
returns c =
    let bs = c.args.log.now in
    let number = c.args.number in
    let line = c.args.line in
    let like : Booth → Opens → Booth = λ h opens. record { number = number; tasks = line.tasks; demand = h.demand; first = h.first; left = h.left; at = 9; promise = line.promise; clock = h.clock; opens = opens; tick = h.tick; point = h.point } in
    let is : like c.absent.result c.opens_at-opens.result ≡ unopened number line = ap (λ h. like h c.opens_at-opens.result) c.absent.ensures ∙ ap (like absent_booth) c.opens_at-opens.ensures in
    let looked : Looked bs (unopened number line) 9 c.look.result = subst (λ h. Looked bs h 9 c.look.result) is c.look.ensures in record {
      fit = open_fit bs number line c.requires.whole_log.0 c.requires.whole_log.1 c.requires.by_index c.look.result looked;
      state = open_fresh bs number line c.requires.whole_log.0 c.requires.whole_log.1 c.requires.by_index c.look.result looked;
    }
