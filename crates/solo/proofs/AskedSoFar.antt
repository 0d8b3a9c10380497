-- What one entry more asks, and that nothing is asked by entries whose points are not reached. Assumes nothing.
use mathlib.Core.Path.{◌≡◌, refl, ap, ◌∙◌, subst}
use mathlib.Core.Logic.{◌≢◌}
use mathlib.Core.List.{List, ◌∷◌}
use Prim.Native.Nat.{ℕ, ◌+◌, ◌-◌, ◌/◌, ◌≤◌, ◌<◌}
use native.Mathlib.Decide.{dec_le}
use native.Mathlib.Omega.{arith}
use lib.ListN.{length}
use borrow.Author.Tests.{eq-eqb, ne_eqb, le-leb}
use Rattle.rules.specs.declared.Line.{Line as HeldLine}
use Rattle.rules.specs.BoothTable.{Line}
use Rattle.rules.specs.ArrivalLog.{Entry, entry_at}
use Rattle.rules.specs.Due.{due, release_point}
use Rattle.rules.specs.Session.{own_entries}
use Rattle.rules.specs.SoloPart.{asked}
use Rattle.rules.specs.Values.{line_held}
use Rattle.laws.specs.Ordered.{Sorted}
use Rattle.laws.proofs.Entries.{own_from, from_past}
use Rattle.laws.proofs.Opening.{asked_none}
use Rattle.arrivals.specs.Places.{entries_from, waiting_at, Place}
use Rattle.arrivals.proofs.PlaceLaws.{waiting_end, entries_step, entries_sorted}
use Rattle.solo.specs.Alone.{Alone}

module _ (l : Line) (e : Entry) (es : List Entry) (n k : ℕ) where
  pub asked_task : release_point l e ≤ n → e.task ≡ k → asked l (e ∷ es) n k ≡ e.demand + asked l es n k
  unfolding asked
  asked_task h t = rw (eq-eqb e.task k t, le-leb (release_point l e) n h, asked)

  pub asked_elsewhere : e.task ≢ k → asked l (e ∷ es) n k ≡ asked l es n k
  unfolding asked
  asked_elsewhere t = rw (ne_eqb e.task k t, asked)

-- behind an entry whose point is not reached nothing is asked yet, whosever entry it is
module _ (bs : List ℕ) (line : HeldLine) (booth : ℕ) (a : Alone bs line booth) (at n k : ℕ) (p : Place bs at) where
  none_behind : at < length bs → n < due line.promise (entry_at bs at).tick → asked (line_held line) (waiting_at bs booth at) n k ≡ 0
  unfolding waiting_at line_held
  none_behind h late =
      let e = entry_at bs at in
      let rest = entries_from ((length bs - (at + 9)) / 9) bs (at + 9) in
      let so = subst Sorted (entries_step bs booth at p h) (entries_sorted bs at a.log p) in
      ap (λ es. asked (line_held line) (own_entries booth es) n k) (entries_step bs booth at p h)
      ∙ asked_none (line_held line) (own_entries booth (e ∷ rest)) (n + 1) n k (omega arith)
      (from_past (line_held line) a.sound e.tick (n + 1) (omega arith) (own_entries booth (e ∷ rest))
      (own_from booth e.tick (e ∷ rest) (omega arith, so.0)))

  pub none_asked : (at < length bs → n < due line.promise (entry_at bs at).tick) → asked (line_held line) (waiting_at bs booth at) n k ≡ 0
  none_asked late = go (dec_le (length bs) at)
    where
      go : Dec (length bs ≤ at) → asked (line_held line) (waiting_at bs booth at) n k ≡ 0
      go (yes h) = ap (λ es. asked (line_held line) es n k) (waiting_end bs booth at p h) ∙ (unfold asked in refl)
      go (no h) = none_behind (omega arith) (late (omega arith))
