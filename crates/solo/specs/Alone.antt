-- What is known of a log that was taken and a line of its table, for the booth that plays alone by them.
use Rattle.std.specs.Prelude.{◌≡◌, List, [], ◌∷◌, ℕ, ◌≤◌, ◌<◌, ltb, length}
use Rattle.std.specs.Coded.{×_prop, Unit-prop, le_prop}
use Rattle.std.proofs.Props.{props}
use Rattle.rules.specs.declared.Line.{Line as HeldLine}
use Rattle.rules.specs.BoothTable.{Line}
use Rattle.rules.specs.ArrivalLog.{Entry, entry_at}
use Rattle.rules.specs.Session.{count}
use Rattle.rules.specs.SoloPart.{asked, first_that, solo}
use Rattle.rules.specs.InRange.{Sound}
use Rattle.laws.specs.Ordered.{From, Sorted}
use Rattle.arrivals.specs.Places.{Place, WholeLog}

-- what own tick n of the solo part is
unfoldable pub own_tick : Line → List Entry → ℕ → ℕ
own_tick l es n = first_that (λ k. ltb (count k (solo l es n)) (asked l es n k)) (length l.longest) 0

-- ---- what holds of an accepted log and a line of its table, for one booth

pub record Alone (bs : List ℕ) (line : HeldLine) (booth : ℕ) : Type 0 where
  pub sound : Sound line.promise
  pub tasks : line.tasks ≤ 8
  pub eight : length line.longest ≡ 8
  pub log : WholeLog bs
  pub task : (at : ℕ) → Place bs at → at < length bs → (entry_at bs at).booth ≡ booth → (entry_at bs at).task < line.tasks

-- ---- and it has one proof at most, as a fact that a struct keeps must

from_prop : (t : ℕ) (es : List Entry) → IsProp (From t es)
from_prop t [] = Unit-prop
from_prop t (e ∷ es) = ×_prop le_prop (from_prop t es)

sorted_prop : (es : List Entry) → IsProp (Sorted es)
sorted_prop [] = Unit-prop
sorted_prop (e ∷ es) = ×_prop (from_prop e.tick es) (sorted_prop es)

whole_log_prop : (bs : List ℕ) → IsProp (WholeLog bs)
whole_log_prop bs = Prim.hlevel (props, sorted_prop)

pub alone_prop : (bs : List ℕ) (line : HeldLine) (booth : ℕ) → IsProp (Alone bs line booth)
alone_prop bs line booth = Prim.hlevel (props, whole_log_prop)
