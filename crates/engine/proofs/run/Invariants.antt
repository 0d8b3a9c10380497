-- `engine::run` meets its contract: each wall tick is one step of the session. Assumes nothing.
use Prim.Native.Nat.{◌-◌, ◌≤◌, ◌<◌}
use Rattle.engine.specs.Running.{SleepTo, Ready, Going}
use Rattle.engine.proofs.run.Given as goal

-- booths have worked in `sung` of the ticks, no booth wakes before a `soonest` that lies ahead, and the session is going
abbrev pub invariant-loop-t : goal.invariant-loop-t
invariant-loop-t l =
    (l.sung ≤ l.t) × (l.t < l.soonest → SleepTo l.course.wakes l.n l.soonest)
    × ((e : Ready l.n l.h l.initial.course.booths l.log l.initial.wall l.initial.own) → Going e.lines l.n l.h l.log l.initial.wall l.initial.own l.t 0 l.course.booths l.course.wakes l.worked (l.t - l.sung) l.wall l.own)
