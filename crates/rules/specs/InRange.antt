-- What holds of a line that the reader of the table lets pass.
use Rattle.std.specs.Prelude.{◌≡◌, false, ◌≤◌, ◌<◌, length}
use Rattle.rules.specs.declared.Promise.{Promise}
use Rattle.rules.specs.BoothTable.{Line, longest_period, tasks_allowed, some_zero}

-- a promise: T at least 1, B from 1 to T
pub record Sound (p : Promise) : Type 0 where
  pub period : 0 < p.period
  pub allowance : 0 < p.allowance
  pub within : p.allowance ≤ p.period

-- a line: T also at most 10,000, 1 to 8 tasks, no longest job 0
pub record GoodLine (l : Line) : Type 0 where
  pub sound : Sound l.promise
  pub short : l.promise.period ≤ longest_period
  pub some_task : 1 ≤ length l.longest
  pub few_tasks : length l.longest ≤ tasks_allowed
  pub jobs : some_zero l.longest ≡ false
