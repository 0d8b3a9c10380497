-- What is known where the reader took a log, and where it refused one. Assumes nothing.
use mathlib.Core.Path.{◌≡◌, ap}
use mathlib.Core.List.{List}
use Prim.Native.Nat.{ℕ}
use Rattle.std.proofs.Common.{Result, Ok, Err}
use lib.ListN.{length}
use Rattle.base.specs.declared.Refusal.{Refusal as HeldRefusal}
use Rattle.base.specs.Refusals.{taken, refused, said, as_read, taken_as}
use Rattle.base.proofs.Checks.{took, declined}
use Rattle.rules.specs.BoothTable.{Line}
use Rattle.rules.specs.ArrivalLog.{Log, read_log}
use Rattle.arrivals.specs.declared.LogAnswer.{LogAnswer}
use Rattle.arrivals.specs.LogAnswered.{counted}

module _ (ls : List Line) (bs : List ℕ) where
  -- the answer has the log's wall ticks and the number of its entries
  pub record Took (a : LogAnswer) : Type 0 where
    pub log : Log
    pub read : read_log ls bs ≡ taken log
    pub horizon : a.horizon ≡ log.horizon
    pub entries : a.entries ≡ length log.entries

  module _ (r : Result LogAnswer HeldRefusal) (is : as_read r ≡ taken_as counted (read_log ls bs)) where
    pub log_taken : (a : LogAnswer) → r ≡ Ok a → Took a
    unfolding counted
    log_taken a e =
        let k = took counted (read_log ls bs) r a is e in
        record { log = k.0; read = k.1.0; horizon = ap (λ x. x.horizon) k.1.1; entries = ap (λ x. x.entries) k.1.1 }

    pub log_declined : (why : HeldRefusal) → r ≡ Err why → read_log ls bs ≡ refused (said why)
    log_declined why e = declined counted (read_log ls bs) r why is e
