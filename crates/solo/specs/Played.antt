-- What a player's place in the log and its demand say of the solo part.
use Rattle.std.specs.Prelude.{◌≡◌, ◌≢◌, ℕ, ◌+◌, ◌-◌, ◌*◌, ◌≤◌, ◌<◌, length, get_or, set, Option, None, IsSomeAnd, IfSome}
use Rattle.rules.specs.declared.OwnTick.{OwnTick}
use Rattle.rules.specs.ArrivalLog.{entry_at}
use Rattle.rules.specs.Due.{due}
use Rattle.rules.specs.Session.{count}
use Rattle.rules.specs.SoloPart.{asked, solo}
use Rattle.rules.specs.Values.{line_held}
use Rattle.arrivals.specs.Places.{waiting_at, Place}
use Rattle.solo.specs.declared.SoloBooth.{SoloBooth}
use Rattle.solo.specs.declared.Player.{Player}

-- the release point of the entry at a place by the booth's line, whosever entry it is; none at the log's end
pub record Point (b : SoloBooth) (at : ℕ) (point : Option OwnTick) : Type 0 where
  pub none : length b.log.now ≤ at → point ≡ None
  pub some : at < length b.log.now → IsSomeAnd point (λ p. p.0 ≡ due b.line.promise (entry_at b.log.now at).tick)

-- u own ticks are played. What the booth's entries ask from then on is left, or was played, or is asked by entries that still wait; past its tasks nothing is left
pub record Plays (b : SoloBooth) (u : ℕ) (p : Player) : Type 0 where
  pub place : Place b.log.now p.next
  pub point : Point b p.next p.point
  pub eight : length p.left ≡ 8
  pub rest : (k : ℕ) → b.line.tasks ≤ k → get_or p.left k 0 ≡ 0
  pub room : (k : ℕ) → get_or p.left k 0 * 9 + 65535 * (length b.log.now - p.next) ≤ 65535 * 36873
  pub sums : (n k : ℕ) → u ≤ n → k < b.line.tasks
      → asked (line_held b.line) (waiting_at b.log.now b.number 9) n k
      ≡ get_or p.left k 0 + count k (solo (line_held b.line) (waiting_at b.log.now b.number 9) u) + asked (line_held b.line) (waiting_at b.log.now b.number p.next) n k

-- and every entry with release point at most u is passed
pub record Admitted (b : SoloBooth) (u : ℕ) (p : Player) : Type 0 where
  pub plays : Plays b u p
  pub later : IfSome p.point (λ point. u < point.0)

-- one entry further
pub record Passed (b : SoloBooth) (p r : Player) : Type 0 where
  pub next : r.next ≡ p.next + 9
  pub point : Point b (p.next + 9) r.point
  pub own : (entry_at b.log.now p.next).booth ≡ b.number
      → ((entry_at b.log.now p.next).demand ≤ 65535)
      × (r.left ≡ set p.left (entry_at b.log.now p.next).task (get_or p.left (entry_at b.log.now p.next).task 0 + (entry_at b.log.now p.next).demand))
  pub other : (entry_at b.log.now p.next).booth ≢ b.number → r.left ≡ p.left
