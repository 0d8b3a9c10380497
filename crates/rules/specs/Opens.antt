-- Where an own tick lies, as a booth carries it along from tick to tick.
use Rattle.std.specs.Prelude.{ℕ, ◌%◌}
use Rattle.rules.specs.declared.Promise.{Promise}
use Rattle.rules.specs.declared.Opens.{Opens}
use Rattle.rules.specs.Due.{playable_from}

-- the wall tick from which own tick u may be played, and the own ticks of its allowance that lie before it
unfoldable pub opens_at : Promise → ℕ → Opens
opens_at p u = record { from = record { 0 = playable_from p u }; into = u % p.allowance }
