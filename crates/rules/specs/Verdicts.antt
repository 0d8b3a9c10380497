-- What every entry point answers first: that nothing is refused, or which of the things handed in is, with number and place.
use Rattle.std.specs.Prelude.{Result, Ok, Err}
use Rattle.std.proofs.Math.Option.{Option, none, some}
use Rattle.base.specs.Refusals.{Refusal, refusal, said}
use Rattle.rules.specs.declared.Refused.{Refused as HeldRefused}
use Rattle.rules.specs.declared.Refused.TheVariants.{Table, Log, Call}

pub data Refused : Type 0 where
  Nothing : Refused
  TheTable : Refused
  TheLog : Refused
  TheCall : Refused

pub record Verdict : Type 0 where
  pub refused : Refused
  pub refusal : Refusal

-- number 0, place 0
unfoldable pub accepted : Verdict
accepted = record { refused = Nothing; refusal = refusal 0 0 }

unfoldable pub refused_as : Refused → Refusal → Verdict
refused_as what r = record { refused = what; refusal = r }

-- ---- what the code answers, as a verdict

unfoldable pub verdict_said : HeldRefused → Verdict
verdict_said (Table r) = refused_as TheTable (said r)
verdict_said (Log r) = refused_as TheLog (said r)
verdict_said (Call r) = refused_as TheCall (said r)

unfoldable pub verdict_in : {A : Type 0} → Result A HeldRefused → Verdict
verdict_in (Ok a) = accepted
verdict_in (Err why) = verdict_said why

-- ---- a verdict, and what is answered beside it

pub record Answered (A : Type 0) : Type 0 where
  pub verdict : Verdict
  pub given : Option A

unfoldable pub answer_in : {A : Type 0} → Result A HeldRefused → Answered A
answer_in (Ok a) = record { verdict = accepted; given = some a }
answer_in (Err why) = record { verdict = verdict_said why; given = none }

-- where something is refused nothing is given
unfoldable pub answer_with : {A : Type 0} → Verdict → A → Answered A
answer_with v a = record { verdict = v; given = elim v.refused [ Nothing ↦ some a | TheTable ↦ none | TheLog ↦ none | TheCall ↦ none ] }
