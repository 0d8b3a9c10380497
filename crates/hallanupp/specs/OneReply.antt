-- When a contract leaves nothing open. A contract is taken as the check generates it from the source, in the function's module `Reads`: `Asked` is what a caller has to show, `Learnt` what the caller learns.
use Rattle.std.specs.Prelude.{◌≡◌}
use contract.Lifetimes.{Lfts}
use denote.Triple.Entry.{Args, Res}
use denote.Triple.Clauses.{Ended, Lasts, AtExit, at_exit}

module _ (T : Ended) where
  abbrev pub Lives : Type 0
  Lives = Lfts T.signature.lifetimes

  abbrev pub Call : Lives → Type 0
  Call = Args T.signature

  abbrev pub Asks : Type 1
  Asks = (κs : Lives) → Call κs → Type 0

  abbrev pub Tells : Type 1
  Tells = (κs : Lives) → Call κs → Res T.signature κs → AtExit T κs → Type 0

  -- the answer, and what each parameter is left with: a slice lent to be written with its bytes, any other with tt
  pub record Reply (κs : Lives) (a : Call κs) : Type 0 where
    pub answer : Res T.signature κs
    pub left : Lasts T κs a

  abbrev pub Meets : Tells → (κs : Lives) (a : Call κs) → Reply κs a → Type 0
  Meets learnt κs a o = learnt κs a o.answer (at_exit T κs a o.left)

  module _ (asked : Asks) (learnt : Tells) where
    -- every call is taken, and only f's reply meets the contract
    pub record Replies (f : (κs : Lives) (a : Call κs) → Reply κs a) : Type 0 where
      pub taken : (κs : Lives) (a : Call κs) → asked κs a
      pub reply : (κs : Lives) (a : Call κs) (o : Reply κs a) → Meets learnt κs a o → o ≡ f κs a

    -- every call is taken, and no two different replies meet the contract
    pub record OneReply : Type 0 where
      pub taken : (κs : Lives) (a : Call κs) → asked κs a
      pub once : (κs : Lives) (a : Call κs) (o q : Reply κs a) → Meets learnt κs a o → Meets learnt κs a q → o ≡ q
