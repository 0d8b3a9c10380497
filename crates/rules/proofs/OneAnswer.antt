-- An answer that is said in the rules' words is one answer: no two different `Result`s are said alike. Assumes nothing.
use Rattle.std.proofs.Common.{◌≡◌, refl, sym, ap, ◌∙◌, Result, Ok, Err, arith, ℕ}
use Rattle.std.specs.Prelude.{IfOk}
use mathlib.Core.Logic.{◌≢◌}
use Rattle.std.proofs.Math.Option.{Option, none, some}
use Rattle.base.proofs.OneRefusal.{said_told}
use Rattle.rules.specs.declared.Refused.{Refused as HeldRefused}
use Rattle.rules.specs.declared.Refused.TheVariants.{Table, Log, Call}
use Rattle.rules.specs.Verdicts.{Verdict, Refused, Nothing, TheTable, TheLog, TheCall, accepted, refused_as, verdict_said, verdict_in, Answered, answer_in, answer_with}

-- which thing is refused, as a number
kind : Refused → ℕ
kind Nothing = 0
kind TheTable = 1
kind TheLog = 2
kind TheCall = 3

-- what is refused is not nothing
refuses : (why : HeldRefused) → accepted ≢ verdict_said why
unfolding accepted verdict_said refused_as kind
refuses (Table r) e = let z : ◌≡◌ {A = ℕ} 0 1 = ap (λ v. kind v.refused) e in omega arith
refuses (Log r) e = let z : ◌≡◌ {A = ℕ} 0 2 = ap (λ v. kind v.refused) e in omega arith
refuses (Call r) e = let z : ◌≡◌ {A = ℕ} 0 3 = ap (λ v. kind v.refused) e in omega arith

-- a verdict tells what was refused, and why
pub verdict_told : (a b : HeldRefused) → verdict_said a ≡ verdict_said b → a ≡ b
unfolding verdict_said refused_as kind
verdict_told (Table r) (Table q) e = ap Table (said_told r q (ap (λ v. v.refusal) e))
verdict_told (Log r) (Log q) e = ap Log (said_told r q (ap (λ v. v.refusal) e))
verdict_told (Call r) (Call q) e = ap Call (said_told r q (ap (λ v. v.refusal) e))
verdict_told (Table r) (Log q) e = let z : ◌≡◌ {A = ℕ} 1 2 = ap (λ v. kind v.refused) e in absurd (omega arith)
verdict_told (Table r) (Call q) e = let z : ◌≡◌ {A = ℕ} 1 3 = ap (λ v. kind v.refused) e in absurd (omega arith)
verdict_told (Log r) (Table q) e = let z : ◌≡◌ {A = ℕ} 2 1 = ap (λ v. kind v.refused) e in absurd (omega arith)
verdict_told (Log r) (Call q) e = let z : ◌≡◌ {A = ℕ} 2 3 = ap (λ v. kind v.refused) e in absurd (omega arith)
verdict_told (Call r) (Table q) e = let z : ◌≡◌ {A = ℕ} 3 1 = ap (λ v. kind v.refused) e in absurd (omega arith)
verdict_told (Call r) (Log q) e = let z : ◌≡◌ {A = ℕ} 3 2 = ap (λ v. kind v.refused) e in absurd (omega arith)

some_once : {A : Type 0} {x y : A} → ◌≡◌ {A = Option A} (some x) (some y) → x ≡ y
some_once e = cc

-- a verdict with nothing beside it is one answer
pub one_verdict : (r q : Result (Unit {0}) HeldRefused) → verdict_in r ≡ verdict_in q → r ≡ q
unfolding verdict_in
one_verdict (Ok a) (Ok b) e = refl
one_verdict (Ok a) (Err w) e = absurd (refuses w e)
one_verdict (Err v) (Ok b) e = absurd (refuses v (sym e))
one_verdict (Err v) (Err w) e = ap Err (verdict_told v w e)

-- and so is an answer beside its verdict
pub one_answer : {A : Type 0} (r q : Result A HeldRefused) → answer_in r ≡ answer_in q → r ≡ q
unfolding answer_in
one_answer (Ok a) (Ok b) e = ap Ok (some_once (ap (λ x. x.given) e))
one_answer (Ok a) (Err w) e = absurd (refuses w (ap (λ x. x.verdict) e))
one_answer (Err v) (Ok b) e = absurd (refuses v (sym (ap (λ x. x.verdict) e)))
one_answer (Err v) (Err w) e = ap Err (verdict_told v w (ap (λ x. x.verdict) e))

-- the verdict, and the answer where it is given, are the whole answer
pub answered_so : {A : Type 0} (r : Result A HeldRefused) (v : Verdict) (a : A) → verdict_in r ≡ v → IfOk r (λ x. x ≡ a) → answer_in r ≡ answer_with v a
unfolding verdict_in answer_in answer_with accepted verdict_said refused_as
answered_so (Ok x) v a e is = ap (λ y. record { verdict = accepted; given = some y }) is ∙ ap (λ w. answer_with w a) e
answered_so (Err (Table r)) v a e is = ap (λ w. answer_with w a) e
answered_so (Err (Log r)) v a e is = ap (λ w. answer_with w a) e
answered_so (Err (Call r)) v a e is = ap (λ w. answer_with w a) e
