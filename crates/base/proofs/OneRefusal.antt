-- A number tells its reason, no reason has number 0, and what is read tells the code's answer: one answer, and no other, is said so. Assumes nothing.
use Rattle.std.proofs.Common.{◌≡◌, refl, sym, ap, ◌∙◌, ℕ, ◌<◌, get_or, [], ◌∷◌, Result, Ok, Err, arith}
use Rattle.base.specs.declared.Reason.{Reason}
use Rattle.base.specs.declared.Reason.TheVariants.{BytesMissing, WrongVersion, BytesLeftOver, TooFewOrMany, WrongLengthByte, OutOfRange, NotAdmitted, WrongTick, NoSuchBoothOrTask, WrongDemand, DoesNotFit, TooLongAnInput}
use Rattle.base.specs.declared.Refusal.{Refusal as HeldRefusal}
use Rattle.base.specs.Refusals.{Refusal, refusal, refused, number_of, said, as_read}
use Rattle.base.proofs.Checks.{taken_once, refused_once, taken_not_refused}

pub number_never_zero : (r : Reason) → 0 < number_of r
unfolding number_of
number_never_zero BytesMissing = omega arith
number_never_zero WrongVersion = omega arith
number_never_zero BytesLeftOver = omega arith
number_never_zero TooFewOrMany = omega arith
number_never_zero WrongLengthByte = omega arith
number_never_zero OutOfRange = omega arith
number_never_zero NotAdmitted = omega arith
number_never_zero WrongTick = omega arith
number_never_zero NoSuchBoothOrTask = omega arith
number_never_zero WrongDemand = omega arith
number_never_zero DoesNotFit = omega arith
number_never_zero TooLongAnInput = omega arith

-- the reason of a number: where it stands among them, from 1 on
reason_of : ℕ → Reason
reason_of n =
    get_or (
    BytesMissing ∷ BytesMissing ∷ WrongVersion ∷ BytesLeftOver ∷ TooFewOrMany ∷ WrongLengthByte ∷ OutOfRange ∷ NotAdmitted ∷ WrongTick ∷ NoSuchBoothOrTask ∷ WrongDemand ∷ DoesNotFit ∷ []
    ) n TooLongAnInput

back : (r : Reason) → reason_of (number_of r) ≡ r
unfolding number_of reason_of
back BytesMissing = refl
back WrongVersion = refl
back BytesLeftOver = refl
back TooFewOrMany = refl
back WrongLengthByte = refl
back OutOfRange = refl
back NotAdmitted = refl
back WrongTick = refl
back NoSuchBoothOrTask = refl
back WrongDemand = refl
back DoesNotFit = refl
back TooLongAnInput = refl

pub number_told : (a b : Reason) → number_of a ≡ number_of b → a ≡ b
number_told a b e = sym (back a) ∙ ap reason_of e ∙ back b

pub said_told : (a b : HeldRefusal) → said a ≡ said b → a ≡ b
unfolding said refusal
said_told a b e =
    ap (λ r. record { reason = r; place = a.place }) (number_told a.reason b.reason (ap (λ x. x.number) e))
    ∙ ap (λ n. record { reason = b.reason; place = n }) (ap (λ x. x.place) e)

pub one_read : {A : Type 0} (r q : Result A HeldRefusal) → as_read r ≡ as_read q → r ≡ q
unfolding as_read
one_read (Ok a) (Ok b) e = ap Ok (taken_once e)
one_read (Ok a) (Err w) e = absurd (taken_not_refused e)
one_read (Err v) (Ok b) e = absurd (taken_not_refused (sym e))
one_read (Err v) (Err w) e = ap Err (said_told v w (refused_once e))
