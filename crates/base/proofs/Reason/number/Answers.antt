-- `base::Reason::number` meets its contract: each reason has its number, in the code and in the rules. Assumes nothing.
use Rattle.std.proofs.Common.{◌≡◌, refl, ◌+◌}
use denote.Enum.Declared.{tag_of}
use Rattle.base.specs.contracts.Reason.{the_type}
use Rattle.base.specs.declared.Reason.{Reason}
use Rattle.base.specs.declared.Reason.TheVariants.{BytesMissing, WrongVersion, BytesLeftOver, TooFewOrMany, WrongLengthByte, OutOfRange, NotAdmitted, WrongTick, NoSuchBoothOrTask, WrongDemand, DoesNotFit, TooLongAnInput}
use Rattle.base.specs.Refusals.{number_of}
use Rattle.base.proofs.Reason.number.Goals as goal

each : (r : Reason) → tag_of the_type r + 1 ≡ number_of r
unfolding number_of
each BytesMissing = refl
each WrongVersion = refl
each BytesLeftOver = refl
each TooFewOrMany = refl
each WrongLengthByte = refl
each OutOfRange = refl
each NotAdmitted = refl
each WrongTick = refl
each NoSuchBoothOrTask = refl
each WrongDemand = refl
each DoesNotFit = refl
each TooLongAnInput = refl

pub returns : goal.returns
returns c = each c.args.self
