-- `base::number` meets its contract: the bytes that were read are a number already. Assumes nothing.
use Rattle.std.proofs.Common.{◌≡◌, ◌^◌, ◌<◌, take}
use Rattle.base.specs.Bytes.{big_endian}
use Rattle.base.proofs.number.Given as goal

abbrev pub invariant-loop-byte : goal.invariant-loop-byte
invariant-loop-byte g l = record { so_far : l.n ≡ big_endian (take l.byte-index l.byte-items); small : l.n < 256 ^ l.byte-index }
