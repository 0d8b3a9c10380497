-- `base::number` meets its contract: the bytes that were read are a number already. Assumes nothing.
use Rattle.std.proofs.Common.{rules, refl, ◌≡◌, sym, ap, ◌∙◌, subst, List, ℕ, ◌+◌, ◌-◌, ◌*◌, ◌^◌, ◌<◌, ◌≤◌, arith, length, take, drop, get_or, length-drop}
use lib.Seq.{length-take-le, take_all}
use Rattle.base.specs.Bytes.{big_endian, number_at}
use Rattle.base.proofs.BigEndian.{number_longer, fits_longer, room_for_one}
use Rattle.base.proofs.number.Goals as goal

pub loop-byte-init : goal.loop-byte-init
unfolding big_endian
loop-byte-init g c = record { so_far = refl; small = omega arith }

-- the bytes that are read
here : (W at : ℕ) (bs : List ℕ) → at + W ≤ length bs → (length (take (at + W - at) (drop at bs)) ≡ W) × (take (at + W - at) (drop at bs) ≡ take W (drop at bs))
here W at bs h =
    let w : at + W - at ≡ W = omega arith in
    (ap (λ n. length (take n (drop at bs))) w ∙ length-take-le W (drop at bs) (omega (arith, length-drop at bs)), ap (λ n. take n (drop at bs)) w)

pub overflow_mul-n : goal.overflow_mul-n
overflow_mul-n g c =
    omega (arith, room_for_one c.loop-byte.n c.loop-byte.byte-index (omega (arith, here g.row.WIDTH c.args.at c.args.bytes.now c.requires.1)) c.loop-byte.invariant.small)

pub loop-byte-preserved : goal.loop-byte-preserved
loop-byte-preserved g c =
    let now = c.loop-byte in
    let xs = take (c.args.at + g.row.WIDTH - c.args.at) (drop c.args.at c.args.bytes.now) in
    record {
      so_far = sym (number_longer xs now.byte-index c.loop-byte-test.true ∙ ap (λ n. n * 256 + get_or xs now.byte-index 0) (sym now.invariant.so_far) ∙ ap (λ b. now.n * 256 + b) (sym c.from.ensures));
      small = fits_longer now.n now.byte-index c.from.result now.invariant.small (omega arith);
    }

pub returns : goal.returns
unfolding number_at
returns g c =
    let W = g.row.WIDTH in
    let h = here W c.args.at c.args.bytes.now c.requires.1 in
    let now = c.loop-byte in
    let all : now.byte-index ≡ W = omega (arith, h.0) in
    let is : now.n ≡ big_endian (take W (drop c.args.at c.args.bytes.now)) = now.invariant.so_far ∙ ap big_endian (take_all now.byte-index _ (omega arith) ∙ h.1) in
    let small : now.n < 256 ^ W = subst (λ i. now.n < 256 ^ i) all now.invariant.small in
    search (rules, is, small)
