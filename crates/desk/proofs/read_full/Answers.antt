-- `desk::read_full` meets its contract: what a read gives stands behind what was read before. Assumes nothing.
use Rattle.std.proofs.Common.{◌≡◌, ℕ, ◌+◌, ◌-◌, ◌≤◌, List, ◌++◌, rules, length, take, sym, ap, ◌∙◌, subst, length-take-le}
use Rattle.std.proofs.Math.Seq.{take-append-add, take-append-le}
use Rattle.std.specs.Io.KnownBytes.{Consumes}
use Rattle.std.proofs.KnownBytes.{Consumes-trans}
use borrow.Rule.Slice.PartMut.{put_mid, post_of}
use Rattle.desk.proofs.read_full.Goals as goal

-- a buffer in which a part from `at` on is replaced, as far as n bytes into the part
part_behind_front : (at room n : ℕ) (xs part : List ℕ) → at ≤ length xs → n ≤ length part → take (at + n) (put_mid at room xs part) ≡ take at xs ++ take n part
part_behind_front at room n xs part within fits =
    let front = take at xs in
    let rest = part ++ post_of at room xs in
    subst (λ k. take (k + n) (front ++ rest) ≡ front ++ take n rest) (length-take-le at xs within) (take-append-add front rest n)
    ∙ ap (λ ys. front ++ ys) (take-append-le n part (post_of at room xs) fits)

pub loop-done-preserved : goal.loop-done-preserved
loop-done-preserved g c =
    let l = c.loop-done in
    let held = part_behind_front l.done (length l.buffer - l.done) c.in_ok-n.n l.buffer c.read.new.buf l.invariant.inside c.in_ok-n.ensures.bound.0 in
    record {
      inside = search rules;
      given = subst (Consumes _ _) (sym held) (Consumes-trans _ _ _ _ _ l.invariant.given c.in_ok-n.ensures.bytes.0);
    }
