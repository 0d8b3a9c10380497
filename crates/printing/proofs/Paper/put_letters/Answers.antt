-- The letters stand behind what was printed. Assumes nothing.
use Rattle.std.proofs.Common.{◌≡◌, refl, sym, ap, ◌∙◌, map, length, arith}
use Rattle.std.proofs.Math.ListN.{length-map}
use Rattle.std.proofs.lemmas.List.{ext_get_or, get_or-map}
use Rattle.rules.specs.Desk as page
use Rattle.printing.proofs.Pieces.{piece_printed}
use Rattle.printing.proofs.Paper.put_letters.Goals as goal

pub returns : goal.returns
returns c =
    let l = c.loop-byte in
    let kept = c.args.kept.now in
    let long : length l.part ≡ length kept = omega (arith, ap length c.copy_from_slice.ensures.after) in
    piece_printed c.requires (sym (length-map kept page.letter))
    (ext_get_or 0 l.part (map page.letter kept) (omega (arith, length-map kept page.letter)) (λ i h. l.invariant.done i (omega arith) ∙ sym (get_or-map page.letter kept i 0 0 (omega arith))))
    refl refl refl
