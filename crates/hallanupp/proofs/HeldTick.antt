-- Every tick above 1,000,000 is refused alike, so one that fits 32 bits is answered as it is. Assumes nothing.
use mathlib.Core.Path.{◌≡◌, refl, sym, ap, ◌∙◌}
use mathlib.Core.Bool.{Bool, true, false}
use mathlib.Core.List.{List}
use Prim.Native.Nat.{ℕ, ◌≤◌, ◌<◌}
use borrow.Author.Tests.{lt-ltb, le-ltb, leb-true, leb-false, ltb-true, ltb-false}
use lib.Dec.{leb, ltb, lit<}
use lib.ListN.{length}
use Rattle.rules.specs.Verdicts.{TheCall, refused_as}
use Rattle.base.specs.Refusals.{Taken, taken, refused, refusal}
use Rattle.rules.specs.BoothTable.{Line}
use Rattle.rules.specs.Admission.{read_table}
use Rattle.rules.specs.Panel as page
use Rattle.panel.proofs.Cases.{panel_bad_table, panel_absent, panel_past, panel_long}
use Rattle.hallanupp.specs.PanelInC.{held_tick}

pub held_within : (t : ℕ) → t ≤ 1000000 → held_tick t ≡ t
unfolding held_tick
held_within t h = rw (le-ltb 1000000 t h, held_tick)

pub held_above : (t : ℕ) → 1000000 < t → held_tick t ≡ 1000001
unfolding held_tick
held_above t h = rw (lt-ltb 1000000 t h, held_tick)

module _ (table wall : List ℕ) (booth : ℕ) where
  -- past the record or only above 1,000,000, the answer is 11
  eleven : (t : ℕ) → 1000000 < t → (ls : List Line) → read_table table ≡ taken ls → booth < length ls → page.panel table wall booth t ≡ page.no_panel (refused_as TheCall (refusal 11 0))
  eleven t h ls q there = go (ltb (length wall) t) refl
    where
      go : (b : Bool) → ltb (length wall) t ≡ b → page.panel table wall booth t ≡ page.no_panel (refused_as TheCall (refusal 11 0))
      go true e = panel_past table wall booth t ls q there (ltb-true _ _ e)
      go false e = panel_long table wall booth t ls q there (ltb-false _ _ e) h

  -- every tick above 1,000,000 is answered alike
  alike : (t u : ℕ) → 1000000 < t → 1000000 < u → page.panel table wall booth t ≡ page.panel table wall booth u
  alike t u h k = go (read_table table) refl
    where
      present : (ls : List Line) → read_table table ≡ taken ls → (b : Bool) → leb (length ls) booth ≡ b → page.panel table wall booth t ≡ page.panel table wall booth u
      present ls q true e = panel_absent table wall booth t ls q (leb-true _ _ e) ∙ sym (panel_absent table wall booth u ls q (leb-true _ _ e))
      present ls q false e = eleven t h ls q (leb-false _ _ e) ∙ sym (eleven u k ls q (leb-false _ _ e))

      go : (a : Taken (List Line)) → read_table table ≡ a → page.panel table wall booth t ≡ page.panel table wall booth u
      go (taken ls) q = present ls q (leb (length ls) booth) refl
      go (refused r) q = panel_bad_table table wall booth t r q ∙ sym (panel_bad_table table wall booth u r q)

  pub panel_held : (t : ℕ) → page.panel table wall booth (held_tick t) ≡ page.panel table wall booth t
  panel_held t = go (ltb 1000000 t) refl
    where
      go : (b : Bool) → ltb 1000000 t ≡ b → page.panel table wall booth (held_tick t) ≡ page.panel table wall booth t
      go true e = ap (page.panel table wall booth) (held_above t (ltb-true _ _ e)) ∙ alike 1000001 t (lit< tt) (ltb-true _ _ e)
      go false e = ap (page.panel table wall booth) (held_within t (ltb-false _ _ e))
