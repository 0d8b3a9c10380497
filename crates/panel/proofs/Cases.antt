-- The panel case by case, and the counts that its loops keep. Assumes nothing.
use mathlib.Core.Path.{◌≡◌, refl, sym, ap, ◌∙◌, subst}
use mathlib.Core.List.{List, [], ◌∷◌, ◌++◌}
use mathlib.Core.Option.{Option, none, some}
use Prim.Native.Nat.{ℕ, suc, ◌+◌, ◌^◌, ◌≤◌, ◌<◌}
use native.Mathlib.Nat.{le_trans, lt_of_le_of_lt, lt_irrefl}
use native.Mathlib.Omega.{arith}
use borrow.Author.Tests.{ne_eqb, lt-ltb, le-ltb, le-leb, lt-leb, ltb-false}
use lib.Dec.{lit<, eqb}
use lib.Pow.{pow_pos}
use lib.ListN.{length, take, drop, get_or, length-take, take-append-drop}
use Rattle.std.specs.List.{count_by}
use Rattle.std.proofs.lemmas.List.Sums.{sum_by-cons, sum_by_more}
use mathlib.Core.Bool.{Bool, true, false, cond}
use Rattle.rules.specs.declared.Promise.{Promise}
use Rattle.base.specs.Refusals.{Refusal, Taken, taken, refused, refuse_if, refusal, first_fault}
use Rattle.rules.specs.Verdicts.{Refused, Nothing, TheTable, TheCall, accepted, refused_as}
use Rattle.rules.specs.BoothTable.{Line, no_line}
use Rattle.rules.specs.Admission.{read_table}
use Rattle.rules.specs.Due.{due}
use Rattle.rules.specs.Session.{count}
use Rattle.rules.specs.Panel.{share, reading_of, panel_row, no_panel, panel_checks, panel}
use Rattle.base.proofs.Checks.{passed}
use Rattle.rules.proofs.Counting.{count_nil, count_other, count_append, count_most}
use Rattle.panel.specs.Exact.{ExactShare, ExactAtPowers, ExactPanel}
use Rattle.panel.proofs.ExactShare.{share_exact}

-- ---- how often a number stands in a record

-- the library's count of what is equal to a number
pub count_is : (k : ℕ) (xs : List ℕ) → count_by (λ x. eqb x k) xs ≡ count k xs
unfolding count
count_is k [] = refl
count_is k (x ∷ xs) = go (eqb x k) refl (count_is k xs)
  where
    go : (c : Bool) → eqb x k ≡ c → count_by (λ y. eqb y k) xs ≡ count k xs → count_by (λ y. eqb y k) (x ∷ xs) ≡ count k (x ∷ xs)
    go true q ih = sum_by-cons (λ y. cond (eqb y k) 1 0) x xs ∙ rw (q, count) (omega arith)
    go false q ih = sum_by-cons (λ y. cond (eqb y k) 1 0) x xs ∙ rw (q, count) (omega arith)

pub count_more : (k : ℕ) (xs : List ℕ) (i : ℕ) → i < length xs → count k (take (i + 1) xs) ≡ count k (take i xs) + cond (eqb (get_or xs i 0) k) 1 0
count_more k xs i h = omega (arith, count_is k (take (i + 1) xs), sum_by_more (λ x. cond (eqb x k) 1 0) xs i 0 h, count_is k (take i xs))

-- a number above every byte stands nowhere
pub count_above : (k t : ℕ) (wall : List ℕ) → ((i : ℕ) → get_or wall i 0 < k) → count k (take t wall) ≡ 0
count_above k t wall all = omega (arith, count_append k (take t wall) (drop t wall), ap (count k) (take-append-drop t wall), nowhere wall all)
  where
    nowhere : (xs : List ℕ) → ((i : ℕ) → get_or xs i 0 < k) → count k xs ≡ 0
    nowhere [] all = count_nil k
    nowhere (x ∷ xs) all = count_other k x xs (λ e. omega (arith, all 0)) ∙ nowhere xs (λ i. all (suc i))

-- a part counted on the way, and what is left to count
pub part_more : (k : ℕ) (part rest : List ℕ) {left : List ℕ} → left ≡ part ++ rest → (worked : ℕ) {all : ℕ} → worked + count k left ≡ all → worked + count k part + count k rest ≡ all
part_more k part rest e worked h = omega (arith, h, ap (count k) e, count_append k part rest)

-- no more ticks are worked than pass
pub worked_le : (k t : ℕ) (wall : List ℕ) → count k (take t wall) ≤ t
worked_le k t wall = omega (arith, count_most k (take t wall), length-take t wall)

-- ---- the row

module _ (p : Promise) (worked t : ℕ) where
  pub row_read : (t ≡ 0 → ⊥)
      → panel_row p worked t ≡ record { verdict = accepted; promised = share p.allowance p.period; got = share worked t; reading = reading_of worked (due p t) (share worked t) }
  unfolding panel_row
  row_read e = rw (ne_eqb t 0 e, panel_row)

  pub row_accepted : (panel_row p worked t).verdict ≡ accepted
  unfolding panel_row
  row_accepted = go (eqb t 0) refl
    where
      go : (b : Bool) → eqb t 0 ≡ b → (panel_row p worked t).verdict ≡ accepted
      go true q = rw (q, panel_row)
      go false q = rw (q, panel_row)

-- ---- the panel

module _ (table wall : List ℕ) (booth t : ℕ) where
  pub panel_bad_table : (r : Refusal) → read_table table ≡ refused r → panel table wall booth t ≡ no_panel (refused_as TheTable r)
  unfolding panel
  panel_bad_table r e = rw (e, panel)

  module _ (ls : List Line) (q : read_table table ≡ taken ls) where
    pub panel_refused : (r : Refusal) → first_fault (panel_checks ls wall booth t) ≡ some r → panel table wall booth t ≡ no_panel (refused_as TheCall r)
    unfolding panel
    panel_refused r e = rw (q, panel) (rw e)

    pub panel_absent : length ls ≤ booth → panel table wall booth t ≡ no_panel (refused_as TheCall (refusal 9 0))
    unfolding panel_checks first_fault refuse_if
    panel_absent h = panel_refused (refusal 9 0) (rw (le-leb (length ls) booth h))

    pub panel_past : booth < length ls → length wall < t → panel table wall booth t ≡ no_panel (refused_as TheCall (refusal 11 0))
    unfolding panel_checks first_fault refuse_if
    panel_past h w = panel_refused (refusal 11 0) (rw (lt-leb (length ls) booth h, lt-ltb (length wall) t w))

    pub panel_long : booth < length ls → t ≤ length wall → 1000000 < t → panel table wall booth t ≡ no_panel (refused_as TheCall (refusal 11 0))
    unfolding panel_checks first_fault refuse_if
    panel_long h w l = panel_refused (refusal 11 0) (rw (lt-leb (length ls) booth h, le-ltb (length wall) t w, lt-ltb 1000000 t l))

    pub panel_shown : first_fault (panel_checks ls wall booth t) ≡ none → panel table wall booth t ≡ panel_row (get_or ls booth no_line).promise (count booth (take t wall)) t
    unfolding panel
    panel_shown e = rw (q, panel) (rw e)

    pub panel_read : booth < length ls → t ≤ length wall → t ≤ 1000000 → panel table wall booth t ≡ panel_row (get_or ls booth no_line).promise (count booth (take t wall)) t
    unfolding panel_checks first_fault refuse_if
    panel_read h w l = panel_shown (rw (lt-leb (length ls) booth h, le-ltb (length wall) t w, le-ltb 1000000 t l))

-- ---- the exact case of every row that is not a refusal

-- nothing is asked of the exact case where a call is refused
refused_not : (what : Refused) (r : Refusal) (table wall : List ℕ) (booth t : ℕ) → (what ≡ Nothing → ⊥) → panel table wall booth t ≡ no_panel (refused_as what r)
    → (panel table wall booth t).verdict ≡ accepted → ⊥
unfolding no_panel refused_as accepted
refused_not what r table wall booth t not e ok = not (sym (ap (λ p. p.verdict.refused) e) ∙ ap (λ v. v.refused) ok)

shown_exact : (table wall : List ℕ) (booth t : ℕ) (ls : List Line) → read_table table ≡ taken ls → first_fault (panel_checks ls wall booth t) ≡ none
    → ExactAtPowers (count booth (take t wall)) t (panel table wall booth t).got
unfolding panel_checks
shown_exact table wall booth t ls q f k e =
    let small : t ≤ 1000000 = ltb-false _ _ (passed _ _ _ _ (passed _ _ _ _ (passed _ _ _ _ f).1).1).0 in
    let some-ticks : t ≡ 0 → ⊥ = λ z. lt_irrefl 0 (subst (λ n. 0 < n) (sym e ∙ z) (pow_pos k)) in
    let got : (panel table wall booth t).got ≡ share (count booth (take t wall)) t =
    ap (λ r. r.got) (panel_shown table wall booth t ls q f ∙ row_read (get_or ls booth no_line).promise (count booth (take t wall)) t some-ticks) in
    subst (ExactShare (count booth (take t wall)) t) (sym got)
    (share_exact (count booth (take t wall)) t (below_all (le_trans (worked_le booth t wall) small)) (below_all small) k e)
  where
    below_all : {n : ℕ} → n ≤ 1000000 → n < 2 ^ 53
    below_all h = lt_of_le_of_lt h (lit< tt)

pub panel_exact : ExactPanel
panel_exact table wall booth t ok = go (read_table table) refl
  where
    checked : (ls : List Line) → read_table table ≡ taken ls → (o : Option Refusal) → first_fault (panel_checks ls wall booth t) ≡ o
        → ExactAtPowers (count booth (take t wall)) t (panel table wall booth t).got
    checked ls q none f = shown_exact table wall booth t ls q f
    checked ls q (some r) f = absurd (refused_not TheCall r table wall booth t (λ e. let z : ◌≡◌ {A = ℕ} 0 1 = cc in omega arith) (panel_refused table wall booth t ls q r f) ok)

    go : (a : Taken (List Line)) → read_table table ≡ a → ExactAtPowers (count booth (take t wall)) t (panel table wall booth t).got
    go (taken ls) q = checked ls q (first_fault (panel_checks ls wall booth t)) refl
    go (refused r) q = absurd (refused_not TheTable r table wall booth t (λ e. let z : ◌≡◌ {A = ℕ} 0 1 = cc in omega arith) (panel_bad_table table wall booth t r q) ok)
