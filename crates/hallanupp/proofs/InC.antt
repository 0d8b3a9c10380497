-- A row and a panel row in C, from what the called functions say. Assumes nothing.
use mathlib.Core.Path.{◌≡◌, refl, sym, ap, ◌∙◌}
use mathlib.Core.List.{List, []}
use mathlib.Core.Option.{Option, none, some}
use Prim.Native.Nat.{ℕ, ◌*◌}
use native.Mathlib.Omega.{arith}
use lib.ListN.{take, drop, replicate}
use Rattle.base.specs.Refusals.{Refusal, first_fault}
use mathlib.Core.Logic.{◌≢◌}
use Rattle.rules.specs.Verdicts.{Verdict, Nothing, TheCall, accepted, refused_as}
use Rattle.rules.specs.RowBack.{row_checks, row_back}
use Rattle.rules.specs.Session.{Outcome, nothing_done}
use Rattle.rules.specs.Values.{padded}
use Rattle.rules.specs.Panel as page
use Rattle.session.specs.declared.SessionAnswer.{SessionAnswer}
use Rattle.session.specs.SessionAnswered.{answered}
use Rattle.panel.specs.declared.PanelRow.{PanelRow}
use Rattle.panel.specs.Shown.{shown_reading, shown_row}
use Rattle.rows.proofs.HandedRow.{Within, row_refused, row_given, row_within}
use Rattle.hallanupp.specs.declared.CVerdict.{CVerdict}
use Rattle.hallanupp.specs.declared.parts.CRow.{CRow}
use Rattle.hallanupp.specs.declared.panels.CPanelRow.{CPanelRow}
use Rattle.hallanupp.specs.declared.sessions.CSession.{CSession}
use Rattle.hallanupp.specs.SessionInC.{session_in_c}
use Rattle.hallanupp.specs.VerdictInC.{in_c}
use Rattle.hallanupp.specs.RowInC.{unless_refused, row_in_c}
use Rattle.hallanupp.specs.PanelInC.{reading_in_c, panel_in_c, held_tick}
use Rattle.hallanupp.proofs.HeldTick.{panel_held}
use Rattle.hallanupp.proofs.Said.{panel_none}

-- ---- a row handed back

abbrev pub row_at : CVerdict → ℕ → ℕ → CRow
row_at v start count = record { verdict = v; start = start; count = count }

module _ (own : List ℕ) (H booth n : ℕ) where
  pub row_none : (v : Verdict) → v ≡ (row_back own H booth n).verdict → v.refused ≢ Nothing
      → (row_at (in_c v) 0 0 ≡ row_in_c H booth n (row_back own H booth n).verdict) × ([] ≡ (row_back own H booth n).part)
  unfolding row_in_c unless_refused accepted refused_as
  row_none v said bad = go (first_fault (row_checks own H booth n)) refl
    where
      go : (o : Option Refusal) → first_fault (row_checks own H booth n) ≡ o
          → (row_at (in_c v) 0 0 ≡ row_in_c H booth n (row_back own H booth n).verdict) × ([] ≡ (row_back own H booth n).part)
      go none q = absurd (bad (ap (λ w. w.refused) said ∙ ap (λ a. a.verdict.refused) (row_given own H booth n q)))
      go (some r) q =
          let a = row_refused own H booth n r q in
          (ap (λ w. row_at (in_c w) 0 0) (said ∙ ap (λ x. x.verdict) a) ∙ sym (ap (λ x. row_in_c H booth n x.verdict) a), sym (ap (λ x. x.part) a))

  -- only a row that passes its checks is not refused
  row_passes : accepted ≡ (row_back own H booth n).verdict → first_fault (row_checks own H booth n) ≡ none
  unfolding accepted refused_as
  row_passes ok = go (first_fault (row_checks own H booth n)) refl
    where
      go : (o : Option Refusal) → first_fault (row_checks own H booth n) ≡ o → first_fault (row_checks own H booth n) ≡ none
      go none q = q
      go (some r) q =
          let same : Nothing ≡ TheCall = ap (λ w. w.refused) ok ∙ ap (λ a. a.verdict.refused) (row_refused own H booth n r q) in
          let z : ◌≡◌ {A = ℕ} 0 1 = cc in absurd (omega arith)

  pub row_inside : accepted ≡ (row_back own H booth n).verdict → Within own H booth n
  row_inside ok = row_within own H booth n (row_passes ok)

  pub row_there : accepted ≡ (row_back own H booth n).verdict
      → (row_at (in_c accepted) (booth * H) n ≡ row_in_c H booth n (row_back own H booth n).verdict) × (take n (drop (booth * H) own) ≡ (row_back own H booth n).part)
  unfolding row_in_c unless_refused accepted
  row_there ok =
      let a = row_given own H booth n (row_passes ok) in
      (sym (ap (λ x. row_in_c H booth n x.verdict) a), sym (ap (λ x. x.part) a))

-- ---- a panel row

abbrev panel_at : PanelRow → CVerdict → ℕ → CPanelRow
panel_at row v n = record { verdict = v; promised = row.promised; got = row.got; reading = n }

-- no shares, beside a refusal
abbrev bare : CVerdict → ℕ → CPanelRow
bare v n = record { verdict = v; promised = page.no_share; got = page.no_share; reading = n }

pub panel_bare : {v w : CVerdict} {n m : ℕ} → n ≡ m → v ≡ w → bare v n ≡ bare w m
panel_bare {v} {w} {n} {m} e f = ap (bare v) e ∙ ap (λ x. bare x m) f

module _ (table wall : List ℕ) (booth t tick : ℕ) (held : tick ≡ held_tick t) where
  same : page.panel table wall booth tick ≡ page.panel table wall booth t
  same = ap (page.panel table wall booth) held ∙ panel_held table wall booth t

  pub panel_said : (row : PanelRow) (n : ℕ) → accepted ≡ (page.panel table wall booth tick).verdict → row ≡ shown_row (page.panel table wall booth tick) → n ≡ reading_in_c row.reading
      → panel_at row (in_c accepted) n ≡ panel_in_c (page.panel table wall booth t)
  unfolding panel_in_c shown_row
  panel_said row n ok e g =
      let shown : row ≡ shown_row (page.panel table wall booth t) = e ∙ ap shown_row same in
      ap (panel_at row (in_c accepted)) g
      ∙ ap (λ v. panel_at row (in_c v) (reading_in_c row.reading)) (ok ∙ ap (λ p. p.verdict) same)
      ∙ ap (λ x. panel_at x (in_c (page.panel table wall booth t).verdict) (reading_in_c x.reading)) shown

  pub panel_refused_so : (v : Verdict) → v ≡ (page.panel table wall booth tick).verdict → v.refused ≢ Nothing
      → bare (in_c v) 0 ≡ panel_in_c (page.panel table wall booth t)
  unfolding panel_in_c shown_reading page.no_panel reading_in_c
  panel_refused_so v e bad = sym (ap panel_in_c (sym same ∙ panel_none table wall booth tick v e bad))

-- ---- a session

abbrev session_at : CVerdict → SessionAnswer → CSession
session_at v a = record { verdict = v; booths = a.booths; clocks = a.clocks; worked = a.worked; idle = a.idle; wall_ticks = a.horizon }

pub session_said : (a : SessionAnswer) (o : Outcome) → accepted ≡ o.verdict → a ≡ answered o → session_at (in_c accepted) a ≡ session_in_c o
unfolding session_in_c answered
session_said a o ok e = ap (session_at (in_c accepted)) e ∙ ap (λ v. session_at (in_c v) (answered o)) ok

-- zeros, beside a refusal
pub session_none : (c : CVerdict) (v : Verdict) (wall own : List ℕ) (o : Outcome) → c ≡ in_c v → o ≡ nothing_done v wall own
    → record { verdict = c; booths = 0; clocks = replicate 8 0; worked = replicate 8 0; idle = 0; wall_ticks = 0 } ≡ session_in_c o
unfolding session_in_c nothing_done padded
session_none c v wall own o e is =
    ap (λ x. record { verdict = x; booths = 0; clocks = replicate 8 0; worked = replicate 8 0; idle = 0; wall_ticks = 0 }) e ∙ sym (ap session_in_c is)
