-- The entries that wait from a place of the log on. Assumes nothing.
use mathlib.Core.Path.{◌≡◌, refl, ap, ◌∙◌}
use mathlib.Core.List.{List, [], ◌∷◌}
use Prim.Native.Nat.{ℕ, zero, suc, ◌+◌, ◌-◌, ◌*◌, ◌/◌, ◌≤◌, ◌<◌}
use native.Mathlib.Nat.{suc-add, zero-add, not-suc-le-zero, le_of_suc-le-suc}
use native.Mathlib.Omega.{arith}
use lib.ListN.{length, get_or}
use borrow.Author.Tests.{eq-eqb, ne_eqb}
use Rattle.rules.specs.ArrivalLog.{Entry, entry_at}
use Rattle.rules.specs.Session.{own_entries}
use Rattle.laws.specs.Ordered.{Sorted}
use Rattle.laws.proofs.Entries.{own_sorted}
use Rattle.arrivals.specs.Places.{entries_from, waiting_at, Place, WholeLog}

-- the first entry's place
pub first_place : {bs : List ℕ} → WholeLog bs → Place bs 9
first_place l = record { from = omega arith; inside = l.header; whole = l.whole }

-- before the log's end a place has a whole entry, and behind it is a place
pub whole_entry : (bs : List ℕ) (at : ℕ) → Place bs at → at < length bs → (at + 9 ≤ length bs) × Place bs (at + 9)
whole_entry bs at p h = (omega (arith, p.whole), record { from = omega (arith, p.from); inside = omega (arith, p.whole); whole = omega (arith, p.whole) })

module _ (bs : List ℕ) (number at : ℕ) (p : Place bs at) where
  pub waiting_end : length bs ≤ at → waiting_at bs number at ≡ []
  unfolding waiting_at entries_from own_entries
  waiting_end h =
      let none : (length bs - at) / 9 ≡ 0 = omega arith in
      rw none

  pub entries_step : at < length bs → entries_from ((length bs - at) / 9) bs at ≡ entry_at bs at ∷ entries_from ((length bs - (at + 9)) / 9) bs (at + 9)
  unfolding entries_from
  entries_step h =
      let more : (length bs - at) / 9 ≡ suc ((length bs - (at + 9)) / 9) = omega (arith, p.whole) in
      rw more

  -- the entry there is the booth's, or another's
  pub waiting_own : at < length bs → (entry_at bs at).booth ≡ number → waiting_at bs number at ≡ entry_at bs at ∷ waiting_at bs number (at + 9)
  unfolding waiting_at own_entries
  waiting_own h e = rw (entries_step h) (rw (eq-eqb _ _ e, own_entries))

  pub waiting_other : at < length bs → ((entry_at bs at).booth ≡ number → ⊥) → waiting_at bs number at ≡ waiting_at bs number (at + 9)
  unfolding waiting_at own_entries
  waiting_other h e = rw (entries_step h) (rw (ne_eqb _ _ e, own_entries))

-- behind m entries the others are still in order
later_sorted : (m n : ℕ) (bs : List ℕ) (at : ℕ) → Sorted (entries_from (m + n) bs at) → Sorted (entries_from n bs (at + m * 9))
unfolding entries_from
later_sorted zero n bs at s =
    let here : at + 0 * 9 ≡ at = omega arith in
    rw here (rw (zero-add n) at s)
later_sorted (suc m) n bs at s =
    let there : at + suc m * 9 ≡ at + 9 + m * 9 = omega arith in
    rw there (later_sorted m n bs (at + 9) (rw (suc-add m n) at s).1)

-- from a place on all entries are in order, and so are a booth's
pub entries_sorted : (bs : List ℕ) (at : ℕ) → WholeLog bs → Place bs at → Sorted (entries_from ((length bs - at) / 9) bs at)
entries_sorted bs at l p =
    let count : (length bs - 9) / 9 ≡ (at - 9) / 9 + (length bs - at) / 9 = omega (arith, l.whole, p.whole, p.from, p.inside) in
    let there : 9 + (at - 9) / 9 * 9 ≡ at = omega (arith, l.whole, p.whole, p.from, p.inside) in
    rw there at (later_sorted ((at - 9) / 9) ((length bs - at) / 9) bs 9 (rw count at l.sorted))

pub waiting_sorted : (bs : List ℕ) (number at : ℕ) → WholeLog bs → Place bs at → Sorted (waiting_at bs number at)
unfolding waiting_at
waiting_sorted bs number at l p = own_sorted number (entries_from ((length bs - at) / 9) bs at) (entries_sorted bs at l p)

-- ---- the entries by their number

pub length_from : (n : ℕ) (bs : List ℕ) (at : ℕ) → length (entries_from n bs at) ≡ n
unfolding entries_from
length_from zero bs at = refl
length_from (suc n) bs at = ap suc (length_from n bs (at + 9))

pub from_at : (n : ℕ) (bs : List ℕ) (at i : ℕ) (d : Entry) → i < n → get_or (entries_from n bs at) i d ≡ entry_at bs (at + 9 * i)
unfolding entries_from
from_at zero bs at i d h = absurd (not-suc-le-zero h)
from_at (suc n) bs at zero d h = ap (entry_at bs) (omega arith)
from_at (suc n) bs at (suc i) d h = from_at n bs (at + 9) i d (le_of_suc-le-suc h) ∙ ap (entry_at bs) (omega arith)

-- which entry lies at a place
pub place_index : (bs : List ℕ) (at n : ℕ) → length bs ≡ 9 + 9 * n → Place bs at → at < length bs → ((at - 9) / 9 < n) × (9 + 9 * ((at - 9) / 9) ≡ at)
place_index bs at n whole p l = (omega (arith, p.from, p.whole, p.inside), omega (arith, p.from, p.whole, p.inside))
