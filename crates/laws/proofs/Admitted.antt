-- The reader of the table admits exactly by the response test, booth 0 first. Assumes nothing.
use mathlib.Core.Path.{◌≡◌, refl, sym, ap, ◌∙◌, subst}
use mathlib.Core.Bool.{Bool, true, false, true≢false, false≢true}
use mathlib.Core.List.{List, [], ◌∷◌, ◌++◌, append_assoc, append-nil}
use mathlib.Core.Option.{Option, none, some}
use Prim.Native.Nat.{ℕ, zero, suc, ◌+◌, ◌≤◌, ◌<◌}
use native.Mathlib.Nat.{not-suc-le-zero, le_of_suc-le-suc}
use native.Mathlib.Decide.{dec_lt, ℕ_discrete}
use native.Mathlib.Omega.{arith}
use lib.Dec.{leb}
use lib.ListN.{length, get_or, take}
use borrow.Author.Tests.{leb-true, le-leb}
use Rattle.base.specs.Refusals.{Taken, taken, refused, refusal, not_admitted}
use Rattle.rules.specs.BoothTable.{Line, Placed, lines_of, starts_of, no_line, read_lines}
use Rattle.rules.specs.Admission.{asked_above, some_up_to, passes, first_failing, read_table}
use Rattle.base.proofs.Checks.{refused_with}
use Rattle.rules.proofs.SaidNumbers.{BeforeAdmission, lines_say}
use Rattle.laws.specs.Statements.{Passes, FirstFails, Admission}
use Rattle.laws.proofs.NoFault.{taken_or_refused, taken_once, refused_once, some_not_none, some_once}
use Rattle.laws.proofs.Readers.{Lines, read_lines_lem}

-- ---- one booth's test

found : (n : ℕ) (test : ℕ → Bool) → some_up_to n test ≡ true → (R : ℕ) × (1 ≤ R) × (R ≤ n) × (test R ≡ true)
unfolding some_up_to
found zero test h = absurd (false≢true h)
found (suc n) test h = go (test (suc n)) refl (λ r. found n test r)
  where
    go : (c : Bool) → test (suc n) ≡ c → (some_up_to n test ≡ true → (R : ℕ) × (1 ≤ R) × (R ≤ n) × (test R ≡ true))
        → (R : ℕ) × (1 ≤ R) × (R ≤ suc n) × (test R ≡ true)
    go true q ih = (suc n, omega arith, omega arith, q)
    go false q ih = let (R, a, b, c) = ih (rw (q, some_up_to) at h) in (R, a, omega arith, c)

finds : (n : ℕ) (test : ℕ → Bool) (R : ℕ) → 1 ≤ R → R ≤ n → test R ≡ true → some_up_to n test ≡ true
unfolding some_up_to
finds zero test R a b c = absurd (omega arith)
finds (suc n) test R a b c = go (test (suc n)) refl (λ k. finds n test R a k c)
  where
    go : (d : Bool) → test (suc n) ≡ d → (R ≤ n → some_up_to n test ≡ true) → some_up_to (suc n) test ≡ true
    go true q ih = rw (q, some_up_to)
    go false q ih = rw (q, some_up_to) (ih (smaller (ℕ_discrete R (suc n))))
      where
        smaller : Dec (R ≡ suc n) → R ≤ n
        smaller (yes e) = absurd (true≢false (sym c ∙ ap test e ∙ q))
        smaller (no e) = omega arith

pub passes_means : (above : List Line) (l : Line) → passes above l ≡ true → Passes above l
unfolding passes
passes_means above l h =
    let (R, a, b, c) = found l.promise.period (λ R. leb (l.promise.allowance + asked_above above R) R) h in
    (R, a, b, leb-true (l.promise.allowance + asked_above above R) R c)

pub means_passes : (above : List Line) (l : Line) → Passes above l → passes above l ≡ true
unfolding passes
means_passes above l (R, a, b, c) =
    finds l.promise.period (λ R. leb (l.promise.allowance + asked_above above R) R) R a b (le-leb (l.promise.allowance + asked_above above R) R c)

-- ---- all booths, below some that passed

all_pass : (n : ℕ) (above ls : List Line) → first_failing n above ls ≡ none → (i : ℕ) → i < length ls → Passes (above ++ take i ls) (get_or ls i no_line)
unfolding first_failing
all_pass n above [] h i k = absurd (not-suc-le-zero k)
all_pass n above (l ∷ ls) h i k = go (passes above l) refl (λ e j m. all_pass (suc n) (above ++ (l ∷ [])) ls e j m) i k
  where
    go : (c : Bool) → passes above l ≡ c
        → (first_failing (suc n) (above ++ (l ∷ [])) ls ≡ none → (j : ℕ) → j < length ls → Passes ((above ++ (l ∷ [])) ++ take j ls) (get_or ls j no_line))
        → (i : ℕ) → i < suc (length ls) → Passes (above ++ take i (l ∷ ls)) (get_or (l ∷ ls) i no_line)
    go false q ih i k = absurd (some_not_none _ (rw (q, first_failing) at h))
    go true q ih zero k = rw append-nil (passes_means above l q)
    go true q ih (suc j) k = subst (λ x. Passes x (get_or ls j no_line)) (append_assoc above (l ∷ []) (take j ls)) (ih (rw (q, first_failing) at h) j (le_of_suc-le-suc k))

record Fails (n : ℕ) (above ls : List Line) (at : ℕ) : Type 0 where
  booth : ℕ
  there : booth < length ls
  before : (j : ℕ) → j < booth → Passes (above ++ take j ls) (get_or ls j no_line)
  fails : ¬ (Passes (above ++ take booth ls) (get_or ls booth no_line))
  number : n + booth ≡ at

one_fails : (n : ℕ) (above ls : List Line) (at : ℕ) → first_failing n above ls ≡ some at → Fails n above ls at
unfolding first_failing
one_fails n above [] at h = absurd (some_not_none at (sym h))
one_fails n above (l ∷ ls) at h = go (passes above l) refl (λ e. one_fails (suc n) (above ++ (l ∷ [])) ls at e)
  where
    next : (j : ℕ) → (above ++ (l ∷ [])) ++ take j ls ≡ above ++ take (suc j) (l ∷ ls)
    next j = append_assoc above (l ∷ []) (take j ls)

    down : passes above l ≡ true → Fails (suc n) (above ++ (l ∷ [])) ls at → Fails n above (l ∷ ls) at
    down q f =
        record {
          booth = suc f.booth;
          there = omega (arith, f.there);
          before = λ j k. earlier j k;
          fails = λ p. f.fails (subst (λ x. Passes x (get_or ls f.booth no_line)) (sym (next f.booth)) p);
          number = omega (arith, f.number);
        }
      where
        earlier : (j : ℕ) → j < suc f.booth → Passes (above ++ take j (l ∷ ls)) (get_or (l ∷ ls) j no_line)
        earlier zero k = rw append-nil (passes_means above l q)
        earlier (suc j) k = subst (λ x. Passes x (get_or ls j no_line)) (next j) (f.before j (le_of_suc-le-suc k))

    go : (c : Bool) → passes above l ≡ c → (first_failing (suc n) (above ++ (l ∷ [])) ls ≡ some at → Fails (suc n) (above ++ (l ∷ [])) ls at) → Fails n above (l ∷ ls) at
    go true q ih = down q (ih (rw (q, first_failing) at h))
    go false q ih =
        record {
          booth = 0;
          there = omega arith;
          before = λ j k. absurd (not-suc-le-zero k);
          fails = λ p. true≢false (sym (means_passes above l (rw append-nil at p)) ∙ q);
          number = omega (arith, some_once n at (rw (q, first_failing) at h));
        }

-- ---- the table

-- the records of a table that is taken, and that each of its booths passes
pub record Admits (bs : List ℕ) (ls : List Line) : Type 0 where
  pub records : List Placed
  pub read : read_lines bs ≡ taken records
  pub lines : lines_of records ≡ ls
  pub pass : (i : ℕ) → i < length ls → Passes (take i ls) (get_or ls i no_line)

pub read_table_lem : (bs : List ℕ) (ls : List Line) → read_table bs ≡ taken ls → Admits bs ls
unfolding read_table
read_table_lem bs ls h = lines (read_lines bs) refl
  where
    tested : (ps : List Placed) → read_lines bs ≡ taken ps → (f : Option ℕ) → first_failing 0 [] (lines_of ps) ≡ f → Admits bs ls
    tested ps q (some i) p = absurd (taken_or_refused ls _ (rw p at (rw (q, read_table) at h)))
    tested ps q none p =
        let same = taken_once (lines_of ps) ls (rw p at (rw (q, read_table) at h)) in
        subst (Admits bs) same (record { records = ps; read = q; lines = refl; pass = all_pass 0 [] (lines_of ps) p })

    lines : (t : Taken (List Placed)) → read_lines bs ≡ t → Admits bs ls
    lines (refused r) q = absurd (taken_or_refused ls r (rw (q, read_table) at h))
    lines (taken ps) q = tested ps q (first_failing 0 [] (lines_of ps)) refl

-- the lines of a table that is taken: 1 to 8 booths, each in range
pub table_lines : (bs : List ℕ) (ls : List Line) → read_table bs ≡ taken ls → Lines ls
table_lines bs ls h = let a = read_table_lem bs ls h in subst Lines a.lines (read_lines_lem bs a.records a.read)

admits : (bs : List ℕ) (ps : List Placed) → read_lines bs ≡ taken ps → ((i : ℕ) → i < length (lines_of ps) → Passes (take i (lines_of ps)) (get_or (lines_of ps) i no_line))
    → read_table bs ≡ taken (lines_of ps)
unfolding read_table
admits bs ps q all = go (first_failing 0 [] (lines_of ps)) refl
  where
    go : (f : Option ℕ) → first_failing 0 [] (lines_of ps) ≡ f → read_table bs ≡ taken (lines_of ps)
    go none p = rw (q, read_table) (rw p)
    go (some i) p = let f = one_fails 0 [] (lines_of ps) i p in absurd (f.fails (all f.booth f.there))

-- where the first booth that fails has its record
pub record Refuses (bs : List ℕ) (at : ℕ) : Type 0 where
  pub records : List Placed
  pub booth : ℕ
  pub read : read_lines bs ≡ taken records
  pub first : FirstFails (lines_of records) booth
  pub place : get_or (starts_of records) booth 0 ≡ at

first_failing_lem : (ls : List Line) (i : ℕ) → first_failing 0 [] ls ≡ some i → FirstFails ls i
first_failing_lem ls i p =
    let f = one_fails 0 [] ls i p in
    subst (FirstFails ls) (omega (arith, f.number)) (record { there = f.there; before = f.before; fails = f.fails })

refuses : (bs : List ℕ) (at : ℕ) → read_table bs ≡ refused (refusal not_admitted at) → Refuses bs at
unfolding read_table refusal
refuses bs at h = lines (read_lines bs) refl
  where
    tested : (ps : List Placed) → read_lines bs ≡ taken ps → (f : Option ℕ) → first_failing 0 [] (lines_of ps) ≡ f → Refuses bs at
    tested ps q none p = absurd (taken_or_refused (lines_of ps) _ (sym (rw p at (rw (q, read_table) at h))))
    tested ps q (some i) p =
        let e = refused_once (refusal not_admitted (get_or (starts_of ps) i 0)) (refusal not_admitted at) (rw p at (rw (q, read_table) at h)) in
        record { records = ps; booth = i; read = q; first = first_failing_lem (lines_of ps) i p; place = ap (λ r. r.place) e }

    lines : (t : Taken (List Placed)) → read_lines bs ≡ t → Refuses bs at
    lines (refused r) q =
        let e = refused_once r (refusal not_admitted at) (rw (q, read_table) at h) in
        absurd (omega (arith, ap (λ x. x.number) e, refused_with BeforeAdmission (read_lines bs) r (lines_say bs) q))
    lines (taken ps) q = tested ps q (first_failing 0 [] (lines_of ps)) refl

some_fails : (bs : List ℕ) (ps : List Placed) (i : ℕ) → read_lines bs ≡ taken ps → i < length (lines_of ps) → ¬ (Passes (take i (lines_of ps)) (get_or (lines_of ps) i no_line))
    → (at : ℕ) × (read_table bs ≡ refused (refusal not_admitted at))
unfolding read_table
some_fails bs ps i q h f = go (first_failing 0 [] (lines_of ps)) refl
  where
    go : (x : Option ℕ) → first_failing 0 [] (lines_of ps) ≡ x → (at : ℕ) × (read_table bs ≡ refused (refusal not_admitted at))
    go none p = absurd (f (all_pass 0 [] (lines_of ps) p i h))
    go (some j) p = (get_or (starts_of ps) j 0, rw (q, read_table) (rw p))

-- of two first ones neither stands before the other
first_once : (ls : List Line) (i j : ℕ) → FirstFails ls i → FirstFails ls j → i ≡ j
first_once ls i j a b = go (dec_lt i j) (dec_lt j i)
  where
    go : Dec (i < j) → Dec (j < i) → i ≡ j
    go (yes k) m = absurd (a.fails (b.before i k))
    go (no k) (yes m) = absurd (b.fails (a.before j m))
    go (no k) (no m) = omega arith

fails_refused : (bs : List ℕ) (at : ℕ) → Refuses bs at → read_table bs ≡ refused (refusal not_admitted at)
unfolding read_table
fails_refused bs at r = go (first_failing 0 [] (lines_of r.records)) refl
  where
    go : (x : Option ℕ) → first_failing 0 [] (lines_of r.records) ≡ x → read_table bs ≡ refused (refusal not_admitted at)
    go none p = absurd (r.first.fails (all_pass 0 [] (lines_of r.records) p r.booth r.first.there))
    go (some i) p =
        let same : i ≡ r.booth = first_once (lines_of r.records) i r.booth (first_failing_lem (lines_of r.records) i p) r.first in
        rw (r.read, read_table) (rw p (ap (λ x. refused (refusal not_admitted x)) (ap (λ x. get_or (starts_of r.records) x 0) same ∙ r.place)))

pub admission : Admission
admission =
    record {
      admits = λ bs ls. (λ h. let a = read_table_lem bs ls h in (a.records, a.read, a.lines, a.pass), λ (ps, q, e, all). back bs ls ps q e all);
      some_fails = some_fails;
      refuses = λ bs at. (
        λ h. let r = refuses bs at h in (r.records, r.booth, r.read, r.first, r.place),
        λ (ps, i, q, f, e). fails_refused bs at (record { records = ps; booth = i; read = q; first = f; place = e }),
      );
    }
  where
    back : (bs : List ℕ) (ls : List Line) (ps : List Placed) → read_lines bs ≡ taken ps → lines_of ps ≡ ls
        → ((i : ℕ) → i < length ls → Passes (take i ls) (get_or ls i no_line)) → read_table bs ≡ taken ls
    back bs ls ps q e all =
        admits bs ps q (subst (λ x. (i : ℕ) → i < length x → Passes (take i x) (get_or x i no_line)) (sym e) all) ∙ ap taken e
