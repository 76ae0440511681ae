-- Which byte a position has in a map, for those who build on it.
use Prim.Native.Nat.{ℕ, zero, suc, ◌+◌, ◌≤◌, ◌<◌}
use mathlib.Core.Bool.{cond}
use mathlib.Core.List.{List, [], ◌∷◌, ◌++◌}
use mathlib.Core.Logic.{◌⊎◌, inl, inr, ⊎_elim}
use mathlib.Core.Path.{◌≡◌, refl, ap, sym, ◌∙◌}
use native.Mathlib.Nat.{not-suc-le-zero, le_of_suc-le-suc}
use native.Mathlib.Omega.{arith}
use lib.Dec.{leb, eqb}
use lib.ListN.{length, get_or, length-append}
use borrow.Author.Tests.{eq-eqb, ne_eqb, le-leb, lt-leb}
use Rattle.runs.specs.declared.Run.{Run}
use Rattle.runs.specs.Runs.{run, blank_run, runs_of, byte_of, Holds, run_byte}
use Rattle.numbers.specs.Lists.{All}
use Rattle.numbers.specs.Range.{Range, range, total}
use Rattle.numbers.specs.Sums.{top}
use Rattle.regionmap.specs.Map.{Placement, EndToEnd, file_end, longer, extended_runs, extended, with_first, placed, with_room, published, last_at, run_of, byte_at, Lays}
use Rattle.runs.proofs.Positions.{in_one_run}
use Rattle.numbers.proofs.Cases.{cases, by_lt, by_eq}
use Rattle.numbers.proofs.Sums.{total_one}
use Rattle.regionmap.proofs.Extents.{extended_cons, runs_none, runs_first, runs_next, runs_laid, none_total}
use Rattle.regionmap.proofs.Order.{laid_behind}

-- ---- the runs of an extended map

-- a run alone: the extension joins it, or stands behind it
module _ (r : Run) (cap f n : ℕ) where
  one_joins : r.file + r.len ≡ f → extended_runs (r ∷ []) cap f n ≡ run r.start r.file (r.len + n) ∷ []
  unfolding file_end longer extended_runs
  one_joins e = simp (eq-eqb _ _ e)

  one_more : (r.file + r.len ≡ f → ⊥) → extended_runs (r ∷ []) cap f n ≡ r ∷ run cap f n ∷ []
  unfolding file_end extended_runs
  one_more d = simp (ne_eqb _ _ d)

pub extended_laid : (rs : List Run) (a cap f n : ℕ) → 0 < length rs → EndToEnd a rs cap → EndToEnd a (extended_runs rs cap f n) (cap + n)
extended_laid [] a cap f n h l = absurd (omega arith)
extended_laid (r ∷ []) a cap f n h l =
    by_eq (r.file + r.len) f (λ e. rw (one_joins r cap f n e) (l.0, omega (arith, l.1)))
    (λ d. rw (one_more r cap f n d) (l.0, (sym l.1, omega (arith, l.1))))
extended_laid (r ∷ q ∷ qs) a cap f n h l = rw (extended_cons r (q ∷ qs) cap f n (omega arith)) (l.0, extended_laid (q ∷ qs) (a + r.len) cap f n (omega arith) l.1)

pub extended_inside : (rs : List Run) (cap f n : ℕ) → 0 < length rs → f + n ≤ top → All (λ (r : Run). r.file + r.len ≤ top) rs → All (λ (r : Run). r.file + r.len ≤ top) (extended_runs rs cap f n)
extended_inside [] cap f n h t a = absurd (omega arith)
extended_inside (r ∷ []) cap f n h t a =
    by_eq (r.file + r.len) f (λ e. rw (one_joins r cap f n e) (omega arith, tt))
    (λ d. rw (one_more r cap f n d) (a.0, (t, tt)))
extended_inside (r ∷ q ∷ qs) cap f n h t a = rw (extended_cons r (q ∷ qs) cap f n (omega arith)) (a.0, extended_inside (q ∷ qs) cap f n (omega arith) t a.1)

pub longer_length : (n : ℕ) (rs : List Run) → length (longer n rs) ≡ length rs
unfolding longer
longer_length n [] = refl
longer_length n (r ∷ []) = refl
longer_length n (r ∷ q ∷ qs) = ap suc (longer_length n (q ∷ qs))

-- no run more where the extension joins the last run, else one
pub extended_length : (rs : List Run) (cap f n : ℕ) → length (extended_runs rs cap f n) ≡ cond (eqb (file_end rs) f) (length rs) (length rs + 1)
unfolding extended_runs
extended_length rs cap f n =
    cases (eqb (file_end rs) f) (λ e. simp e (longer_length n rs)) (λ e. simp e (length-append rs (run cap f n ∷ [])))

-- ---- the run of a position

-- a position in front of the runs is held by r
last_holds : (p : ℕ) (r : Run) (rs : List Run) (a cap : ℕ) → EndToEnd a rs cap → p < cap → (p < a → Holds r p) → Holds (last_at p r rs) p
unfolding last_at
last_holds p r [] a cap l h k = k (omega arith)
last_holds p r (q ∷ qs) a cap l h k =
    by_lt p a
    (λ b. simp (lt-leb q.start p (omega (arith, l.0))) (last_holds p r qs (a + q.len) cap l.1 h (λ c. k b)))
    (λ b. simp (le-leb q.start p (omega (arith, l.0))) (last_holds p q qs (a + q.len) cap l.1 h (λ c. record { from = omega (arith, l.0); upto = omega (arith, l.0) })))

pub run_holds : (rs : List Run) (cap p : ℕ) → EndToEnd 0 rs cap → p < cap → Holds (run_of rs p) p
run_holds rs cap p l h = last_holds p blank_run rs 0 cap l h (λ z. absurd (not-suc-le-zero z))

-- no run starts at or below p
pub last_none : (p : ℕ) (r : Run) (rs : List Run) → ((j : ℕ) → j < length rs → p < (get_or rs j blank_run).start) → last_at p r rs ≡ r
unfolding last_at
last_none p r [] f = refl
last_none p r (q ∷ qs) f = simp (lt-leb q.start p (f 0 (omega arith))) (last_none p r qs (λ j h. f (suc j) (omega arith)))

last-at : (p : ℕ) (r : Run) (rs : List Run) (k : ℕ) → k < length rs → (get_or rs k blank_run).start ≤ p →
    ((j : ℕ) → k < j → j < length rs → p < (get_or rs j blank_run).start) → last_at p r rs ≡ get_or rs k blank_run
unfolding last_at
last-at p r [] k h s f = absurd (not-suc-le-zero h)
last-at p r (q ∷ qs) zero h s f = simp (le-leb q.start p s) (last_none p q qs (λ j l. f (suc j) (omega arith) (omega arith)))
last-at p r (q ∷ qs) (suc k) h s f = last-at p (cond (leb q.start p) q r) qs k (le_of_suc-le-suc h) s (λ j l m. f (suc j) (omega arith) (omega arith))

pub run_at : (rs : List Run) (p k : ℕ) → k < length rs → (get_or rs k blank_run).start ≤ p → ((j : ℕ) → k < j → j < length rs → p < (get_or rs j blank_run).start) → run_of rs p ≡ get_or rs k blank_run
run_at rs p k h s f = last-at p blank_run rs k h s f

-- no other run holds it
pub run_only : (rs : List Run) (cap p j : ℕ) → EndToEnd 0 rs cap → j < length rs → Holds (get_or rs j blank_run) p → get_or rs j blank_run ≡ run_of rs p
run_only rs cap p j l h k =
    sym (run_at rs p j h k.from (λ i b m. let e = laid_behind rs 0 cap j i l b m in omega (arith, k.upto)))

-- ---- no call moves a byte

byte_longer : (p n : ℕ) (r : Run) (rs : List Run) → run_byte (last_at p r (longer n rs)) p ≡ run_byte (last_at p r rs) p
unfolding last_at longer
byte_longer p n r [] = refl
byte_longer p n r (q ∷ []) = cases (leb q.start p) (λ e. simp e) (λ e. simp e)
byte_longer p n r (q ∷ s ∷ rs) = byte_longer p n (cond (leb q.start p) q r) (s ∷ rs)

last_added : (p : ℕ) (r : Run) (rs : List Run) (s : Run) → p < s.start → last_at p r (rs ++ (s ∷ [])) ≡ last_at p r rs
unfolding last_at
last_added p r [] s h = simp (lt-leb s.start p h)
last_added p r (q ∷ qs) s h = last_added p (cond (leb q.start p) q r) qs s h

pub byte_extended : (m : Placement) (f n p : ℕ) → p < m.capacity → byte_at (extended m f n) p ≡ byte_at m p
unfolding extended_runs
byte_extended m f n p h =
    cases (eqb (file_end m.runs) f) (λ e. simp e (byte_longer p n blank_run m.runs))
    (λ e. simp e (ap (λ (r : Run). run_byte r p) (last_added p blank_run m.runs (run m.capacity f n) h)))

pub byte_roomed : (m : Placement) (n p : ℕ) → byte_at (with_room m n) p ≡ byte_at m p
byte_roomed m n p = refl

pub byte_published : (m : Placement) (n p : ℕ) → byte_at (published m n) p ≡ byte_at m p
byte_published m n p = refl

-- ---- the extents of a map

first_added : (rs : List Run) → (with_first rs ≡ rs) ⊎ (with_first rs ≡ blank_run ∷ rs)
first_added [] = inr refl
first_added (r ∷ rs) = inl refl

pub lays_placed : (xs : List Range) (n : ℕ) → Lays (placed xs n) xs
lays_placed xs n = record { runs = first_added (runs_of xs); capacity = refl }

pub lays_roomed : (m : Placement) (xs : List Range) (n : ℕ) → Lays m xs → Lays (with_room m n) xs
lays_roomed m xs n l = record { runs = l.runs; capacity = l.capacity }

pub lays_published : (m : Placement) (xs : List Range) (n : ℕ) → Lays m xs → Lays (published m n) xs
lays_published m xs n l = record { runs = l.runs; capacity = l.capacity }

some_run : (rs : List Run) → (rs ≡ [] → ⊥) → 0 < length rs
some_run [] d = absurd (d refl)
some_run (r ∷ rs) d = omega arith

-- an empty run in front, and no other
blank_extended : (f n : ℕ) → (extended_runs (blank_run ∷ []) 0 f n ≡ run 0 f n ∷ []) ⊎ (extended_runs (blank_run ∷ []) 0 f n ≡ blank_run ∷ run 0 f n ∷ [])
blank_extended f n =
    let z : 0 + n ≡ n = omega arith in
    by_eq 0 f (λ e. inl (one_joins blank_run 0 f n e ∙ rw (z, e)))
    (λ d. inr (one_more blank_run 0 f n d))

-- what `Lays` says of runs
abbrev Behind : List Run → List Range → Type 0
Behind rs xs = (rs ≡ runs_of xs) ⊎ (rs ≡ blank_run ∷ runs_of xs)

module _ (xs : List Range) (f n : ℕ) (h : 0 < n) where
  -- the first extent that is not empty
  behind_first : (rs : List Run) → 0 < length rs → total xs ≡ 0 → Behind rs xs → Behind (extended_runs rs (total xs) f n) (xs ++ (range f n ∷ []))
  behind_first rs s z (inl e) = let l = ap length (e ∙ runs_none xs z) in absurd (omega arith)
  behind_first rs s z (inr e) = rw (e, z, runs_none xs z, runs_first xs (range f n) h z) (blank_extended f n)

  -- a later one
  module _ (p : 0 < total xs) (c : total xs + n ≤ top) (t : f ≤ top) where
    next : runs_of (xs ++ (range f n ∷ [])) ≡ extended_runs (runs_of xs) (total xs) f n
    next = runs_next xs (range f n) h p c t

    behind_next : (rs : List Run) → Behind rs xs → Behind (extended_runs rs (total xs) f n) (xs ++ (range f n ∷ []))
    behind_next rs (inl e) = inl (rw (e, next))
    behind_next rs (inr e) =
        let s = some_run (runs_of xs) (λ z. let b = none_total xs z in omega arith) in
        inr (rw (e, next) (extended_cons blank_run (runs_of xs) (total xs) f n s))

-- every map has a first run (`some_run` in proofs/Means)
pub lays_extended : (m : Placement) (xs : List Range) (f n : ℕ) → 0 < length m.runs → Lays m xs → 0 < n → m.capacity + n ≤ top → f + n ≤ top → Lays (extended m f n) (xs ++ (range f n ∷ []))
lays_extended m xs f n s l h c t =
    let e = l.capacity in
    record {
      runs =
          rw e
          (by_lt 0 (total xs) (λ b. behind_next xs f n h b (omega arith) (omega arith) m.runs l.runs)
          (λ b. behind_first xs f n h m.runs s (omega arith) l.runs));
      capacity = ap (λ (k : ℕ). k + n) e ∙ sym (total_one xs (range f n));
    }

-- an empty run in front changes nothing
blank_front : (p : ℕ) (rs : List Run) → run_of (blank_run ∷ rs) p ≡ run_of rs p
unfolding last_at
blank_front p rs = simp (le-leb 0 p (omega arith))

pub run_laid : (m : Placement) (xs : List Range) (p : ℕ) → Lays m xs → run_of m.runs p ≡ run_of (runs_of xs) p
run_laid m xs p l = ⊎_elim (λ e. rw e) (λ e. rw e (blank_front p (runs_of xs))) l.runs

pub byte_laid : (m : Placement) (xs : List Range) (p : ℕ) → Lays m xs → m.capacity ≤ top → p < m.capacity → byte_at m p ≡ byte_of xs p
byte_laid m xs p l c h =
    let i = in_one_run xs p (omega (arith, l.capacity)) in
    let o = run_only (runs_of xs) (total xs) p i.place (runs_laid xs (omega (arith, l.capacity))) i.inside i.holds in
    ap (λ (r : Run). run_byte r p) (run_laid m xs p l ∙ sym o) ∙ i.byte

-- the byte of each position of a map just made
pub byte_placed : (xs : List Range) (n p : ℕ) → total xs ≤ top → p < total xs → byte_at (placed xs n) p ≡ byte_of xs p
byte_placed xs n p h l = byte_laid (placed xs n) xs p (lays_placed xs n) h l
