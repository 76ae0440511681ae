-- The runs of extents, one extent after another.
use Prim.Native.Nat.{suc, ℕ, ◌+◌, ◌≤◌, ◌<◌}
use mathlib.Core.Bool.{false}
use mathlib.Core.List.{List, [], ◌∷◌, ◌++◌}
use mathlib.Core.Path.{◌≡◌, refl, ap, sym, ◌∙◌}
use native.Mathlib.Omega.{arith}
use lib.Dec.{eqb}
use lib.ListN.{length}
use borrow.Author.Tests.{eq-eqb, ne_eqb, ltb-false}
use Rattle.runs.specs.declared.Run.{Run}
use Rattle.runs.specs.Runs.{run, not_empty, joins, joined_to, joined, runs_from, runs_of}
use Rattle.numbers.specs.Lists.{All}
use Rattle.numbers.specs.Range.{Range, range, total}
use Rattle.numbers.specs.Refusals.{each_extent}
use Rattle.numbers.specs.Sums.{top, stop, sum}
use Rattle.regionmap.specs.Map.{EndToEnd, file_end, longer, extended_runs, passes_top}
use Rattle.runs.proofs.Bytes.{from_length}
use Rattle.runs.proofs.Joining.{joins_true, true_joins}
use Rattle.runs.proofs.Positions.{total_joined, total_not_empty}
use Rattle.numbers.proofs.Cases.{cases, by_eq}
use Rattle.numbers.proofs.Lists.{all_imp}
use Rattle.numbers.proofs.Refusals.{each_inside, each_sum}

-- ---- an extent more, of length 0

skips : (xs : List Range) (x : Range) → x.len ≡ 0 → not_empty (xs ++ (x ∷ [])) ≡ not_empty xs
unfolding not_empty
skips [] x z = simp (eq-eqb _ _ z)
skips (y ∷ ys) x z = rw (skips ys x z)

pub runs_skip : (xs : List Range) (x : Range) → x.len ≡ 0 → runs_of (xs ++ (x ∷ [])) ≡ runs_of xs
runs_skip xs x z = ap (λ (l : List Range). runs_from 0 (joined l)) (skips xs x z)

-- ---- extents without a byte

empty : (xs : List Range) → total xs ≡ 0 → not_empty xs ≡ []
unfolding not_empty sum
empty [] z = refl
empty (x ∷ xs) z = let e : x.len ≡ 0 = omega arith in simp (eq-eqb _ _ e) (empty xs (omega arith))

pub runs_none : (xs : List Range) → total xs ≡ 0 → runs_of xs ≡ []
unfolding joined runs_from
runs_none xs z = rw (empty xs z)

from_none : (b : ℕ) (ys : List Range) → runs_from b ys ≡ [] → total ys ≡ 0
unfolding runs_from sum
from_none b [] e = refl
from_none b (y ∷ ys) e = let l = ap length e in absurd (omega arith)

pub none_total : (xs : List Range) → runs_of xs ≡ [] → total xs ≡ 0
none_total xs e = sym (total_joined (not_empty xs) ∙ total_not_empty xs) ∙ from_none 0 (joined (not_empty xs)) e

-- ---- an extent more, not of length 0

keeps : (xs : List Range) (x : Range) → 0 < x.len → not_empty (xs ++ (x ∷ [])) ≡ not_empty xs ++ (x ∷ [])
unfolding not_empty
keeps [] x h = simp (ne_eqb x.len 0 (λ z. omega arith))
keeps (y ∷ ys) x h = cases (eqb y.len 0) (λ e. simp e (keeps ys x h)) (λ e. simp e (ap (λ (l : List Range). y ∷ l) (keeps ys x h)))

pub runs_first : (xs : List Range) (x : Range) → 0 < x.len → total xs ≡ 0 → runs_of (xs ++ (x ∷ [])) ≡ run 0 x.offset x.len ∷ []
unfolding joined_to joined runs_from
runs_first xs x h z = rw (keeps xs x h, empty xs z)

-- where the lengths fit, an extent joins a range that ends at its offset
joins_end : (r x : Range) → x.offset ≤ top → r.len + x.len ≤ top → joins r x ≡ eqb (r.offset + r.len) x.offset
joins_end r x o l =
    by_eq (r.offset + r.len) x.offset
    (λ e. true_joins r x (record { ends = e; below = omega arith; short = l }) ∙ sym (eq-eqb _ _ e))
    (λ d. cases (joins r x) (λ t. absurd (d (joins_true r x t).ends)) (λ f. f ∙ sym (ne_eqb _ _ d)))

-- only the last run changes
pub extended_cons : (r : Run) (rs : List Run) (cap f n : ℕ) → 0 < length rs → extended_runs (r ∷ rs) cap f n ≡ r ∷ extended_runs rs cap f n
unfolding file_end longer extended_runs
extended_cons r [] cap f n h = absurd (omega arith)
extended_cons r (q ∷ qs) cap f n h = cases (eqb (file_end (q ∷ qs)) f) (λ e. simp e) (λ e. simp e)

from_some : (b : ℕ) (r : Range) (xs : List Range) → 0 < length (runs_from b (joined_to r xs))
unfolding joined_to runs_from
from_some b r [] = omega arith
from_some b r (x ∷ xs) = cases (joins r x) (λ e. simp e (from_some b (range r.offset (r.len + x.len)) xs)) (λ e. simp e (omega arith))

-- b is the sum of the lengths in front of r, cap that of all in front of x
module _ (x : Range) (o : x.offset ≤ top) where
  next_one : (b : ℕ) (r : Range) (cap : ℕ) → b + r.len ≡ cap → cap + x.len ≤ top → runs_from b (joined_to r (x ∷ [])) ≡ extended_runs (runs_from b (r ∷ [])) cap x.offset x.len
  unfolding joined_to runs_from file_end longer extended_runs
  next_one b r cap c h =
      let e : stop (b + r.len) ≡ cap = omega arith in
      rw (joins_end r x o (omega arith))
      (cases (eqb (r.offset + r.len) x.offset) (λ t. simp t) (λ t. simp (t, e)))

  next_to : (b : ℕ) (r : Range) (xs : List Range) (cap : ℕ) → b + (r.len + total xs) ≡ cap → cap + x.len ≤ top → runs_from b
      (joined_to r (xs ++ (x ∷ []))) ≡ extended_runs (runs_from b (joined_to r xs)) cap x.offset x.len
  unfolding joined_to runs_from sum
  next_to b r [] cap c h = next_one b r cap (omega arith) h
  next_to b r (y ∷ ys) cap c h =
      cases (joins r y) (λ e. simp e (next_to b (range r.offset (r.len + y.len)) ys cap (omega arith) h))
      (λ e. simp e
      (ap (λ (l : List Run). run (stop b) r.offset r.len ∷ l) (next_to (b + r.len) y ys cap (omega arith) h)
      ∙ sym (extended_cons _ _ _ _ _ (from_some (b + r.len) y ys))))

  next : (ys : List Range) (cap : ℕ) → total ys ≡ cap → 0 < cap → cap + x.len ≤ top → runs_from 0 (joined (ys ++ (x ∷ []))) ≡ extended_runs (runs_from 0 (joined ys)) cap x.offset x.len
  unfolding joined sum
  next [] cap c p h = absurd (omega arith)
  next (r ∷ rs) cap c p h = next_to 0 r rs cap (omega arith) h

pub runs_next : (xs : List Range) (x : Range) → 0 < x.len → 0 < total xs → total xs + x.len ≤ top → x.offset ≤ top → runs_of (xs ++ (x ∷ [])) ≡ extended_runs (runs_of xs) (total xs) x.offset x.len
runs_next xs x n p h o = ap (λ (l : List Range). runs_from 0 (joined l)) (keeps xs x n) ∙ next x o (not_empty xs) (total xs) (total_not_empty xs) p h

-- ---- how runs lie

pub from_laid : (b : ℕ) (ys : List Range) (cap : ℕ) → b + total ys ≡ cap → cap ≤ top → EndToEnd b (runs_from b ys) cap
unfolding runs_from sum
from_laid b [] cap c h = omega arith
from_laid b (y ∷ ys) cap c h = (omega arith, from_laid (b + y.len) ys cap (omega arith) h)

pub runs_laid : (xs : List Range) → total xs ≤ top → EndToEnd 0 (runs_of xs) (total xs)
runs_laid xs h =
    let t = total_joined (not_empty xs) ∙ total_not_empty xs in
    from_laid 0 (joined (not_empty xs)) (total xs) (omega arith) h

-- ---- how many runs

-- there are no more runs than extents
few_to : (r : Range) (xs : List Range) → length (joined_to r xs) ≤ suc (length xs)
unfolding joined_to
few_to r [] = omega arith
few_to r (x ∷ xs) =
    cases (joins r x) (λ e. simp e (let i = few_to (range r.offset (r.len + x.len)) xs in omega arith))
    (λ e. simp e (let i = few_to x xs in omega arith))

few_joined : (xs : List Range) → length (joined xs) ≤ length xs
unfolding joined
few_joined [] = omega arith
few_joined (x ∷ xs) = few_to x xs

few_kept : (xs : List Range) → length (not_empty xs) ≤ length xs
unfolding not_empty
few_kept [] = omega arith
few_kept (x ∷ xs) =
    cases (eqb x.len 0) (λ e. simp e (let i = few_kept xs in omega arith))
    (λ e. simp e (let i = few_kept xs in omega arith))

pub runs_few : (xs : List Range) → length (runs_of xs) ≤ length xs
runs_few xs =
    let a = from_length 0 (joined (not_empty xs)) in
    let b = few_joined (not_empty xs) in
    let c = few_kept xs in
    omega arith

-- extents of which none was refused: each ends at or below 2^64 - 1, and so do their lengths together
module _ (xs : List Range) (z : each_extent passes_top 0 xs ≡ 0) where
  pub each_ends : All (λ (x : Range). x.offset + x.len ≤ top) xs
  unfolding passes_top
  each_ends = all_imp (λ (x : Range). passes_top x ≡ false) (λ (x : Range). x.offset + x.len ≤ top) (λ x f. ltb-false _ _ f) xs (each_inside passes_top 0 xs z)

  pub each_whole : total xs ≤ top
  each_whole = let h = each_sum passes_top 0 xs (omega arith) z in omega arith
