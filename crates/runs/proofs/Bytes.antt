-- The bytes of extents laid end to end, by the extents alone: which extent has the byte, that positions have bytes of their own,
-- and that runs do not touch.
use Prim.Native.Nat.{ℕ, zero, suc, ◌+◌, ◌-◌, ◌≤◌, ◌<◌}
use mathlib.Core.List.{List, [], ◌∷◌, ◌++◌}
use mathlib.Core.Logic.{inl, inr}
use mathlib.Core.Path.{◌≡◌, refl, ap, sym, subst, ◌∙◌}
use native.Mathlib.Nat.{le_of_suc-le-suc, not-suc-le-zero}
use native.Mathlib.Omega.{arith}
use lib.Dec.{eqb}
use lib.ListN.{length, get_or}
use borrow.Author.Tests.{eq-eqb, ne_eqb}
use Rattle.runs.specs.declared.Run.{Run}
use Rattle.runs.specs.Runs.{blank_run, not_empty, joins, joined_to, joined, runs_from, runs_of, byte_of}
use Rattle.numbers.specs.Lists.{All, Any}
use Rattle.numbers.specs.Range.{Range, range, blank, Has, Disjoint, total}
use Rattle.numbers.specs.Sums.{top, sum}
use Rattle.runs.proofs.Joining.{joins_true, true_joins}
use Rattle.runs.proofs.Positions.{byte_here, byte_later, runs_apart, total_joined, total_not_empty}
use Rattle.numbers.proofs.Cases.{cases, by_lt, by_eq, clash}
use Rattle.numbers.proofs.Disjoint.{MeetsNone, none_shared}
use Rattle.numbers.proofs.Lists.{all_at}
use Rattle.numbers.proofs.Ranges.{end_exact}

-- Each extent ends at or below 2^64 - 1.
abbrev pub Ends : List Range → Type 0
Ends xs = All (λ (x : Range). x.offset + x.len ≤ top) xs

-- a byte stays when extents come behind
pub byte_behind : (xs ys : List Range) (p : ℕ) → p < total xs → byte_of (xs ++ ys) p ≡ byte_of xs p
unfolding sum
byte_behind [] ys p h = absurd (omega arith)
byte_behind (x ∷ xs) ys p h =
    by_lt p x.len (λ l. byte_here x (xs ++ ys) p l ∙ sym (byte_here x xs p l))
    (λ l. byte_later x (xs ++ ys) p l ∙ byte_behind xs ys (p - x.len) (omega arith) ∙ sym (byte_later x xs p l))

-- it is a byte of one of the extents
pub byte_in : (xs : List Range) (p : ℕ) → Ends xs → p < total xs → Any (λ (x : Range). Has x (byte_of xs p)) xs
unfolding sum
byte_in [] p a h = absurd (omega arith)
byte_in (x ∷ xs) p a h =
    by_lt p x.len
    (λ l. let e = end_exact x a.0 in inl (rw (byte_here x xs p l) (record { from = omega arith; upto = omega arith })))
    (λ l. inr (subst (λ (b : ℕ). Any (λ (y : Range). Has y b) xs) (sym (byte_later x xs p l)) (byte_in xs (p - x.len) a.1 (omega arith))))

-- positions of extents that meet none of others have other bytes than those
pub bytes_apart : (xs ys : List Range) → Ends xs → Ends ys → All (λ (x : Range). MeetsNone x ys) xs → (p q : ℕ) → p < total xs → q < total ys → byte_of xs p ≡ byte_of ys q → ⊥
unfolding sum
bytes_apart [] ys a b n p q h k e = omega arith
bytes_apart (x ∷ xs) ys a b n p q h k e =
    by_lt p x.len
    (λ l.
    let c : x.offset + p ≡ byte_of ys q = sym (byte_here x xs p l) ∙ e in
    let t = end_exact x a.0 in
    none_shared x ys n.0 (byte_of ys q) (record { from = omega arith; upto = omega arith }) (byte_in ys q b k))
    (λ l. bytes_apart xs ys a.1 b n.1 (p - x.len) q (omega arith) k (sym (byte_later x xs p l) ∙ e))

-- different positions of extents that do not meet have different bytes
pub byte_own : (xs : List Range) → Ends xs → Disjoint xs → (p q : ℕ) → p < total xs → q < total xs → byte_of xs p ≡ byte_of xs q → p ≡ q
unfolding sum
byte_own [] a d p q h k e = absurd (omega arith)
byte_own (x ∷ xs) a d p q h k e =
    by_lt p x.len
    (λ l. by_lt q x.len
    (λ m. let c : x.offset + p ≡ x.offset + q = sym (byte_here x xs p l) ∙ e ∙ byte_here x xs q m in omega arith)
    (λ m. absurd (first_apart p q l m (omega arith) e)))
    (λ l. by_lt q x.len (λ m. absurd (first_apart q p m l (omega arith) (sym e)))
    (λ m.
    let i = byte_own xs a.1 d.1 (p - x.len) (q - x.len) (omega arith) (omega arith) (sym (byte_later x xs p l) ∙ e ∙ byte_later x xs q m) in
    omega arith))
  where
    first_apart : (i j : ℕ) → i < x.len → x.len ≤ j → j - x.len < total xs → byte_of (x ∷ xs) i ≡ byte_of (x ∷ xs) j → ⊥
    first_apart i j l m k e =
        bytes_apart (x ∷ []) xs (a.0, tt) a.1 (d.0, tt) i (j - x.len) (omega arith) k (byte_here x [] i l ∙ sym (byte_here x xs i l) ∙ e ∙ byte_later x xs j m)

-- ---- joined extents end where extents do

ends_not_empty : (xs : List Range) → Ends xs → Ends (not_empty xs)
unfolding not_empty
ends_not_empty [] a = tt
ends_not_empty (x ∷ xs) a = cases (eqb x.len 0) (λ e. simp e (ends_not_empty xs a.1)) (λ e. simp e (a.0, ends_not_empty xs a.1))

ends_joined_to : (r : Range) (xs : List Range) → r.offset + r.len ≤ top → Ends xs → Ends (joined_to r xs)
unfolding joined_to
ends_joined_to r [] h a = (h, tt)
ends_joined_to r (x ∷ xs) h a =
    cases (joins r x)
    (λ e. let j = (joins_true r x e).ends in simp e (ends_joined_to (range r.offset (r.len + x.len)) xs (omega (arith, a.0)) a.1))
    (λ e. simp e (h, ends_joined_to x xs a.0 a.1))

ends_joined : (xs : List Range) → Ends xs → Ends (joined xs)
unfolding joined
ends_joined [] a = tt
ends_joined (x ∷ xs) a = ends_joined_to x xs a.0 a.1

-- no run passes the last byte where no extent does
ends_from : (b : ℕ) (ys : List Range) → Ends ys → All (λ (r : Run). r.file + r.len ≤ top) (runs_from b ys)
unfolding runs_from
ends_from b [] a = tt
ends_from b (y ∷ ys) a = (a.0, ends_from (b + y.len) ys a.1)

pub runs_inside : (xs : List Range) → Ends xs → All (λ (r : Run). r.file + r.len ≤ top) (runs_of xs)
runs_inside xs a = ends_from 0 (joined (not_empty xs)) (ends_joined (not_empty xs) (ends_not_empty xs a))

-- ---- where no sum passes 2^64 - 1, a run does not end where the next begins

-- two neighbours are no longer than all
two_of_total : (ys : List Range) (i : ℕ) → suc i < length ys → (get_or ys i blank).len + (get_or ys (suc i) blank).len ≤ total ys
unfolding sum
two_of_total [] i h = absurd (not-suc-le-zero h)
two_of_total (y ∷ []) i h = absurd (not-suc-le-zero (le_of_suc-le-suc h))
two_of_total (y ∷ z ∷ ys) zero h = omega arith
two_of_total (y ∷ z ∷ ys) (suc i) h = let k = two_of_total (z ∷ ys) i (le_of_suc-le-suc h) in omega arith

-- a run by the range that it is made of
pub from_at : (b : ℕ) (ys : List Range) (i : ℕ) → i < length ys → ((get_or (runs_from b ys) i blank_run).file ≡ (get_or ys i blank).offset) ×
    ((get_or (runs_from b ys) i blank_run).len ≡ (get_or ys i blank).len)
unfolding runs_from
from_at b [] i h = absurd (not-suc-le-zero h)
from_at b (y ∷ ys) zero h = (refl, refl)
from_at b (y ∷ ys) (suc i) h = from_at (b + y.len) ys i (le_of_suc-le-suc h)

pub from_length : (b : ℕ) (ys : List Range) → length (runs_from b ys) ≡ length ys
unfolding runs_from
from_length b [] = refl
from_length b (y ∷ ys) = ap suc (from_length (b + y.len) ys)

-- no run is empty
some_not_empty : (xs : List Range) → All (λ (x : Range). 0 < x.len) (not_empty xs)
unfolding not_empty
some_not_empty [] = tt
some_not_empty (x ∷ xs) =
    by_eq x.len 0 (λ e. simp (eq-eqb _ _ e) (some_not_empty xs)) (λ d. simp (ne_eqb _ _ d) (omega arith, some_not_empty xs))

some_joined_to : (r : Range) (xs : List Range) → 0 < r.len → All (λ (x : Range). 0 < x.len) xs → All (λ (x : Range). 0 < x.len) (joined_to r xs)
unfolding joined_to
some_joined_to r [] h a = (h, tt)
some_joined_to r (x ∷ xs) h a =
    cases (joins r x) (λ e. simp e (some_joined_to (range r.offset (r.len + x.len)) xs (omega arith) a.1))
    (λ e. simp e (h, some_joined_to x xs a.0 a.1))

some_joined : (xs : List Range) → All (λ (x : Range). 0 < x.len) xs → All (λ (x : Range). 0 < x.len) (joined xs)
unfolding joined
some_joined [] a = tt
some_joined (x ∷ xs) a = some_joined_to x xs a.0 a.1

pub runs_some : (xs : List Range) (i : ℕ) → i < length (runs_of xs) → 0 < (get_or (runs_of xs) i blank_run).len
runs_some xs i h =
    let ys = joined (not_empty xs) in
    let k : i < length ys = subst (λ (n : ℕ). i < n) (from_length 0 ys) h in
    let m = from_at 0 ys i k in
    let s = all_at (λ (x : Range). 0 < x.len) ys i blank (some_joined (not_empty xs) (some_not_empty xs)) k in
    omega (arith, m.1, s)

pub runs_no_touch : (xs : List Range) → Ends xs → total xs ≤ top → (i : ℕ) → suc i < length (runs_of xs) → (get_or (runs_of xs) i blank_run).file +
    (get_or (runs_of xs) i blank_run).len ≡ (get_or (runs_of xs) (suc i) blank_run).file → ⊥
runs_no_touch xs a w i h e =
    let ys = joined (not_empty xs) in
    let k : suc i < length ys = subst (λ (n : ℕ). suc i < n) (from_length 0 ys) h in
    let t = total_joined (not_empty xs) ∙ total_not_empty xs in
    let s = two_of_total ys i k in
    let m = from_at 0 ys i (omega arith) in
    let n = from_at 0 ys (suc i) k in
    let d : (get_or ys i blank).offset + (get_or ys i blank).len ≡ (get_or ys (suc i) blank).offset = omega (arith, e, m.0, m.1, n.0) in
    let b = all_at (λ (x : Range). x.offset + x.len ≤ top) ys (suc i) blank (ends_joined (not_empty xs) (ends_not_empty xs a)) k in
    clash (true_joins (get_or ys i blank) (get_or ys (suc i) blank) (record { ends = d; below = omega arith; short = omega arith })) (runs_apart (not_empty xs) i k)
