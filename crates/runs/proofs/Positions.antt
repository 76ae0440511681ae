-- Positions in runs: each position of the extents laid end to end lies in one run, which gives its byte; and runs are
-- joined as far as they may be.
use Prim.Native.Nat.{ℕ, zero, suc, ◌+◌, ◌-◌, ◌≤◌, ◌<◌}
use mathlib.Core.Bool.{true, false}
use mathlib.Core.List.{List, [], ◌∷◌}
use mathlib.Core.Path.{◌≡◌, refl, ap, sym, ◌∙◌}
use native.Mathlib.Nat.{le_of_suc-le-suc, not-suc-le-zero, sub-zero}
use native.Mathlib.Omega.{arith}
use lib.Dec.{eqb}
use lib.ListN.{length, get_or}
use borrow.Author.Tests.{lt-ltb, le-ltb, eqb-true}
use Rattle.runs.specs.declared.Run.{Run}
use Rattle.runs.specs.Runs.{blank_run, not_empty, joins, joined_to, joined, runs_from, runs_of, byte_of, Holds, run_byte}
use Rattle.numbers.specs.Range.{Range, range, blank, total}
use Rattle.numbers.specs.Sums.{top, stop, sum}
use Rattle.runs.proofs.Joining.{joins_true, true_joins}
use Rattle.numbers.proofs.Cases.{cases, by_lt, clash}

-- ---- joining moves no byte, and keeps the lengths together

-- one extent after another
pub byte_here : (x : Range) (xs : List Range) (p : ℕ) → p < x.len → byte_of (x ∷ xs) p ≡ x.offset + p
unfolding byte_of
byte_here x xs p h = simp (lt-ltb _ _ h)

pub byte_later : (x : Range) (xs : List Range) (p : ℕ) → x.len ≤ p → byte_of (x ∷ xs) p ≡ byte_of xs (p - x.len)
unfolding byte_of
byte_later x xs p h = simp (le-ltb _ _ h)

byte_joined : (r x : Range) (xs : List Range) (p : ℕ) → joins r x ≡ true → byte_of (range r.offset (r.len + x.len) ∷ xs) p ≡ byte_of (r ∷ x ∷ xs) p
byte_joined r x xs p e =
    let j = (joins_true r x e).ends in
    let w = range r.offset (r.len + x.len) in
    by_lt p r.len
    (λ h. byte_here w xs p (omega arith) ∙ sym (byte_here r (x ∷ xs) p h))
    (λ h. by_lt p (r.len + x.len)
    (λ l.
    let a : r.offset + p ≡ x.offset + (p - r.len) = omega arith in
    byte_here w xs p l ∙ a ∙ sym (byte_later r (x ∷ xs) p h ∙ byte_here x xs (p - r.len) (omega arith)))
    (λ l.
    let a : p - (r.len + x.len) ≡ p - r.len - x.len = omega arith in
    byte_later w xs p l ∙ ap (byte_of xs) a ∙ sym (byte_later r (x ∷ xs) p h ∙ byte_later x xs (p - r.len) (omega arith))))

byte_same : (r : Range) (a b : List Range) → ((p : ℕ) → byte_of a p ≡ byte_of b p) → (p : ℕ) → byte_of (r ∷ a) p ≡ byte_of (r ∷ b) p
byte_same r a b f p =
    by_lt p r.len (λ h. byte_here r a p h ∙ sym (byte_here r b p h))
    (λ h. byte_later r a p h ∙ f (p - r.len) ∙ sym (byte_later r b p h))

bytes_joined_to : (r : Range) (xs : List Range) (p : ℕ) → byte_of (joined_to r xs) p ≡ byte_of (r ∷ xs) p
unfolding joined_to
bytes_joined_to r [] p = refl
bytes_joined_to r (x ∷ xs) p =
    cases (joins r x) (λ e. simp e (bytes_joined_to (range r.offset (r.len + x.len)) xs p ∙ byte_joined r x xs p e))
    (λ e. simp e (byte_same r (joined_to x xs) (x ∷ xs) (bytes_joined_to x xs) p))

bytes_not_empty : (xs : List Range) (p : ℕ) → byte_of (not_empty xs) p ≡ byte_of xs p
unfolding not_empty
bytes_not_empty [] p = refl
bytes_not_empty (x ∷ xs) p =
    cases (eqb x.len 0)
    (λ e.
    let z = eqb-true x.len 0 e in
    let a : p - x.len ≡ p = omega arith in
    simp e (bytes_not_empty xs p ∙ sym (byte_later x xs p (omega arith) ∙ ap (byte_of xs) a)))
    (λ e. simp e (byte_same x (not_empty xs) xs (bytes_not_empty xs) p))

bytes_joined : (xs : List Range) (p : ℕ) → byte_of (joined xs) p ≡ byte_of xs p
unfolding joined
bytes_joined [] p = refl
bytes_joined (x ∷ xs) p = bytes_joined_to x xs p

total_joined_to : (r : Range) (xs : List Range) → total (joined_to r xs) ≡ r.len + total xs
unfolding joined_to sum
total_joined_to r [] = refl
total_joined_to r (x ∷ xs) =
    cases (joins r x) (λ e. simp e (let i = total_joined_to (range r.offset (r.len + x.len)) xs in omega arith))
    (λ e. simp e (let i = total_joined_to x xs in omega arith))

pub total_joined : (xs : List Range) → total (joined xs) ≡ total xs
unfolding joined sum
total_joined [] = refl
total_joined (x ∷ xs) = total_joined_to x xs

pub total_not_empty : (xs : List Range) → total (not_empty xs) ≡ total xs
unfolding not_empty sum
total_not_empty [] = refl
total_not_empty (x ∷ xs) =
    cases (eqb x.len 0) (λ e. let z = eqb-true x.len 0 e in simp e (let i = total_not_empty xs in omega arith))
    (λ e. simp e (ap (λ (n : ℕ). x.len + n) (total_not_empty xs)))

-- ---- one run for each position

record Within (rs : List Run) (p byte : ℕ) : Type 0 where
  place : ℕ
  inside : place < length rs
  holds : Holds (get_or rs place blank_run) p
  only : (j : ℕ) → j < length rs → Holds (get_or rs j blank_run) p → j ≡ place
  there : run_byte (get_or rs place blank_run) p ≡ byte

-- no run starts before the lengths in front of the list
not_before : (b : ℕ) (ys : List Range) (j : ℕ) → j < length (runs_from b ys) → stop b ≤ (get_or (runs_from b ys) j blank_run).start
unfolding runs_from
not_before b [] j h = absurd (not-suc-le-zero h)
not_before b (y ∷ ys) zero h = omega arith
not_before b (y ∷ ys) (suc j) h = let i = not_before (b + y.len) ys j (le_of_suc-le-suc h) in omega arith

module _ (b : ℕ) (y : Range) (ys : List Range) (p : ℕ) (low : b ≤ p) (high : p < top) where
  in_first : p < b + y.len → Within (runs_from b (y ∷ ys)) p (byte_of (y ∷ ys) (p - b))
  unfolding runs_from
  in_first l =
      let e : y.offset + (p - stop b) ≡ y.offset + (p - b) = omega arith in
      record {
        place = 0;
        inside = omega arith;
        holds = record { from = omega arith; upto = omega arith };
        only = none_later;
        there = e ∙ sym (byte_here y ys (p - b) (omega arith));
      }
    where
      none_later : (j : ℕ) → j < length (runs_from b (y ∷ ys)) → Holds (get_or (runs_from b (y ∷ ys)) j blank_run) p → j ≡ 0
      none_later zero h k = refl
      none_later (suc j) h k = let n = not_before (b + y.len) ys j (le_of_suc-le-suc h) in absurd (omega (arith, k.from))

  in_later : b + y.len ≤ p → Within (runs_from (b + y.len) ys) p (byte_of ys (p - (b + y.len))) → Within (runs_from b (y ∷ ys)) p (byte_of (y ∷ ys) (p - b))
  unfolding runs_from
  in_later l i =
      let e : p - (b + y.len) ≡ p - b - y.len = omega arith in
      record {
        place = suc i.place;
        inside = let h = i.inside in omega arith;
        holds = i.holds;
        only = not_first;
        there = i.there ∙ ap (byte_of ys) e ∙ sym (byte_later y ys (p - b) (omega arith));
      }
    where
      not_first : (j : ℕ) → j < length (runs_from b (y ∷ ys)) → Holds (get_or (runs_from b (y ∷ ys)) j blank_run) p → j ≡ suc i.place
      not_first zero h k = absurd (omega (arith, k.upto))
      not_first (suc j) h k = ap suc (i.only j (le_of_suc-le-suc h) k)

within : (b : ℕ) (ys : List Range) (p : ℕ) → b ≤ p → p < top → p < b + total ys → Within (runs_from b ys) p (byte_of ys (p - b))
unfolding sum
within b [] p low high h = absurd (omega arith)
within b (y ∷ ys) p low high h =
    by_lt p (b + y.len) (in_first b y ys p low high)
    (λ l. in_later b y ys p low high l (within (b + y.len) ys p l high (omega arith)))

-- position p lies in one run and in no other, and that run gives the byte of p in the extents laid end to end
pub record InOneRun (xs : List Range) (p : ℕ) : Type 0 where
  pub place : ℕ
  pub inside : place < length (runs_of xs)
  pub holds : Holds (get_or (runs_of xs) place blank_run) p
  pub only : (j : ℕ) → j < length (runs_of xs) → Holds (get_or (runs_of xs) j blank_run) p → j ≡ place
  pub byte : run_byte (get_or (runs_of xs) place blank_run) p ≡ byte_of xs p

pub in_one_run : (xs : List Range) (p : ℕ) → p < stop (total xs) → InOneRun xs p
in_one_run xs p h =
    let t = total_joined (not_empty xs) ∙ total_not_empty xs in
    let w = within 0 (joined (not_empty xs)) p (omega arith) (omega arith) (omega arith) in
    record {
      place = w.place;
      inside = w.inside;
      holds = w.holds;
      only = w.only;
      byte = w.there ∙ ap (byte_of (joined (not_empty xs))) (sub-zero p) ∙ bytes_joined (not_empty xs) p ∙ bytes_not_empty xs p;
    }

-- ---- no two neighbours in the joined list join once more

-- the joined list begins where the list does, and its first range is at least as long
record Begins (x : Range) (l : List Range) : Type 0 where
  head : Range
  tail : List Range
  is : l ≡ head ∷ tail
  from : head.offset ≡ x.offset
  long : x.len ≤ head.len

begins : (x : Range) (xs : List Range) → Begins x (joined_to x xs)
unfolding joined_to
begins x [] = record { head = x; tail = []; is = refl; from = refl; long = omega arith }
begins x (y ∷ ys) =
    cases (joins x y)
    (λ e.
    let b = begins (range x.offset (x.len + y.len)) ys in
    record { head = b.head; tail = b.tail; is = simp e b.is; from = b.from; long = omega (arith, b.long) })
    (λ e. record { head = x; tail = joined_to y ys; is = simp e; from = refl; long = omega arith })

-- what a range does not join, it does not join when that has grown
longer : (r x h : Range) → joins r x ≡ false → h.offset ≡ x.offset → x.len ≤ h.len → joins r h ≡ false
longer r x h f o l =
    cases (joins r h)
    (λ t.
    let m = joins_true r h t in
    clash (true_joins r x (record { ends = m.ends ∙ o; below = m.below; short = omega (arith, m.short) })) f)
    (λ n. n)

-- at i and behind it
abbrev pub NoJoin : List Range → ℕ → Type 0
NoJoin l i = suc i < length l → joins (get_or l i blank) (get_or l (suc i) blank) ≡ false

apart_next : (r x : Range) (xs : List Range) → joins r x ≡ false → ((j : ℕ) → NoJoin (joined_to x xs) j) → (i : ℕ) → NoJoin (r ∷ joined_to x xs) i
apart_next r x xs e f zero h = let b = begins x xs in rw b.is (longer r x b.head e b.from b.long)
apart_next r x xs e f (suc i) h = f i (le_of_suc-le-suc h)

apart_to : (r : Range) (xs : List Range) (i : ℕ) → NoJoin (joined_to r xs) i
unfolding joined_to
apart_to r [] i = λ h. absurd (omega arith)
apart_to r (x ∷ xs) i =
    cases (joins r x) (λ e. simp e (apart_to (range r.offset (r.len + x.len)) xs i))
    (λ e. simp e (apart_next r x xs e (apart_to x xs) i))

pub runs_apart : (xs : List Range) (i : ℕ) → NoJoin (joined xs) i
unfolding joined
runs_apart [] i = λ h. absurd (not-suc-le-zero h)
runs_apart (x ∷ xs) i = apart_to x xs i
