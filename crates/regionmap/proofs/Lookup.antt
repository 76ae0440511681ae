-- The run that the search finds is the run of the position.
use Prim.Native.Nat.{ℕ, zero, suc, ◌+◌, ◌-◌, ◌≤◌, ◌<◌}
use mathlib.Core.Bool.{true, false, ◌||◌}
use mathlib.Core.List.{List, ◌∷◌}
use mathlib.Core.Path.{◌≡◌, ap, sym, ◌∙◌}
use native.Mathlib.Omega.{arith}
use lib.Dec.{ltb}
use lib.ListN.{length, get_or, take}
use lib.Seq.{length-take-le, get_or-take}
use borrow.Author.Tests.{ltb-false, le-ltb}
use Rattle.runs.specs.declared.Run.{Run}
use Rattle.runs.specs.Runs.{blank_run}
use Rattle.numbers.specs.Refusals.{first, refuse, accepted, refused, answer}
use Rattle.numbers.specs.Search.{Rising, Found}
use Rattle.numbers.specs.Sums.{top, stop}
use Rattle.regionmap.specs.Inner.{RunEnd}
use Rattle.regionmap.specs.Map.{Placement, placement_of, Valid, too_few, run_of, byte_at, locate_refusal, locate_of}
use Rattle.regionmap.specs.declared.RegionMap.{RegionMap}
use Rattle.numbers.proofs.Cases.{or-false, by_lt}
use Rattle.numbers.proofs.Lists.{all_at}
use Rattle.regionmap.proofs.Bytes.{run_at}
use Rattle.regionmap.proofs.Means.{same_count, runs_count, means_at}
use Rattle.regionmap.proofs.Order.{at, laid_rising, laid_next, laid_last}
use mathlib.Core.Bool as Bool

-- the lists are long enough for the runs
pub record Enough (m : RegionMap) (ss fs : List ℕ) : Type 0 where
  pub starts : m.count ≤ length ss
  pub files : m.count ≤ length fs
  pub places : too_few m.room ss fs ≡ false
  pub room : m.count ≤ m.room
  pub wide : (m.room ≤ length ss) × (m.room ≤ length fs)

pub lists_pass : (m : RegionMap) (ss fs : List ℕ) → (ltb (length ss) m.room || ltb (length fs) m.room || ltb m.room m.count) ≡ false → Enough m ss fs
unfolding too_few
lists_pass m ss fs e =
    let a = or-false _ _ e in
    let b = or-false _ _ a.0 in
    let s : m.room ≤ length ss = ltb-false _ _ b.0 in
    let f : m.room ≤ length fs = ltb-false _ _ b.1 in
    let c : m.count ≤ m.room = ltb-false _ _ a.1 in
    record { starts = omega arith; files = omega arith; places = a.0; room = c; wide = (s, f) }

abbrev runs : RegionMap → List ℕ → List ℕ → List Run
runs m ss fs = (placement_of m ss fs).runs

module _ (m : RegionMap) (ss fs : List ℕ) (v : Valid m ss fs) where
  ls : length (take m.count ss) ≡ m.count
  ls = length-take-le m.count ss v.starts

  same : length (take m.count ss) ≡ length (take m.count fs)
  same = same_count m ss fs v.starts v.files

  pub runs_length : length (runs m ss fs) ≡ m.count + 1
  runs_length = runs_count m ss fs v.starts v.files

  pub count_room : m.count ≤ m.room
  count_room = omega (arith, v.sound.counted, runs_length)

  -- the lists fail only by their places
  pub lists-fail : (ltb (length ss) m.room || ltb (length fs) m.room || ltb m.room m.count) ≡ true → too_few m.room ss fs ≡ true
  unfolding too_few
  lists-fail e = simp (le-ltb m.room m.count count_room, Bool.or-false) at e

  -- where run k starts, in the data and in the file
  run_is : (k : ℕ) → k ≤ m.count → ((at (runs m ss fs) k).start ≡ get_or (0 ∷ take m.count ss) k 0) × ((at (runs m ss fs) k).file ≡ get_or (m.first ∷ take m.count fs) k 0)
  run_is k h = means_at m.capacity 0 m.first (take m.count ss) (take m.count fs) k same (omega (arith, ls))

  module _ (k : ℕ) (h : k < m.count) where
    later_start : (at (runs m ss fs) (suc k)).start ≡ get_or ss k 0
    later_start = (run_is (suc k) h).0 ∙ get_or-take m.count ss k 0 h

    later_file : (at (runs m ss fs) (suc k)).file ≡ get_or fs k 0
    later_file = (run_is (suc k) h).1 ∙ get_or-take m.count fs k 0 h

  first_start : (at (runs m ss fs) 0).start ≡ 0
  first_start = (run_is 0 (omega arith)).0

  first_file : (at (runs m ss fs) 0).file ≡ m.first
  first_file = (run_is 0 (omega arith)).1

  rising : Rising ss m.count
  rising i j l h =
      let r = laid_rising (runs m ss fs) 0 m.capacity (suc i) (suc j) v.sound.laid (omega arith) (omega (arith, runs_length)) in
      omega (arith, r, later_start i (omega arith), later_start j h)

  -- the run that was found
  module _ (p : ℕ) where
    at_or_below : (k : ℕ) → Found ss m.count p k → (at (runs m ss fs) k).start ≤ p
    at_or_below zero g = omega (arith, first_start)
    at_or_below (suc k) g =
        let b : get_or ss (suc k - 1) 0 ≤ p = g.below (omega arith) in
        let d : suc k - 1 ≡ k = omega arith in
        omega (arith, later_start k (omega (arith, g.inside)), ap (λ (i : ℕ). get_or ss i 0) d, b)

    behind : (k : ℕ) → Found ss m.count p k → (j : ℕ) → k < j → j < length (runs m ss fs) → p < (at (runs m ss fs) j).start
    behind k g zero l h = absurd (omega arith)
    behind k g (suc j) l h =
        let i : j < m.count = omega (arith, runs_length) in
        let a = g.above rising j (omega arith) i in
        omega (arith, later_start j i)

    pub found_run : (k : ℕ) → Found ss m.count p k → run_of (runs m ss fs) p ≡ at (runs m ss fs) k
    found_run k g = run_at (runs m ss fs) p k (omega (arith, g.inside, runs_length)) (at_or_below k g) (behind k g)

    pub found_end : (k e : ℕ) → Found ss m.count p k → RunEnd ss m.count m.capacity k e → (run_of (runs m ss fs) p).start + (run_of (runs m ss fs) p).len ≡ e
    found_end k e g r =
        rw (found_run k g)
        (by_lt k m.count
        (λ h. laid_next (runs m ss fs) 0 m.capacity k v.sound.laid (omega (arith, runs_length)) ∙ later_start k h ∙ sym (r.early h))
        (λ h. laid_last (runs m ss fs) 0 m.capacity k v.sound.laid (omega (arith, runs_length, g.inside)) ∙ sym (r.late h)))

    -- its byte, in the first run and in a later one; it does not pass 2^64 - 1
    in_file : (k : ℕ) → Found ss m.count p k → p ≤ (run_of (runs m ss fs) p).start + (run_of (runs m ss fs) p).len → byte_at (placement_of m ss fs) p ≤ top
    in_file k g u =
        let i = all_at (λ (r : Run). r.file + r.len ≤ top) (runs m ss fs) k blank_run v.sound.inside (omega (arith, g.inside, runs_length)) in
        let b = at_or_below k g in
        let f = found_run k g in
        let s = ap (λ (r : Run). r.start) f in
        let l = ap (λ (r : Run). r.len) f in
        let o = ap (λ (r : Run). r.file) f in
        omega (arith, i, b, s, l, o, u)

    pub found_first : Found ss m.count p 0 → p ≤ (run_of (runs m ss fs) p).start + (run_of (runs m ss fs) p).len → byte_at (placement_of m ss fs) p ≡ stop (m.first + p)
    found_first g u =
        let f = found_run 0 g in
        omega (arith, in_file 0 g u, ap (λ (r : Run). r.start) f, ap (λ (r : Run). r.file) f, first_start, first_file)

    pub found_later : (k : ℕ) → k < m.count → Found ss m.count p (suc k) → p ≤ (run_of (runs m ss fs) p).start + (run_of (runs m ss fs) p).len →
        byte_at (placement_of m ss fs) p ≡ stop (get_or fs k 0 + (p - get_or ss k 0))
    found_later k h g u =
        let f = found_run (suc k) g in
        omega (arith, in_file (suc k) g u, ap (λ (r : Run). r.start) f, ap (λ (r : Run). r.file) f, later_start k h, later_file k h)

-- the answer, test by test
module _ (m : Placement) (p n : ℕ) (ss fs : List ℕ) where
  pub locate_few : too_few m.room ss fs ≡ true → refused 1 ≡ locate_of m p n ss fs
  unfolding locate_refusal first refuse answer
  locate_few a = simp a

  module _ (a : too_few m.room ss fs ≡ false) where
    pub locate_past : ltb m.len (p + n) ≡ true → refused 23 ≡ locate_of m p n ss fs
    unfolding locate_refusal first refuse answer
    locate_past b = simp (a, b)

    module _ (b : ltb m.len (p + n) ≡ false) where
      pub locate_across : ltb ((run_of m.runs p).start + (run_of m.runs p).len) (p + n) ≡ true → refused 24 ≡ locate_of m p n ss fs
      unfolding locate_refusal first refuse answer
      locate_across c = simp (a, b, c)

      pub locate_at : ltb ((run_of m.runs p).start + (run_of m.runs p).len) (p + n) ≡ false → (q : ℕ) → byte_at m p ≡ q → accepted q ≡ locate_of m p n ss fs
      unfolding locate_refusal first refuse answer
      locate_at c q e = simp (a, b, c, e)
