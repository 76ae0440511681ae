-- A record and its lists, and the runs that they mean.
use Prim.Native.Nat.{ℕ, zero, suc, ◌+◌, ◌-◌, ◌≤◌, ◌<◌}
use mathlib.Core.List.{List, [], ◌∷◌, ◌++◌, map}
use mathlib.Core.Path.{◌≡◌, refl, ap, sym, ◌∙◌}
use native.Mathlib.Omega.{arith}
use lib.ListN.{length, get_or, take}
use lib.Seq.{length-take-le, get_or-take}
use Rattle.runs.specs.declared.Run.{Run}
use Rattle.runs.specs.Runs.{run}
use Rattle.regionmap.specs.Map.{runs_to, placement_of, EndToEnd, file_end, longer}
use Rattle.regionmap.specs.declared.RegionMap.{RegionMap}
use Rattle.regionmap.proofs.Order.{at}

-- ---- the runs that starts and file offsets stand for

pub means_length : (cap s f : ℕ) (ts gs : List ℕ) → length ts ≡ length gs → length (runs_to cap s f ts gs) ≡ length ts + 1
unfolding runs_to
means_length cap s f [] gs e = refl
means_length cap s f (t ∷ ts) [] e = absurd (omega arith)
means_length cap s f (t ∷ ts) (g ∷ gs) e = let i = means_length cap t g ts gs (omega arith) in omega arith

-- where run k starts, in the data and in the file
pub means_at : (cap s f : ℕ) (ts gs : List ℕ) (k : ℕ) → length ts ≡ length gs → k ≤ length ts →
    ((at (runs_to cap s f ts gs) k).start ≡ get_or (s ∷ ts) k 0) × ((at (runs_to cap s f ts gs) k).file ≡ get_or (f ∷ gs) k 0)
unfolding runs_to
means_at cap s f [] gs zero e h = (refl, refl)
means_at cap s f [] gs (suc k) e h = absurd (omega arith)
means_at cap s f (t ∷ ts) [] k e h = absurd (omega arith)
means_at cap s f (t ∷ ts) (g ∷ gs) zero e h = (refl, refl)
means_at cap s f (t ∷ ts) (g ∷ gs) (suc k) e h = means_at cap t g ts gs k (omega arith) (omega arith)

-- where the last one ends in the file
pub means_end : (cap s f : ℕ) (ts gs : List ℕ) → length ts ≡ length gs → file_end (runs_to cap s f ts gs) ≡ get_or (f ∷ gs) (length ts) 0 + (cap - get_or (s ∷ ts) (length ts) 0)
unfolding runs_to file_end
means_end cap s f [] gs e = refl
means_end cap s f (t ∷ ts) [] e = absurd (omega arith)
means_end cap s f (t ∷ []) (g ∷ gs) e = refl
means_end cap s f (t ∷ u ∷ ts) (g ∷ []) e = absurd (omega arith)
means_end cap s f (t ∷ u ∷ ts) (g ∷ h ∷ gs) e = means_end cap t g (u ∷ ts) (h ∷ gs) (omega arith)

-- one run more, and the last one longer
pub means_new : (cap n s f g : ℕ) (ts gs : List ℕ) → length ts ≡ length gs → runs_to (cap + n) s f (ts ++ (cap ∷ [])) (gs ++ (g ∷ [])) ≡ runs_to cap s f ts gs ++ (run cap g n ∷ [])
unfolding runs_to
means_new cap n s f g [] [] e = let d : cap + n - cap ≡ n = omega arith in rw d
means_new cap n s f g [] (h ∷ gs) e = absurd (omega arith)
means_new cap n s f g (t ∷ ts) [] e = absurd (omega arith)
means_new cap n s f g (t ∷ ts) (h ∷ gs) e = ap (λ (l : List Run). run s f (t - s) ∷ l) (means_new cap n t h g ts gs (omega arith))

pub means_longer : (cap n s f : ℕ) (ts gs : List ℕ) → length ts ≡ length gs → get_or (s ∷ ts) (length ts) 0 ≤ cap → runs_to (cap + n) s f ts gs ≡ longer n (runs_to cap s f ts gs)
unfolding runs_to longer
means_longer cap n s f [] gs e h = let d : cap + n - s ≡ cap - s + n = omega arith in rw d
means_longer cap n s f (t ∷ ts) [] e h = absurd (omega arith)
means_longer cap n s f (t ∷ []) (g ∷ gs) e h = let d : cap + n - t ≡ cap - t + n = omega arith in rw d
means_longer cap n s f (t ∷ u ∷ ts) (g ∷ []) e h = absurd (omega arith)
means_longer cap n s f (t ∷ u ∷ ts) (g ∷ h' ∷ gs) e h = ap (λ (l : List Run). run s f (t - s) ∷ l) (means_longer cap n t g (u ∷ ts) (h' ∷ gs) (omega arith) h)

-- runs end to end are what their own starts and file offsets stand for
pub means_runs : (r : Run) (rs : List Run) (cap : ℕ) → EndToEnd r.start (r ∷ rs) cap → runs_to cap r.start r.file (map (λ (q : Run). q.start) rs) (map (λ (q : Run). q.file) rs) ≡ r ∷ rs
unfolding runs_to
means_runs r [] cap e = let d : cap - r.start ≡ r.len = omega (arith, e.1) in rw d
means_runs r (q ∷ rs) cap e =
    let d : q.start - r.start ≡ r.len = omega (arith, e.1.0) in
    rw d (ap (λ (l : List Run). r ∷ l) (means_runs q rs cap (refl, rw e.1.0 e.1.1)))

-- ---- the runs of a record

-- there is always a first one
some_to : (cap s f : ℕ) (ts gs : List ℕ) → 0 < length (runs_to cap s f ts gs)
unfolding runs_to
some_to cap s f [] gs = omega arith
some_to cap s f (t ∷ ts) [] = omega arith
some_to cap s f (t ∷ ts) (g ∷ gs) = omega arith

pub some_run : (m : RegionMap) (ss fs : List ℕ) → 0 < length (placement_of m ss fs).runs
some_run m ss fs = some_to m.capacity 0 m.first (take m.count ss) (take m.count fs)

module _ (m : RegionMap) (ss fs : List ℕ) (s : m.count ≤ length ss) (f : m.count ≤ length fs) where
  pub same_count : length (take m.count ss) ≡ length (take m.count fs)
  same_count = length-take-le m.count ss s ∙ sym (length-take-le m.count fs f)

  pub runs_count : length (placement_of m ss fs).runs ≡ m.count + 1
  runs_count = means_length m.capacity 0 m.first (take m.count ss) (take m.count fs) same_count ∙ ap (λ (n : ℕ). n + 1) (length-take-le m.count ss s)

pub end_first : (cap f : ℕ) (ss fs : List ℕ) → file_end (runs_to cap 0 f (take 0 ss) (take 0 fs)) ≡ f + cap
unfolding runs_to file_end
end_first cap f ss fs = omega arith

pub end_later : (cap f count : ℕ) (ss fs : List ℕ) → 0 < count → count ≤ length ss → count ≤ length fs → file_end
    (runs_to cap 0 f (take count ss) (take count fs)) ≡ get_or fs (count - 1) 0 + (cap - get_or ss (count - 1) 0)
end_later cap f zero ss fs p a b = absurd (omega arith)
end_later cap f (suc k) ss fs p a b =
    let ls = length-take-le (suc k) ss a in
    let lf = length-take-le (suc k) fs b in
    let d : suc k - 1 ≡ k = omega arith in
    means_end cap 0 f (take (suc k) ss) (take (suc k) fs) (ls ∙ sym lf)
    ∙ rw (ls, get_or-take (suc k) ss k 0 (omega arith), get_or-take (suc k) fs k 0 (omega arith), d)
