-- Runs that lie end to end: their starts rise, and each ends where the next starts.
use Prim.Native.Nat.{ℕ, zero, suc, ◌+◌, ◌≤◌, ◌<◌}
use mathlib.Core.List.{List, [], ◌∷◌}
use mathlib.Core.Path.{◌≡◌}
use native.Mathlib.Nat.{le_of_suc-le-suc, not-suc-le-zero}
use native.Mathlib.Omega.{arith}
use lib.ListN.{length, get_or}
use Rattle.runs.specs.declared.Run.{Run}
use Rattle.runs.specs.Runs.{blank_run}
use Rattle.regionmap.specs.Map.{EndToEnd}
use Rattle.numbers.proofs.Cases.{by_eq}

-- the run k
abbrev pub at : List Run → ℕ → Run
at rs k = get_or rs k blank_run

-- each starts where those in front of it end, or later
laid_from : (rs : List Run) (a cap j : ℕ) → EndToEnd a rs cap → j < length rs → a ≤ (at rs j).start
laid_from [] a cap j l h = absurd (not-suc-le-zero h)
laid_from (r ∷ rs) a cap zero l h = omega (arith, l.0)
laid_from (r ∷ rs) a cap (suc j) l h = let i = laid_from rs (a + r.len) cap j l.1 (le_of_suc-le-suc h) in omega arith

pub laid_behind : (rs : List Run) (a cap i j : ℕ) → EndToEnd a rs cap → i < j → j < length rs → (at rs i).start + (at rs i).len ≤ (at rs j).start
laid_behind [] a cap i j l h k = absurd (not-suc-le-zero k)
laid_behind (r ∷ rs) a cap i zero l h k = absurd (not-suc-le-zero h)
laid_behind (r ∷ rs) a cap zero (suc j) l h k = let s = laid_from rs (a + r.len) cap j l.1 (le_of_suc-le-suc k) in omega (arith, l.0)
laid_behind (r ∷ rs) a cap (suc i) (suc j) l h k = laid_behind rs (a + r.len) cap i j l.1 (le_of_suc-le-suc h) (le_of_suc-le-suc k)

pub laid_rising : (rs : List Run) (a cap i j : ℕ) → EndToEnd a rs cap → i ≤ j → j < length rs → (at rs i).start ≤ (at rs j).start
laid_rising rs a cap i j l h k =
    by_eq i j (λ e. rw e (omega arith)) (λ d. let b = laid_behind rs a cap i j l (omega arith) k in omega arith)

-- each ends where the next starts, and the last at the end
pub laid_next : (rs : List Run) (a cap k : ℕ) → EndToEnd a rs cap → suc k < length rs → (at rs k).start + (at rs k).len ≡ (at rs (suc k)).start
laid_next [] a cap k l h = absurd (not-suc-le-zero h)
laid_next (r ∷ []) a cap k l h = absurd (omega arith)
laid_next (r ∷ q ∷ rs) a cap zero l h = omega (arith, l.0, l.1.0)
laid_next (r ∷ q ∷ rs) a cap (suc k) l h = laid_next (q ∷ rs) (a + r.len) cap k l.1 (le_of_suc-le-suc h)

pub laid_last : (rs : List Run) (a cap k : ℕ) → EndToEnd a rs cap → suc k ≡ length rs → (at rs k).start + (at rs k).len ≡ cap
laid_last [] a cap k l h = absurd (omega arith)
laid_last (r ∷ []) a cap zero l h = omega (arith, l.0, l.1)
laid_last (r ∷ []) a cap (suc k) l h = absurd (omega arith)
laid_last (r ∷ q ∷ rs) a cap zero l h = absurd (omega arith)
laid_last (r ∷ q ∷ rs) a cap (suc k) l h = laid_last (q ∷ rs) (a + r.len) cap k l.1 (omega arith)
