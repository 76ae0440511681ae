-- The table of steps: its rule is one equation over the whole table.
use Rattle.numbers.proofs.Cases.{by_lt}
use Prim.Native.Nat.{ℕ, zero, suc, ◌+◌, ◌*◌, ◌/◌, ◌^◌, ◌≤◌, ◌<◌, min}
use mathlib.Core.List.{List, [], ◌∷◌, map}
use mathlib.Core.Path.{◌≡◌, refl, ap, sym, ◌∙◌}
use native.Mathlib.Nat.{add-zero, zero-add}
use native.Mathlib.Omega.{arith}
use lib.ListN.{get_or}
use lib.Pow.{pow_mono}
use borrow.Author.Tests.{le-leb, lt-leb}
use Rattle.model.specs.Calls.{step}

-- n numbers from i on
abbrev counting : ℕ → ℕ → List ℕ
counting i zero = []
counting i (suc n) = i ∷ counting (suc i) n

counted : (f : ℕ → ℕ) (i n k : ℕ) → k < n → get_or (map f (counting i n)) k 0 ≡ f (i + k)
counted f i zero k h = absurd (omega arith)
counted f i (suc n) zero h = ap f (sym (add-zero i))
counted f i (suc n) (suc k) h = counted f (suc i) n k (omega arith) ∙ ap f (omega arith)

abbrev rule : ℕ → ℕ
rule n = 16 * 2 ^ (n / 2)

abbrev pub table : List ℕ
table =
    16 ∷ 16 ∷ 32 ∷ 32 ∷ 64 ∷ 64 ∷ 128 ∷ 128 ∷ 256 ∷ 256 ∷ 512 ∷ 512 ∷ 1024 ∷ 1024 ∷ 2048 ∷ 2048 ∷ 4096 ∷ 4096 ∷ 8192 ∷ 8192 ∷ 16384 ∷ 16384 ∷ 32768 ∷ 32768 ∷ []

table_rule : table ≡ map rule (counting 0 24)
table_rule = refl

-- so each entry is the model's step, and the last one is kept
pub table_step : (n : ℕ) → get_or table (min n 23) 0 ≡ step n
unfolding step
table_step n =
    ap (λ (l : List ℕ). get_or l (min n 23) 0) table_rule ∙ counted rule 0 24 (min n 23) (omega arith) ∙ ap rule (zero-add (min n 23))
    ∙ by_lt n 24 (λ h. let m : min n 23 ≡ n = omega arith in ap rule m ∙ sym (simp (le-leb n 23 (omega arith))))
    (λ h. let m : min n 23 ≡ 23 = omega arith in ap rule m ∙ sym (simp (lt-leb n 23 (omega arith))))

pub step_most : (n : ℕ) → step n ≤ 32768
unfolding step
step_most n =
    by_lt n 24
    (λ h.
    let m : 2 ^ (n / 2) ≤ 2 ^ 11 = pow_mono (let l : n / 2 ≤ 11 = omega arith in l) in
    let e : step n ≡ rule n = simp (le-leb n 23 (omega arith)) in
    omega arith)
    (λ h. let e : step n ≡ 32768 = simp (lt-leb n 23 (omega arith)) in omega arith)
