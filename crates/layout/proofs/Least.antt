-- The need is the largest, `log_at_or_above n` is the log of the least power of two at or above n; and how leading zeros give it.
use Prim.Native.Nat.{ℕ, zero, suc, ◌+◌, ◌-◌, ◌*◌, ◌^◌, ◌≤◌, ◌<◌}
use mathlib.Core.Path.{◌≡◌}
use native.Mathlib.Nat.{pow-suc, le_antisymm}
use native.Mathlib.Omega.{arith}
use lib.Count.{count_leading_zeros, leading_length}
use lib.Pow.{pow_pos, pow_mono}
use borrow.Author.Tests.{le-leb, lt-leb}
use Rattle.std.specs.Prelude.{Option, List, [], ◌∷◌, fold, max, All, ◌↔◌}
use Rattle.std.proofs.lemmas.List.Elements.{All-cons, All-head, All-tail}
use Rattle.layout.specs.declared.Evidence.{Evidence}
use Rattle.layout.specs.Layout.{log_from, log_at_or_above, need_of, choose_log2_block}
use Rattle.numbers.proofs.Cases.{by_lt}

-- "the largest": it is at most what all are at most
pub largest : (a b : ℕ) (xs : List ℕ) → fold max a xs ≤ b ↔ All (λ x. x ≤ b) (a ∷ xs)
largest a b [] = (λ h. All-cons (λ x. x ≤ b) a [] h (λ k d p. absurd (omega arith)), λ h. All-head (λ x. x ≤ b) a [] h)
largest a b (x ∷ xs) =
    let P : ℕ → Type 0 = λ x. x ≤ b in
    let r = largest (max a x) b xs in (
      λ h.
          let t = r.0 h in
          let m = All-head P (max a x) xs t in
          All-cons P a (x ∷ xs) (omega arith) (All-cons P x xs (omega arith) (All-tail P (max a x) xs t)),
      λ h.
          let t = All-tail P a (x ∷ xs) h in
          let m = All-head P a (x ∷ xs) h in
          let n = All-head P x xs t in
          r.1 (All-cons P (max a x) xs (omega arith) (All-tail P x xs t)),
    )

-- 2^k is at or above n, and no lower power of two is
pub record Least (n k : ℕ) : Type 0 where
  pub above : n ≤ 2 ^ k
  pub least : (j : ℕ) → n ≤ 2 ^ j → k ≤ j

least_from : (k more n : ℕ) → ((j : ℕ) → n ≤ 2 ^ j → k ≤ j) → ((j : ℕ) → k + more ≤ j → n ≤ 2 ^ j) → Least n (log_from k more n)
unfolding log_from
least_from k zero n low high = record { above = high k (omega arith); least = low }
least_from k (suc more) n low high =
    by_lt (2 ^ k) n
    (λ h.
    let next : (j : ℕ) → n ≤ 2 ^ j → suc k ≤ j = λ j p. by_lt k j (λ l. omega arith) (λ l. let m = pow_mono l in absurd (omega arith)) in
    rw (lt-leb n (2 ^ k) h) (least_from (suc k) more n next (λ j p. high j (omega arith))))
    (λ h. rw (le-leb n (2 ^ k) h) (record { above = h; least = low }))

below_power : (n : ℕ) → n ≤ 2 ^ n
below_power zero = omega arith
below_power (suc n) = let h = below_power n in let p = pow_pos n in rw (pow-suc 2 n) (omega arith)

pub log_least : (n : ℕ) → Least n (log_at_or_above n)
unfolding log_at_or_above
log_least n = least_from 0 n n (λ j h. omega arith) (λ j h. let b = below_power n in let m : 2 ^ n ≤ 2 ^ j = pow_mono (omega arith) in omega arith)

-- there is one such log alone
pub least_log : (n k : ℕ) → Least n k → k ≡ log_at_or_above n
least_log n k l = let h = log_least n in le_antisymm (l.least _ h.above) (h.least k l.above)

-- the width less the zeros in front, how many digits n - 1 has, is that log
pub leading_log : (w n : ℕ) → 0 < n → n - 1 < 2 ^ w → w - count_leading_zeros w (n - 1) ≡ log_at_or_above n
leading_log w n pos fits =
    let t = leading_length w (n - 1) fits in
    let m : ℕ = t.0 in
    let count : count_leading_zeros w (n - 1) + m ≡ w = t.1 in
    let above : n - 1 < 2 ^ m = t.2 in
    let below : 2 ^ m ≤ 2 * (n - 1) + 1 = t.3 in
    let is : m ≡ log_at_or_above n =
    least_log n m (record {
      above = omega arith;
      least = λ j h.
          by_lt j m
          (λ l. let p : 2 ^ suc j ≤ 2 ^ m = pow_mono l in let d : 2 ^ suc j ≡ 2 ^ j * 2 = pow-suc 2 j in absurd (omega arith))
          (λ l. l);
    })
    in
    omega arith

-- "above 2^31 it is 16"
pub above_2_31 : (e : Evidence) (requested : Option ℕ) → 2 ^ 31 < need_of e requested → choose_log2_block e requested ≡ 16
unfolding choose_log2_block
above_2_31 e requested h =
    let n : ℕ = need_of e requested in
    let k : ℕ = log_at_or_above n in
    let l = log_least n in
    let a : n ≤ 2 ^ k = l.above in
    by_lt 31 k (λ p. omega arith) (λ p. let m : 2 ^ k ≤ 2 ^ 31 = pow_mono p in absurd (omega arith))
