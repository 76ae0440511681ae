-- The lengths of gaps together, and the bytes that they count.
use Rattle.std.proofs.Common.{◌≡◌, ℕ, ◌+◌, ◌*◌, ◌<◌, ◌≤◌, List, length, get_or, drop, arith, drop_of_length-le, suc, drop-cons, ◌∷◌, ◌∙◌}
use Rattle.numbers.specs.Range.{total, Range, range, blank}
use Rattle.numbers.specs.Sums.{top, sum}

-- ---- the sum: so far a, and what is left

pub record Summing (gs : List Range) (a i : ℕ) : Type 0 where
  pub below : i ≤ length gs
  pub small : a ≤ i * top
  pub rest : a + total (drop i gs) ≡ total gs

pub sum_begins : (gs : List Range) → Summing gs 0 0
sum_begins gs = record { below = omega arith; small = omega arith; rest = omega arith }

module _ {gs : List Range} {a i : ℕ} (g : Summing gs a i) where
  pub sum_on : {o n : ℕ} → i < length gs → n ≤ top → get_or gs i blank ≡ range o n → Summing gs (a + n) (i + 1)
  unfolding sum
  sum_on {o} {n} h f x =
      let k : suc i ≡ i + 1 = omega arith in
      let next : drop i gs ≡ range o n ∷ drop (i + 1) gs = drop-cons gs i blank h ∙ rw (x, k) in
      let t : total (drop i gs) ≡ n + total (drop (i + 1) gs) = rw next in
      record { below = omega arith; small = omega (arith, g.small); rest = omega (arith, g.rest, t) }

  pub sum_ends : length gs ≤ i → a ≡ total gs
  unfolding sum
  sum_ends h =
      let n : total (drop i gs) ≡ 0 = rw (drop_of_length-le gs {i = i} h) in
      omega (arith, g.rest, n)
