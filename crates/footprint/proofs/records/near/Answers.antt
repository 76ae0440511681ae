-- `footprint::records::near` meets its contract: both differences at once.
use Rattle.std.proofs.Common.{ℕ, ◌≡◌, ◌+◌, ◌-◌, arith, ltb, lt-ltb, le-ltb}
use Rattle.numbers.proofs.Cases.{cases, by_lt}
use Rattle.footprint.specs.Footprint.{near}
use Rattle.footprint.proofs.records.near.Goals as goal

apart : (a b block : ℕ) → ltb ((a - b) + (b - a)) block ≡ near block a b
unfolding near
apart a b block =
    by_lt ((a - b) + (b - a)) block
    (λ h. simp (lt-ltb _ _ h, lt-ltb b (a + block) (omega arith), lt-ltb a (b + block) (omega arith)))
    (λ h.
    by_lt a b (λ l. simp (le-ltb _ _ h, le-ltb b (a + block) (omega arith)))
    (λ l. cases (ltb b (a + block)) (λ t. simp (le-ltb _ _ h, t, le-ltb a (b + block) (omega arith))) (λ f. simp (le-ltb _ _ h, f))))

pub returns : goal.returns
returns c = rw c.abs_diff.ensures (apart _ _ _)
