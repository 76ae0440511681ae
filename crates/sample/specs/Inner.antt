-- What reading one byte leaves to be done; `numbers_in` promises nothing by these.
use Rattle.std.specs.Prelude.{ℕ, ◌+◌, ◌≤◌, min, cond, List, [], ◌∷◌, ◌≡◌, ltb, length, set}
use Rattle.sample.specs.Sample.{numbers_from}
use Rattle.sample.specs.declared.Reading.{Reading}

-- The slots after the numbers went to the places from c on, as many as there are.
unfoldable pub fill : List ℕ → ℕ → List ℕ → List ℕ
fill out c [] = out
fill out c (n ∷ ns) = cond (ltb c (length out)) (fill (set out c n) (c + 1) ns) out

-- Whatever follows the byte b comes to the same slots and the same count, read from r and out or from q and out'.
pub record Reads (b : ℕ) (r : Reading) (out : List ℕ) (q : Reading) (out' : List ℕ) : Type 0 where
  pub long : length out' ≡ length out
  pub inside : q.count ≤ length out'
  pub slots : (bs : List ℕ) → fill out r.count (numbers_from r.begun (b ∷ bs)) ≡ fill out' q.count (numbers_from q.begun bs)
  pub count : (bs : List ℕ) → min (r.count + length (numbers_from r.begun (b ∷ bs))) (length out) ≡ min (q.count + length (numbers_from q.begun bs)) (length out)
