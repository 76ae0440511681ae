-- How `settle` finds a record of the same name; it promises nothing by these.
use Rattle.std.specs.Prelude.{ℕ, zero, suc, ◌+◌, ◌*◌, ◌%◌, ◌≤◌, ◌<◌, Bool, false, not, ◌&&◌, ◌||◌, List, [], ◌∷◌, ◌≡◌, eqb, leb, length, get_or, take, drop}
use Rattle.numbers.specs.Lists.{same}
use Rattle.settle.specs.Regions.{Lent}

-- The name of the record j.
abbrev pub name_at : Lent → ℕ → List ℕ
name_at rs j = take (get_or rs.lens j 0) (drop (24 * j) rs.names)

-- A number made of a name's bytes: names with different hashes are different.
unfoldable pub hash_from : ℕ → List ℕ → ℕ
hash_from hash [] = hash
hash_from hash (b ∷ bs) = hash_from ((hash * 33 + b) % 2147483647) bs

abbrev pub hash_of : List ℕ → ℕ
hash_of name = hash_from 0 name

-- The hashes of the names of at most 24 bytes among the first count.
abbrev pub Hashed : Lent → ℕ → List ℕ → Type 0
Hashed rs count hashes = (j : ℕ) → j < count → get_or rs.lens j 0 ≤ 24 → get_or hashes j 0 ≡ hash_of (name_at rs j)

-- Records with the hashes of their names.
pub record Listed (rs : Lent) (hashes : List ℕ) : Type 0 where
  pub hashes_in : rs.count ≤ length hashes
  pub hashed : Hashed rs rs.count hashes

-- The record j is not the record skip, has the name, and no lower number than seq.
unfoldable pub rivals : Lent → (skip seq : ℕ) → List ℕ → ℕ → Bool
rivals rs skip seq name j =
    not (eqb j skip) && leb seq (get_or rs.seqs j 0) && eqb (get_or rs.lens j 0) (length name) && same (name_at rs j) name

-- A test passes at some number below n.
unfoldable pub any_below : (ℕ → Bool) → ℕ → Bool
any_below f zero = false
any_below f (suc n) = any_below f n || f n

-- Another usable record or an unavailable one has the name of the usable record i and no lower number.
abbrev pub outdone : Lent → Lent → ℕ → Bool
outdone us un i =
    any_below (rivals us i (get_or us.seqs i 0) (name_at us i)) us.count
    || any_below (rivals un un.count (get_or us.seqs i 0) (name_at us i)) un.count
