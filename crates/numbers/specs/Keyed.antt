-- Lists whose elements have a number each, their key: the element of a key, and a list in the order of its keys.
use Rattle.std.specs.Prelude.{ℕ, ◌<◌, Bool, cond, List, [], ◌∷◌, ◌≡◌, ltb, eqb}
use Rattle.numbers.specs.Lists.{Any, Pairwise, any}

-- Some element has the key n.
abbrev pub HasKey : {A : Type 0} → (A → ℕ) → ℕ → List A → Type 0
HasKey {A} key n xs = Any (λ (x : A). key x ≡ n) xs

-- The same as a test; `key_true`, `true_key` and `key_false` (proofs/Keyed) tie it to `HasKey`.
unfoldable pub has_key : {A : Type 0} → (A → ℕ) → ℕ → List A → Bool
has_key {A} key n xs = any (λ (x : A). eqb (key x) n) xs

-- The keys rise: one element a key.
abbrev pub InKeyOrder : {A : Type 0} → (A → ℕ) → List A → Type 0
InKeyOrder {A} key xs = Pairwise (λ (x y : A). key x < key y) xs

-- The first element that has the key n, another one where none has; `keyed_there` and `keyed_none` (proofs/Keyed) say so.
unfoldable pub keyed : {A : Type 0} → (A → ℕ) → A → ℕ → List A → A
keyed key other n [] = other
keyed key other n (x ∷ xs) = cond (eqb (key x) n) x (keyed key other n xs)

-- The list with x put in its place, over the element of the same key where there is one; `put_order` (proofs/Keyed): in order
-- still.
unfoldable pub put_keyed : {A : Type 0} → (A → ℕ) → A → List A → List A
put_keyed key x [] = x ∷ []
put_keyed key x (y ∷ ys) = cond (ltb (key y) (key x)) (y ∷ put_keyed key x ys) (x ∷ cond (eqb (key y) (key x)) ys (y ∷ ys))
