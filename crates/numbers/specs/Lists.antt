-- What holds of every element of a list, and of some; the elements that pass a test; and a list written over the front of another.
use Rattle.std.specs.Prelude.{ℕ, Bool, true, false, cond, ◌&&◌, ◌||◌, List, [], ◌∷◌, ◌++◌, ◌⊎◌, ◌≡◌, eqb, length, drop}

abbrev pub All : {A : Type 0} → (A → Type 0) → List A → Type 0
All P [] = Unit {0}
All P (x ∷ xs) = P x × All P xs

abbrev pub Any : {A : Type 0} → (A → Type 0) → List A → Type 0
Any P [] = ⊥
Any P (x ∷ xs) = P x ⊎ Any P xs

-- R holds of every two elements, of which the first stands in front of the second.
abbrev pub Pairwise : {A : Type 0} → (A → A → Type 0) → List A → Type 0
Pairwise R [] = Unit {0}
Pairwise R (x ∷ xs) = All (R x) xs × Pairwise R xs

-- No element comes twice; `distinct_at` and `at_distinct` (proofs/Lists) say it with places.
abbrev pub Distinct : {A : Type 0} → List A → Type 0
Distinct {A} xs = Pairwise (λ (x y : A). x ≡ y → ⊥) xs

-- Some element passes a test; `any_true` and `any_false` (proofs/Lists) tie it to `Any` and `All`.
unfoldable pub any : {A : Type 0} → (A → Bool) → List A → Bool
any f [] = false
any f (x ∷ xs) = f x || any f xs

-- Some two elements pass a test, the first of which stands in front of the second; `two_false` and `of_no_two` (proofs/Lists) tie
-- it to `Pairwise`.
unfoldable pub any_two : {A : Type 0} → (A → A → Bool) → List A → Bool
any_two f [] = false
any_two f (x ∷ xs) = any (f x) xs || any_two f xs

-- The elements that pass a test.
unfoldable pub keep : {A : Type 0} → (A → Bool) → List A → List A
keep f [] = []
keep f (x ∷ xs) = cond (f x) (x ∷ keep f xs) (keep f xs)

-- Two lists of numbers are the same; `same_true` and `true_same` (proofs/Lists) say that this is equality.
unfoldable pub same : List ℕ → List ℕ → Bool
same [] [] = true
same [] (y ∷ ys) = false
same (x ∷ xs) [] = false
same (x ∷ xs) (y ∷ ys) = eqb x y && same xs ys

-- xs in the first slots of s: "slots past a written answer keep their content".
abbrev pub written : {A : Type 0} → List A → List A → List A
written xs s = xs ++ drop (length xs) s

-- A lent list afterwards: a refused call changes nothing, an accepted one writes xs into the first slots.
abbrev pub list_after : {A : Type 0} → Bool → List A → List A → List A
list_after refused xs s = cond refused s (written xs s)
