-- Lists of ranges of which no two meet: at their places, in parts, with one more.
use Prim.Native.Nat.{ℕ, ◌<◌}
use mathlib.Core.List.{List, [], ◌∷◌, ◌++◌}
use mathlib.Core.Logic.{inl, inr}
use mathlib.Core.Path.{◌≡◌}
use lib.ListN.{length, get_or}
use Rattle.numbers.specs.Lists.{All, Any}
use Rattle.numbers.specs.Range.{Range, blank, Has, Meet, Disjoint}
use Rattle.numbers.proofs.Lists.{all_append, all_left, all_right, at_pairwise, pairwise_at}
use Rattle.numbers.proofs.Ranges.{meet_sym}

-- r meets none of a list.
abbrev pub MeetsNone : Range → List Range → Type 0
MeetsNone r rs = All (λ (q : Range). Meet r q → ⊥) rs

pub none_sym : (r q : Range) → (Meet r q → ⊥) → Meet q r → ⊥
none_sym r q n m = n (meet_sym q r m)

-- a byte of a range that meets none of a list is in none of them; of several such ranges alike
pub none_shared : (r : Range) (qs : List Range) → MeetsNone r qs → (b : ℕ) → Has r b → Any (λ (q : Range). Has q b) qs → ⊥
none_shared r [] n b h a = a
none_shared r (q ∷ qs) n b h (inl a) = n.0 (record { byte = b; left = h; right = a })
none_shared r (q ∷ qs) n b h (inr a) = none_shared r qs n.1 b h a

pub all_shared : (rs qs : List Range) → All (λ (r : Range). MeetsNone r qs) rs → (b : ℕ) → Any (λ (r : Range). Has r b) rs → Any (λ (q : Range). Has q b) qs → ⊥
all_shared [] qs n b h a = h
all_shared (r ∷ rs) qs n b (inl h) a = none_shared r qs n.0 b h a
all_shared (r ∷ rs) qs n b (inr h) a = all_shared rs qs n.1 b h a

-- at two places
pub disjoint_at : (rs : List Range) (i j : ℕ) → Disjoint rs → i < length rs → j < length rs → (i ≡ j → ⊥) → Meet (get_or rs i blank) (get_or rs j blank) → ⊥
disjoint_at rs i j = pairwise_at (λ (r q : Range). Meet r q → ⊥) none_sym rs blank i j

pub at_disjoint : (rs : List Range) → ((i j : ℕ) → i < j → j < length rs → Meet (get_or rs i blank) (get_or rs j blank) → ⊥) → Disjoint rs
at_disjoint rs f = at_pairwise (λ (r q : Range). Meet r q → ⊥) rs blank f

-- two lists one behind the other
pub disjoint_append : (xs ys : List Range) → Disjoint xs → Disjoint ys → All (λ (x : Range). MeetsNone x ys) xs → Disjoint (xs ++ ys)
disjoint_append [] ys d e a = e
disjoint_append (x ∷ xs) ys d e a = (all_append (λ (q : Range). Meet x q → ⊥) xs ys d.0 a.0, disjoint_append xs ys d.1 e a.1)

pub disjoint_left : (xs ys : List Range) → Disjoint (xs ++ ys) → Disjoint xs
disjoint_left [] ys d = tt
disjoint_left (x ∷ xs) ys d = (all_left (λ (q : Range). Meet x q → ⊥) xs ys d.0, disjoint_left xs ys d.1)

pub disjoint_right : (xs ys : List Range) → Disjoint (xs ++ ys) → Disjoint ys
disjoint_right [] ys d = d
disjoint_right (x ∷ xs) ys d = disjoint_right xs ys d.1

pub disjoint_between : (xs ys : List Range) → Disjoint (xs ++ ys) → All (λ (x : Range). MeetsNone x ys) xs
disjoint_between [] ys d = tt
disjoint_between (x ∷ xs) ys d = (all_right (λ (q : Range). Meet x q → ⊥) xs ys d.0, disjoint_between xs ys d.1)

-- one range more in the middle, or one less
pub disjoint_with : (xs : List Range) (y : Range) (ys : List Range) → Disjoint (xs ++ ys) → MeetsNone y (xs ++ ys) → Disjoint (xs ++ (y ∷ ys))
disjoint_with [] y ys d n = (n, d)
disjoint_with (x ∷ xs) y ys d n = (
  all_append (λ (q : Range). Meet x q → ⊥) xs (y ∷ ys) (all_left (λ (q : Range). Meet x q → ⊥) xs ys d.0)
      (none_sym y x n.0, all_right (λ (q : Range). Meet x q → ⊥) xs ys d.0),
  disjoint_with xs y ys d.1 n.1,
)

pub disjoint_middle : (xs : List Range) (y : Range) (ys : List Range) → Disjoint (xs ++ (y ∷ ys)) → MeetsNone y (xs ++ ys)
disjoint_middle [] y ys d = d.0
disjoint_middle (x ∷ xs) y ys d = (none_sym x y (all_right (λ (q : Range). Meet x q → ⊥) xs (y ∷ ys) d.0).0, disjoint_middle xs y ys d.1)

pub disjoint_without : (xs : List Range) (y : Range) (ys : List Range) → Disjoint (xs ++ (y ∷ ys)) → Disjoint (xs ++ ys)
disjoint_without [] y ys d = d.1
disjoint_without (x ∷ xs) y ys d =
    (all_append (λ (q : Range). Meet x q → ⊥) xs ys (all_left (λ (q : Range). Meet x q → ⊥) xs (y ∷ ys) d.0) (all_right (λ (q : Range). Meet x q → ⊥) xs (y ∷ ys) d.0).1, disjoint_without xs y ys d.1)
