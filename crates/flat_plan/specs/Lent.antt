-- Lists turned into others item by item, where both are lent.
use Rattle.std.specs.Prelude.{ℕ, ◌<◌, List, ◌≡◌, length, slice_index_or}

-- Each item of ys at whose place xs has one is what G gives of that one.
pub record Turned {A B : Type 0} (G : A → B → Type 0) (xs : List A) (ys₀ ys : List B) : Type 0 where
  pub long : length ys ≡ length ys₀
  pub at : (i : ℕ) (x : A) (y : B) → i < length xs → i < length ys → G (slice_index_or xs i x) (slice_index_or ys i y)
