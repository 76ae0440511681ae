-- The rows of tags: one more, or one changed.
use Rattle.std.specs.Prelude.{None}
use Prim.Native.Nat.{ℕ, ◌≤◌, ◌<◌}
use mathlib.Core.Bool.{true, false}
use mathlib.Core.List.{List}
use mathlib.Core.Path.{◌≡◌, refl, sym, subst, ◌∙◌}
use native.Mathlib.Omega.{arith}
use lib.Dec.{leb}
use lib.ListN.{length}
use borrow.Author.Tests.{leb-false}
use Rattle.model.specs.Calls.{tag_full}
use Rattle.model.specs.Region.{Region}
use Rattle.model.specs.World.{World, TagRow, tag_row, tag_of, has_row, row_of, put_row, with_tag}
use Rattle.numbers.specs.Keyed.{HasKey, InKeyOrder}
use Rattle.numbers.specs.Lists.{All}
use Rattle.model.proofs.Sound.{Sound}
use Rattle.numbers.proofs.Cases.{cases}
use Rattle.numbers.proofs.Keyed.{key_true, true_key, keyed_any_key, put_order, own_has, other_has, put_least, length_kept}
use Rattle.numbers.proofs.Lists.{all_imp}

-- the test says whether a tag has a row
module _ (w : World) (tag : ℕ) where
  pub row_true : has_row w tag ≡ true → HasKey tag_of tag w.rows
  unfolding has_row
  row_true e = key_true tag_of tag w.rows e

  pub true_row : HasKey tag_of tag w.rows → has_row w tag ≡ true
  unfolding has_row
  true_row h = true_key tag_of tag w.rows h

-- the rows with that of a tag, where it stands or new
module _ (t : ℕ) (rows : List TagRow) where
  pub row_tag : (row_of t rows).tag ≡ t
  row_tag = keyed_any_key tag_of (tag_row t None) t refl rows

  pub with_order : InKeyOrder tag_of rows → InKeyOrder tag_of (with_tag t rows)
  with_order o = put_order tag_of (row_of t rows) rows o

  pub with_own : HasKey tag_of t (with_tag t rows)
  with_own = subst (λ (n : ℕ). HasKey tag_of n (with_tag t rows)) row_tag (own_has tag_of (row_of t rows) rows)

  pub with_others : (n : ℕ) → HasKey tag_of n rows → HasKey tag_of n (with_tag t rows)
  with_others n h = other_has tag_of (row_of t rows) n rows h

-- the rows of a sound world with one put in
module _ (w : World) (s : Sound w) (t : TagRow) where
  pub put_few : tag_full w t.tag ≡ false → length (put_row t w.rows) ≤ 96
  unfolding tag_full
  put_few f =
      cases (has_row w t.tag)
      (λ e. let k = length_kept tag_of t w.rows s.order (row_true w t.tag e) in omega (arith, k, s.rows_few))
      (λ e.
      let l : leb 96 (length w.rows) ≡ false = sym (simp e) ∙ f in
      let m : length w.rows < 96 = leb-false _ _ l in
      let k = put_least tag_of t w.rows in
      omega arith)

  pub put_ordered : InKeyOrder tag_of (put_row t w.rows)
  put_ordered = put_order tag_of t w.rows s.order

  pub put_tagged : All (λ (r : Region). HasKey tag_of r.tag (put_row t w.rows)) w.regions
  put_tagged =
      all_imp (λ (r : Region). HasKey tag_of r.tag w.rows) (λ (r : Region). HasKey tag_of r.tag (put_row t w.rows))
      (λ r. other_has tag_of t r.tag w.rows) w.regions s.tagged
