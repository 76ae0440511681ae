-- Rows turned into other rows one by one, and back.
use Rattle.std.specs.Prelude.{None, Option, Some}
use Prim.Native.Nat.{ℕ, ◌≤◌}
use mathlib.Core.List.{List, [], ◌∷◌, map}
use mathlib.Core.Path.{◌≡◌, refl, ap, sym, ◌∙◌}
use native.Mathlib.Omega.{arith}
use lib.ListN.{length, take}
use Rattle.std.proofs.lemmas.List.{take_all}
use Rattle.std.specs.Result.{result_unwrap_or}
use borrow.Author.Tests.{ne_eqb}
use Rattle.numbers.proofs.Cases.{by_eq}
use Rattle.accounting.specs.declared.Accounting.{Accounting}
use Rattle.flat.specs.Flat.{kind_of, cap_from, is_capped, limit_of, row_from, flat_row, accounts_from, flat_accounts}
use Rattle.footprint.specs.Footprint.{kind_code, kind_in}
use Rattle.footprint.specs.declared.RegionKind.{RegionKind}
use Rattle.footprint.specs.declared.RegionKind.TheVariants.{Append, Page, Slot}
use Rattle.tagspace.specs.declared.TagSpace.{TagSpace}

module _ {A B : Type 0} (h : A → B) where
  -- where each of the first i items is h of the other list's, and there are no more
  pub turned : (xs : List A) (ys : List B) {i n : ℕ} → length xs ≡ n → length ys ≡ n → n ≤ i → take i ys ≡ map h (take i xs) → ys ≡ map h xs
  turned xs ys {i} l m k e = sym (take_all i ys (omega (arith, m, k))) ∙ e ∙ ap (map h) (take_all i xs (omega (arith, l, k)))

-- nothing is lost in flat numbers
cap_again : (c : Option ℕ) → cap_from (is_capped c) (limit_of c) ≡ c
cap_again (Some n) = refl
cap_again None = refl

row_again : (r : TagSpace) → row_from (flat_row r) ≡ r
row_again r = rw (cap_again r.cap)

rows_again : (rs : List TagSpace) → map row_from (map flat_row rs) ≡ rs
rows_again [] = refl
rows_again (r ∷ rs) = rw (row_again r, rows_again rs)

pub from_flat : (a : Accounting) → accounts_from (flat_accounts a) ≡ a
unfolding accounts_from flat_accounts
from_flat a = rw (rows_again a.rows)

pub kind_told : (n : ℕ) → result_unwrap_or (kind_in n) Append ≡ kind_of n
unfolding kind_in kind_of
kind_told n =
    by_eq n 1 (λ e. rw e refl)
    (λ a. by_eq n 2 (λ e. rw e refl)
    (λ b. by_eq n 3 (λ e. rw e refl) (λ d. simp (ne_eqb _ _ a, ne_eqb _ _ b, ne_eqb _ _ d))))

pub kind_again : (k : RegionKind) → kind_of (kind_code k) ≡ k
unfolding kind_of kind_code
kind_again Append = refl
kind_again Page = refl
kind_again Slot = refl
