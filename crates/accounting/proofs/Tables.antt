-- Records and what they mean: the record of a table, and where a tag's row stands in it.
use Prim.Native.Nat.{ℕ, zero, suc, ◌+◌, ◌-◌, ◌≤◌, ◌<◌}
use mathlib.Core.List.{List, [], ◌∷◌, ◌++◌, map}
use mathlib.Core.Path.{◌≡◌, refl, ap, sym, subst, ◌∙◌}
use native.Mathlib.Omega.{arith}
use lib.ListN.{length, get_or, take, drop, replicate, length-drop, length-take, get_or-map, get_or-eq_default}
use lib.Seq.{take-append_seam, get_or-take, get_or-drop}
use Rattle.accounting.specs.Inner.{Belongs, Known}
use Rattle.accounting.specs.Table.{Table, InTagOrder, Valid, accounts_of, table_of, tag_of}
use Rattle.accounting.specs.declared.Accounting.{Accounting}
use Rattle.numbers.specs.Search.{Rising, Found}
use Rattle.tagspace.specs.Row.{blank}
use Rattle.tagspace.specs.declared.TagSpace.{TagSpace}
use Rattle.numbers.proofs.Cases.{by_eq}
use Rattle.numbers.proofs.Keyed.{order_at}
use Rattle.numbers.proofs.Lists.{all_of}

pub table_accounts : (t : Table) → table_of (accounts_of t) ≡ t
unfolding table_of accounts_of
table_accounts t = ap (λ (rs : List TagSpace). record { rows = rs; total = t.total }) (take-append_seam t.rows (replicate (96 - length t.rows) (blank 0)))

pub accounts_valid : (t : Table) → length t.rows ≤ 96 → InTagOrder t.rows → Valid (accounts_of t)
unfolding accounts_of
accounts_valid t h o =
    record {
      few = h;
      order = subst (λ (u : Table). InTagOrder u.rows) (sym (table_accounts t)) o;
      record_of = ap accounts_of (sym (table_accounts t));
    }

-- blank rows behind others are what is read there anyway
get_or_blanks : (xs : List TagSpace) (b : TagSpace) (m i : ℕ) → get_or (xs ++ replicate m b) i b ≡ get_or xs i b
get_or_blanks [] b zero i = refl
get_or_blanks [] b (suc m) zero = refl
get_or_blanks [] b (suc m) (suc i) = get_or_blanks [] b m i
get_or_blanks (x ∷ xs) b m zero = refl
get_or_blanks (x ∷ xs) b m (suc i) = get_or_blanks xs b m i

module _ (a : Accounting) (v : Valid a) where
  abbrev xs : List TagSpace
  xs = (table_of a).rows

  pub count_rows : a.count ≡ length xs
  unfolding accounts_of
  count_rows = ap (λ (q : Accounting). q.count) v.record_of

  pub all_rows : a.rows ≡ xs ++ replicate (96 - length xs) (blank 0)
  unfolding accounts_of
  all_rows = ap (λ (q : Accounting). q.rows) v.record_of

  pub row_of_record : (i : ℕ) → get_or a.rows i (blank 0) ≡ get_or xs i (blank 0)
  row_of_record i = ap (λ (l : List TagSpace). get_or l i (blank 0)) all_rows ∙ get_or_blanks xs (blank 0) (96 - length xs) i

  pub row_behind_all : (i : ℕ) → 96 ≤ i → get_or xs i (blank 0) ≡ blank 0
  row_behind_all i h = get_or-eq_default xs (blank 0) (omega (arith, count_rows, v.few))

  rising : Rising (map tag_of a.rows) a.count
  rising i j h l =
      let e : (k : ℕ) → get_or (map tag_of a.rows) k 0 ≡ (get_or xs k (blank 0)).tag = λ k. get_or-map tag_of a.rows k (blank 0) ∙ ap tag_of (row_of_record k) in
      by_eq i j (λ q. rw q (omega arith))
      (λ n. let s = order_at tag_of xs v.order i j (blank 0) (omega arith) (omega (arith, count_rows, l)) in rw (e i, e j) (omega arith))

-- ---- what the search finds

module _ (a : Accounting) (tag : ℕ) where
  pub sought_none : 96 < a.count → Belongs a tag 0
  sought_none h =
      record {
        inside = omega arith;
        lower = λ v. absurd (omega (arith, v.few, h));
        higher = λ v. absurd (omega (arith, v.few, h));
      }

  module _ (few : a.count ≤ 96) (k : ℕ) (g : Found (map tag_of a.rows) a.count tag k) where
    pub known : 0 < k → (get_or a.rows (k - 1) (blank 0)).tag ≡ tag → Known a tag (k - 1)
    known h e = let w = g.inside in record { few = few; inside = omega arith; own = e }

    module _ (v : Valid a) where
      tag_at : (j : ℕ) → get_or (map tag_of a.rows) j 0 ≡ (get_or (xs a v) j (blank 0)).tag
      tag_at j = get_or-map tag_of a.rows j (blank 0) ∙ ap tag_of (row_of_record a v j)

      lower_at : (0 < k → (get_or a.rows (k - 1) (blank 0)).tag ≡ tag → ⊥) → (j : ℕ) → j < k → (get_or (xs a v) j (blank 0)).tag < tag
      lower_at other j h =
          let w = g.inside in
          let c = count_rows a v in
          let l : (get_or (xs a v) (k - 1) (blank 0)).tag ≤ tag = rw (← tag_at (k - 1)) (g.below (omega arith)) in
          let d = other (omega arith) in
          let r = ap tag_of (row_of_record a v (k - 1)) in
          by_eq j (k - 1) (λ q. by_eq (get_or (xs a v) (k - 1) (blank 0)).tag tag (λ z. absurd (d (r ∙ z))) (λ z. rw q (omega arith)))
          (λ q. let s = order_at tag_of (xs a v) v.order j (k - 1) (blank 0) (omega arith) (omega arith) in omega arith)

      higher_at : (j : ℕ) → k ≤ j → j < a.count → tag < (get_or (xs a v) j (blank 0)).tag
      higher_at j h l = rw (← tag_at j) (g.above (rising a v) j h l)

    pub belongs : (0 < k → (get_or a.rows (k - 1) (blank 0)).tag ≡ tag → ⊥) → Belongs a tag k
    belongs other =
        record {
          inside = g.inside;
          lower = λ v.
              all_of (λ (q : TagSpace). q.tag < tag) (take k (xs a v)) (blank 0)
              (λ j h. rw (get_or-take k (xs a v) j (blank 0) (let n = length-take k (xs a v) in omega arith)) (lower_at v other j (let n = length-take k (xs a v) in omega arith)));
          higher = λ v.
              all_of (λ (q : TagSpace). tag < q.tag) (drop k (xs a v)) (blank 0)
              (λ j h. rw (get_or-drop k (xs a v) j (blank 0)) (higher_at v (k + j) (omega arith) (let n = length-drop k (xs a v) in let c = count_rows a v in let w = g.inside in omega arith)));
        }
