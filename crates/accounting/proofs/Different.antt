-- The different tags of usages: as many as there are rows, so that a 97th one is refused.
use Rattle.numbers.proofs.Answers.{no_error}
use Rattle.numbers.specs.declared.refusal.Refusal.TheVariants.{Lists, Full}
use Rattle.numbers.specs.declared.refusal.Refusal.{Refusal}
use Rattle.std.specs.Prelude.{Result, Ok, Err}
use Prim.Native.Nat.{ℕ, ◌+◌, ◌≤◌, ◌<◌}
use mathlib.Core.Bool.{Bool, true, false, cond}
use mathlib.Core.List.{List, [], ◌∷◌}
use mathlib.Core.Logic.{◌⊎◌, inl, inr, ⊎_elim}
use mathlib.Core.Path.{◌≡◌, refl, ap, sym, subst, ◌∙◌}
use native.Mathlib.Omega.{arith}
use lib.Dec.{eqb}
use lib.ListN.{length}
use borrow.Author.Tests.{eqb-true, eq-eqb}
use Rattle.accounting.specs.Entries.{Usage, Counts, add_all, no_tags}
use Rattle.tagspace.specs.Row.{add_usage}
use Rattle.accounting.specs.Table.{Table, InTagOrder, HasRow, accounts_of, on_row, handed}
use Rattle.accounting.specs.declared.Posted.{Posted}
use Rattle.tagspace.specs.declared.TagSpace.{TagSpace}
use Rattle.numbers.specs.Lists.{Any, any}
use Rattle.accounting.proofs.Handing.{handed_fit, handed_full, on_row_order}
use Rattle.accounting.proofs.Words.{rows_made, rows_kept, none_else, others_have, tag_has}
use Rattle.numbers.proofs.Cases.{cases, by_lt, clash}
use Rattle.numbers.proofs.Lists.{any_true, any_imp, of_any}

-- The tags of usages that are not among those seen, each where it first comes up.
unfoldable pub new_tags : List ℕ → List Usage → List ℕ
new_tags seen [] = []
new_tags seen (u ∷ us) = cond (any (eqb u.tag) seen) (new_tags seen us) (u.tag ∷ new_tags (u.tag ∷ seen) us)

-- The different tags of usages.
abbrev pub tags_in : List Usage → List ℕ
tags_in us = new_tags [] us

-- n is one of a list.
abbrev pub In : ℕ → List ℕ → Type 0
In n l = Any (λ (m : ℕ). n ≡ m) l

-- No number comes twice.
abbrev pub Once : List ℕ → Type 0
Once [] = Unit {0}
Once (n ∷ ns) = (In n ns → ⊥) × Once ns

module _ (n : ℕ) (l : List ℕ) where
  seen_true : any (eqb n) l ≡ true → In n l
  seen_true e = any_imp (λ (m : ℕ). eqb n m ≡ true) (λ (m : ℕ). n ≡ m) (λ m t. eqb-true n m t) l (any_true (eqb n) l e)

  seen_false : any (eqb n) l ≡ false → In n l → ⊥
  seen_false e i =
      clash (of_any (eqb n) l (any_imp (λ (m : ℕ). n ≡ m) (λ (m : ℕ). eqb n m ≡ true) (λ m t. eq-eqb n m t) l i)) e

module _ (seen : List ℕ) (u : Usage) (us : List Usage) where
  tags_next : any (eqb u.tag) seen ≡ true → new_tags seen (u ∷ us) ≡ new_tags seen us
  unfolding new_tags
  tags_next e = simp e

  tags_new : any (eqb u.tag) seen ≡ false → new_tags seen (u ∷ us) ≡ u.tag ∷ new_tags (u.tag ∷ seen) us
  unfolding new_tags
  tags_new e = simp e

  -- by whether the first one's tag was seen
  tags_cases : (P : List ℕ → Type 0) → (In u.tag seen → P (new_tags seen us)) → ((In u.tag seen → ⊥) → P (u.tag ∷ new_tags (u.tag ∷ seen) us)) → P (new_tags seen (u ∷ us))
  tags_cases P f g =
      cases (any (eqb u.tag) seen) (λ e. subst P (sym (tags_next e)) (f (seen_true u.tag seen e)))
      (λ e. subst P (sym (tags_new e)) (g (seen_false u.tag seen e)))

-- ---- they are the tags of the usages, each once

module _ (n : ℕ) where
  tag_of : (seen : List ℕ) (us : List Usage) → In n (new_tags seen us) → Any (λ (u : Usage). u.tag ≡ n) us × (In n seen → ⊥)
  unfolding new_tags
  tag_of seen [] i = absurd i
  tag_of seen (u ∷ us) i =
      tags_cases seen u us (λ (l : List ℕ). In n l → Any (λ (u : Usage). u.tag ≡ n) (u ∷ us) × (In n seen → ⊥))
      (λ s i. let r = tag_of seen us i in (inr r.0, r.1))
      (λ s i.
      ⊎_elim (λ e. (inl (sym e), λ j. s (subst (λ (m : ℕ). In m seen) e j)))
      (λ i. let r = tag_of (u.tag ∷ seen) us i in (inr r.0, λ j. r.1 (inr j))) i)
      i

  tag_has_new : (seen : List ℕ) (us : List Usage) → Any (λ (u : Usage). u.tag ≡ n) us → In n seen ⊎ In n (new_tags seen us)
  tag_has_new seen [] a = absurd a
  tag_has_new seen (u ∷ us) a =
      tags_cases seen u us (λ (l : List ℕ). In n seen ⊎ In n l)
      (λ s. ⊎_elim (λ e. inl (subst (λ (m : ℕ). In m seen) e s)) (λ b. tag_has_new seen us b) a)
      (λ s.
      ⊎_elim (λ e. inr (inl (sym e)))
      (λ b. ⊎_elim (λ j. ⊎_elim (λ e. inr (inl e)) (λ k. inl k) j) (λ j. inr (inr j)) (tag_has_new (u.tag ∷ seen) us b)) a)

  pub tags_of : (us : List Usage) → In n (tags_in us) → Any (λ (u : Usage). u.tag ≡ n) us
  tags_of us i = (tag_of [] us i).0

  pub tags_have : (us : List Usage) → Any (λ (u : Usage). u.tag ≡ n) us → In n (tags_in us)
  tags_have us a = ⊎_elim (λ i. absurd i) (λ i. i) (tag_has_new [] us a)

new_once : (seen : List ℕ) (us : List Usage) → Once (new_tags seen us)
unfolding new_tags
new_once seen [] = tt
new_once seen (u ∷ us) =
    tags_cases seen u us Once (λ s. new_once seen us)
    (λ s. (λ i. (tag_of u.tag (u.tag ∷ seen) us i).1 (inl refl), new_once (u.tag ∷ seen) us))

pub tags_once : (us : List Usage) → Once (tags_in us)
tags_once us = new_once [] us

-- ---- as many rows

rows_new : (seen : List ℕ) (us : List Usage) (t : Table) → InTagOrder t.rows
    → ((n : ℕ) → In n seen → HasRow n t.rows)
    → ((n : ℕ) → HasRow n t.rows → In n seen)
    → length (add_all us t).rows ≡ length t.rows + length (new_tags seen us)
unfolding add_all new_tags
rows_new seen [] t o f g = omega arith
rows_new seen (u ∷ us) t o f g =
    let rule : TagSpace → TagSpace = add_usage u.logical u.physical in
    let next : Table = on_row u.tag rule t in
    let p = on_row_order u.tag rule t o in
    let old : (n : ℕ) → HasRow n t.rows → HasRow n next.rows = others_have u.tag rule (λ r. refl) t in
    let only : (n : ℕ) → HasRow n next.rows → (n ≡ u.tag) ⊎ HasRow n t.rows = none_else u.tag rule (λ r. refl) t in
    tags_cases seen u us (λ (l : List ℕ). length (add_all us next).rows ≡ length t.rows + length l)
    (λ s.
    let m = rows_kept u.tag rule (λ r. refl) t o (f u.tag s) in
    let i = rows_new seen us next p (λ n j. old n (f n j)) (λ n h. ⊎_elim (λ e. subst (λ (k : ℕ). In k seen) (sym e) s) (g n) (only n h)) in
    omega (arith, m, i))
    (λ s.
    let m = rows_made u.tag rule (λ r. refl) t (λ h. s (g u.tag h)) in
    let i = rows_new (u.tag ∷ seen) us next p
    (λ n j. ⊎_elim (λ e. subst (λ (k : ℕ). HasRow k next.rows) (sym e) (tag_has u.tag rule (λ r. refl) t)) (λ k. old n (f n k)) j)
    (λ n h. ⊎_elim (λ e. inl e) (λ k. inr (g n k)) (only n h)) in
    omega (arith, m, i))

pub usage_rows : (us : List Usage) → length (add_all us no_tags).rows ≡ length (tags_in us)
usage_rows us = rows_new [] us no_tags tt (λ n i. absurd i) (λ n h. h) ∙ omega arith

-- ---- 19 exactly where there are more than 96

not_lists : {A : Type 0} → ◌≡◌ {A = Result A Refusal} (Err Lists) (Err Full) → ⊥
not_lists e = cc

module _ (us : List Usage) where
  pub few_tags : length (tags_in us) ≤ 96 → handed no_tags (add_all us no_tags) ≡ record { answer = Ok tt; accounts = accounts_of (add_all us no_tags) }
  few_tags h = let e = usage_rows us in handed_fit no_tags (add_all us no_tags) (omega (arith, e, h))

  pub many_tags : 96 < length (tags_in us) → handed no_tags (add_all us no_tags) ≡ record { answer = Err Full; accounts = accounts_of no_tags }
  many_tags h = let e = usage_rows us in handed_full no_tags (add_all us no_tags) (omega (arith, e, h))

-- of `from_usage` and `from_entries`
module _ {us : List Usage} {r : Posted} where
  pub counts_many : Counts false us r → 96 < length (tags_in us) → r.answer ≡ Err Full
  counts_many c h = ap (λ (p : Posted). p.answer) (c.answer ∙ many_tags us h)

  pub many_counts : (bad : Bool) → Counts bad us r → r.answer ≡ Err Full → (bad ≡ false) × (96 < length (tags_in us))
  many_counts true c z = absurd (not_lists (sym (ap (λ (p : Posted). p.answer) c.answer) ∙ z))
  many_counts false c z =
      by_lt 96 (length (tags_in us)) (λ l. (refl, l))
      (λ l. absurd (no_error _ _ (sym (ap (λ (p : Posted). p.answer) (c.answer ∙ few_tags us l)) ∙ z)))
