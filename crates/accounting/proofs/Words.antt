-- What the definitions say of each tag's row: the laws for whoever keeps accounts.
use Rattle.numbers.specs.declared.refusal.Refusal.TheVariants.{Full}
use Rattle.std.specs.Prelude.{Ok, Err}
use Prim.Native.Nat.{ℕ, ◌+◌, ◌-◌, ◌≤◌, ◌<◌}
use mathlib.Core.List.{List, [], ◌∷◌, map}
use mathlib.Core.Logic.{◌⊎◌, inl, inr, ⊎_elim}
use mathlib.Core.Path.{◌≡◌, refl, ap, sym, subst, ◌∙◌}
use native.Mathlib.Omega.{arith}
use lib.ListN.{length}
use borrow.Author.Tests.{eq-eqb, ne_eqb}
use Rattle.accounting.specs.Entries.{Usage, add_all, no_tags, of_tag}
use Rattle.accounting.specs.Table.{Table, InTagOrder, HasRow, accounts_of, tag_of, row_of, put, on_row, same, handed}
use Rattle.numbers.specs.Keyed.{keyed}
use Rattle.numbers.specs.Lists.{Any}
use Rattle.numbers.specs.Sums.{top, stop, sum}
use Rattle.tagspace.specs.Row.{blank, add_usage, remove_usage}
use Rattle.tagspace.specs.declared.TagSpace.{TagSpace}
use Rattle.accounting.specs.Inner.{KeepsTag}
use Rattle.accounting.proofs.Handing.{handed_fit, handed_full}
use Rattle.numbers.proofs.Cases.{by_eq}
use Rattle.numbers.proofs.Keyed.{keyed_any_key, keyed_own, keyed_other, put_put, has_put, own_has, other_has, length_made, length_kept, put_least, put_same}

-- ---- a call on a tag

module _ (tag : ℕ) (rule : TagSpace → TagSpace) (keeps : KeepsTag rule) (t : Table) where
  abbrev x : TagSpace
  x = rule (row_of tag t.rows)

  rule_tag : x.tag ≡ tag
  rule_tag = keeps (row_of tag t.rows) ∙ keyed_any_key tag_of (blank tag) tag refl t.rows

  -- the rule is carried out on the tag's own row
  pub own_row : row_of tag (on_row tag rule t).rows ≡ rule (row_of tag t.rows)
  unfolding on_row
  own_row = keyed_own tag_of (blank tag) x tag t.rows rule_tag

  -- and leaves every other as it was
  pub other_row : (n : ℕ) → (n ≡ tag → ⊥) → row_of n (on_row tag rule t).rows ≡ row_of n t.rows
  unfolding on_row
  other_row n d = keyed_other tag_of (blank n) x n t.rows (λ e. d (sym e ∙ rule_tag))

  -- the tag has a row then, and no other tag is new
  pub tag_has : HasRow tag (on_row tag rule t).rows
  unfolding on_row
  tag_has = subst (λ (n : ℕ). HasRow n (put x t.rows)) rule_tag (own_has tag_of x t.rows)

  pub others_have : (n : ℕ) → HasRow n t.rows → HasRow n (on_row tag rule t).rows
  unfolding on_row
  others_have n h = other_has tag_of x n t.rows h

  pub none_else : (n : ℕ) → HasRow n (on_row tag rule t).rows → (n ≡ tag) ⊎ HasRow n t.rows
  unfolding on_row
  none_else n h = ⊎_elim (λ e. inl (sym e ∙ rule_tag)) (λ a. inr a) (has_put tag_of x n t.rows h)

  -- another call on the same tag
  pub on_row_twice : (next : TagSpace → TagSpace) → KeepsTag next → on_row tag next (on_row tag rule t) ≡ on_row tag (λ (r : TagSpace). next (rule r)) t
  unfolding on_row
  on_row_twice next k =
      ap (λ (rs : List TagSpace). record { rows = rs; total = t.total })
      (ap (λ (r : TagSpace). put (next r) (put x t.rows)) own_row ∙ put_put tag_of x (next x) (sym (k x)) t.rows)

  -- an unknown tag makes one row, a known one none
  pub rows_made : (HasRow tag t.rows → ⊥) → length (on_row tag rule t).rows ≡ length t.rows + 1
  unfolding on_row
  rows_made n = length_made tag_of x t.rows (λ a. n (subst (λ (i : ℕ). HasRow i t.rows) rule_tag a))

  pub rows_kept : InTagOrder t.rows → HasRow tag t.rows → length (on_row tag rule t).rows ≡ length t.rows
  unfolding on_row
  rows_kept o h = length_kept tag_of x t.rows o (subst (λ (i : ℕ). HasRow i t.rows) (sym rule_tag) h)

  -- 19 is given exactly where the tag has no row and 96 others have
  pub refused_full : (HasRow tag t.rows → ⊥) → 96 ≤ length t.rows → handed t (on_row tag rule t) ≡ record { answer = Err Full; accounts = accounts_of t }
  refused_full n h = let m = rows_made n in handed_full t (on_row tag rule t) (omega (arith, m, h))

  pub kept_known : InTagOrder t.rows → length t.rows ≤ 96 → HasRow tag t.rows → handed t (on_row tag rule t) ≡ record { answer = Ok tt; accounts = accounts_of (on_row tag rule t) }
  kept_known o l h = let m = rows_kept o h in handed_fit t (on_row tag rule t) (omega (arith, m, l))

  pub kept_room : length t.rows < 96 → handed t (on_row tag rule t) ≡ record { answer = Ok tt; accounts = accounts_of (on_row tag rule t) }
  unfolding on_row
  kept_room l = let m = put_least tag_of x t.rows in handed_fit t (on_row tag rule t) (omega (arith, m, l))

module _ (r : TagSpace) where
  add_nothing : r.logical ≤ top → r.physical ≤ top → add_usage 0 0 r ≡ r
  add_nothing h k = let e : stop (r.logical + 0) ≡ r.logical = omega arith in let f : stop (r.physical + 0) ≡ r.physical = omega arith in rw (e, f)

  add_add : (l p m q : ℕ) → add_usage m q (add_usage l p r) ≡ add_usage (l + m) (p + q) r
  add_add l p m q =
      let e : stop (stop (r.logical + l) + m) ≡ stop (r.logical + (l + m)) = omega arith in
      let f : stop (stop (r.physical + p) + q) ≡ stop (r.physical + (p + q)) = omega arith in
      rw (e, f)

  -- where no sum stopped, what was added is taken away again
  pub add_remove : (logical physical : ℕ) → r.logical + logical ≤ top → r.physical + physical ≤ top → remove_usage logical physical (add_usage logical physical r) ≡ r
  add_remove l p h k = let e : stop (r.logical + l) - l ≡ r.logical = omega arith in let f : stop (r.physical + p) - p ≡ r.physical = omega arith in rw (e, f)

module _ (tag : ℕ) (t : Table) where
  -- a rule counts for what it makes of the tag's row
  on_row_by : (rule next : TagSpace → TagSpace) → rule (row_of tag t.rows) ≡ next (row_of tag t.rows) → on_row tag rule t ≡ on_row tag next t
  unfolding on_row
  on_row_by rule next e = rw e

  -- a rule that changes nothing leaves a known tag's accounts as they were
  pub on_row_same : InTagOrder t.rows → HasRow tag t.rows → on_row tag same t ≡ t
  unfolding on_row
  on_row_same o h = ap (λ (rs : List TagSpace). record { rows = rs; total = t.total }) (put_same tag_of (blank tag) tag t.rows o h)

  module _ (logical physical : ℕ) (l : (row_of tag t.rows).logical + logical ≤ top) (p : (row_of tag t.rows).physical + physical ≤ top) where
    -- after the same amounts were added and removed, all is as if the tag had only been asked for
    pub add_remove_table : on_row tag (remove_usage logical physical) (on_row tag (add_usage logical physical) t) ≡ on_row tag same t
    add_remove_table =
        on_row_twice tag (add_usage logical physical) (λ r. refl) t (remove_usage logical physical) (λ r. refl)
        ∙ on_row_by (λ (r : TagSpace). remove_usage logical physical (add_usage logical physical r)) same (add_remove (row_of tag t.rows) logical physical l p)

-- ---- usages one after another

-- the tag's usages together
module _ (tag : ℕ) where
  pub usage_row_from : (us : List Usage) (t : Table) → (row_of tag t.rows).logical ≤ top → (row_of tag t.rows).physical ≤ top → row_of tag
      (add_all us t).rows ≡ add_usage (sum (map (λ (u : Usage). u.logical) (of_tag tag us))) (sum (map (λ (u : Usage). u.physical) (of_tag tag us)))
      (row_of tag t.rows)
  unfolding add_all of_tag sum
  usage_row_from [] t l p = sym (add_nothing (row_of tag t.rows) l p)
  usage_row_from (u ∷ us) t l p =
      let rule : TagSpace → TagSpace = add_usage u.logical u.physical in
      by_eq u.tag tag
      (λ e.
      let o : row_of tag (on_row u.tag rule t).rows ≡ rule (row_of tag t.rows) = subst (λ (n : ℕ). row_of n (on_row u.tag rule t).rows ≡ rule (row_of n t.rows)) e (own_row u.tag rule (λ r. refl) t) in
      simp (eq-eqb u.tag tag e)
      (usage_row_from us (on_row u.tag rule t) (rw o (omega arith)) (rw o (omega arith)) ∙ rw o (add_add (row_of tag t.rows) u.logical u.physical _ _)))
      (λ n.
      let o = other_row u.tag rule (λ r. refl) t tag (λ e. n (sym e)) in
      simp (ne_eqb u.tag tag n)
      (usage_row_from us (on_row u.tag rule t) (rw o l) (rw o p) ∙ rw o))

  pub usage_row : (us : List Usage) → row_of tag (add_all us no_tags).rows ≡ add_usage (sum (map (λ (u : Usage). u.logical) (of_tag tag us)))
      (sum (map (λ (u : Usage). u.physical) (of_tag tag us))) (blank tag)
  unfolding keyed
  usage_row us = usage_row_from us no_tags (omega arith) (omega arith)

  -- the tags that have a row are those of the usages
  pub usage_has : (us : List Usage) (t : Table) → HasRow tag (add_all us t).rows → Any (λ (u : Usage). u.tag ≡ tag) us ⊎ HasRow tag t.rows
  unfolding add_all
  usage_has [] t h = inr h
  usage_has (u ∷ us) t h =
      ⊎_elim (λ a. inl (inr a))
      (λ a. ⊎_elim (λ e. inl (inl (sym e))) (λ b. inr b) (none_else u.tag (add_usage u.logical u.physical) (λ r. refl) t tag a))
      (usage_has us _ h)

  pub has_usage : (us : List Usage) (t : Table) → Any (λ (u : Usage). u.tag ≡ tag) us ⊎ HasRow tag t.rows → HasRow tag (add_all us t).rows
  unfolding add_all
  has_usage [] t (inl a) = absurd a
  has_usage [] t (inr h) = h
  has_usage (u ∷ us) t (inl (inl e)) = has_usage us _ (inr (subst (λ (n : ℕ). HasRow n (on_row u.tag (add_usage u.logical u.physical) t).rows) e
      (tag_has u.tag (add_usage u.logical u.physical) (λ r. refl) t)))
  has_usage (u ∷ us) t (inl (inr a)) = has_usage us _ (inl a)
  has_usage (u ∷ us) t (inr h) = has_usage us _ (inr (others_have u.tag (add_usage u.logical u.physical) (λ r. refl) t tag h))

-- each usage makes one row at most, so 96 of them are never refused
pub usage_count : (us : List Usage) (t : Table) → length (add_all us t).rows ≤ length t.rows + length us
unfolding add_all on_row
usage_count [] t = omega arith
usage_count (u ∷ us) t =
    let n : Table = on_row u.tag (add_usage u.logical u.physical) t in
    let h : length n.rows ≤ length t.rows + 1 = put_least tag_of _ t.rows in
    let k : length (add_all us n).rows ≤ length n.rows + length us = usage_count us n in
    omega (arith, h, k)

pub few_usages : (us : List Usage) → length us ≤ 96 → handed no_tags (add_all us no_tags) ≡ record { answer = Ok tt; accounts = accounts_of (add_all us no_tags) }
few_usages us h = let k = usage_count us no_tags in handed_fit no_tags (add_all us no_tags) (omega (arith, k, h))
