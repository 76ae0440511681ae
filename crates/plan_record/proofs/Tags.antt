-- The accounts of a valid plan: which postings are refused, and that the rows of the plan handed back have its totals.
use Rattle.numbers.specs.declared.refusal.Refusal.TheVariants.{Full}
use Rattle.accounting.specs.Inner.{KeepsTag}
use Rattle.std.specs.Prelude.{None, Option, Ok, Err}
use Prim.Native.Nat.{ℕ, ◌+◌, ◌-◌, ◌≤◌, ◌<◌}
use mathlib.Core.Bool.{true, false, not}
use mathlib.Core.List.{List, map}
use mathlib.Core.Path.{◌≡◌, refl, ap, sym, subst, ◌∙◌}
use native.Mathlib.Omega.{arith}
use lib.Dec.{eqb, leb}
use lib.ListN.{length, length-map}
use borrow.Author.Tests.{eq-eqb, ne_eqb, leb-true, leb-false, not-true}
use Rattle.accounting.specs.declared.Accounting.{Accounting}
use Rattle.accounting.specs.declared.Posted.{Posted}
use Rattle.model.specs.Calls.{tag_full}
use Rattle.numbers.specs.Keyed.{HasKey}
use Rattle.plan_record.specs.Plan.{rows_of, cap_of, world_of, Valid}
use Rattle.plan_record.specs.declared.Plan.{Plan}
use Rattle.tagspace.specs.Row.{blank, add_usage, remove_usage}
use Rattle.tagspace.specs.declared.TagSpace.{TagSpace}
use Rattle.accounting.proofs.Tables.{table_accounts}
use Rattle.accounting.proofs.Words.{own_row, other_row, refused_full, kept_known, kept_room}
use Rattle.model.proofs.Figures.{held_most, physical_most, logical_most}
use Rattle.model.proofs.Regions.{if_tag}
use Rattle.model.proofs.Rows.{true_row}
use Rattle.model.proofs.Sound.{Sound}
use Rattle.numbers.proofs.Cases.{cases, by_eq, clash, and-true}
use Rattle.numbers.proofs.Keyed.{map_keyed, map_put, map_has, key_true, true_key, put_same, keyed_any_key}
use Rattle.accounting.specs.Table as accounting
use Rattle.model.specs.World as model

-- ---- a plan's rows in its world

same_row : (r : TagSpace) (tag logical physical reserved : ℕ) (cap : Option ℕ) → r.tag ≡ tag → r.logical ≡ logical → r.physical ≡ physical → r.reserved ≡ reserved → r.cap ≡ cap
    → r ≡ record { tag = tag; logical = logical; physical = physical; reserved = reserved; cap = cap }
same_row r tag logical physical reserved cap a b c d e = rw (← a, ← b, ← c, ← d, ← e)

abbrev pub table_in : Plan → accounting.Table
table_in p = accounting.table_of p.accounts

pub cap_row : (tag : ℕ) (rs : List TagSpace) → cap_of (accounting.row_of tag rs) ≡ model.row_of tag (map cap_of rs)
cap_row tag rs = map_keyed cap_of accounting.tag_of model.tag_of (λ r. refl) (blank tag) tag rs

pub row_tag : (tag : ℕ) (rs : List TagSpace) → (accounting.row_of tag rs).tag ≡ tag
row_tag tag rs = keyed_any_key accounting.tag_of (blank tag) tag refl rs

module _ (p : Plan) (xs : List ℕ) (tag : ℕ) where
  abbrev row : TagSpace
  row = accounting.row_of tag (rows_of p)

  -- a row with the totals of the tag is the model's account
  pub account_by : row.logical ≡ model.logical (world_of p xs) tag → row.physical ≡ model.physical (world_of p xs) tag → row.reserved ≡ 0
      → row ≡ model.account_of (world_of p xs) tag
  unfolding world_of
  account_by l h r =
      same_row row tag (model.logical (world_of p xs) tag) (model.physical (world_of p xs) tag) 0 (model.row_of tag (map cap_of (rows_of p))).cap
      (row_tag tag (rows_of p)) l h r (ap (λ (t : model.TagRow). t.cap) (cap_row tag (rows_of p)))

  pub has-row : HasKey accounting.tag_of tag (rows_of p) → model.has_row (world_of p xs) tag ≡ true
  unfolding world_of model.has_row
  has-row h = map_has cap_of accounting.tag_of model.tag_of (λ r. refl) tag (rows_of p) ∙ true_key accounting.tag_of tag (rows_of p) h

  pub row_has : model.has_row (world_of p xs) tag ≡ true → HasKey accounting.tag_of tag (rows_of p)
  unfolding world_of model.has_row
  row_has e = key_true accounting.tag_of tag (rows_of p) (sym (map_has cap_of accounting.tag_of model.tag_of (λ r. refl) tag (rows_of p)) ∙ e)

-- ---- what is handed back

module _ (p : Plan) (xs ss fs : List ℕ) (v : Valid p xs ss fs) (tag : ℕ) (rule : TagSpace → TagSpace) (keeps : KeepsTag rule) where
  abbrev w : model.World
  w = world_of p xs

  rows_many : length w.rows ≡ length (rows_of p)
  unfolding world_of
  rows_many = length-map (rows_of p) cap_of

  few : length (rows_of p) ≤ 96
  few = omega (arith, rows_many, v.sound.rows_few)

  pub posting_full : tag_full w tag ≡ true
      → accounting.handed (table_in p) (accounting.on_row tag rule (table_in p)) ≡ record { answer = Err Full; accounts = accounting.accounts_of (table_in p) }
  unfolding tag_full
  posting_full e =
      let a = and-true (not (model.has_row w tag)) (leb 96 (length w.rows)) e in
      let l : 96 ≤ length w.rows = leb-true _ _ a.1 in
      let m = rows_many in
      refused_full tag rule keeps (table_in p) (λ h. clash (has-row p xs tag h) (not-true _ a.0)) (omega arith)

  pub posting_fine : tag_full w tag ≡ false
      → accounting.handed (table_in p) (accounting.on_row tag rule (table_in p)) ≡ record { answer = Ok tt; accounts = accounting.accounts_of (accounting.on_row tag rule (table_in p)) }
  unfolding tag_full
  posting_fine e =
      cases (model.has_row w tag)
      (λ h. kept_known tag rule keeps (table_in p) v.accounts.order few (row_has p xs tag h))
      (λ h.
      let n : length w.rows < 96 = leb-false _ _ (sym (simp h) ∙ e) in
      let m = rows_many in
      kept_room tag rule keeps (table_in p) (omega arith))

  -- what a posting hands back where it is not refused
  pub record Taken (q : Posted) : Type 0 where
    pub number : q.answer ≡ Ok tt
    pub table : accounting.table_of q.accounts ≡ accounting.on_row tag rule (table_in p)
    pub valid : accounting.Valid q.accounts

  pub posting_taken : (q : Posted) → accounting.Posts p.accounts (accounting.on_row tag rule) q → tag_full w tag ≡ false → Taken q
  posting_taken q o e =
      let h = o.answer v.accounts ∙ posting_fine e in
      record {
        number = ap (λ (r : Posted). r.answer) h;
        table = ap (λ (r : Posted). accounting.table_of r.accounts) h ∙ table_accounts (accounting.on_row tag rule (table_in p));
        valid = o.valid v.accounts;
      }

  pub posting_refused : (q : Posted) → accounting.Posts p.accounts (accounting.on_row tag rule) q → tag_full w tag ≡ true → q.answer ≡ Err Full
  posting_refused q o e = ap (λ (r : Posted). r.answer) (o.answer v.accounts ∙ posting_full e)

-- a tag that has a row is no 97th one
pub row_no_full : (w : model.World) (tag : ℕ) → HasKey model.tag_of tag w.rows → tag_full w tag ≡ false
unfolding tag_full
row_no_full w tag h = simp (true_row w tag h)

-- ---- the rows of a plan after a posting

pub if_own : (tag n : ℕ) → if_tag tag tag n ≡ n
if_own tag n = simp (eq-eqb tag tag refl)

pub if_other : (tag t n : ℕ) → (t ≡ tag → ⊥) → if_tag tag t n ≡ 0
if_other tag t n d = simp (ne_eqb tag t (λ e. d (sym e)))

-- nothing more, and as much more as one number is above another
pub if_none : (tag t n : ℕ) → n ≡ n + if_tag tag t 0
if_none tag t n = cases (eqb tag t) (λ e. simp e (omega arith)) (λ e. simp e (omega arith))

pub if_more : (tag t a b x y : ℕ) → a ≤ b → x + if_tag tag t a ≡ y + if_tag tag t b → x ≡ y + if_tag tag t (b - a)
if_more tag t a b x y l e =
    cases (eqb tag t)
    (λ q. let h : x + a ≡ y + b = simp q at e in simp q (omega arith)) (λ q. let h : x + 0 ≡ y + 0 = simp q at e in simp q (omega arith))

module _ (tag : ℕ) (rule : TagSpace → TagSpace) (t : accounting.Table) where
  pub posted_rows : map cap_of (accounting.on_row tag rule t).rows ≡ model.put_row (cap_of (rule (accounting.row_of tag t.rows))) (map cap_of t.rows)
  unfolding accounting.on_row
  posted_rows = map_put cap_of accounting.tag_of model.tag_of (λ r. refl) (rule (accounting.row_of tag t.rows)) t.rows

-- where the rule leaves the cap, the world's rows are those with the tag
pub with-tag : (tag : ℕ) (rule : TagSpace → TagSpace) (t : accounting.Table) → ((r : TagSpace) → cap_of (rule r) ≡ cap_of r)
    → map cap_of (accounting.on_row tag rule t).rows ≡ model.with_tag tag (map cap_of t.rows)
with-tag tag rule t k =
    posted_rows tag rule t
    ∙ ap (λ (r : model.TagRow). model.put_row r (map cap_of t.rows)) (k (accounting.row_of tag t.rows) ∙ cap_row tag t.rows)

-- where it has a row, they stay
pub tag_there : (p : Plan) (xs ss fs : List ℕ) → Valid p xs ss fs → (tag : ℕ) → HasKey model.tag_of tag (world_of p xs).rows → model.with_tag tag (world_of p xs).rows ≡ (world_of p xs).rows
tag_there p xs ss fs v tag h = put_same model.tag_of (model.tag_row tag None) tag (world_of p xs).rows v.sound.order h

-- a posting to a tag that has a row, by a rule that leaves the cap, leaves the world's rows
pub rows_stay : (p : Plan) (xs ss fs : List ℕ) → Valid p xs ss fs → (tag : ℕ) (rule : TagSpace → TagSpace) → ((r : TagSpace) → cap_of (rule r) ≡ cap_of r)
    → HasKey model.tag_of tag (world_of p xs).rows → (a : Accounting) → accounting.table_of a ≡ accounting.on_row tag rule (table_in p)
    → map cap_of (accounting.table_of a).rows ≡ (world_of p xs).rows
unfolding world_of
rows_stay p xs ss fs v tag rule k h a e =
    ap (λ (t : accounting.Table). map cap_of t.rows) e ∙ with-tag tag rule (table_in p) k ∙ tag_there p xs ss fs v tag h

module _ (p : Plan) (xs ss fs : List ℕ) (v : Valid p xs ss fs) (tag : ℕ) (rule : TagSpace → TagSpace) (keeps : KeepsTag rule)
    (p' : Plan) (xs' : List ℕ) (posted : rows_of p' ≡ (accounting.on_row tag rule (table_in p)).rows) where
  abbrev u : model.World
  u = world_of p xs

  abbrev u' : model.World
  u' = world_of p' xs'

  abbrev old : ℕ → TagSpace
  old t = accounting.row_of t (rows_of p)

  pub accounted_on : ((rule (model.account_of u tag)).logical ≡ model.logical u' tag) → ((rule (model.account_of u tag)).physical ≡ model.physical u' tag)
      → ((rule (model.account_of u tag)).reserved ≡ 0)
      → ((t : ℕ) → (t ≡ tag → ⊥) → (model.logical u t ≡ model.logical u' t) × (model.physical u t ≡ model.physical u' t))
      → (t : ℕ) → accounting.row_of t (rows_of p') ≡ model.account_of u' t
  accounted_on a b c o t =
      by_eq t tag
      (λ e.
      let q = ap (accounting.row_of tag) posted ∙ own_row tag rule keeps (table_in p) ∙ ap rule (v.accounted tag) in
      subst (λ (n : ℕ). accounting.row_of n (rows_of p') ≡ model.account_of u' n) (sym e)
      (account_by p' xs' tag (ap (λ (r : TagSpace). r.logical) q ∙ a) (ap (λ (r : TagSpace). r.physical) q ∙ b) (ap (λ (r : TagSpace). r.reserved) q ∙ c)))
      (λ d.
      let q = ap (accounting.row_of t) posted ∙ other_row tag rule keeps (table_in p) t d ∙ v.accounted t in
      account_by p' xs' t (ap (λ (r : TagSpace). r.logical) q ∙ (o t d).0) (ap (λ (r : TagSpace). r.physical) q ∙ (o t d).1) (ap (λ (r : TagSpace). r.reserved) q))

module _ (p : Plan) (xs ss fs : List ℕ) (v : Valid p xs ss fs) (tag logical physical : ℕ) (p' : Plan) (xs' : List ℕ) where
  abbrev from : model.World
  from = world_of p xs

  abbrev to : model.World
  to = world_of p' xs'

  -- a usage more
  pub accounted_added : rows_of p' ≡ (accounting.on_row tag (add_usage logical physical) (table_in p)).rows
      → ((t : ℕ) → model.logical to t ≡ model.logical from t + if_tag tag t logical)
      → ((t : ℕ) → model.physical to t ≡ model.physical from t + if_tag tag t physical)
      → Sound to → (t : ℕ) → accounting.row_of t (rows_of p') ≡ model.account_of to t
  accounted_added q l h s =
      let a = l tag ∙ ap (λ (n : ℕ). model.logical from tag + n) (if_own tag logical) in
      let b = h tag ∙ ap (λ (n : ℕ). model.physical from tag + n) (if_own tag physical) in
      let m = held_most to s in
      accounted_on p xs ss fs v tag (add_usage logical physical) (λ r. refl) p' xs' q
      (omega (arith, a, logical_most to s tag, m)) (omega (arith, b, physical_most to s tag, m)) refl
      (λ t d. (omega (arith, l t, if_other tag t logical d), omega (arith, h t, if_other tag t physical d)))

  -- a usage less
  pub accounted_removed : rows_of p' ≡ (accounting.on_row tag (remove_usage logical physical) (table_in p)).rows
      → ((t : ℕ) → model.logical to t + if_tag tag t logical ≡ model.logical from t)
      → ((t : ℕ) → model.physical to t + if_tag tag t physical ≡ model.physical from t)
      → (t : ℕ) → accounting.row_of t (rows_of p') ≡ model.account_of to t
  accounted_removed q l h =
      accounted_on p xs ss fs v tag (remove_usage logical physical) (λ r. refl) p' xs' q
      (omega (arith, l tag, if_own tag logical)) (omega (arith, h tag, if_own tag physical)) refl
      (λ t d. (omega (arith, l t, if_other tag t logical d), omega (arith, h t, if_other tag t physical d)))
