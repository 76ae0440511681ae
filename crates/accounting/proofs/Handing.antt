-- What a posting hands back: of a tag that has a row, of one that has none, and of a 97th.
use Rattle.numbers.proofs.Answers.{no_error}
use Rattle.numbers.specs.declared.refusal.Refusal.TheVariants.{Lists, Full}
use Rattle.numbers.specs.declared.refusal.Refusal.{Refusal}
use Rattle.std.specs.Prelude.{Ok, Err}
use Prim.Native.Nat.{ℕ, suc, ◌+◌, ◌-◌, ◌≤◌, ◌<◌}
use mathlib.Core.Bool.{Bool, true}
use mathlib.Core.List.{List, ◌∷◌, ◌++◌}
use mathlib.Core.Path.{◌≡◌, refl, ap, sym, subst, ◌∙◌}
use native.Mathlib.Omega.{arith}
use lib.ListN.{length, get_or, take, drop, set, replicate, length-append, length-take, length-drop, length-set}
use lib.Seq.{set-append_left, set-get_or}
use borrow.Author.Tests.{lt-ltb, le-ltb, eq-eqb, ne_eqb}
use Rattle.accounting.specs.Inner.{KeepsTag, Known, Belongs, shifted, inserted}
use Rattle.accounting.specs.Table.{Table, InTagOrder, Valid, Posts, Asks, Allows, answering, accounts_of, table_of, tag_of, row_of, put, on_row, with_total, same, handed, asked}
use Rattle.accounting.specs.declared.Accounting.{Accounting}
use Rattle.accounting.specs.declared.Asked.{Asked}
use Rattle.accounting.specs.declared.Posted.{Posted}
use Rattle.tagspace.specs.Row.{blank, allows, fits}
use Rattle.tagspace.specs.declared.TagSpace.{TagSpace}
use Rattle.accounting.proofs.Shifting.{shifted_blanks}
use Rattle.accounting.proofs.Tables.{accounts_valid, count_rows, all_rows, row_of_record}
use Rattle.numbers.proofs.Cases.{by_lt, by_eq}
use Rattle.numbers.proofs.Keyed.{keyed_known, put_known, keyed_unknown, put_unknown, put_order}

module _ (t next : Table) where
  pub handed_fit : length next.rows ≤ 96 → handed t next ≡ record { answer = Ok tt; accounts = accounts_of next }
  unfolding handed
  handed_fit h = simp (le-ltb 96 (length next.rows) h)

  pub handed_full : 96 < length next.rows → handed t next ≡ record { answer = Err Full; accounts = accounts_of t }
  unfolding handed
  handed_full h = simp (lt-ltb 96 (length next.rows) h)

  pub handed_valid : length t.rows ≤ 96 → InTagOrder t.rows → InTagOrder next.rows → Valid (handed t next).accounts
  handed_valid h o p =
      by_lt 96 (length next.rows)
      (λ l. subst (λ (r : Posted). Valid r.accounts) (sym (handed_full l)) (accounts_valid t h o))
      (λ l. subst (λ (r : Posted). Valid r.accounts) (sym (handed_fit l)) (accounts_valid next l p))

-- a record that hands back what is due is valid
module _ (a : Accounting) (next : Table → Table) (r : Posted) (keeps : (t : Table) → InTagOrder t.rows → InTagOrder (next t).rows)
    (e : Valid a → r ≡ handed (table_of a) (next (table_of a))) where
  valid_after : Valid a → Valid r.accounts
  valid_after v =
      subst (λ (p : Posted). Valid p.accounts) (sym (e v))
      (handed_valid (table_of a) (next (table_of a)) (let c = count_rows a v in omega (arith, c, v.few)) v.order (keeps (table_of a) v.order))

  -- so the answer is all that is to be shown, and that a refusal leaves them
  pub posts : ((n : Refusal) → r.answer ≡ Err n → r.accounts ≡ a) → Posts a next r
  posts k = record { answer = e; valid = valid_after; refused = k }

pub on_row_order : (tag : ℕ) (rule : TagSpace → TagSpace) (t : Table) → InTagOrder t.rows → InTagOrder (on_row tag rule t).rows
unfolding on_row
on_row_order tag rule t o = put_order tag_of (rule (row_of tag t.rows)) t.rows o

-- a record by its parts
made_of : (rs : List TagSpace) (n m : ℕ) (t : Table) → rs ≡ t.rows ++ replicate (96 - length t.rows) (blank 0) → n ≡ length t.rows → m ≡ t.total →
    record { rows = rs; count = n; reserved = m } ≡ accounts_of t
unfolding accounts_of
made_of rs n m t p q s = rw (p, q, s)

-- one row more, by how many there are
module _ (k : ℕ) (x : TagSpace) (a : Accounting) where
  pub inserted_many : 96 < a.count → inserted k x a ≡ record { answer = Err Lists; accounts = a }
  unfolding inserted
  inserted_many h = simp (lt-ltb 96 a.count h)

  pub inserted_full : a.count ≡ 96 → inserted k x a ≡ record { answer = Err Full; accounts = a }
  unfolding inserted
  inserted_full e = simp (le-ltb 96 a.count (omega arith), eq-eqb a.count 96 e)

  pub inserted_room : a.count < 96 → inserted k x a ≡ record { answer = Ok tt; accounts = record { rows = shifted k a.count x a.rows; count = a.count + 1; reserved = a.reserved } }
  unfolding inserted
  inserted_room h = simp (le-ltb 96 a.count (omega arith), ne_eqb a.count 96 (λ e. omega (arith, e, h)))

-- where it is refused, nothing has changed
pub inserted_refused : (k : ℕ) (x : TagSpace) (a : Accounting) (p : Posted) → p ≡ inserted k x a → (n : Refusal) → p.answer ≡ Err n → p.accounts ≡ a
inserted_refused k x a p e n r =
    by_lt 96 a.count (λ l. ap (λ (q : Posted). q.accounts) (e ∙ inserted_many k x a l))
    (λ l.
    by_eq a.count 96 (λ f. ap (λ (q : Posted). q.accounts) (e ∙ inserted_full k x a f))
    (λ d. absurd (no_error tt n (sym (ap (λ (q : Posted). q.answer) (e ∙ inserted_room k x a (omega arith))) ∙ r))))

module _ (a : Accounting) (v : Valid a) (tag at : ℕ) where
  abbrev xs : List TagSpace
  xs = (table_of a).rows

  reserved_total : a.reserved ≡ (table_of a).total
  unfolding table_of
  reserved_total = refl

  -- the tag has a row
  module _ (f : Known a tag at) where
    in_rows : at < length xs
    in_rows = let c = count_rows a v in omega (arith, c, f.inside)

    has_tag : (get_or xs at (blank 0)).tag ≡ tag
    has_tag = subst (λ (r : TagSpace). r.tag ≡ tag) (row_of_record a v at) f.own

    pub found_row : row_of tag xs ≡ get_or a.rows at (blank 0)
    found_row = keyed_known tag_of xs v.order at tag (blank 0) in_rows has_tag (blank tag) ∙ sym (row_of_record a v at)

    pub post_known : (rule : TagSpace → TagSpace) → KeepsTag rule → (x : TagSpace) → x ≡ rule (get_or a.rows at (blank 0)) → record
        { answer = Ok tt; accounts = record { rows = set a.rows at x; count = a.count; reserved = a.reserved } } ≡ handed (table_of a)
        (on_row tag rule (table_of a))
    unfolding on_row
    post_known rule keeps x q =
        let t : x.tag ≡ tag = ap (λ (r : TagSpace). r.tag) q ∙ keeps (get_or a.rows at (blank 0)) ∙ f.own in
        let p : put (rule (row_of tag xs)) xs ≡ set xs at x = ap (λ (r : TagSpace). put (rule r) xs) found_row ∙ ap (λ (r : TagSpace). put r xs)
        (sym q) ∙ put_known tag_of xs v.order at tag (blank 0) in_rows has_tag x t in
        let n : length (put (rule (row_of tag xs)) xs) ≡ length xs = ap length p ∙ length-set xs at x in
        let c = count_rows a v in
        ap (λ (b : Accounting). record { answer = Ok tt; accounts = b })
        (made_of (set a.rows at x) a.count a.reserved (on_row tag rule (table_of a))
        (ap (λ (l : List TagSpace). set l at x) (all_rows a v) ∙ set-append_left xs (replicate (96 - length xs) (blank 0)) at x in_rows ∙ rw (n, p))
        (c ∙ sym n) reserved_total)
        ∙ sym (handed_fit (table_of a) (on_row tag rule (table_of a)) (omega (arith, n, c, v.few)))

    -- and is only asked for
    pub asked_known : record { answer = Ok tt; accounts = a } ≡ handed (table_of a) (on_row tag same (table_of a))
    asked_known = ap (λ (l : List TagSpace). record { answer = Ok tt; accounts = record { rows = l; count = a.count; reserved = a.reserved } })
        (sym (set-get_or a.rows at (blank 0))) ∙ post_known same (λ r. refl) (get_or a.rows at (blank 0)) refl

  -- it has none
  module _ (f : Belongs a tag at) where
    place_in : at ≤ length xs
    place_in = let c = count_rows a v in omega (arith, c, f.inside)

    pub no_row : row_of tag xs ≡ blank tag
    no_row = keyed_unknown tag_of xs at tag (f.lower v) (f.higher v) (blank tag)

    module _ (rule : TagSpace → TagSpace) (keeps : KeepsTag rule) (x : TagSpace) (q : x ≡ rule (blank tag)) where
      put_new : put (rule (row_of tag xs)) xs ≡ take at xs ++ (x ∷ drop at xs)
      put_new =
          ap (λ (r : TagSpace). put (rule r) xs) no_row
          ∙ ap (λ (r : TagSpace). put r xs) (sym q)
          ∙ put_unknown tag_of xs at tag (f.lower v) (f.higher v) x (ap (λ (r : TagSpace). r.tag) q ∙ keeps (blank tag))

      one_more : length (put (rule (row_of tag xs)) xs) ≡ suc (length xs)
      one_more = ap length put_new ∙ simp (length-append, length-take, length-drop) (omega (arith, place_in))

      -- a 97th tag
      post_full : a.count ≡ 96 → record { answer = Err Full; accounts = a } ≡ handed (table_of a) (on_row tag rule (table_of a))
      unfolding on_row
      post_full h =
          let c = count_rows a v in
          ap (λ (b : Accounting). record { answer = Err Full; accounts = b }) v.record_of
          ∙ sym (handed_full (table_of a) (on_row tag rule (table_of a)) (let n = one_more in omega (arith, n, c, h)))

      post_new : a.count < 96 → record {
        answer = Ok tt;
        accounts = record {
          rows = shifted at a.count x a.rows;
          count = a.count + 1;
          reserved =
              a.reserved;
        };
      } ≡ handed (table_of a) (on_row tag rule (table_of a))
      unfolding on_row
      post_new h =
          let c = count_rows a v in
          let n = one_more in
          let m : 96 - length xs ≡ suc (96 - suc (length xs)) = omega (arith, c, h) in
          ap (λ (b : Accounting). record { answer = Ok tt; accounts = b })
          (made_of (shifted at a.count x a.rows) (a.count + 1) a.reserved (on_row tag rule (table_of a))
          (ap (λ (i : ℕ). shifted at i x a.rows) c
          ∙ ap (λ (l : List TagSpace). shifted at (length xs) x l) (all_rows a v ∙ ap (λ (i : ℕ). xs ++ replicate i (blank 0)) m)
          ∙ shifted_blanks xs (blank 0) x at (96 - suc (length xs)) place_in
          ∙ rw (n, put_new))
          (omega (arith, c, n)) reserved_total)
          ∙ sym (handed_fit (table_of a) (on_row tag rule (table_of a)) (omega (arith, n, c, h)))

      pub post_unknown : inserted at x a ≡ handed (table_of a) (on_row tag rule (table_of a))
      post_unknown =
          by_eq a.count 96 (λ e. inserted_full at x a e ∙ post_full e)
          (λ n. let h : a.count < 96 = omega (arith, v.few) in inserted_room at x a h ∙ post_new h)

-- ---- what is promised of a posting, by what the search found

module _ (a : Accounting) (tag at : ℕ) (rule : TagSpace → TagSpace) (keeps : KeepsTag rule) (x : TagSpace) where
  pub posts_known : Known a tag at → x ≡ rule (get_or a.rows at (blank 0)) → Posts a (on_row tag rule)
      (record { answer = Ok tt; accounts = record { rows = set a.rows at x; count = a.count; reserved = a.reserved } })
  posts_known f q = posts a (on_row tag rule) _ (on_row_order tag rule) (λ v. post_known a v tag at f rule keeps x q) (λ n z. absurd (no_error tt n z))

  pub posts_unknown : Belongs a tag at → x ≡ rule (blank tag) → (p : Posted) → p ≡ inserted at x a → Posts a (on_row tag rule) p
  posts_unknown f q p e =
      posts a (on_row tag rule) p (on_row_order tag rule) (λ v. e ∙ post_unknown a v tag at f rule keeps x q) (inserted_refused at x a p e)

-- ---- the total beside the rows

total_of : (n : ℕ) (t : Table) → record { rows = (accounts_of t).rows; count = (accounts_of t).count; reserved = n } ≡ accounts_of (with_total n t)
unfolding accounts_of
total_of n t = refl

total_accounts : (t : Table) → (accounts_of t).reserved ≡ t.total
unfolding accounts_of
total_accounts t = refl

module _ (a : Accounting) (tag : ℕ) (rule : TagSpace → TagSpace) (total : ℕ → ℕ) (p : Posted) (g : Posts a (on_row tag rule) p) where
  abbrev both : Table → Table
  both t = with_total (total t.total) (on_row tag rule t)

  abbrev next : Table
  next = on_row tag rule (table_of a)

  same_total : next.total ≡ (table_of a).total
  unfolding on_row
  same_total = refl

  pub total_kept : (p.answer ≡ Ok tt → ⊥) → Posts a both p
  total_kept n =
      posts a both p (on_row_order tag rule)
      (λ v.
      let e = g.answer v in
      by_lt 96 (length next.rows)
      (λ l. e ∙ handed_full (table_of a) next l ∙ sym (handed_full (table_of a) (both (table_of a)) l))
      (λ l. absurd (n (ap (λ (q : Posted). q.answer) (e ∙ handed_fit (table_of a) next l)))))
      g.refused

  pub total_posted : p.answer ≡ Ok tt → (n : ℕ) → n ≡ total p.accounts.reserved
      → Posts a both (record { answer = Ok tt; accounts = record { rows = p.accounts.rows; count = p.accounts.count; reserved = n } })
  total_posted z n q =
      posts a both _ (on_row_order tag rule)
      (λ v.
      let e = g.answer v in
      by_lt 96 (length next.rows)
      (λ l. absurd (no_error _ _ (sym z ∙ ap (λ (r : Posted). r.answer) (e ∙ handed_full (table_of a) next l))))
      (λ l.
      let b : Accounting = accounts_of next in
      let s : p.accounts ≡ b = ap (λ (r : Posted). r.accounts) (e ∙ handed_fit (table_of a) next l) in
      let m : n ≡ total (table_of a).total = q ∙ ap total (ap (λ (d : Accounting). d.reserved) s ∙ total_accounts next ∙ same_total) in
      ap (λ (d : Accounting). record { answer = Ok tt; accounts = record { rows = d.rows; count = d.count; reserved = n } }) s
      ∙ ap (λ (k : ℕ). record { answer = Ok tt; accounts = record { rows = b.rows; count = b.count; reserved = k } }) m
      ∙ ap (λ (d : Accounting). record { answer = Ok tt; accounts = d }) (total_of (total (table_of a).total) next)
      ∙ sym (handed_fit (table_of a) (both (table_of a)) l)))
      (λ r y. absurd (no_error tt r y))

-- ---- `fits`

module _ (a : Accounting) (tag extra at : ℕ) where
  asks : (p : Posted) (ok : Bool) → (Valid a → p ≡ handed (table_of a) (on_row tag same (table_of a))) → (Valid a → ok ≡ fits extra (row_of tag (table_of a).rows)) → Asks a tag extra (asked p ok)
  asks p ok e q =
      record {
        answer = λ v. ap (λ (b : Bool). asked p b) (q v) ∙ ap (λ (b : Posted). asked b (fits extra (row_of tag (table_of a).rows))) (e v);
        valid = valid_after a (on_row tag same) p (on_row_order tag same) e;
      }

  pub asks_known : Known a tag at → (ok : Bool) → ok ≡ fits extra (get_or a.rows at (blank 0)) → Asks a tag extra (record { answer = Ok ok; accounts = a })
  asks_known f ok q = asks (record { answer = Ok tt; accounts = a }) ok (λ v. asked_known a v tag at f) (λ v. q ∙ ap (fits extra) (sym (found_row a v tag at f)))

  pub asks_unknown : Belongs a tag at → (x : TagSpace) → x ≡ blank tag → (p : Posted) → p ≡ inserted at x a → Asks a tag extra (asked p true)
  unfolding fits allows
  asks_unknown f x q p e = asks p true (λ v. e ∙ post_unknown a v tag at f same (λ r. refl) x q) (λ v. ap (fits extra) (sym (no_row a v tag at f)))

  -- the same answer of accounts in which no row is made
  pub allows_asked : (q : Asked) → Asks a tag extra q → Allows a tag extra q.answer
  allows_asked q k = record { answer = λ v. ap (λ (r : Asked). r.answer) (k.answer v) }

  pub allows_full : Belongs a tag at → 96 ≤ a.count → Allows a tag extra (Err Full)
  allows_full f h =
      record {
        answer =
            λ v.
            let e : inserted at (blank tag) a ≡ handed (table_of a) (on_row tag same (table_of a)) =
            post_unknown a v tag at f same (λ r. refl) (blank tag) refl in
            ap (λ (p : Posted). answering (fits extra (row_of tag (table_of a).rows)) p.answer)
            (sym (inserted_full at (blank tag) a (omega (arith, v.few))) ∙ e);
      }

  pub allows_room : Belongs a tag at → a.count < 96 → Allows a tag extra (Ok true)
  allows_room f h =
      subst (λ (p : Posted). Allows a tag extra (answering true p.answer)) (inserted_room at (blank tag) a h)
      (allows_asked _ (asks_unknown f (blank tag) refl (inserted at (blank tag) a) refl))
