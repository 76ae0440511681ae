-- Usages counted one after another.
use Rattle.std.proofs.Common.{◌-◌}
use Rattle.numbers.proofs.Answers.{no_error}
use Rattle.numbers.specs.declared.refusal.Refusal.TheVariants.{Lists, Full}
use Rattle.numbers.specs.declared.refusal.Refusal.{Refusal}
use Rattle.std.specs.Prelude.{Result, Ok, Err, Option, Some, None, zero, suc, cond, eqb}
use Prim.Native.Nat.{ℕ, ◌+◌, ◌≤◌, ◌<◌}
use mathlib.Core.Bool.{Bool, true, false, or-true}
use mathlib.Core.List.{List, [], ◌∷◌}
use mathlib.Core.Path.{◌≡◌, refl, ap, sym, subst, ◌∙◌}
use native.Mathlib.Omega.{arith}
use lib.ListN.{length, get_or, drop, drop_of_length-le}
use lib.Seq.{drop-drop}
use borrow.Author.Tests.{eq-eqb, ne_eqb}
use Rattle.accounting.specs.Entries.{Usage, Counts, usage, usages, ready_usages, added_len, add_all, no_tags, differ}
use Rattle.accounting.specs.Inner.{gathered}
use Rattle.accounting.specs.Table.{Table, Valid, Posts, accounts_of, table_of, tag_of, on_row}
use Rattle.accounting.specs.declared.Accounting.{Accounting}
use Rattle.accounting.specs.declared.Posted.{Posted}
use Rattle.tagspace.specs.Row.{add_usage}
use Rattle.accounting.proofs.Handing.{handed_fit, handed_full}
use Rattle.accounting.proofs.Tables.{table_accounts, accounts_valid, count_rows}
use Rattle.numbers.proofs.Cases.{by_lt, by_eq}
use Rattle.numbers.proofs.Keyed.{put_more}
use Rattle.numbers.proofs.Lists.{from_here, at_front}

-- ---- the rows grow no fewer

add_more : (us : List Usage) (t : Table) → length t.rows ≤ length (add_all us t).rows
unfolding add_all on_row
add_more [] t = omega arith
add_more (u ∷ us) t =
    let n : Table = on_row u.tag (add_usage u.logical u.physical) t in
    let h : length t.rows ≤ length n.rows = put_more tag_of _ t.rows in
    let k : length n.rows ≤ length (add_all us n).rows = add_more us n in
    omega (arith, h, k)

-- ---- some usages counted, the rest to come

pub record Counting (all rest : List Usage) (a : Accounting) : Type 0 where
  pub valid : Valid a
  pub now : add_all all no_tags ≡ add_all rest (table_of a)

pub counts_begin : (all : List Usage) (a : Accounting) → a ≡ accounts_of no_tags → Counting all all a
counts_begin all a e =
    record {
      valid = subst Valid (sym e) (accounts_valid no_tags (omega arith) tt);
      now = ap (add_all all) (sym (ap table_of e ∙ table_accounts no_tags));
    }

module _ {all rest : List Usage} {a : Accounting} (g : Counting all rest a) where
  module _ (u : Usage) (us : List Usage) (r : rest ≡ u ∷ us) (p : Posted) (q : Posts a (on_row u.tag (add_usage u.logical u.physical)) p) where
    abbrev next : Table
    next = on_row u.tag (add_usage u.logical u.physical) (table_of a)

    now_rest : add_all all no_tags ≡ add_all us next
    unfolding add_all
    now_rest = g.now ∙ ap (λ (l : List Usage). add_all l (table_of a)) r

    pub counts_on : p.answer ≡ Ok tt → Counting all us p.accounts
    counts_on z =
        let e = q.answer g.valid in
        by_lt 96 (length next.rows)
        (λ l. absurd (no_error _ _ (sym z ∙ ap (λ (b : Posted). b.answer) (e ∙ handed_full (table_of a) next l))))
        (λ l.
        let s : p.accounts ≡ accounts_of next = ap (λ (b : Posted). b.accounts) (e ∙ handed_fit (table_of a) next l) in
        record {
          valid = q.valid g.valid;
          now = now_rest ∙ ap (add_all us) (sym (ap table_of s ∙ table_accounts next));
        })

    pub counts_refused : (n : Refusal) → p.answer ≡ Err n
        → Counts false all (record { answer = Err n; accounts = accounts_of no_tags })
    counts_refused n y =
        let e = q.answer g.valid in
        by_lt 96 (length next.rows)
        (λ l.
        let m : length next.rows ≤ length (add_all us next).rows = add_more us next in
        let k : 96 < length (add_all all no_tags).rows = subst (λ (t : Table). 96 < length t.rows) (sym now_rest) (omega (arith, m, l)) in
        let z : p.answer ≡ Err Full = ap (λ (b : Posted). b.answer) (e ∙ handed_full (table_of a) next l) in
        record {
          answer = ap (λ (i : Result (Unit {0}) Refusal). record { answer = i; accounts = accounts_of no_tags }) (sym y ∙ z) ∙ sym (handed_full no_tags (add_all all no_tags) k);
          valid = accounts_valid no_tags (omega arith) tt;
        })
        (λ l. absurd (no_error _ _ (sym (ap (λ (b : Posted). b.answer) (e ∙ handed_fit (table_of a) next l)) ∙ y)))

  pub counts_end : rest ≡ [] → Counts false all (record { answer = Ok tt; accounts = a })
  unfolding add_all
  counts_end r =
      let e : add_all all no_tags ≡ table_of a = g.now ∙ ap (λ (l : List Usage). add_all l (table_of a)) r in
      let k : length (add_all all no_tags).rows ≤ 96 = subst (λ (t : Table). length t.rows ≤ 96) (sym e) (let c = count_rows a g.valid in omega (arith, c, g.valid.few)) in
      record {
        answer = ap (λ (b : Accounting). record { answer = Ok tt; accounts = b }) (g.valid.record_of ∙ ap accounts_of (sym e)) ∙ sym (handed_fit no_tags (add_all all no_tags) k);
        valid = g.valid;
      }

-- ---- the lists from i on

module _ (ts ls ps : List ℕ) (i : ℕ) where
  pub usages_next : i < length ts → usages (drop i ts) (drop i ls) (drop i ps) ≡ usage (get_or ts i 0) (get_or ls i 0) (get_or ps i 0) ∷ usages (drop (i + 1) ts) (drop (i + 1) ls) (drop (i + 1) ps)
  unfolding usages
  usages_next h = rw (from_here ts i 0 h, at_front ls i 0, at_front ps i 0, drop-drop 1 i ls, drop-drop 1 i ps)

  pub usages_end : length ts ≤ i → usages (drop i ts) (drop i ls) (drop i ps) ≡ []
  unfolding usages
  usages_end h = rw (drop_of_length-le ts h)

module _ (block : ℕ) (ss ts ns : List ℕ) (i : ℕ) where
  pub ready_next : i < length ts → get_or ss i 0 ≡ 1 → (bytes : ℕ) → bytes ≡ added_len (get_or ns i 0) block → ready_usages block (drop i ss)
      (drop i ts) (drop i ns) ≡ usage (get_or ts i 0) (get_or ns i 0) bytes ∷ ready_usages block (drop (i + 1) ss) (drop (i + 1) ts) (drop (i + 1) ns)
  unfolding ready_usages
  ready_next h e bytes b = rw (from_here ts i 0 h, at_front ss i 0, at_front ns i 0, drop-drop 1 i ss, drop-drop 1 i ns, e, b)

  pub ready_skip : i < length ts → (get_or ss i 0 ≡ 1 → ⊥) → ready_usages block (drop i ss) (drop i ts) (drop i ns) ≡ ready_usages block (drop (i + 1) ss) (drop (i + 1) ts) (drop (i + 1) ns)
  unfolding ready_usages
  ready_skip h e = rw (from_here ts i 0 h, at_front ss i 0, at_front ns i 0, drop-drop 1 i ss, drop-drop 1 i ns, ne_eqb (get_or ss i 0) 1 e)

  pub ready_end : length ts ≤ i → ready_usages block (drop i ss) (drop i ts) (drop i ns) ≡ []
  unfolding ready_usages
  ready_end h = rw (drop_of_length-le ts h)

-- ---- places that may have a usage

module _ (us : ℕ → Option Usage) (i n : ℕ) (h : i < n) where
  after : n - i ≡ suc (n - (i + 1))
  after = omega arith

  pub gathered_some : (u : Usage) → us i ≡ Some u → gathered us i (n - i) ≡ u ∷ gathered us (i + 1) (n - (i + 1))
  gathered_some u e = rw (after, e)

  pub gathered_none : us i ≡ None → gathered us i (n - i) ≡ gathered us (i + 1) (n - (i + 1))
  gathered_none e = rw (after, e)

pub gathered_end : (us : ℕ → Option Usage) (i n : ℕ) → n ≤ i → gathered us i (n - i) ≡ []
gathered_end us i n h = let e : n - i ≡ 0 = omega arith in rw e

module _ (ts ls ps : List ℕ) where
  abbrev pub usage_at : ℕ → Option Usage
  usage_at i = Some (usage (get_or ts i 0) (get_or ls i 0) (get_or ps i 0))

  gather_from : (i n : ℕ) → i + n ≡ length ts → gathered usage_at i n ≡ usages (drop i ts) (drop i ls) (drop i ps)
  gather_from i zero e = sym (usages_end ts ls ps i (omega arith))
  gather_from i (suc n) e =
      ap (λ (us : List Usage). usage (get_or ts i 0) (get_or ls i 0) (get_or ps i 0) ∷ us) (gather_from (i + 1) n (omega arith)) ∙ sym (usages_next ts ls ps i (omega arith))

  pub gather_usages : gathered usage_at 0 (length ts) ≡ usages ts ls ps
  gather_usages = gather_from 0 (length ts) (omega arith)

module _ (block : ℕ) (ss ts ns : List ℕ) where
  abbrev pub ready_at : ℕ → Option Usage
  ready_at i = cond (eqb (get_or ss i 0) 1) (Some (usage (get_or ts i 0) (get_or ns i 0) (added_len (get_or ns i 0) block))) None

  gather_ready_from : (i n : ℕ) → i + n ≡ length ts → gathered ready_at i n ≡ ready_usages block (drop i ss) (drop i ts) (drop i ns)
  gather_ready_from i zero e = sym (ready_end block ss ts ns i (omega arith))
  gather_ready_from i (suc n) e =
      by_eq (get_or ss i 0) 1
      (λ z. simp (eq-eqb _ _ z) (ap (λ (us : List Usage). usage (get_or ts i 0) (get_or ns i 0) (added_len (get_or ns i 0) block) ∷ us)
      (gather_ready_from (i + 1) n (omega arith)) ∙ sym (ready_next block ss ts ns i (omega arith) z _ refl)))
      (λ d. simp (ne_eqb _ _ d) (gather_ready_from (i + 1) n (omega arith) ∙ sym (ready_skip block ss ts ns i (omega arith) d)))

  pub gather_ready : gathered ready_at 0 (length ts) ≡ ready_usages block ss ts ns
  gather_ready = gather_ready_from 0 (length ts) (omega arith)

-- ---- lists of different lengths

module _ (xs ys zs : List ℕ) where
  pub differ_second : (length xs ≡ length ys → ⊥) → differ xs ys zs ≡ true
  unfolding differ
  differ_second n = simp (ne_eqb (length xs) (length ys) n)

  pub differ_third : (length xs ≡ length zs → ⊥) → differ xs ys zs ≡ true
  unfolding differ
  differ_third n = simp (ne_eqb (length xs) (length zs) n, or-true)

  pub differ_none : length xs ≡ length ys → length xs ≡ length zs → differ xs ys zs ≡ false
  unfolding differ
  differ_none e f = simp (eq-eqb (length xs) (length ys) e, eq-eqb (length xs) (length zs) f)

module _ {bad : Bool} {us : List Usage} {r : Posted} where
  pub counts_bad : bad ≡ true → r ≡ record { answer = Err Lists; accounts = accounts_of no_tags } → Counts bad us r
  counts_bad b e =
      record {
        answer = rw b e;
        valid = subst (λ (p : Posted). Valid p.accounts) (sym e) (accounts_valid no_tags (omega arith) tt);
      }

  pub counts_good : bad ≡ false → Counts false us r → Counts bad us r
  counts_good b c = subst (λ (t : Bool). Counts t us r) (sym b) c
