-- What it means that a test of the check did not fail.
use Rattle.footprint.specs.contracts.RegionKind.{the_type}
use denote.Enum.Bare.{sameb}
use Prim.Native.Nat.{ℕ, ◌+◌, ◌*◌, ◌%◌, ◌≤◌, ◌<◌}
use mathlib.Core.Bool.{false, not}
use mathlib.Core.List.{List, ◌++◌}
use mathlib.Core.Logic.{◌⊎◌, inl, inr, ⊎_elim}
use mathlib.Core.Path.{◌≡◌, refl, ap, sym, ◌∙◌}
use native.Mathlib.Omega.{arith}
use lib.Dec.{eqb}
use lib.ListN.{length}
use Rattle.std.specs.Prelude.{Result, Ok, Err}
use borrow.Author.Tests.{ltb-false, eqb-true, eqb-false, ne_eqb, not-false}
use Rattle.footprint.specs.Footprint.{entry_tests, extent_tests, max_extents, block_of, kind_code, kind_in, committed, lists_fail, logs_fail, span_fails, block_fails, entry_fails, count_fails, outside, header_tests}
use Rattle.footprint.specs.Inner.{before_last}
use Rattle.footprint.specs.declared.Entry.{Entry}
use Rattle.footprint.specs.declared.Header.{Header}
use Rattle.footprint.specs.declared.Limits.{Limits}
use Rattle.footprint.specs.declared.RegionKind.{RegionKind}
use Rattle.footprint.specs.declared.RegionKind.TheVariants.{Append, Page, Slot}
use Rattle.numbers.specs.Lists.{All}
use Rattle.numbers.specs.Pairs.{is_odd, pairs}
use Rattle.numbers.specs.Range.{Range, total}
use Rattle.numbers.specs.Refusals.{first}
use Rattle.numbers.specs.Sums.{top}
use Rattle.numbers.proofs.Cases.{by_eq, and-true, or-true, or-false}
use Rattle.numbers.proofs.Lists.{all_imp, any_false}
use Rattle.numbers.proofs.Refusals.{first_none, first_parts, refuse_none, each_inside}

-- 1: the lists have their lengths
pub record Lists (lim : Limits) (e : Entry) (h : Header) (xs : List ℕ) (places : ℕ) : Type 0 where
  pub even : is_odd xs ≡ false
  pub listed : length (pairs xs) ≡ h.extent_count
  pub few : e.extent_count ≤ max_extents lim.log2_block
  pub header_few : h.extent_count ≤ max_extents lim.log2_block
  pub room : 2 * (e.extent_count + 2) ≤ places

pub lists_pass : (lim : Limits) (e : Entry) (h : Header) (xs : List ℕ) (places : ℕ) → lists_fail lim e h xs places ≡ false → Lists lim e h xs places
unfolding lists_fail
lists_pass lim e h xs places p =
    let a = or-false _ _ p in
    let b = or-false _ _ a.0 in
    let c = or-false _ _ b.0 in
    let d = or-false _ _ c.0 in
    record { even = d.0; listed = eqb-true _ _ (not-false _ d.1); few = ltb-false _ _ c.1; header_few = ltb-false _ _ b.1; room = ltb-false _ _ a.1 }

-- 2: the block logs are allowed
pub record Logs (lim : Limits) (h : Header) : Type 0 where
  pub low : 12 ≤ lim.log2_block
  pub high : lim.log2_block ≤ 16
  pub own : (h.log2_block ≡ 9) ⊎ (h.log2_block ≡ lim.log2_block)

pub logs_pass : (lim : Limits) (h : Header) → logs_fail lim h ≡ false → Logs lim h
unfolding logs_fail
logs_pass lim h p =
    let a = or-false _ _ p in
    let b = or-false _ _ a.0 in
    record {
      low = ltb-false _ _ b.0;
      high = ltb-false _ _ b.1;
      own = ⊎_elim (λ t. inl (eqb-true _ _ t)) (λ t. inr (eqb-true _ _ t)) (or-true (eqb h.log2_block 9) (eqb h.log2_block lim.log2_block) (not-false _ a.1));
    }

pub own_log : (lim : Limits) (h : Header) → Logs lim h → h.log2_block ≤ 16
own_log lim h l = ⊎_elim (λ e. omega arith) (λ e. omega (arith, l.high)) l.own

-- a header block is where it may be
pub record Block (block : ℕ) (e : Entry) (at : ℕ) : Type 0 where
  pub aligned : at % block ≡ 0
  pub from : e.span_start ≤ at
  pub upto : at + block ≤ e.span_end

block_pass : (block : ℕ) (e : Entry) (at : ℕ) → block_fails block e at ≡ false → Block block e at
unfolding block_fails
block_pass block e at p =
    let a = or-false _ _ p in
    let b = or-false _ _ a.0 in
    record { aligned = eqb-true _ _ (not-false _ b.0); from = ltb-false _ _ b.1; upto = ltb-false _ _ a.1 }

-- 4: the added entry checks
pub record Entries (lim : Limits) (e : Entry) (xs : List ℕ) : Type 0 where
  pub table : lim.table_end ≤ e.span_start
  pub order : e.span_start ≤ e.span_end
  pub file : e.span_end ≤ lim.file_len
  pub a : Block (block_of lim) e e.header_a
  pub b : Block (block_of lim) e e.header_b
  pub size : e.data_size ≤ e.capacity
  pub some : All (λ (x : Range). 0 < x.len) (committed e xs)

pub entry_pass : (lim : Limits) (e : Entry) (xs : List ℕ) → entry_fails lim e xs ≡ false → Entries lim e xs
unfolding entry_fails span_fails
entry_pass lim e xs p =
    let c = or-false _ _ p in
    let d = or-false _ _ c.0 in
    let n = or-false _ _ d.0 in
    let b = or-false _ _ n.0 in
    let a = or-false _ _ b.0 in
    let u = or-false _ _ a.0 in
    let t = or-false _ _ u.0 in
    record {
      table = ltb-false _ _ t.0;
      order = ltb-false _ _ t.1;
      file = ltb-false _ _ u.1;
      a = block_pass (block_of lim) e e.header_a a.1;
      b = block_pass (block_of lim) e e.header_b b.1;
      size = ltb-false _ _ d.1;
      some = all_imp (λ (x : Range). eqb x.len 0 ≡ false) (λ (x : Range). 0 < x.len) (λ x f. let d = eqb-false x.len 0 f in omega arith)
          (committed e xs) (any_false (λ (x : Range). eqb x.len 0) (committed e xs) c.1);
    }

-- the header lists the committed extents
pub count_pass : (e : Entry) (h : Header) → count_fails e h ≡ false → (h.extent_count ≡ e.extent_count) ⊎ (h.extent_count ≡ e.extent_count + 1)
unfolding count_fails
count_pass e h p =
    ⊎_elim (λ t. inl (eqb-true _ _ t)) (λ t. inr (eqb-true _ _ (and-true (not (eqb (kind_code e.kind) 3)) (eqb h.extent_count (e.extent_count + 1)) t).1)) (or-true _ _ (not-false _ p))

pub header_count : (id : ℕ) (e : Entry) (h : Header) → first (header_tests id e h) ≡ 0 → (h.extent_count ≡ e.extent_count) ⊎ (h.extent_count ≡ e.extent_count + 1)
header_count id e h p =
    let t5 = first_none _ _ p in
    let t6 = first_none _ _ t5.1 in
    let t7 = first_none _ _ t6.1 in
    let t8 = first_none _ _ t7.1 in
    let t9 = first_none _ _ t8.1 in
    count_pass e h (refuse_none 9 _ (omega arith) t9.0)

-- an extent lies where it may
pub record Inside (lim : Limits) (e : Entry) (x : Range) : Type 0 where
  pub ends : x.offset + x.len ≤ top
  pub from : e.span_start ≤ x.offset
  pub upto : x.offset + x.len ≤ e.span_end

inside_pass : (lim : Limits) (e : Entry) (x : Range) → outside lim e x ≡ false → Inside lim e x
unfolding outside
inside_pass lim e x p =
    let a = or-false _ _ p in
    let b = or-false _ _ a.0 in
    let c = or-false _ _ b.0 in
    record { ends = ltb-false _ _ c.0; from = ltb-false _ _ b.1; upto = ltb-false _ _ c.1 }

-- every test but the last
pub record Passed (lim : Limits) (e : Entry) (h : Header) (xs : List ℕ) (places : ℕ) : Type 0 where
  pub lists : Lists lim e h xs places
  pub logs : Logs lim h
  pub entry : Entries lim e xs
  pub count : (h.extent_count ≡ e.extent_count) ⊎ (h.extent_count ≡ e.extent_count + 1)
  pub inside : All (Inside lim e) (committed e xs)
  pub capacity : total (committed e xs) ≡ e.capacity

pub all_pass : (lim : Limits) (id : ℕ) (e : Entry) (h : Header) (xs : List ℕ) (places : ℕ) → before_last lim id e h xs places ≡ 0 → Passed lim e h xs places
unfolding before_last
all_pass lim id e h xs places p =
    let q = first_parts (entry_tests lim e h xs places ++ header_tests id e h) (extent_tests lim e (committed e xs)) p in
    let r = first_parts (entry_tests lim e h xs places) (header_tests id e h) q.0 in
    let t1 = first_none _ _ r.0 in
    let t2 = first_none _ _ t1.1 in
    let t4 = first_none _ _ t2.1 in
    let t11 = first_none _ _ q.1 in
    let t12 = first_none _ _ t11.1 in
    record {
      lists = lists_pass lim e h xs places (refuse_none 1 _ (omega arith) t1.0);
      logs = logs_pass lim h (refuse_none 2 _ (omega arith) t2.0);
      entry = entry_pass lim e xs (refuse_none 4 _ (omega arith) t4.0);
      count = header_count id e h r.1;
      inside = all_imp (λ (x : Range). outside lim e x ≡ false) (Inside lim e) (inside_pass lim e) (committed e xs) (each_inside (outside lim e) 0 (committed e xs) t11.0);
      capacity = eqb-true _ _ (not-false _ (refuse_none 12 _ (omega arith) t12.0));
    }

-- kinds with the same number are the same
-- kinds that the code finds the same have one number
pub same_kind : (k j : RegionKind) → sameb the_type k j ≡ eqb (kind_code k) (kind_code j)
unfolding kind_code
same_kind Append Append = refl
same_kind Append Page = refl
same_kind Append Slot = refl
same_kind Page Append = refl
same_kind Page Page = refl
same_kind Page Slot = refl
same_kind Slot Append = refl
same_kind Slot Page = refl
same_kind Slot Slot = refl

pub kinds_tell : (k j : RegionKind) → kind_code k ≡ kind_code j → k ≡ j
unfolding kind_code
kinds_tell Append Append e = refl
kinds_tell Append Page e = absurd (omega arith)
kinds_tell Append Slot e = absurd (omega arith)
kinds_tell Page Append e = absurd (omega arith)
kinds_tell Page Page e = refl
kinds_tell Page Slot e = absurd (omega arith)
kinds_tell Slot Append e = absurd (omega arith)
kinds_tell Slot Page e = absurd (omega arith)
kinds_tell Slot Slot e = refl

same_kind_in : {k j : RegionKind} → ◌≡◌ {A = Result RegionKind (Unit {0})} (Ok k) (Ok j) → k ≡ j
same_kind_in e = cc

no_kind : {k : RegionKind} → ◌≡◌ {A = Result RegionKind (Unit {0})} (Err (tt {0})) (Ok k) → ⊥
no_kind e = let z : ◌≡◌ {A = ℕ} 0 1 = cc in omega arith

-- the number read back is its kind's, and no number but a kind's is one
pub kind_back : (k : RegionKind) → kind_in (kind_code k) ≡ Ok k
unfolding kind_in kind_code
kind_back Append = refl
kind_back Page = refl
kind_back Slot = refl

kind_none : (n : ℕ) → (n ≡ 1 → ⊥) → (n ≡ 2 → ⊥) → (n ≡ 3 → ⊥) → kind_in n ≡ Err (tt {0})
unfolding kind_in
kind_none n a b d = simp (ne_eqb _ _ a, ne_eqb _ _ b, ne_eqb _ _ d)

kinds_read : (n : ℕ) (k j : RegionKind) → n ≡ kind_code j → kind_in n ≡ Ok k → n ≡ kind_code k
kinds_read n k j q e = q ∙ ap kind_code (same_kind_in (sym (kind_back j) ∙ ap kind_in (sym q) ∙ e))

pub kind_only : (n : ℕ) (k : RegionKind) → kind_in n ≡ Ok k → n ≡ kind_code k
unfolding kind_in kind_code
kind_only n k e =
    by_eq n 1 (λ q. kinds_read n k Append q e)
    (λ a. by_eq n 2 (λ q. kinds_read n k Page q e)
    (λ b. by_eq n 3 (λ q. kinds_read n k Slot q e)
    (λ d. absurd (no_kind (sym (kind_none n a b d) ∙ e)))))
