-- An accepted region by facts about its records and ranges, in both directions; and when the refusal is 1, and when 2.
use Prim.Native.Nat.{ℕ, ◌+◌, ◌%◌, ◌^◌, ◌≤◌, ◌<◌, max}
use mathlib.Core.Bool.{true, false, not, or-true}
use mathlib.Core.List.{List, [], ◌∷◌, ◌++◌}
use mathlib.Core.Logic.{◌⊎◌, inl, inr, ⊎_elim}
use mathlib.Core.Path.{◌≡◌, refl, ap, sym, ◌∙◌}
use native.Mathlib.Omega.{arith}
use lib.Dec.{eqb}
use lib.Pow.{pow_pos}
use borrow.Author.Tests.{eq-eqb, ne_eqb, eqb-true, eqb-false, le-ltb, ltb-true, not-true, not-false}
use Rattle.footprint.specs.Footprint.{block_of, kind_code, committed, ranges, lists_fail, logs_fail, span_fails, block_fails, near, entry_fails, count_fails, outside, header_tests, entry_tests, extent_tests, overlap_tests, refusal_of}
use Rattle.footprint.specs.declared.Entry.{Entry}
use Rattle.footprint.specs.declared.Header.{Header}
use Rattle.footprint.specs.declared.Limits.{Limits}
use Rattle.footprint.specs.declared.RegionKind.{RegionKind}
use Rattle.footprint.specs.declared.RegionKind.TheVariants.{Slot}
use Rattle.numbers.specs.Lists.{All}
use Rattle.numbers.specs.Range.{Range, range, Meet, Disjoint, total}
use Rattle.numbers.specs.Refusals.{first, refuse}
use Rattle.numbers.specs.Sums.{top}
use Rattle.footprint.proofs.Answer.{accepted_passed, accepted_apart, none_failed}
use Rattle.footprint.proofs.Overlap.{overlaps_disjoint, disjoint_overlaps}
use Rattle.footprint.proofs.Passed.{Lists, Logs, Block, Entries, Inside, kinds_tell}
use Rattle.numbers.proofs.Cases.{cases, never, and-true, or-true as one_true}
use Rattle.numbers.proofs.Lists.{all_imp, of_none}
use Rattle.numbers.proofs.Ranges.{end_exact}
use Rattle.numbers.proofs.Refusals.{NoneBelow, first_none, first_parts, first_go, none_first, pass_none, refuse_none, refuse_high, first_high, each_high, each_none}

-- 5 to 10: header and entry agree
pub record Agreed (id : ℕ) (e : Entry) (h : Header) : Type 0 where
  pub number : h.region_id ≡ id
  pub kind : h.kind ≡ e.kind
  pub flags : h.flags ≡ e.flags
  pub ready : h.ready ≡ true
  pub count : (h.extent_count ≡ e.extent_count) ⊎ ((e.kind ≡ Slot → ⊥) × (h.extent_count ≡ e.extent_count + 1))
  pub multiple : e.data_size % 2 ^ h.log2_block ≡ 0

-- a Slot region lists no extra
pub slot_listed : (id : ℕ) (e : Entry) (h : Header) → Agreed id e h → e.kind ≡ Slot → h.extent_count ≡ e.extent_count
slot_listed id e h g s = ⊎_elim (λ c. c) (λ c. absurd (c.0 s)) g.count

-- what an accepted region has: its header blocks and committed extents, in data order, do not meet
pub record Regular (lim : Limits) (id : ℕ) (e : Entry) (h : Header) (xs : List ℕ) (places : ℕ) : Type 0 where
  pub lists : Lists lim e h xs places
  pub logs : Logs lim h
  pub entry : Entries lim e xs
  pub agreed : Agreed id e h
  pub inside : All (Inside lim e) (committed e xs)
  pub capacity : total (committed e xs) ≡ e.capacity
  pub disjoint : Disjoint (ranges lim e xs)

-- ---- from the refusal

slot_code : (k : RegionKind) → k ≡ Slot → kind_code k ≡ 3
unfolding kind_code
slot_code k e = rw e

module _ (id : ℕ) (e : Entry) (h : Header) where
  headers_agree : first (header_tests id e h) ≡ 0 → Agreed id e h
  unfolding count_fails
  headers_agree z =
      let t5 = first_none _ _ z in
      let t6 = first_none _ _ t5.1 in
      let t7 = first_none _ _ t6.1 in
      let t8 = first_none _ _ t7.1 in
      let t9 = first_none _ _ t8.1 in
      let t10 = first_none _ _ t9.1 in
      record {
        number = eqb-true _ _ (not-false _ (refuse_none 5 _ (omega arith) t5.0));
        kind = kinds_tell h.kind e.kind (eqb-true _ _ (not-false _ (refuse_none 6 _ (omega arith) t6.0)));
        flags = eqb-true _ _ (not-false _ (refuse_none 7 _ (omega arith) t7.0));
        ready = not-false _ (refuse_none 8 _ (omega arith) t8.0);
        count =
            ⊎_elim (λ t. inl (eqb-true _ _ t))
            (λ t.
            let a = and-true (not (eqb (kind_code e.kind) 3)) (eqb h.extent_count (e.extent_count + 1)) t in
            inr (λ s. eqb-false (kind_code e.kind) 3 (not-true _ a.0) (slot_code e.kind s), eqb-true _ _ a.1))
            (one_true _ _ (not-false _ (refuse_none 9 (count_fails e h) (omega arith) t9.0)));
        multiple = eqb-true _ _ (not-false _ (refuse_none 10 _ (omega arith) t10.0));
      }

module _ (lim : Limits) (id : ℕ) (e : Entry) (h : Header) (xs : List ℕ) (places : ℕ) where
  pub accepted_regular : refusal_of lim id e h xs places ≡ 0 → Regular lim id e h xs places
  accepted_regular z =
      let p = accepted_passed lim id e h xs places z in
      let q = first_parts (entry_tests lim e h xs places ++ header_tests id e h) (extent_tests lim e (committed e xs)) (none_failed lim id e h xs places z).0 in
      record {
        lists = p.lists;
        logs = p.logs;
        entry = p.entry;
        agreed = headers_agree id e h (first_parts (entry_tests lim e h xs places) (header_tests id e h) q.0).1;
        inside = p.inside;
        capacity = p.capacity;
        disjoint = overlaps_disjoint (ranges lim e xs) (accepted_apart lim id e h xs places z);
      }

-- ---- to the refusal: each test passes

module _ (lim : Limits) (e : Entry) (h : Header) (xs : List ℕ) where
  pub lists_fine : (places : ℕ) → Lists lim e h xs places → lists_fail lim e h xs places ≡ false
  unfolding lists_fail
  lists_fine places l = simp (l.even, eq-eqb _ _ l.listed, le-ltb _ _ l.few, le-ltb _ _ l.header_few, le-ltb _ _ l.room)

  pub logs_fine : Logs lim h → logs_fail lim h ≡ false
  unfolding logs_fail
  logs_fine l =
      ⊎_elim (λ (d : h.log2_block ≡ 9). simp (le-ltb _ _ l.low, le-ltb _ _ l.high, eq-eqb _ _ d))
      (λ (d : h.log2_block ≡ lim.log2_block). simp (le-ltb _ _ l.low, le-ltb _ _ l.high, eq-eqb _ _ d, or-true (eqb h.log2_block 9)))
      l.own

block_fine : (block : ℕ) (e : Entry) (at : ℕ) → Block block e at → block_fails block e at ≡ false
unfolding block_fails
block_fine block e at b = simp (eq-eqb _ _ b.aligned, le-ltb _ _ b.from, le-ltb _ _ b.upto)

-- blocks that do not meet are a block apart
not_near : (block a b : ℕ) → 0 < block → a + block ≤ top → b + block ≤ top → (Meet (range a block) (range b block) → ⊥) → near block a b ≡ false
unfolding near
not_near block a b p s t n =
    never _
    (λ e.
    let c = and-true _ _ e in
    let l : b < a + block = ltb-true _ _ c.0 in
    let r : a < b + block = ltb-true _ _ c.1 in
    let u = end_exact (range a block) s in
    let v = end_exact (range b block) t in
    n (record { byte = max a b; left = record { from = omega arith; upto = omega arith }; right = record { from = omega arith; upto = omega arith } }))

module _ (lim : Limits) (e : Entry) (xs : List ℕ) (small : lim.file_len ≤ top) where
  entry_fine : Entries lim e xs → Disjoint (ranges lim e xs) → entry_fails lim e xs ≡ false
  unfolding entry_fails span_fails
  entry_fine t d =
      let k = pow_pos lim.log2_block in
      simp (
        le-ltb _ _ t.table,
        le-ltb _ _ t.order,
        le-ltb _ _ t.file,
        block_fine _ _ _ t.a,
        block_fine _ _ _ t.b,
        not_near (block_of lim) e.header_a e.header_b k (omega (arith, small, t.file, t.a.upto)) (omega (arith, small, t.file, t.b.upto)) d.0.0,
        le-ltb _ _ t.size,
        of_none (λ (x : Range). eqb x.len 0) (committed e xs) (all_imp (λ (x : Range). 0 < x.len) (λ (x : Range). eqb x.len 0 ≡ false)
            (λ x s. ne_eqb x.len 0 (λ z. omega arith)) (committed e xs) t.some),
      )

  inside_fine : Entries lim e xs → (x : Range) → Inside lim e x → outside lim e x ≡ false
  unfolding outside
  inside_fine t x i =
      simp (le-ltb _ _ i.ends, le-ltb _ _ i.upto, le-ltb _ _ i.from, le-ltb x.offset lim.table_end (omega (arith, t.table, i.from)))

count_fine : (id : ℕ) (e : Entry) (h : Header) → Agreed id e h → count_fails e h ≡ false
unfolding count_fails
count_fine id e h g =
    ⊎_elim (λ (c : h.extent_count ≡ e.extent_count). simp (eq-eqb _ _ c))
    (λ (c : (e.kind ≡ Slot → ⊥) × (h.extent_count ≡ e.extent_count + 1)).
    simp (ne_eqb (kind_code e.kind) 3 (λ z. c.0 (kinds_tell e.kind Slot (z ∙ sym (slot_code Slot refl)))), eq-eqb _ _ c.1, or-true (eqb h.extent_count e.extent_count)))
    g.count

module _ (lim : Limits) (id : ℕ) (e : Entry) (h : Header) (xs : List ℕ) (places : ℕ) where
  -- "file length" is a u64; so is the capacity
  pub regular_accepted : lim.file_len ≤ top → e.capacity ≤ top → Regular lim id e h xs places → refusal_of lim id e h xs places ≡ 0
  unfolding refusal_of
  regular_accepted small whole r =
      let g = r.agreed in
      none_first _ (
        pass_none 1 _ (lists_fine lim e h xs places r.lists),
        (
          pass_none 2 _ (logs_fine lim e h xs r.logs),
          (
            pass_none 4 _ (entry_fine lim e xs small r.entry r.disjoint),
            (
              pass_none 5 _ (ap not (eq-eqb _ _ g.number)),
              (
                pass_none 6 _ (ap not (eq-eqb _ _ (ap kind_code g.kind))),
                (
                  pass_none 7 _ (ap not (eq-eqb _ _ g.flags)),
                  (
                    pass_none 8 _ (ap not g.ready),
                    (
                      pass_none 9 _ (count_fine id e h g),
                      (
                        pass_none 10 _ (ap not (eq-eqb _ _ g.multiple)),
                        (
                          each_none (outside lim e) 0 (committed e xs) (all_imp (Inside lim e) (λ (x : Range). outside lim e x ≡ false)
                              (inside_fine lim e xs small r.entry) (committed e xs) r.inside) (omega (arith, r.capacity)),
                          (
                            pass_none 12 _ (ap not (eq-eqb _ _ r.capacity)),
                            (pass_none 13 _ (disjoint_overlaps (ranges lim e xs) r.disjoint), tt),
                          ),
                        ),
                      ),
                    ),
                  ),
                ),
              ),
            ),
          ),
        ),
      )

  -- ---- when the refusal is 1, and when 2

  abbrev later : List ℕ
  later = refuse 4 (entry_fails lim e xs) ∷ header_tests id e h ++ extent_tests lim e (committed e xs) ++ overlap_tests (ranges lim e xs)

  later_high : NoneBelow 4 (first later)
  later_high =
      first_high 4 later (
        refuse_high 4 4 _ (omega arith),
        (
          refuse_high 4 5 _ (omega arith),
          (
            refuse_high 4 6 _ (omega arith),
            (
              refuse_high 4 7 _ (omega arith),
              (
                refuse_high 4 8 _ (omega arith),
                (
                  refuse_high 4 9 _ (omega arith),
                  (
                    refuse_high 4 10 _ (omega arith),
                    (
                      ⊎_elim (λ z. inl z) (λ l. inr (omega arith)) (each_high (outside lim e) 0 (committed e xs)),
                      (refuse_high 4 12 _ (omega arith), (refuse_high 4 13 _ (omega arith), tt)),
                    ),
                  ),
                ),
              ),
            ),
          ),
        ),
      )

  pub refused_1 : lists_fail lim e h xs places ≡ true → refusal_of lim id e h xs places ≡ 1
  unfolding refusal_of first refuse
  refused_1 f = simp f

  pub refused_2 : lists_fail lim e h xs places ≡ false → logs_fail lim h ≡ true → refusal_of lim id e h xs places ≡ 2
  unfolding refusal_of first refuse
  refused_2 f g = simp (f, g)

  pub refused_later : lists_fail lim e h xs places ≡ false → logs_fail lim h ≡ false → NoneBelow 4 (refusal_of lim id e h xs places)
  unfolding refusal_of
  refused_later f g =
      let e : refusal_of lim id e h xs places ≡ first later = two_pass f g in rw e later_high
    where
      two_pass : lists_fail lim e h xs places ≡ false → logs_fail lim h ≡ false → refusal_of lim id e h xs places ≡ first later
      two_pass f g = first_go (refuse 1 (lists_fail lim e h xs places) ∷ refuse 2 (logs_fail lim h) ∷ []) later (none_first _ (pass_none 1 _ f, (pass_none 2 _ g, tt)))

  pub exactly_1 : refusal_of lim id e h xs places ≡ 1 → lists_fail lim e h xs places ≡ true
  exactly_1 z =
      cases (lists_fail lim e h xs places) (λ t. t)
      (λ f.
      cases (logs_fail lim h) (λ t. absurd (omega (arith, z, refused_2 f t)))
      (λ g. absurd (⊎_elim (λ k. omega (arith, z, k)) (λ k. omega (arith, z, k)) (refused_later f g))))

  pub exactly_2 : refusal_of lim id e h xs places ≡ 2 → (lists_fail lim e h xs places ≡ false) × (logs_fail lim h ≡ true)
  exactly_2 z =
      cases (lists_fail lim e h xs places) (λ t. absurd (omega (arith, z, refused_1 t)))
      (λ f.
      cases (logs_fail lim h) (λ t. (f, t))
      (λ g. absurd (⊎_elim (λ k. omega (arith, z, k)) (λ k. omega (arith, z, k)) (refused_later f g))))
