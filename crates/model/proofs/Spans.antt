-- Free spans: the test and the search say what they are to say, and the free map's first fit is the same.
use Prim.Native.Nat.{ℕ, zero, suc, ◌+◌, ◌*◌, ◌/◌, ◌%◌, ◌≤◌, ◌<◌}
use mathlib.Core.Bool.{Bool, true, false}
use Rattle.std.specs.Prelude.{None, Some}
use mathlib.Core.Path.{◌≡◌, ap, sym, ◌∙◌}
use native.Mathlib.Nat.{le_antisymm, div-add-mod', mul-mod_left}
use native.Mathlib.Omega.{arith}
use lib.Pow.{pow_pos, pow_mono}
use borrow.Author.Tests.{eqb-true, leb-true, eq-eqb, le-leb, not-true}
use Rattle.freemap.specs.Fit.{first_fit}
use Rattle.freemap.specs.Gaps.{gaps_of}
use Rattle.freemap.specs.Inner.{swept}
use Rattle.model.specs.Span.{FreeSpan, LeastFree, is_free, first_from, least_free}
use Rattle.model.specs.World.{World, block, held_ranges}
use Rattle.numbers.specs.Lists.{any}
use Rattle.numbers.specs.Range.{Range, range, Meet, meets}
use Rattle.numbers.specs.Sums.{top}
use Rattle.sort.specs.Sort.{sorted}
use Rattle.freemap.proofs.Places.{fit_lowest, meets_none_span, span_meets_none}
use Rattle.freemap.proofs.Sweeping.{swept_of}
use Rattle.model.proofs.Sound.{Sound}
use Rattle.numbers.proofs.Cases.{cases, by_answer, none_some, same_some, clash, never, and-true, by_eq, by_lt}
use Rattle.numbers.proofs.Lists.{all_imp, any_false, of_none}
use Rattle.numbers.proofs.Ranges.{meets_false, meets_true}
use Rattle.freemap.proofs.Places as free

-- ---- the test

module _ (w : World) (n p : ℕ) where
  pub free_true : is_free w n p ≡ true → FreeSpan w n p
  unfolding is_free
  free_true e =
      let d = and-true _ _ e in
      let c = and-true _ _ d.0 in
      let b = and-true _ _ c.0 in
      record {
        multiple = eqb-true _ _ b.0;
        from = leb-true _ _ b.1;
        upto = leb-true _ _ c.1;
        apart =
            all_imp (λ (r : Range). meets (range p n) r ≡ false) (λ (r : Range). Meet (range p n) r → ⊥) (λ r. meets_false (range p n) r) (held_ranges w)
            (any_false (meets (range p n)) (held_ranges w) (not-true _ d.1));
      }

  pub true_free : FreeSpan w n p → is_free w n p ≡ true
  unfolding is_free
  true_free f =
      let none-meets : any (meets (range p n)) (held_ranges w) ≡ false =
      of_none (meets (range p n)) (held_ranges w)
      (all_imp (λ (r : Range). Meet (range p n) r → ⊥) (λ (r : Range). meets (range p n) r ≡ false)
      (λ r a. never _ (λ t. a (meets_true (range p n) r t))) (held_ranges w) f.apart) in
      simp (eq-eqb _ _ f.multiple, le-leb _ _ f.from, le-leb _ _ f.upto, none-meets)

-- ---- the search

-- The first of n numbers from b on that passes.
record Found (f : ℕ → Bool) (b n a : ℕ) : Type 0 where
  passes : f a ≡ true
  from : b ≤ a
  upto : a < b + n
  before : (p : ℕ) → b ≤ p → p < a → f p ≡ false

module _ (f : ℕ → Bool) where
  search_some : (b n a : ℕ) → first_from f b n ≡ Some a → Found f b n a
  unfolding first_from
  search_some b zero a e = absurd (none_some e)
  search_some b (suc n) a e =
      cases (f b)
      (λ t.
      let q : b ≡ a = same_some (sym (simp t) ∙ e) in
      record { passes = ap f (sym q) ∙ t; from = omega arith; upto = omega arith; before = λ p l u. absurd (omega arith) })
      (λ t.
      let s = search_some (suc b) n a (sym (simp t) ∙ e) in
      let l = s.from in
      let u = s.upto in
      record {
        passes = s.passes;
        from = omega arith;
        upto = omega arith;
        before = λ p g h. by_eq p b (λ e. ap f e ∙ t) (λ d. s.before p (omega (arith, d)) h);
      })

  search_none : (b n : ℕ) → first_from f b n ≡ None → (p : ℕ) → b ≤ p → p < b + n → f p ≡ false
  unfolding first_from
  search_none b zero e p l u = absurd (omega arith)
  search_none b (suc n) e p l u =
      cases (f b) (λ t. let q : None ≡ Some b = sym e ∙ simp t in absurd (none_some q))
      (λ t. by_eq p b (λ q. ap f q ∙ t) (λ d. search_none (suc b) n (sym (simp t) ∙ e) p (omega (arith, d)) (omega arith)))

module _ (w : World) (n : ℕ) where
  -- the place that is found is the lowest of a free span
  pub least_found : (a : ℕ) → least_free w n ≡ Some a → LeastFree w n a
  least_found a e =
      let s = search_some (is_free w n) _ _ a e in
      record {
        free = free_true w n a s.passes;
        least = λ q f.
            by_lt q a (λ l. clash (true_free w n q f) (s.before q f.from l)) (λ l. l);
      }

  pub none_found : ((p : ℕ) → FreeSpan w n p → ⊥) → least_free w n ≡ None
  none_found h = by_answer (least_free w n) (λ a e. absurd (h a (least_found a e).free)) (λ e. e)

  module _ (pos : 0 < n) where
    -- none is found only where none is free
    pub none_free : least_free w n ≡ None → (p : ℕ) → FreeSpan w n p → ⊥
    none_free e p f =
        let u = f.upto in
        let l = f.from in
        clash (true_free w n p f) (search_none (is_free w n) _ _ e p l (omega arith))

    pub found_least : (a : ℕ) → LeastFree w n a → least_free w n ≡ Some a
    found_least a l =
        by_answer (least_free w n)
        (λ b e. let m = least_found b e in e ∙ ap Some (le_antisymm (m.least a l.free) (l.least b m.free)))
        (λ e. absurd (none_free e a l.free))

-- ---- the free map's first fit

pub block_some : (w : World) → 0 < block w
block_some w = pow_pos w.limits.log2_block

pub block_most : (w : World) → Sound w → block w ≤ 65536
block_most w s = pow_mono s.container.high

module _ (w : World) (s : Sound w) where
  small : w.limits.file_len ≤ top
  small = omega (arith, s.container.file)

  -- a free span by ranges that it does not meet is one by bytes, and the other way round
  by_bytes : (n p : ℕ) → FreeSpan w n p → free.FreeSpan w.limits.table_end w.limits.file_len (held_ranges w) n (block w) 0 p
  by_bytes n p f =
      let e = div-add-mod' p (block w) in
      meets_none_span _ _ (held_ranges w) small n (block w) 0 p
      (record { times = p / block w; is = omega (arith, e, f.multiple) })
      f.from f.upto f.apart

  by_ranges : (n p : ℕ) → free.FreeSpan w.limits.table_end w.limits.file_len (held_ranges w) n (block w) 0 p → FreeSpan w n p
  by_ranges n p f =
      let m = f.multiple in
      let e : p ≡ m.times * block w = omega (arith, m.is) in
      record {
        multiple = ap (λ (x : ℕ). x % block w) e ∙ mul-mod_left m.times (block w);
        from = f.from;
        upto = f.upto;
        apart = span_meets_none _ _ (held_ranges w) small n (block w) 0 p f;
      }

  -- first fit over the gaps of what is held, with align the block and skew 0: no gap is ever skipped
  pub least_is_fit : (n : ℕ) → 0 < n → least_free w n ≡ first_fit n (block w) 0 (gaps_of w.limits.table_end w.limits.file_len (held_ranges w))
  least_is_fit n pos =
      let b = block_most w s in
      let l = fit_lowest w.limits.table_end w.limits.file_len (held_ranges w) n (block w) 0 pos (block_some w) (omega (arith, s.container.file)) in
      by_answer (least_free w n)
      (λ a e.
      let m = least_found w n a e in
      e ∙ sym (l.some_is a (record { span = by_bytes n a m.free; least = λ q f. m.least q (by_ranges n q f) })))
      (λ e. e ∙ sym (l.none_is (λ p f. none_free w n pos e p (by_ranges n p f))))

  -- and so is first fit over one pass along the ranges in order
  pub least_swept : (n : ℕ) → 0 < n → least_free w n ≡ first_fit n (block w) 0 (swept w.limits.file_len w.limits.table_end (sorted (held_ranges w)))
  least_swept n pos = least_is_fit n pos ∙ ap (first_fit n (block w) 0) (sym (swept_of _ _ (held_ranges w) small))
