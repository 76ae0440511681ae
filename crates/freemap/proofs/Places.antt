-- First fit in words: the least place of all, by gaps and by free bytes.
use Rattle.std.proofs.Common.{◌≡◌, ℕ, suc, ◌+◌, ◌-◌, ◌*◌, ◌<◌, ◌≤◌, true, false, not, List, [], ◌∷◌, sym, ap, ◌∙◌, inl, inr, ⊎_elim, le_antisymm, arith, leb-true}
use Rattle.std.specs.Prelude.{Option, None, Some}
use Rattle.freemap.specs.Fit.{place_in, skipped, allows, first_fit}
use Rattle.freemap.specs.Gaps.{Covered, gaps_of}
use Rattle.numbers.specs.Lists.{All, Any}
use Rattle.numbers.specs.Range.{Range, range, blank, end_of, Has, Meet}
use Rattle.numbers.specs.Sums.{top}
use Rattle.align.proofs.Least.{up_least}
use Rattle.freemap.proofs.Fitting.{has_room}
use Rattle.freemap.proofs.Maximal.{Apart}
use Rattle.freemap.proofs.Ordered.{Spans, apart_from}
use Rattle.freemap.proofs.Words.{gap_free, gaps_apart, gaps_inside, span_in_gap}
use Rattle.numbers.proofs.Cases.{cases, by_answer, none_some, clash, and-true}
use Rattle.numbers.proofs.Disjoint.{MeetsNone}
use Rattle.numbers.proofs.Lists.{all_imp, all_of, all_at, any_imp, any_of, any_at}
use Rattle.numbers.proofs.Ranges.{end_le, end_exact}

-- p + skew is a multiple of align.
pub record Multiple (align skew p : ℕ) : Type 0 where
  pub times : ℕ
  pub is : p + skew ≡ times * align

-- "the least at >= start with at + skew a multiple of align"
pub record LeastPlace (align skew start at : ℕ) : Type 0 where
  pub multiple : Multiple align skew at
  pub above : start ≤ at
  pub least : (p : ℕ) → start ≤ p → Multiple align skew p → at ≤ p

pub place_least : (align skew : ℕ) → 0 < align → (g : Range) → LeastPlace align skew g.offset (place_in align skew g)
unfolding place_in
place_least align skew pos g =
    let u = up_least (g.offset + skew) align pos in
    let a = u.above in
    record {
      multiple = record { times = u.times; is = omega (arith, u.multiple) };
      above = omega arith;
      least = λ p h m. let l = u.least m.times (omega (arith, m.is)) in omega (arith, m.is);
    }

-- The n bytes from p on lie in a gap; none may also stand at its end.
abbrev pub Inside : ℕ → ℕ → Range → Type 0
Inside n p g = (g.offset ≤ p) × (p + n ≤ end_of g)

-- p is a place for n bytes in some gap.
pub record Fits (gs : List Range) (n align skew p : ℕ) : Type 0 where
  pub multiple : Multiple align skew p
  pub gap : Any (Inside n p) gs

-- Document 01's premise on sums: no gap is skipped.
abbrev pub NoneSkipped : ℕ → ℕ → List Range → Type 0
NoneSkipped align skew gs = All (λ (g : Range). g.offset + skew + (align - 1) ≤ top) gs

module _ (n align skew : ℕ) (pos : 0 < align) where
  -- a gap allows a place only at the least, inside it
  allowed : (g : Range) → allows n align skew g ≡ true → Inside n (place_in align skew g) g
  unfolding allows
  allowed g e = ((place_least align skew pos g).above, leb-true _ _ (and-true (not (skipped align skew g)) _ e).1)

  -- and allows it where it has any
  allowing : (g : Range) → g.offset + skew + (align - 1) ≤ top → (p : ℕ) → Multiple align skew p → Inside n p g → allows n align skew g ≡ true
  allowing g s p m i =
      let l = (place_least align skew pos g).least p i.0 m in
      let u = i.1 in
      has_room n align skew g s (omega arith)

  -- the answer is a place
  pub fit_found : (gs : List Range) (a : ℕ) → first_fit n align skew gs ≡ Some a → Fits gs n align skew a
  unfolding first_fit
  fit_found [] a e = absurd (none_some e)
  fit_found (g ∷ gs) a e =
      cases (allows n align skew g)
      (λ t.
      let q : Some (place_in align skew g) ≡ Some a = simp t at e in
      let s : place_in align skew g ≡ a = cc in
      rw (← s) (record { multiple = (place_least align skew pos g).multiple; gap = inl (allowed g t) }))
      (λ t.
      let f = fit_found gs a (simp t at e) in
      record { multiple = f.multiple; gap = inr f.gap })

  -- a place in the first gap means that it allows one
  not_first : (g : Range) (gs : List Range) → g.offset + skew + (align - 1) ≤ top → allows n align skew g ≡ false → (p : ℕ) → Fits (g ∷ gs) n align skew p → Fits gs n align skew p
  not_first g gs s t p f =
      ⊎_elim (λ i. clash (allowing g s p f.multiple i) t) (λ r. record { multiple = f.multiple; gap = r }) f.gap

  -- no place is lower
  pub fit_least : (low : ℕ) (gs : List Range) → Apart low gs → NoneSkipped align skew gs → (a : ℕ) → first_fit n align skew gs ≡ Some a → (p : ℕ) → Fits gs n align skew p → a ≤ p
  unfolding first_fit
  fit_least low [] o s a e p f = absurd (none_some e)
  fit_least low (g ∷ gs) o s a e p f =
      cases (allows n align skew g)
      (λ t.
      let q : Some (place_in align skew g) ≡ Some a = simp t at e in
      let i : place_in align skew g ≡ a = cc in
      rw (← i)
      (⊎_elim (λ i. (place_least align skew pos g).least p i.0 f.multiple)
      (λ r.
      let h = apart_from (Inside n p) p (λ x i. i.0) (suc (g.offset + g.len)) gs o.2 r in
      let k = (allowed g t).1 in
      let l = end_le g in
      omega arith)
      f.gap))
      (λ t. fit_least (suc (g.offset + g.len)) gs o.2 s.1 a (simp t at e) p (not_first g gs s.0 t p f))

  -- there is none where there is no answer
  pub fit_none : (gs : List Range) → NoneSkipped align skew gs → first_fit n align skew gs ≡ None → (p : ℕ) → Fits gs n align skew p → ⊥
  unfolding first_fit
  fit_none [] s e p f = f.gap
  fit_none (g ∷ gs) s e p f =
      cases (allows n align skew g)
      (λ t. let q : Some (place_in align skew g) ≡ None = simp t at e in none_some (sym q))
      (λ t. fit_none gs s.1 (simp t at e) p (not_first g gs s.0 t p f))

-- ---- by free bytes

-- The n bytes from p on lie in [table end, length) and no range has one of them; p + skew is a multiple of align.
pub record FreeSpan (te len : ℕ) (rs : List Range) (n align skew p : ℕ) : Type 0 where
  pub multiple : Multiple align skew p
  pub from : te ≤ p
  pub upto : p + n ≤ len
  pub free : (b : ℕ) → p ≤ b → b < p + n → Covered rs b → ⊥

module _ (te len : ℕ) (rs : List Range) (small : len ≤ top) (n align skew : ℕ) where
  abbrev gaps : List Range
  gaps = gaps_of te len rs

  -- a place in a gap is a free span, and a free span is a place in a gap
  fits_free : 0 < n → (p : ℕ) → Fits gaps n align skew p → FreeSpan te len rs n align skew p
  fits_free z p f =
      let inside : (b : ℕ) → p ≤ b → b < p + n → Covered gaps b = λ b l u.
      any_imp (Inside n p) (λ (g : Range). Has g b) (λ g i. let v = i.0 in let w = i.1 in record { from = omega arith; upto = omega arith }) gaps f.gap in
      let first = gap_free te len rs small p (inside p (omega arith) (omega arith)) in
      let last = (gap_free te len rs small (p + n - 1) (inside (p + n - 1) (omega arith) (omega arith))).1 in
      record { multiple = f.multiple; from = first.0; upto = omega arith; free = λ b l u. (gap_free te len rs small b (inside b l u)).2 }

  free_fits : 0 < n → (p : ℕ) → FreeSpan te len rs n align skew p → Fits gaps n align skew p
  unfolding end_of
  free_fits z p s =
      let u = s.upto in
      record {
        multiple = s.multiple;
        gap =
            any_imp (Spans p n) (Inside n p) (λ g i. let v = i.1 in (i.0, omega arith)) gaps
            (span_in_gap te len rs small p n z s.from u s.free);
      }

  -- no gap is skipped where the container ends low enough
  pub sums_below : len + skew + (align - 1) ≤ top → NoneSkipped align skew gaps
  sums_below h = all_imp (λ (g : Range). g.offset + g.len ≤ len) (λ (g : Range). g.offset + skew + (align - 1) ≤ top) (λ g l. omega arith) gaps (gaps_inside te len rs small)

  module _ (pos : 0 < align) where
    -- every answer is a free span, whatever the sums
    pub fit_free : 0 < n → (a : ℕ) → first_fit n align skew gaps ≡ Some a → FreeSpan te len rs n align skew a
    fit_free z a e = fits_free z a (fit_found n align skew pos gaps a e)

    -- so none where there is no free span
    pub no_span : 0 < n → ((p : ℕ) → FreeSpan te len rs n align skew p → ⊥) → first_fit n align skew gaps ≡ None
    no_span z f = by_answer (first_fit n align skew gaps) (λ a e. absurd (f a (fit_free z a e))) (λ e. e)

    module _ (sums : NoneSkipped align skew gaps) where
      -- the least free span of all, lowest address first
      pub first-fit : 0 < n → (a : ℕ) → first_fit n align skew gaps ≡ Some a → (p : ℕ) → FreeSpan te len rs n align skew p → a ≤ p
      first-fit z a e p s = fit_least n align skew pos te gaps (gaps_apart te len rs small) sums a e p (free_fits z p s)

      -- none only where there is none
      pub no_fit : 0 < n → first_fit n align skew gaps ≡ None → (p : ℕ) → FreeSpan te len rs n align skew p → ⊥
      no_fit z e p s = fit_none n align skew pos gaps sums e p (free_fits z p s)

      -- of any length, 0 too: the least place in a gap, its end included
      pub first_place : (a : ℕ) → first_fit n align skew gaps ≡ Some a → (p : ℕ) → Fits gaps n align skew p → a ≤ p
      first_place a e p f = fit_least n align skew pos te gaps (gaps_apart te len rs small) sums a e p f

-- ---- at one stroke, where no sum passes 2^64 - 1: the least free span of all, and none exactly where there is none

pub record LeastSpan (te len : ℕ) (rs : List Range) (n align skew a : ℕ) : Type 0 where
  pub span : FreeSpan te len rs n align skew a
  pub least : (p : ℕ) → FreeSpan te len rs n align skew p → a ≤ p

pub record Lowest (te len : ℕ) (rs : List Range) (n align skew : ℕ) (o : Option ℕ) : Type 0 where
  pub is_some : (a : ℕ) → o ≡ Some a → LeastSpan te len rs n align skew a
  pub some_is : (a : ℕ) → LeastSpan te len rs n align skew a → o ≡ Some a
  pub is_none : o ≡ None → (p : ℕ) → FreeSpan te len rs n align skew p → ⊥
  pub none_is : ((p : ℕ) → FreeSpan te len rs n align skew p → ⊥) → o ≡ None

pub fit_lowest : (te len : ℕ) (rs : List Range) (n align skew : ℕ) → 0 < n → 0 < align → len + skew + (align - 1) ≤ top
    → Lowest te len rs n align skew (first_fit n align skew (gaps_of te len rs))
fit_lowest te len rs n align skew z pos h =
    let small : len ≤ top = omega arith in
    let sums = sums_below te len rs small n align skew h in
    let least : (a : ℕ) → first_fit n align skew (gaps_of te len rs) ≡ Some a → LeastSpan te len rs n align skew a = λ a e.
    record { span = fit_free te len rs small n align skew pos z a e; least = first-fit te len rs small n align skew pos sums z a e } in
    record {
      is_some = least;
      some_is = λ a s.
          by_answer (first_fit n align skew (gaps_of te len rs))
          (λ b e. let l = least b e in e ∙ ap Some (le_antisymm (l.least a s.span) (s.least b l.span)))
          (λ e. absurd (no_fit te len rs small n align skew pos sums z e a s.span));
      is_none = no_fit te len rs small n align skew pos sums z;
      none_is = no_span te len rs small n align skew pos z;
    }

-- ---- a free span "meets nothing held"

module _ (te len : ℕ) (rs : List Range) (small : len ≤ top) (n align skew p : ℕ) where
  pub span_meets_none : FreeSpan te len rs n align skew p → MeetsNone (range p n) rs
  span_meets_none s =
      all_of (λ (r : Range). Meet (range p n) r → ⊥) rs blank
      (λ i h m.
      let l = m.left.from in
      let u = m.left.upto in
      let e = end_le (range p n) in
      s.free m.byte l (omega arith) (any_of (λ (r : Range). Has r m.byte) rs i blank h m.right))

  pub meets_none_span : Multiple align skew p → te ≤ p → p + n ≤ len → MeetsNone (range p n) rs → FreeSpan te len rs n align skew p
  meets_none_span m l u a =
      record {
        multiple = m;
        from = l;
        upto = u;
        free = λ b f t c.
            let q = any_at (λ (r : Range). Has r b) rs blank c in
            let e = end_exact (range p n) (omega arith) in
            all_at (λ (r : Range). Meet (range p n) r → ⊥) rs q.0 blank a q.1 (record { byte = b; left = record { from = f; upto = omega arith }; right = q.2 });
      }
