-- First fit in two parts: of ranges of which no two meet, those below the offset of one of them and those from it on.
use Rattle.std.proofs.Common.{◌≡◌, ℕ, ◌+◌, ◌-◌, ◌<◌, ◌≤◌, List, [], ◌∷◌, ◌++◌, length, get_or, take, drop, sym, ap, subst, ◌∙◌, take-append-drop, inl, inr, ⊎_elim, arith}
use Rattle.std.specs.Prelude.{Option, None, Some}
use Rattle.freemap.specs.Fit.{first_fit}
use Rattle.freemap.specs.Gaps.{Covered, covered, gaps_of}
use Rattle.numbers.specs.Lists.{All, Any}
use Rattle.numbers.specs.Range.{Range, blank, Has, has, Meet, Disjoint, Within, total}
use Rattle.numbers.specs.Sums.{top, sum}
use Rattle.sort.specs.Part.{PartedAt}
use Rattle.freemap.proofs.Held.{held_and_free}
use Rattle.freemap.proofs.Ordered.{Spans}
use Rattle.freemap.proofs.Places.{FreeSpan, Lowest, fit_lowest}
use Rattle.freemap.proofs.Words.{span_in_gap, gaps_same}
use Rattle.numbers.proofs.Cases.{by_answer, by_lt}
use Rattle.numbers.proofs.Disjoint.{MeetsNone, none_sym, disjoint_between}
use Rattle.numbers.proofs.Lists.{all_at, all_of, all_left, all_right, all_both, all_imp, any_of, any_at, any_left, any_right, any_parts}
use Rattle.numbers.proofs.Ranges.{end_exact, end_le}
use Rattle.sort.proofs.Laws.{all_same, pairwise_same, test_same}

-- one of those from an offset on
from_on : (mid : ℕ) (fs bs : List Range) → All (λ (r : Range). r.offset < mid) fs → Any (λ (r : Range). r.offset ≡ mid) (fs ++ bs) → Any (λ (r : Range). r.offset ≡ mid) bs
from_on mid [] bs a o = o
from_on mid (f ∷ fs) bs a (inl e) = let l = a.0 in absurd (omega arith)
from_on mid (f ∷ fs) bs a (inr o) = from_on mid fs bs a.1 o

-- none of a list is longer than all together
in_total : (n p : ℕ) (gs : List Range) → Any (Spans p n) gs → n ≤ total gs
unfolding sum
in_total n p [] s = absurd s
in_total n p (g ∷ gs) (inl s) = let a = s.0 in let b = s.1 in omega arith
in_total n p (g ∷ gs) (inr s) = let i = in_total n p gs s in omega arith

-- there is none where too few bytes are free
pub no_room : (n align lo hi : ℕ) (rs : List Range) → 0 < n → 0 < align → hi + (align - 1) ≤ top → All (Within lo hi) rs → Disjoint rs → hi - lo < n + total rs
    → first_fit n align 0 (gaps_of lo hi rs) ≡ None
no_room n align lo hi rs pos any sums a d h =
    let e = held_and_free lo hi (omega arith) rs a d in
    (fit_lowest lo hi rs n align 0 pos any (omega arith)).none_is
    (λ p f. let i = in_total n p (gaps_of lo hi rs) (span_in_gap lo hi rs (omega arith) p n pos f.from f.upto f.free) in omega arith)

-- What is known of the ranges: fs begin below mid, bs do not, and one begins at mid.
pub record Parted (lo mid hi : ℕ) (fs bs : List Range) : Type 0 where
  pub inside : All (Within lo hi) (fs ++ bs)
  pub some : All (λ (r : Range). 0 < r.len) (fs ++ bs)
  pub apart : Disjoint (fs ++ bs)
  pub low : All (λ (r : Range). r.offset < mid) fs
  pub high : All (λ (r : Range). mid ≤ r.offset) bs
  pub one : Any (λ (r : Range). r.offset ≡ mid) (fs ++ bs)

-- of a list that `part_pairs` has parted
module _ (lo mid hi k : ℕ) (l m : List Range) (c : PartedAt l m mid k) where
  pub parted : All (Within lo hi) l → All (λ (r : Range). 0 < r.len) l → Disjoint l → Parted lo mid hi (take k m) (drop k m)
  parted a b d =
      let e = sym (take-append-drop k m) in
      record {
        inside = subst (All (Within lo hi)) e (all_same (Within lo hi) l m c.same a);
        some = subst (All (λ (r : Range). 0 < r.len)) e (all_same (λ (r : Range). 0 < r.len) l m c.same b);
        apart = subst Disjoint e (pairwise_same (λ (r q : Range). Meet r q → ⊥) none_sym l m c.same d);
        low = c.low;
        high = c.high;
        one = subst (Any (λ (r : Range). r.offset ≡ mid)) e c.one;
      }

  pub gaps_parted : gaps_of lo hi l ≡ gaps_of lo hi (take k m ++ drop k m)
  unfolding covered
  gaps_parted =
      gaps_same lo hi l m (λ b f u. sym (test_same (λ (r : Range). has r b) l m c.same)) ∙ ap (gaps_of lo hi) (sym (take-append-drop k m))

module _ (n align lo mid hi : ℕ) (pos : 0 < n) (any : 0 < align) (sums : hi + (align - 1) ≤ top) (fs bs : List Range) (g : Parted lo mid hi fs bs) where
  record Begins : Type 0 where
    place : ℕ
    inside : place < length bs
    at : (get_or bs place blank).offset ≡ mid
    within : Within lo hi (get_or bs place blank)
    some : 0 < (get_or bs place blank).len
    alone : All (λ (r : Range). Meet r (get_or bs place blank) → ⊥) fs

  begins : Begins
  begins =
      let q = any_at (λ (r : Range). r.offset ≡ mid) bs blank (from_on mid fs bs g.low g.one) in
      record {
        place = q.0;
        inside = q.1;
        at = q.2;
        within = all_at (Within lo hi) bs q.0 blank (all_right (Within lo hi) fs bs g.inside) q.1;
        some = all_at (λ (r : Range). 0 < r.len) bs q.0 blank (all_right (λ (r : Range). 0 < r.len) fs bs g.some) q.1;
        alone =
            all_imp (λ (r : Range). MeetsNone r bs) (λ (r : Range). Meet r (get_or bs q.0 blank) → ⊥)
            (λ r a. all_at (λ (x : Range). Meet r x → ⊥) bs q.0 blank a q.1) fs (disjoint_between fs bs g.apart);
      }

  mid_in : Has (get_or bs begins.place blank) mid
  mid_in =
      let b = begins in
      let u = b.within.upto in
      let e = end_exact (get_or bs b.place blank) (omega arith) in
      record { from = omega (arith, b.at); upto = omega (arith, b.at, b.some) }

  taken : Covered bs mid
  taken = any_of (λ (r : Range). Has r mid) bs begins.place blank begins.inside mid_in

  pub bounds : (lo ≤ mid) × (mid < hi)
  bounds = let b = begins in let l = b.within.from in let u = b.within.upto in (omega (arith, b.at), omega (arith, b.at, b.some))

  -- none of the first passes mid
  ends : All (λ (r : Range). r.offset + r.len ≤ mid) fs
  ends =
      all_of (λ (r : Range). r.offset + r.len ≤ mid) fs blank
      (λ i h.
      let r = get_or fs i blank in
      let w = all_at (Within lo hi) fs i blank (all_left (Within lo hi) fs bs g.inside) h in
      let u = w.upto in
      let l = all_at (λ (r : Range). r.offset < mid) fs i blank g.low h in
      by_lt mid (r.offset + r.len)
      (λ k.
      let e = end_exact r (omega arith) in
      let shared : Meet r (get_or bs begins.place blank) = record { byte = mid; left = record { from = omega arith; upto = omega arith }; right = mid_in } in
      absurd (all_at (λ (r : Range). Meet r (get_or bs begins.place blank) → ⊥) fs i blank begins.alone h shared))
      (λ k. k))

  pub below : All (Within lo mid) fs
  below =
      all_both (Within lo hi) (λ (r : Range). r.offset + r.len ≤ mid) (Within lo mid) (λ r w e. record { from = w.from; upto = e }) fs
      (all_left (Within lo hi) fs bs g.inside) ends

  pub above : All (Within mid hi) bs
  above =
      all_both (Within lo hi) (λ (r : Range). mid ≤ r.offset) (Within mid hi) (λ r w l. record { from = l; upto = w.upto }) bs
      (all_right (Within lo hi) fs bs g.inside) g.high

  abbrev Free : ℕ → ℕ → List Range → ℕ → Type 0
  Free a b rs p = FreeSpan a b rs n align 0 p

  abbrev fit : ℕ → ℕ → List Range → Option ℕ
  fit a b rs = first_fit n align 0 (gaps_of a b rs)

  lowest : (a b : ℕ) (rs : List Range) → b ≤ hi → Lowest a b rs n align 0 (fit a b rs)
  lowest a b rs h = fit_lowest a b rs n align 0 pos any (omega arith)

  -- a free span of either part is one of the whole
  from_front : (p : ℕ) → Free lo mid fs p → Free lo hi (fs ++ bs) p
  from_front p s =
      let u = s.upto in
      let h = bounds.1 in
      record {
        multiple = s.multiple;
        from = s.from;
        upto = omega arith;
        free = λ b l k c.
            ⊎_elim (λ d. s.free b l k d)
            (λ d.
            let q = any_at (λ (r : Range). Has r b) bs blank d in
            let v = q.2.from in
            let w = all_at (λ (r : Range). mid ≤ r.offset) bs q.0 blank g.high q.1 in
            absurd (omega arith))
            (any_parts (λ (r : Range). Has r b) fs bs c);
      }

  from_back : (p : ℕ) → Free mid hi bs p → Free lo hi (fs ++ bs) p
  from_back p s =
      let a = s.from in
      let h = bounds.0 in
      record {
        multiple = s.multiple;
        from = omega arith;
        upto = s.upto;
        free = λ b l k c.
            ⊎_elim
            (λ d.
            let q = any_at (λ (r : Range). Has r b) fs blank d in
            let v = q.2.upto in
            let w = all_at (λ (r : Range). r.offset + r.len ≤ mid) fs q.0 blank ends q.1 in
            let e = end_le (get_or fs q.0 blank) in
            absurd (omega arith))
            (λ d. s.free b l k d)
            (any_parts (λ (r : Range). Has r b) fs bs c);
      }

  -- and one of the whole is one of either, for the byte at mid is taken
  parts_of : {P : Type 0} (p : ℕ) → Free lo hi (fs ++ bs) p → (Free lo mid fs p → p + n ≤ mid → P) → (Free mid hi bs p → mid ≤ p → P) → P
  parts_of p s f k =
      by_lt mid (p + n)
      (λ h.
      by_lt p mid
      (λ l. absurd (s.free mid (omega arith) h (any_right (λ (r : Range). Has r mid) fs bs taken)))
      (λ l. k (record { multiple = s.multiple; from = l; upto = s.upto; free = λ b x y c. s.free b x y (any_right (λ (r : Range). Has r b) fs bs c) }) l))
      (λ h.
      f (record { multiple = s.multiple; from = s.from; upto = h; free = λ b x y c. s.free b x y (any_left (λ (r : Range). Has r b) fs bs c) }) h)

  -- a place in the front is the lowest of all
  pub front_found : (a : ℕ) → fit lo mid fs ≡ Some a → fit lo hi (fs ++ bs) ≡ Some a
  front_found a e =
      let h = bounds.1 in
      let s = (lowest lo mid fs (omega arith)).is_some a e in
      let u = s.span.upto in
      (lowest lo hi (fs ++ bs) (omega arith)).some_is a
      (record { span = from_front a s.span; least = λ p f. parts_of p f (λ k l. s.least p k) (λ k l. omega arith) })

  -- with none in the front it is the lowest behind
  pub front_none : fit lo mid fs ≡ None → fit lo hi (fs ++ bs) ≡ fit mid hi bs
  front_none e =
      let h = bounds.1 in
      let none = (lowest lo mid fs (omega arith)).is_none e in
      let behind = lowest mid hi bs (omega arith) in
      let whole = lowest lo hi (fs ++ bs) (omega arith) in
      by_answer (fit mid hi bs)
      (λ a q.
      let s = behind.is_some a q in
      whole.some_is a (record { span = from_back a s.span; least = λ p f. parts_of p f (λ k l. absurd (none p k)) (λ k l. s.least p k) }) ∙ sym q)
      (λ q. whole.none_is (λ p f. parts_of p f (λ k l. none p k) (λ k l. behind.is_none q p k)) ∙ sym q)
