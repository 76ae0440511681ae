-- Ranges in order and apart: where their bytes are, that a span of their bytes lies in one of them, and that their bytes tell which ranges they are.
use Rattle.std.proofs.Common.{◌≡◌, ℕ, suc, ◌+◌, ◌<◌, ◌≤◌, List, [], ◌∷◌, sym, refl, inl, inr, ⊎_elim, le_antisymm, arith}
use Rattle.freemap.specs.Gaps.{Covered}
use Rattle.numbers.specs.Lists.{All, Any}
use Rattle.numbers.specs.Range.{Range, Has}
use Rattle.numbers.specs.Sums.{top}
use Rattle.freemap.proofs.Maximal.{Apart}
use Rattle.numbers.proofs.Cases.{by_lt}
use Rattle.numbers.proofs.Ranges.{end_le, end_exact}

-- A range has all of n bytes from p on.
abbrev pub Spans : ℕ → ℕ → Range → Type 0
Spans p n g = (g.offset ≤ p) × (p + n ≤ g.offset + g.len)

-- what begins at or below p lies from low on
pub apart_from : (P : Range → Type 0) (p : ℕ) → ((g : Range) → P g → g.offset ≤ p) → (low : ℕ) (gs : List Range) → Apart low gs → Any P gs → low ≤ p
apart_from P p f low [] a h = absurd h
apart_from P p f low (g ∷ gs) a (inl h) = let l = a.0 in let e = f g h in omega arith
apart_from P p f low (g ∷ gs) a (inr h) = let l = a.0 in let e = apart_from P p f (suc (g.offset + g.len)) gs a.2 h in omega arith

pub apart_covered : (x low : ℕ) (gs : List Range) → Apart low gs → Covered gs x → low ≤ x
apart_covered x low gs a h = apart_from (λ (g : Range). Has g x) x (λ g p. p.from) low gs a h

-- the byte behind a range is in none
behind_none : (low : ℕ) (g : Range) (gs : List Range) → Apart low (g ∷ gs) → Covered (g ∷ gs) (g.offset + g.len) → ⊥
behind_none low g gs a (inl h) = let e = end_le g in let u = h.upto in omega arith
behind_none low g gs a (inr h) = let e = apart_covered (g.offset + g.len) (suc (g.offset + g.len)) gs a.2 h in omega arith

-- bytes behind a range are in those behind it
past_first : (x : ℕ) (g : Range) (gs : List Range) → g.offset + g.len ≤ x → Covered (g ∷ gs) x → Covered gs x
past_first x g gs h (inl p) = let e = end_le g in let u = p.upto in absurd (omega arith)
past_first x g gs h (inr p) = p

pub span_in : (low : ℕ) (gs : List Range) → Apart low gs → (p n : ℕ) → 0 < n → ((b : ℕ) → p ≤ b → b < p + n → Covered gs b) → Any (Spans p n) gs
span_in low [] a p n z h = h p (omega arith) (omega arith)
span_in low (g ∷ gs) a p n z h =
    ⊎_elim
    (λ (k : Has g p).
    by_lt (g.offset + g.len) (p + n)
    (λ l. let e = end_le g in let u = k.upto in absurd (behind_none low g gs a (h (g.offset + g.len) (omega arith) l)))
    (λ l. inl (k.from, l)))
    (λ (k : Covered gs p).
    let s = apart_covered p (suc (g.offset + g.len)) gs a.2 k in
    inr (span_in (suc (g.offset + g.len)) gs a.2 p n z (λ b l u. past_first b g gs (omega arith) (h b l u))))
    (h p (omega arith) (omega arith))

-- ---- the same bytes, the same ranges

-- No range ends past 2^64 - 1.
abbrev pub Ends : List Range → Type 0
Ends gs = All (λ (g : Range). g.offset + g.len ≤ top) gs

-- then its bytes run up to its offset and length
has_exact : (g : Range) (x : ℕ) → g.offset + g.len ≤ top → g.offset ≤ x → x < g.offset + g.len → Has g x
has_exact g x t l u = record { from = l; upto = let e = end_exact g t in omega arith }

module _ (low low' : ℕ) (g h : Range) (gs hs : List Range) (a : Apart low (g ∷ gs)) (b : Apart low' (h ∷ hs)) (s : Ends (g ∷ gs)) (into : (x : ℕ) → Covered (g ∷ gs) x → Covered (h ∷ hs) x) where
  -- h begins at or below g
  begins_before : h.offset ≤ g.offset
  begins_before =
      let z = a.1 in
      apart_covered g.offset h.offset (h ∷ hs) (omega arith, b.1, b.2)
      (into g.offset (inl (has_exact g g.offset s.0 (omega arith) (omega arith))))

  -- where both begin together, h ends at or behind g
  ends_behind : g.offset ≡ h.offset → g.offset + g.len ≤ h.offset + h.len
  ends_behind e =
      by_lt (h.offset + h.len) (g.offset + g.len)
      (λ l.
      absurd (behind_none low' h hs b (into (h.offset + h.len) (inl (has_exact g (h.offset + h.len) s.0 (omega arith) l)))))
      (λ l. l)

  -- what follows g lies in what follows h, where both end together
  tail_into : g.offset + g.len ≡ h.offset + h.len → (x : ℕ) → Covered gs x → Covered hs x
  tail_into e x k =
      let l = apart_covered x (suc (g.offset + g.len)) gs a.2 k in
      past_first x h hs (omega arith) (into x (inr k))

some_covered : (low : ℕ) (g : Range) (gs : List Range) → Apart low (g ∷ gs) → Ends (g ∷ gs) → ((x : ℕ) → Covered (g ∷ gs) x → ⊥) → ⊥
some_covered low g gs a s n = let z = a.1 in n g.offset (inl (has_exact g g.offset s.0 (omega arith) (omega arith)))

pub apart_only : (low low' : ℕ) (gs hs : List Range) → Apart low gs → Apart low' hs → Ends gs → Ends hs → ((x : ℕ) → Covered gs x → Covered hs x) → ((x : ℕ) → Covered hs x → Covered gs x) → gs ≡ hs
apart_only low low' [] [] a b s t f f' = refl
apart_only low low' [] (h ∷ hs) a b s t f f' = absurd (some_covered low' h hs b t f')
apart_only low low' (g ∷ gs) [] a b s t f f' = absurd (some_covered low g gs a s f)
apart_only low low' (g ∷ gs) (h ∷ hs) a b s t f f' =
    let o : g.offset ≡ h.offset = le_antisymm (begins_before low' low h g hs gs b a t f') (begins_before low low' g h gs hs a b s f) in
    let e : g.offset + g.len ≡ h.offset + h.len = le_antisymm (ends_behind low low' g h gs hs a b s f o) (ends_behind low' low h g hs gs b a t f' (sym o)) in
    let l : g.len ≡ h.len = omega arith in
    let r : gs ≡ hs = apart_only (suc (g.offset + g.len)) (suc (h.offset + h.len)) gs hs a.2 b.2 s.1 t.1 (tail_into low low' g h gs hs a b s f e) (tail_into low' low h g hs gs b a t f' (sym e)) in
    λ i. record { offset = o i; len = l i } ∷ r i
