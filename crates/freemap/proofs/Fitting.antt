-- First fit, gap by gap.
use Rattle.std.proofs.Common.{◌≡◌, ℕ, ◌+◌, ◌-◌, ◌%◌, ◌^◌, ◌<◌, ◌≤◌, true, false, List, [], ◌∷◌, length, get_or, drop, sym, refl, ap, ◌∙◌, arith, drop_of_length-le, le-ltb, lt-ltb, le-leb, suc, drop-cons}
use mathlib.Core.Bool.{and-false}
use Rattle.std.specs.Prelude.{Option, None, Some}
use lib.Bits.{bit_and, and_le_r}
use borrow.Author.Tests.{lt-leb}
use Rattle.freemap.specs.Fit.{place_in, skipped, allows, first_fit}
use Rattle.numbers.specs.Powers.{is_power_of_two}
use Rattle.numbers.specs.Range.{Range, range, end_of, blank}
use Rattle.numbers.specs.Sums.{top}
use Rattle.align.proofs.Least.{masked}
use Rattle.numbers.proofs.Cases.{cases, by_lt, none_some}
use Rattle.numbers.proofs.Ranges.{end_le, end_top}

-- ---- one gap: what allows it, and what does not

module _ (len align skew : ℕ) (g : Range) where
  pub refused_by : allows len align skew g ≡ false → first_fit len align skew (g ∷ []) ≡ None
  unfolding first_fit
  refused_by e = simp e

  pub allowed_by : allows len align skew g ≡ true → first_fit len align skew (g ∷ []) ≡ Some (place_in align skew g)
  unfolding first_fit
  allowed_by e = simp e

  over_top : top < g.offset + skew + (align - 1) → skipped align skew g ≡ true
  unfolding skipped
  over_top h = omega (arith, lt-ltb)

  under_top : g.offset + skew + (align - 1) ≤ top → skipped align skew g ≡ false
  unfolding skipped
  under_top h = omega (arith, le-ltb)

  pub skips : top < g.offset + skew + (align - 1) → allows len align skew g ≡ false
  unfolding allows
  skips h = simp (over_top h)

  pub too_far : end_of g < place_in align skew g + len → allows len align skew g ≡ false
  unfolding allows
  too_far h = simp (lt-leb _ _ h, and-false)

  pub has_room : g.offset + skew + (align - 1) ≤ top → place_in align skew g + len ≤ end_of g → allows len align skew g ≡ true
  unfolding allows
  has_room h k = simp (under_top h, le-leb _ _ k)

-- the place as the code computes it, and each of its tests
module _ (len mask skew start bytes : ℕ) (power : is_power_of_two (mask + 1) ≡ true) where
  abbrev pad : ℕ
  pad = mask - bit_and (start + (skew + mask)) mask

  abbrev gap : Range
  gap = range start bytes

  abbrev pub fit : Option ℕ
  fit = first_fit len (mask + 1) skew (gap ∷ [])

  pad_place : place_in (mask + 1) skew gap ≡ start + pad
  unfolding place_in
  pad_place =
      let e : mask + 1 - 1 ≡ mask = omega arith in
      let f : start + skew + mask ≡ start + (skew + mask) = omega arith in
      let m = rw (e, f) at (masked 64 (mask + 1) power (start + skew)) in
      let l = and_le_r (start + (skew + mask)) mask in
      omega arith

  beyond : end_of gap < start + pad + len → fit ≡ None
  beyond h = refused_by len (mask + 1) skew gap (too_far len (mask + 1) skew gap (rw pad_place h))

  pub fit_skipped : top < start + (skew + mask) → fit ≡ None
  fit_skipped h = refused_by len (mask + 1) skew gap (skips len (mask + 1) skew gap (omega arith))

  -- the sums as they wrap: those of the place are right unless the gap is skipped
  module _ (reach : ℕ) (reached : reach ≡ (start + (skew + mask)) % 2 ^ 64) where
    exact : start + (skew + mask) ≤ top → reach ≡ start + (skew + mask)
    exact s = omega (arith, reached)

    abbrev Wanted : ℕ → Type 0
    Wanted need = need ≡ (mask - bit_and reach mask + len) % 2 ^ 64

    pub fit_far : (need : ℕ) → Wanted need → bytes < need → fit ≡ None
    fit_far need w h =
        by_lt top (start + (skew + mask)) fit_skipped
        (λ s. beyond (let e : need ≡ (pad + len) % 2 ^ 64 = rw (exact s) at w in let u = end_le gap in omega (arith, e)))

    module _ (at : ℕ) (placed : at ≡ (start + (mask - bit_and reach mask)) % 2 ^ 64) where
      place_exact : start + (skew + mask) ≤ top → at ≡ start + pad
      place_exact s = let e : at ≡ (start + pad) % 2 ^ 64 = rw (exact s) at placed in omega (arith, e)

      pub fit_high : top - at < len → fit ≡ None
      fit_high h =
          by_lt top (start + (skew + mask)) fit_skipped (λ s. beyond (let p = place_exact s in let e = end_top gap in omega arith))

      pub fit_at : start + (skew + mask) ≤ top → (need : ℕ) → Wanted need → need ≤ bytes → len ≤ top - at → fit ≡ Some at
      unfolding end_of
      fit_at s need w p h =
          let q : need ≡ (pad + len) % 2 ^ 64 = rw (exact s) at w in
          let k = place_exact s in
          allowed_by len (mask + 1) skew gap (has_room len (mask + 1) skew gap (omega arith) (rw pad_place (omega (arith, q))))
          ∙ ap Some (pad_place ∙ sym k)

-- ---- one gap more

module _ (len align skew : ℕ) (g : Range) (gs : List Range) where
  pub fit_here : (a : ℕ) → first_fit len align skew (g ∷ []) ≡ Some a → first_fit len align skew (g ∷ gs) ≡ Some a
  unfolding first_fit
  fit_here a e = cases (allows len align skew g) (λ t. simp t ((simp t at e))) (λ t. let z : None ≡ Some a = simp t at e in absurd (none_some z))

  pub fit_later : first_fit len align skew (g ∷ []) ≡ None → first_fit len align skew (g ∷ gs) ≡ first_fit len align skew gs
  unfolding first_fit
  fit_later e = cases (allows len align skew g) (λ t. let z : Some (place_in align skew g) ≡ None = simp t at e in absurd (none_some (sym z))) (λ t. simp t)

-- ---- the search: no gap in front of i allows it

pub record Searching (len align skew : ℕ) (gs : List Range) (i : ℕ) : Type 0 where
  pub below : i ≤ length gs
  pub rest : first_fit len align skew gs ≡ first_fit len align skew (drop i gs)

pub search_begins : (len align skew : ℕ) (gs : List Range) → Searching len align skew gs 0
search_begins len align skew gs = record { below = omega arith; rest = refl }

module _ {len align skew : ℕ} {gs : List Range} {i : ℕ} (g : Searching len align skew gs i) where
  module _ {here : Range} (h : i < length gs) (x : get_or gs i blank ≡ here) where
    next : drop i gs ≡ here ∷ drop (i + 1) gs
    next = let e : suc i ≡ i + 1 = omega arith in drop-cons gs i blank h ∙ rw (x, e)

    pub search_found : {a : ℕ} → first_fit len align skew (here ∷ []) ≡ Some a → first_fit len align skew gs ≡ Some a
    search_found {a} e = g.rest ∙ ap (first_fit len align skew) (next) ∙ fit_here len align skew here (drop (i + 1) gs) a e

    pub search_on : first_fit len align skew (here ∷ []) ≡ None → Searching len align skew gs (i + 1)
    search_on e =
        record {
          below = omega arith;
          rest = g.rest ∙ ap (first_fit len align skew) (next) ∙ fit_later len align skew here (drop (i + 1) gs) e;
        }

  pub search_ends : length gs ≤ i → first_fit len align skew gs ≡ None
  unfolding first_fit
  search_ends h = g.rest ∙ ap (first_fit len align skew) (drop_of_length-le gs {i = i} h)

-- every gap is skipped
pub all_skipped : (len align skew : ℕ) → top < skew + (align - 1) → (gs : List Range) → first_fit len align skew gs ≡ None
unfolding first_fit
all_skipped len align skew h [] = refl
all_skipped len align skew h (g ∷ gs) = simp (skips len align skew g (omega arith)) (all_skipped len align skew h gs)
