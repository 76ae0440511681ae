-- The marks: what each is, and how they are written one by one.
use Prim.Native.Nat.{ℕ, zero, suc, ◌+◌, ◌/◌, ◌%◌, ◌≤◌, ◌<◌}
use mathlib.Core.Bool.{Bool, true, false}
use mathlib.Core.List.{List, [], ◌∷◌}
use mathlib.Core.Path.{◌≡◌, refl, ap, sym, ◌∙◌}
use native.Mathlib.Nat.{le_of_suc-le-suc, not-suc-le-zero}
use native.Mathlib.Omega.{arith}
use lib.Dec.{eqb}
use lib.ListN.{length, get_or, set, length-append}
use Rattle.numbers.specs.Lists.{written}
use Rattle.settle.specs.Inner.{firsts, no_region}
use Rattle.settle.specs.Regions.{Region}
use Rattle.settle.specs.Settle.{overlapped, renamed, superseded, mark_of, marks_from, marks_of}
use Rattle.numbers.proofs.Lists.{written_next}

-- ---- the marks that are promised

from_length : (us un : List Region) (j : ℕ) (rs : List Region) → length (marks_from us un j rs) ≡ length rs
unfolding marks_from
from_length us un j [] = refl
from_length us un j (r ∷ rs) = ap suc (from_length us un (suc j) rs)

from_at : (us un : List Region) (j : ℕ) (rs : List Region) (i : ℕ) → i < length rs
    → get_or (marks_from us un j rs) i 0 ≡ mark_of (overlapped us (j + i)) (renamed us un (get_or rs i no_region)) (superseded us un (j + i))
unfolding marks_from
from_at us un j [] i h = absurd (not-suc-le-zero h)
from_at us un j (r ∷ rs) zero h =
    let e : j ≡ j + 0 = omega arith in
    ap (λ (k : ℕ). mark_of (overlapped us k) (renamed us un r) (superseded us un k)) e
from_at us un j (r ∷ rs) (suc i) h =
    let e : suc j + i ≡ j + suc i = omega arith in
    from_at us un (suc j) rs i (le_of_suc-le-suc h)
    ∙ ap (λ (k : ℕ). mark_of (overlapped us k) (renamed us un (get_or rs i no_region)) (superseded us un k)) e

-- what stands at each place
module _ (us un : List Region) where
  pub marks_length : length (marks_of us un) ≡ length us
  marks_length = from_length us un 0 us

  pub mark_at : (i : ℕ) → i < length us → get_or (marks_of us un) i 0 ≡ mark_of (overlapped us i) (renamed us un (get_or us i no_region)) (superseded us un i)
  mark_at i h =
      let e : 0 + i ≡ i = omega arith in
      from_at us un 0 us i h ∙ ap (λ (k : ℕ). mark_of (overlapped us k) (renamed us un (get_or us i no_region)) (superseded us un k)) e

-- each of the three is read back from the number
pub mark_overlapped : (o r s : Bool) → eqb (mark_of o r s % 2) 1 ≡ o
mark_overlapped true true true = refl
mark_overlapped true true false = refl
mark_overlapped true false true = refl
mark_overlapped true false false = refl
mark_overlapped false true true = refl
mark_overlapped false true false = refl
mark_overlapped false false true = refl
mark_overlapped false false false = refl

pub mark_renamed : (o r s : Bool) → eqb (mark_of o r s / 2 % 2) 1 ≡ r
mark_renamed true true true = refl
mark_renamed true true false = refl
mark_renamed true false true = refl
mark_renamed true false false = refl
mark_renamed false true true = refl
mark_renamed false true false = refl
mark_renamed false false true = refl
mark_renamed false false false = refl

pub mark_superseded : (o r s : Bool) → eqb (mark_of o r s / 4) 1 ≡ s
mark_superseded true true true = refl
mark_superseded true true false = refl
mark_superseded true false true = refl
mark_superseded true false false = refl
mark_superseded false true true = refl
mark_superseded false true false = refl
mark_superseded false false true = refl
mark_superseded false false false = refl

-- it is 0 exactly where none holds
pub mark_none : (o r s : Bool) → mark_of o r s ≡ 0 → (o ≡ false) × (r ≡ false) × (s ≡ false)
mark_none o r s e = (
  sym (mark_overlapped o r s) ∙ ap (λ (n : ℕ). eqb (n % 2) 1) e,
  sym (mark_renamed o r s) ∙ ap (λ (n : ℕ). eqb (n / 2 % 2) 1) e,
  sym (mark_superseded o r s) ∙ ap (λ (n : ℕ). eqb (n / 4) 1) e,
)

pub none_mark : (o r s : Bool) → o ≡ false → r ≡ false → s ≡ false → mark_of o r s ≡ 0
none_mark o r s a b c = simp (a, b, c)

-- ---- as the code writes them

pub firsts_length : (f : ℕ → ℕ) (n : ℕ) → length (firsts f n) ≡ n
unfolding firsts
firsts_length f zero = refl
firsts_length f (suc n) = let e = firsts_length f n in length-append (firsts f n) (f n ∷ []) ∙ omega arith

pub record Writing (f : ℕ → ℕ) (n : ℕ) (m₀ m : List ℕ) (i : ℕ) : Type 0 where
  pub room : n ≤ length m₀
  pub upto : i ≤ n
  pub value : m ≡ written (firsts f i) m₀

pub writing_begins : (f : ℕ → ℕ) (n : ℕ) (m : List ℕ) → n ≤ length m → Writing f n m m 0
unfolding firsts
writing_begins f n m h = record { room = h; upto = omega arith; value = refl }

module _ {f : ℕ → ℕ} {n : ℕ} {m₀ m : List ℕ} {i : ℕ} (g : Writing f n m₀ m i) where
  pub writing_on : (x : ℕ) → i < n → x ≡ f i → Writing f n m₀ (set m i x) (i + 1)
  unfolding firsts
  writing_on x h e =
      let s : i + 1 ≡ suc i = omega arith in
      record {
        room = g.room;
        upto = omega arith;
        value = rw (g.value, e) (written_next (firsts f i) m₀ i (f i) (firsts_length f i) (omega (arith, g.room))) ∙ ap (λ (k : ℕ). written (firsts f k) m₀) (sym s);
      }
