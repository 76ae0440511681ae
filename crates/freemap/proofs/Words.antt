-- What document 01 says of gaps, tail and free bytes, in words: of bytes, and of the list that `complement` leaves.
use Rattle.std.proofs.Common.{◌≡◌, ℕ, zero, suc, ◌+◌, ◌-◌, ◌<◌, ◌≤◌, max, Bool, true, false, not, ◌⊎◌, List, [], ◌∷◌, ◌++◌, length, get_or, sym, refl, ap, ◌∙◌, inl, inr, ⊎_elim, le_antisymm, arith, le-ltb, eq-eqb, ne_eqb, Ok}
use borrow.Author.Tests.{not-true}
use Rattle.freemap.specs.Bytes.{counted, free_of}
use Rattle.freemap.specs.Fit.{first_fit, fit_refusal, fit_of}
use Rattle.freemap.specs.Gaps.{Covered, covered, free, maximal, gaps_of, tail_of, free_map_of, complement_fails, Complemented, gaps_in, too_few}
use Rattle.freemap.specs.declared.FreeMap.{FreeMap}
use Rattle.numbers.specs.Lists.{All, Any, written}
use Rattle.numbers.specs.Pairs.{pairs, flat}
use Rattle.numbers.specs.Powers.{is_power_of_two}
use Rattle.numbers.specs.Range.{Range, blank, end_of, Has, has, Meet, total}
use Rattle.numbers.specs.Refusals.{accepted, answer, first, refuse}
use Rattle.numbers.specs.Sums.{top, stop}
use Rattle.freemap.proofs.Maximal.{Apart, max_apart, max_has, max_of, max_total, max_ends, max_same}
use Rattle.freemap.proofs.Ordered.{Spans, Ends, span_in, apart_only}
use Rattle.numbers.proofs.Answers.{accepted_is}
use Rattle.numbers.proofs.Cases.{cases, by_eq, by_lt, clash, never}
use Rattle.numbers.proofs.Disjoint.{MeetsNone}
use Rattle.numbers.proofs.Lists.{all_imp, all_of, all_at, any_true, of_any, any_of, any_at, any_imp}
use Rattle.numbers.proofs.Pairs.{written_front, written_places}
use Rattle.numbers.proofs.Ranges.{has_true, true_has}
use Rattle.numbers.proofs.Refusals.{refuse_none}

-- ---- which bytes are free

module _ (rs : List Range) (b : ℕ) where
  pub covered_true : covered rs b ≡ true → Covered rs b
  unfolding covered
  covered_true e =
      any_imp (λ (r : Range). has r b ≡ true) (λ (r : Range). Has r b) (λ r t. has_true r b t) rs (any_true (λ (r : Range). has r b) rs e)

  pub true_covered : Covered rs b → covered rs b ≡ true
  unfolding covered
  true_covered h =
      of_any (λ (r : Range). has r b) rs
      (any_imp (λ (r : Range). Has r b) (λ (r : Range). has r b ≡ true) (λ r t. true_has r b t) rs h)

  pub free_true : free rs b ≡ true → Covered rs b → ⊥
  free_true e h = clash (true_covered h) (not-true _ e)

  pub true_free : (Covered rs b → ⊥) → free rs b ≡ true
  true_free n = ap not (never (covered rs b) (λ e. n (covered_true e)))

-- ---- the gaps of a container

module _ (te len : ℕ) (rs : List Range) (small : len ≤ top) where
  -- a byte of [table end, length) is in some gap exactly when no range has it
  pub in_gap : (b : ℕ) → te ≤ b → b < len → (Covered rs b → ⊥) → Covered (gaps_of te len rs) b
  in_gap b l u n = max_has (free rs) te (len - te) b (omega arith) l (omega arith) (true_free rs b n)

  pub gap_free : (b : ℕ) → Covered (gaps_of te len rs) b → (te ≤ b) × (b < len) × (Covered rs b → ⊥)
  gap_free b h = let m = max_of (free rs) te (len - te) b h in let l = m.0 in let u = m.1 in (l, omega arith, free_true rs b m.2)

  -- no gap meets a range
  pub gaps_meet_none : All (λ (g : Range). MeetsNone g rs) (gaps_of te len rs)
  gaps_meet_none =
      all_of (λ (g : Range). MeetsNone g rs) (gaps_of te len rs) blank
      (λ i h.
      all_of (λ (r : Range). Meet (get_or (gaps_of te len rs) i blank) r → ⊥) rs blank
      (λ j k m.
      (gap_free m.byte (any_of (λ (g : Range). Has g m.byte) (gaps_of te len rs) i blank h m.left)).2
      (any_of (λ (r : Range). Has r m.byte) rs j blank k m.right)))

  -- the gaps are in order, apart and not empty
  pub gaps_apart : Apart te (gaps_of te len rs)
  gaps_apart = max_apart (free rs) te (len - te)

  pub gaps_inside : All (λ (g : Range). g.offset + g.len ≤ len) (gaps_of te len rs)
  unfolding maximal
  gaps_inside =
      by_lt len te (λ l. let z : len - te ≡ 0 = omega arith in rw z tt) (λ l. max_ends (free rs) te (len - te) len (omega arith))

  -- they are maximal: free bytes in a row lie in one gap
  pub span_in_gap : (p n : ℕ) → 0 < n → te ≤ p → p + n ≤ len → ((b : ℕ) → p ≤ b → b < p + n → Covered rs b → ⊥) → Any (Spans p n) (gaps_of te len rs)
  span_in_gap p n z l u f =
      span_in te (gaps_of te len rs) gaps_apart p n z (λ b k v. in_gap b (omega arith) (omega arith) (f b k v))

  -- and no other list is like that
  pub gaps_only : (gs : List Range) → Apart te gs → Ends gs → ((b : ℕ) → Covered gs b → (te ≤ b) × (b < len) × (Covered rs b → ⊥)) →
      ((b : ℕ) → te ≤ b → b < len → (Covered rs b → ⊥) → Covered gs b) → gs ≡ gaps_of te len rs
  gaps_only gs a e f g =
      apart_only te te gs (gaps_of te len rs) a gaps_apart e (all_imp (λ (g : Range). g.offset + g.len ≤ len) (λ (g : Range). g.offset + g.len ≤ top)
      (λ x h. omega arith) (gaps_of te len rs) gaps_inside)
      (λ x h. let k = f x h in in_gap x k.0 k.1 k.2) (λ x h. let k = gap_free x h in g x k.0 k.1 k.2)

-- so they depend on which bytes are covered and on nothing else
pub gaps_same : (te len : ℕ) (rs qs : List Range) → ((b : ℕ) → te ≤ b → b < len → covered rs b ≡ covered qs b) → gaps_of te len rs ≡ gaps_of te len qs
gaps_same te len rs qs e = max_same (free rs) (free qs) te (len - te) (λ b l u. ap not (e b l (omega arith)))

-- ---- tail

-- A range of length above 0 ends at t.
abbrev pub EndsAt : ℕ → Range → Type 0
EndsAt t r = (0 < r.len) × (t ≡ end_of r)

-- "the greatest of table end and all ends of ranges of length above 0"
pub record Greatest (te : ℕ) (rs : List Range) (t : ℕ) : Type 0 where
  pub table : te ≤ t
  pub ends : All (λ (r : Range). 0 < r.len → end_of r ≤ t) rs
  pub one : (t ≡ te) ⊎ Any (EndsAt t) rs

-- a range of length above 0 in front
greatest_next : (te t : ℕ) (r : Range) (rs : List Range) → 0 < r.len → Greatest te rs t → Greatest te (r ∷ rs) (max (end_of r) t)
greatest_next te t r rs p g =
    let l = g.table in
    record {
      table = omega arith;
      ends = (λ q. omega arith, all_imp (λ (x : Range). 0 < x.len → end_of x ≤ t) (λ (x : Range). 0 < x.len → end_of x ≤ max (end_of r) t) (λ x f q. let e = f q in omega arith) rs g.ends);
      one =
          by_lt (end_of r) t
          (λ h.
          let m : max (end_of r) t ≡ t = omega arith in
          ⊎_elim (λ e. inl (m ∙ e))
          (λ a. inr (inr (any_imp (EndsAt t) (EndsAt (max (end_of r) t)) (λ x f. (f.0, m ∙ f.1)) rs a)))
          g.one)
          (λ h. inr (inl (p, omega arith)));
    }

pub tail_greatest : (te : ℕ) (rs : List Range) → Greatest te rs (tail_of te rs)
unfolding tail_of
tail_greatest te [] = record { table = omega arith; ends = tt; one = inl refl }
tail_greatest te (r ∷ rs) =
    let g = tail_greatest te rs in
    by_eq r.len 0
    (λ z.
    simp (eq-eqb _ _ z)
    (record {
      table = g.table;
      ends = (λ p. absurd (omega arith), g.ends);
      one = ⊎_elim (λ e. inl e) (λ a. inr (inr a)) g.one;
    }))
    (λ d. simp (ne_eqb _ _ d) (greatest_next te (tail_of te rs) r rs (omega arith) g))

-- a greatest end that is also one of qs is not above theirs
greatest_le : (te : ℕ) (rs qs : List Range) (t u : ℕ) → (Any (EndsAt t) rs → Any (EndsAt t) qs) → Greatest te rs t → Greatest te qs u → t ≤ u
greatest_le te rs qs t u f g h =
    ⊎_elim (λ e. let k = h.table in omega arith)
    (λ a.
    let p = any_at (EndsAt t) qs blank (f a) in
    let k = all_at (λ (r : Range). 0 < r.len → end_of r ≤ u) qs p.0 blank h.ends p.1 p.2.0 in
    omega (arith, p.2.1))
    g.one

-- no other number is the greatest, and it depends on the ends and on nothing else
pub tail_only : (te : ℕ) (rs : List Range) (t : ℕ) → Greatest te rs t → t ≡ tail_of te rs
tail_only te rs t g =
    let h = tail_greatest te rs in
    le_antisymm (greatest_le te rs rs _ _ (λ a. a) g h) (greatest_le te rs rs _ _ (λ a. a) h g)

pub tail_same : (te : ℕ) (rs qs : List Range)
    → ((t : ℕ) → Any (EndsAt t) rs → Any (EndsAt t) qs)
    → ((t : ℕ) → Any (EndsAt t) qs → Any (EndsAt t) rs)
    → tail_of te rs ≡ tail_of te qs
tail_same te rs qs f g =
    let a = tail_greatest te rs in
    let b = tail_greatest te qs in
    le_antisymm (greatest_le te rs qs _ _ (f _) a b) (greatest_le te qs rs _ _ (g _) b a)

-- of two lists, and with one range more
pub tail_append : (te : ℕ) (xs ys : List Range) → tail_of te (xs ++ ys) ≡ max (tail_of te xs) (tail_of te ys)
unfolding tail_of
tail_append te [] ys = let h = (tail_greatest te ys).table in omega arith
tail_append te (x ∷ xs) ys =
    let i = tail_append te xs ys in
    by_eq x.len 0 (λ z. simp (eq-eqb _ _ z) i) (λ d. simp (ne_eqb _ _ d) (omega arith))

pub tail_with : (te : ℕ) (xs : List Range) (y : Range) (ys : List Range) → tail_of te (xs ++ (y ∷ ys)) ≡ tail_of te (y ∷ (xs ++ ys))
unfolding tail_of
tail_with te xs y ys =
    let a = tail_append te xs ys in
    tail_append te xs (y ∷ ys) ∙ by_eq y.len 0 (λ z. simp (eq-eqb _ _ z) (sym a)) (λ d. simp (ne_eqb _ _ d) (omega arith))

-- ---- free bytes

counted_not : (f : ℕ → Bool) (b n : ℕ) → counted (λ (x : ℕ). not (f x)) b n + counted f b n ≡ n
unfolding counted
counted_not f b zero = refl
counted_not f b (suc n) = let r = counted_not f (suc b) n in cases (f b) (λ e. simp e (omega arith)) (λ e. simp e (omega arith))

module _ (te len : ℕ) (rs : List Range) where
  -- the gaps' lengths together are the number of free bytes
  pub free_counted : total (gaps_of te len rs) ≡ counted (free rs) te (len - te)
  free_counted = max_total (free rs) te (len - te)

  -- with the bytes of the union of the ranges inside they make up the container behind its table
  pub free_and_covered : total (gaps_of te len rs) + counted (covered rs) te (len - te) ≡ len - te
  free_and_covered =
      ap (λ (k : ℕ). k + counted (covered rs) te (len - te)) free_counted ∙ counted_not (covered rs) te (len - te)

  -- so the sum never stops
  pub free_whole : len ≤ top → stop (total (gaps_of te len rs)) ≡ total (gaps_of te len rs)
  free_whole h = let e = free_and_covered in omega arith

-- ---- what `complement` leaves

-- A record and its list stand for the gaps and tail of ranges.
pub record ReadsAs (te len : ℕ) (rs : List Range) (m : FreeMap) (gs : List ℕ) : Type 0 where
  pub gaps : gaps_in m gs ≡ gaps_of te len rs
  pub tail : m.tail ≡ tail_of te rs
  pub enough : too_few m gs ≡ false

-- what it hands back stands for those of its ranges
pub gaps_read : (te len : ℕ) (rs₀ rs gs₀ gs : List ℕ) (m : FreeMap) → Complemented te len rs₀ rs gs₀ gs (Ok m) → ReadsAs te len (pairs rs₀) m gs
unfolding too_few
gaps_read te len rs₀ rs gs₀ gs m c =
    let a = accepted_is _ _ m (sym c.answer) in
    let e = refuse_none 1 (complement_fails rs₀ gs₀) (omega arith) a.0 in
    let q : m ≡ free_map_of te len (pairs rs₀) = sym a.1 in
    let n : m.count ≡ length (gaps_of te len (pairs rs₀)) = ap (λ (x : FreeMap). x.count) q in
    let s : gs ≡ written (flat (gaps_of te len (pairs rs₀))) gs₀ = simp e at c.slots in
    record {
      gaps = rw s (written_front (gaps_of te len (pairs rs₀)) gs₀ m.count n);
      tail = ap (λ (x : FreeMap). x.tail) q;
      enough =
          let h : m.count ≤ length (pairs gs) = rw (s, n) (written_places (gaps_of te len (pairs rs₀)) gs₀) in
          le-ltb _ _ h;
    }

-- so `first_fit` and `free_bytes` answer by these gaps
module _ {te len : ℕ} {rs : List Range} {m : FreeMap} {gs : List ℕ} (g : ReadsAs te len rs m gs) where
  pub read_fit : (n align skew : ℕ) → is_power_of_two align ≡ true → fit_of m gs n align skew ≡ accepted (first_fit n align skew (gaps_of te len rs))
  unfolding answer fit_refusal first refuse
  read_fit n align skew p = simp (g.enough, p) (ap (λ (l : List Range). accepted (first_fit n align skew l)) g.gaps)

  pub read_bytes : len ≤ top → free_of m gs ≡ accepted (total (gaps_of te len rs))
  unfolding answer refuse
  read_bytes h = simp g.enough (ap accepted (ap (λ (l : List Range). stop (total l)) g.gaps ∙ free_whole te len rs h))
