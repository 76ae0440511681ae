-- The ranges of both kinds laid in scratch and sorted.
use Prim.Native.Nat.{ℕ, zero, suc, ◌+◌, ◌-◌, ◌*◌, ◌≤◌, ◌<◌}
use mathlib.Core.List.{List, [], ◌∷◌, ◌++◌, map}
use mathlib.Core.Path.{◌≡◌, refl, ap, sym, ◌∙◌}
use native.Mathlib.Omega.{arith}
use lib.ListN.{length, get_or, take, drop, length-append, length-drop, length-map}
use lib.Seq.{get_or-take, get_or-drop, length-take-le, take_at, drop_at}
use Rattle.numbers.specs.Pairs.{pairs}
use Rattle.numbers.specs.Range.{Range, range, blank, end_of}
use Rattle.numbers.specs.Refusals.{Answer}
use Rattle.numbers.specs.Sums.{stop, sum}
use Rattle.settle.specs.Inner.{Enough, Roomy}
use Rattle.settle.specs.Laying.{Laid, Ordered, no_piece}
use Rattle.settle.specs.Regions.{Lent, Piece, piece, pieces, pieces_from, regions, regions_of}
use Rattle.settle.specs.Settle.{range_count}
use Rattle.sort.specs.Sort.{Sorted, sorted}
use Rattle.numbers.proofs.Pairs.{even_list, length_pairs, pairs_append, pairs_take, pairs_drop}
use Rattle.settle.proofs.Laying.{laid_more}
use Rattle.sort.proofs.Laws.{sorted_pairs, sorted_length}

-- as many pieces as the records have ranges
pub pieces_length : (n : ℕ) (seqs counts : List ℕ) (rs : List Range) (lens names : List ℕ) (i : ℕ) → n ≤ length counts → sum (take n counts) ≤ length rs
    → length (pieces_from i (regions n seqs counts rs lens names)) ≡ sum (take n counts)
unfolding pieces_from regions sum
pieces_length zero seqs counts rs lens names i h b = refl
pieces_length (suc n) seqs [] rs lens names i h b = absurd (omega arith)
pieces_length (suc n) seqs (c ∷ counts) rs lens names i h b =
    let d = length-drop c rs in
    let t = length-take-le c rs (omega arith) in
    let m = length-map (take c rs) (piece i (get_or seqs 0 0)) in
    let r = pieces_length n (drop 1 seqs) counts (drop c rs) (drop 1 lens) (drop 24 names) (suc i) (omega arith) (omega arith) in
    length-append (map (piece i (get_or seqs 0 0)) (take c rs)) (pieces_from (suc i) (regions n (drop 1 seqs) counts (drop c rs) (drop 1 lens) (drop 24 names))) ∙ omega arith

-- scratch after the sort of its first half
module _ (ps : List Piece) (n : ℕ) (s₀ s ys : List ℕ) (r : Answer (Unit {0})) (e : length ps ≡ n) (size : length s₀ ≡ 4 * n) (g : Laid ps 0 n s₀ s) (h : Sorted (take (2 * n - 0) s) ys r) where
  front : take (2 * n - 0) s ≡ take (2 * n) s
  front = let q : 2 * n - 0 ≡ 2 * n = omega arith in ap (λ (m : ℕ). take m s) q

  part_length : length (take (2 * n - 0) s) ≡ 2 * n
  part_length = ap length front ∙ length-take-le (2 * n) s (omega (arith, g.size))

  part_pairs : pairs (take (2 * n - 0) s) ≡ take n (pairs s)
  part_pairs = ap pairs front ∙ pairs_take n s

  sorted_front : pairs ys ≡ sorted (take n (pairs s))
  sorted_front = sorted_pairs (take (2 * n - 0) s) ys r h (even_list (take (2 * n - 0) s) (let l = part_length in omega arith)) ∙ ap sorted part_pairs

  pairs_half : length (take n (pairs s)) ≡ n
  pairs_half = let l = length_pairs s in length-take-le n (pairs s) (omega (arith, g.size))

  front_length : length (pairs ys) ≡ n
  front_length = ap length sorted_front ∙ sorted_length (take n (pairs s)) ∙ pairs_half

  module _ (even : length ys ≡ length (take (2 * n - 0) s)) where
    whole : pairs (ys ++ drop (2 * n - 0) s) ≡ pairs ys ++ drop n (pairs s)
    whole =
        let q : 2 * n - 0 ≡ 2 * n = omega arith in
        pairs_append ys (drop (2 * n - 0) s) (let l = part_length in omega arith)
        ∙ ap (λ (t : List Range). pairs ys ++ t) (ap (λ (m : ℕ). pairs (drop m s)) q ∙ pairs_drop n s)

    ordered : Ordered ps (take n (pairs (ys ++ drop (2 * n - 0) s))) (drop n (pairs (ys ++ drop (2 * n - 0) s)))
    ordered =
        let l = length_pairs s in
        record {
          starts = take n (pairs s);
          size = pairs_half ∙ sym e;
          start = λ k i. get_or-take n (pairs s) k blank (omega arith) ∙ zero_starts k i;
          sort = ap (take n) whole ∙ take_at (pairs ys) (drop n (pairs s)) n front_length ∙ sorted_front;
          fact = λ k i. ap (λ (t : List Range). get_or (drop n t) k blank) whole
              ∙ ap (λ (t : List Range). get_or t k blank) (drop_at (pairs ys) (drop n (pairs s)) n front_length)
              ∙ get_or-drop n (pairs s) k blank ∙ zero_ends k i;
        }
      where
        none : (k : ℕ) → 0 + k ≡ k
        none k = omega arith

        zero_starts : (k : ℕ) → k < length ps → get_or (pairs s) k blank ≡ range (get_or ps k no_piece).range.offset k
        zero_starts k i = ap (λ (j : ℕ). get_or (pairs s) j blank) (sym (none k)) ∙ g.starts k i ∙ ap (range (get_or ps k no_piece).range.offset) (none k)

        zero_ends : (k : ℕ) → k < length ps → get_or (pairs s) (n + k) blank ≡ range (end_of (get_or ps k no_piece).range) (get_or ps k no_piece).region
        zero_ends k i = ap (λ (j : ℕ). get_or (pairs s) (n + j) blank) (sym (none k)) ∙ g.ends k i

-- both kinds, one behind the other
pub counted : {us un : Lent} {k first : ℕ} → Roomy us un k → first ≡ stop (range_count us) → first ≡ range_count us
counted z e = omega (arith, z.few)

module _ (us un : Lent) {k : ℕ} (first n : ℕ) (y : Enough us) (y' : Enough un) (z : Roomy us un k) (four : k ≡ 4 * n) (f : first ≡ range_count us) where
  pub lay_first : (s₀ : List ℕ) → length s₀ ≡ 4 * n → (us.count + 0 ≤ 2048) × (0 + range_count us ≤ n) × (n + n ≤ length (pairs s₀))
  lay_first s₀ e = let l = length_pairs s₀ in (omega (arith, y.few), omega (arith, z.space), omega arith)

  pub lay_second : (s₁ : List ℕ) → length s₁ ≡ 4 * n → (un.count + us.count ≤ 2048) × (first + range_count un ≤ n) × (n + n ≤ length (pairs s₁))
  lay_second s₁ e = let l = length_pairs s₁ in (omega (arith, y.few, y'.few), omega (arith, z.space), omega arith)

  abbrev ours : List Piece
  ours = pieces (regions_of us)

  abbrev theirs : List Piece
  theirs = pieces_from us.count (regions_of un)

  laid_both : (s₀ s₁ s₂ : List ℕ) → Laid ours 0 n s₀ s₁ → Laid theirs first n s₁ s₂ → Laid (ours ++ theirs) 0 n s₀ s₂
  laid_both s₀ s₁ s₂ a b =
      let p = pieces_length us.count us.seqs us.counts (pairs us.ranges) us.lens us.names 0 y.counts y.ranges in
      laid_more ours theirs 0 first n s₀ s₁ s₂ (omega arith) a b

  both_length : length (ours ++ theirs) ≡ n
  both_length =
      let p = pieces_length us.count us.seqs us.counts (pairs us.ranges) us.lens us.names 0 y.counts y.ranges in
      let q = pieces_length un.count un.seqs un.counts (pairs un.ranges) un.lens un.names us.count y'.counts y'.ranges in
      length-append ours theirs ∙ omega (arith, z.space)

  pub both_ordered : (s₀ s₁ s₂ ys : List ℕ) (r : Answer (Unit {0})) → length s₀ ≡ 4 * n → Laid ours 0 n s₀ s₁ → Laid theirs first n s₁ s₂
      → Sorted (take (2 * n - 0) s₂) ys r → length ys ≡ length (take (2 * n - 0) s₂)
      → Ordered (ours ++ theirs) (take n (pairs (ys ++ drop (2 * n - 0) s₂))) (drop n (pairs (ys ++ drop (2 * n - 0) s₂)))
  both_ordered s₀ s₁ s₂ ys r e a b h d = ordered (ours ++ theirs) n s₀ s₂ ys r both_length e (laid_both s₀ s₁ s₂ a b) h d
