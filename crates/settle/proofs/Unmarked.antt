-- What it means that no region is marked: no two ranges of the usable regions meet, and no two have one name.
use Prim.Native.Nat.{ℕ, suc, ◌<◌}
use mathlib.Core.Bool.{Bool, false, not, ◌&&◌, ◌||◌, or_assoc, or-false as or_none}
use mathlib.Core.List.{List, [], ◌∷◌, ◌++◌, map, map-append, append_assoc}
use mathlib.Core.Path.{◌≡◌, refl, ap, sym, ◌∙◌}
use native.Mathlib.Nat.{not-suc-le-zero}
use native.Mathlib.Omega.{arith}
use lib.Dec.{eqb, leb}
use lib.ListN.{length, get_or, take, drop, length-map}
use borrow.Author.Tests.{leb-true, le-leb, eq-eqb, ne_eqb}
use Rattle.numbers.specs.Lists.{any, same}
use Rattle.numbers.specs.Range.{Range, blank, Meet, Disjoint}
use Rattle.settle.specs.Inner.{no_region}
use Rattle.settle.specs.Laying.{no_piece}
use Rattle.settle.specs.Naming.{any_below}
use Rattle.settle.specs.Regions.{Region, Piece, piece, pieces, pieces_from}
use Rattle.settle.specs.Settle.{overlapped, renamed, superseded, marks_of}
use Rattle.numbers.proofs.Cases.{by_lt, by_eq, clash, never, and-true, or-false}
use Rattle.numbers.proofs.Disjoint.{disjoint_at, at_disjoint}
use Rattle.std.proofs.lemmas.List.{get_or-map}
use Rattle.numbers.proofs.Lists.{same_true, true_same, all_at}
use Rattle.numbers.proofs.Ranges.{meet_sym}
use Rattle.settle.proofs.Marking.{mark_at, mark_none, none_mark}
use Rattle.settle.proofs.Meeting.{Of, pieces_of}
use Rattle.settle.proofs.Namesakes.{alike, named, others_by_index, renamed_others}
use Rattle.settle.proofs.Naming.{below_of, below_true}
use Rattle.settle.proofs.Words.{Overlap, overlapped_true, overlap_true, superseded_true}

-- ---- no range meets another

-- The ranges of all regions, one region behind the other.
unfoldable pub ranges_of : List Region → List Range
ranges_of [] = []
ranges_of (r ∷ rs) = r.ranges ++ ranges_of rs

pub ranges_append : (us vs : List Region) → ranges_of (us ++ vs) ≡ ranges_of us ++ ranges_of vs
unfolding ranges_of
ranges_append [] vs = refl
ranges_append (r ∷ us) vs = ap (λ (l : List Range). r.ranges ++ l) (ranges_append us vs) ∙ sym (append_assoc r.ranges (ranges_of us) (ranges_of vs))

only_ranges : (i s : ℕ) (xs : List Range) → map (λ (x : Piece). x.range) (map (λ (x : Range). piece i s x) xs) ≡ xs
only_ranges i s [] = refl
only_ranges i s (x ∷ xs) = ap (λ (l : List Range). x ∷ l) (only_ranges i s xs)

pub pieces_ranges : (i : ℕ) (us : List Region) → map (λ (x : Piece). x.range) (pieces_from i us) ≡ ranges_of us
unfolding pieces_from ranges_of
pieces_ranges i [] = refl
pieces_ranges i (r ∷ us) =
    map-append (λ (x : Piece). x.range) (map (λ (x : Range). piece i r.seq x) r.ranges) (pieces_from (suc i) us)
    ∙ rw (only_ranges i r.seq r.ranges, pieces_ranges (suc i) us)

module _ (us : List Region) where
  pub ranges_length : length (ranges_of us) ≡ length (pieces us)
  ranges_length = ap length (sym (pieces_ranges 0 us)) ∙ length-map (pieces us) (λ (x : Piece). x.range)

  pub range_at : (k : ℕ) → k < length (pieces us) → get_or (ranges_of us) k blank ≡ (get_or (pieces us) k no_piece).range
  range_at k h = ap (λ (l : List Range). get_or l k blank) (sym (pieces_ranges 0 us)) ∙ get_or-map (λ (x : Piece). x.range) (pieces us) k no_piece blank h

  abbrev nth : ℕ → Piece
  nth j = get_or (pieces us) j no_piece

  owner_in : (j : ℕ) → j < length (pieces us) → (nth j).region < length us
  owner_in j h = let o = all_at (Of us 0) (pieces us) j no_piece (pieces_of us 0) h in omega (arith, o.inside, o.region)

  -- one region: it is overlapped only where one of its ranges meets another, and then always if that one's number is not lower
  pub alone_unmarked : (i : ℕ)
      → ((j k : ℕ) → j < length (pieces us) → k < length (pieces us) → (j ≡ k → ⊥) → (nth j).region ≡ i → Meet (nth j).range (nth k).range → ⊥)
      → overlapped us i ≡ false
  alone_unmarked i f = never _ (λ e. let o = overlapped_true us i e in f o.range o.another o.inside o.inside' o.apart o.own o.meet)

  pub unmarked_alone : (i : ℕ) → overlapped us i ≡ false → Overlap us i → ⊥
  unmarked_alone i e o = clash (overlap_true us i o) e

  -- all regions
  pub unmarked_disjoint : ((i : ℕ) → i < length us → overlapped us i ≡ false) → Disjoint (ranges_of us)
  unmarked_disjoint f =
      at_disjoint (ranges_of us)
      (λ j k l h.
      let n = ranges_length in
      let a : j < length (pieces us) = omega arith in
      let b : k < length (pieces us) = omega arith in
      rw (range_at j a, range_at k b)
      (λ m.
      by_lt (nth k).seq (nth j).seq
      (λ s.
      unmarked_alone _ (f _ (owner_in k b))
      (record { range = k; another = j; inside = b; inside' = a; apart = λ e. omega arith; own = refl; number = omega arith; meet = meet_sym _ _ m }))
      (λ s.
      unmarked_alone _ (f _ (owner_in j a))
      (record { range = j; another = k; inside = a; inside' = b; apart = λ e. omega arith; own = refl; number = s; meet = m }))))

  pub disjoint_unmarked : Disjoint (ranges_of us) → (i : ℕ) → overlapped us i ≡ false
  disjoint_unmarked d i =
      let n = ranges_length in
      alone_unmarked i (λ j k a b c o. rw (← range_at j a, ← range_at k b) (disjoint_at (ranges_of us) j k d (omega arith) (omega arith) c))

-- ---- no name is that of another

module _ (us un : List Region) (i : ℕ) (h : i < length us) where
  abbrev this : Region
  this = get_or us i no_region

  abbrev rival : ℕ → Bool
  rival j = not (eqb j i) && alike this (get_or us j no_region)

  renamed_at : renamed us un this ≡ (any_below rival (length us) || any (λ (q : Region). named q && alike this q) un)
  renamed_at =
      rw (others_by_index (alike this) no_region rival us (length us) i refl h (simp (eq-eqb i i refl)) (λ j k d. simp (ne_eqb j i d)))
      (renamed_others us un i h
      ∙ sym (or_assoc (any (alike this) (take i us)) (any (alike this) (drop (suc i) us)) (any (λ (q : Region). named q && alike this q) un)))

  -- one region: every other usable record of its name has a lower number
  pub unmarked_lower : renamed us un this ≡ false → (j : ℕ) → j < length us → (j ≡ i → ⊥) → (get_or us j no_region).name ≡ this.name → (get_or us j no_region).seq < this.seq
  unmarked_lower e j k d n =
      by_lt (get_or us j no_region).seq this.seq (λ l. l)
      (λ l.
      clash (below_of rival (length us) j k (simp (ne_eqb j i d, true_same _ _ n, le-leb _ _ l))) (or-false _ _ (sym renamed_at ∙ e)).0)

module _ (us : List Region) where
  module _ (i : ℕ) (h : i < length us) where
    pub lower_unmarked :
        ((j : ℕ) → j < length us → (j ≡ i → ⊥) → (get_or us j no_region).name ≡ (get_or us i no_region).name → (get_or us j no_region).seq < (get_or us i no_region).seq)
        → renamed us [] (get_or us i no_region) ≡ false
    unfolding any
    lower_unmarked f =
        renamed_at us [] i h ∙ or_none _
        ∙ never _
        (λ e.
        let b = below_true (rival us [] i h) (length us) e in
        let r : Region = get_or us i no_region in
        let q : Region = get_or us b.0 no_region in
        let t = and-true (not (eqb b.0 i)) (alike r q) b.2 in
        let s = and-true (same q.name r.name) (leb r.seq q.seq) t.1 in
        by_eq b.0 i (λ z. clash t.0 (simp (eq-eqb b.0 i z)))
        (λ d. omega (arith, f b.0 b.1 d (same_true q.name r.name s.0), leb-true r.seq q.seq s.1)))

  -- The names at two places differ.
  abbrev pub NamesDiffer : Type 0
  NamesDiffer = (i j : ℕ) → i < length us → j < length us → (i ≡ j → ⊥) → (get_or us i no_region).name ≡ (get_or us j no_region).name → ⊥

  -- all regions
  pub unmarked_names : (un : List Region) → ((i : ℕ) → i < length us → renamed us un (get_or us i no_region) ≡ false) → NamesDiffer
  unmarked_names un f i j a b d e =
      let l = unmarked_lower us un i a (f i a) j b (λ q. d (sym q)) (sym e) in
      let g = unmarked_lower us un j b (f j b) i a d e in
      omega arith

  pub names_unmarked : NamesDiffer → (i : ℕ) → i < length us → renamed us [] (get_or us i no_region) ≡ false
  names_unmarked f i h = lower_unmarked i h (λ j k d e. absurd (f j i k h d e))

  -- ---- with no unavailable records

  pub none_superseded : (i : ℕ) → superseded us [] i ≡ false
  unfolding pieces_from
  none_superseded i = never _ (λ e. not-suc-le-zero (superseded_true us [] i e).inside')

  -- the marks are all 0 exactly where no two ranges meet and no two names are the same
  pub marks_none : ((i : ℕ) → i < length us → get_or (marks_of us []) i 0 ≡ 0) → Disjoint (ranges_of us) × NamesDiffer
  marks_none f = (unmarked_disjoint us (λ i h. (unset i h).0), unmarked_names [] (λ i h. (unset i h).1))
    where
      unset : (i : ℕ) → i < length us → (overlapped us i ≡ false) × (renamed us [] (get_or us i no_region) ≡ false) × (superseded us [] i ≡ false)
      unset i h = mark_none _ _ _ (sym (mark_at us [] i h) ∙ f i h)

  pub none_marks : Disjoint (ranges_of us) → NamesDiffer → (i : ℕ) → i < length us → get_or (marks_of us []) i 0 ≡ 0
  none_marks d n i h = mark_at us [] i h ∙ none_mark _ _ _ (disjoint_unmarked us d i) (names_unmarked n i h) (none_superseded i)
