-- The ranges laid in scratch, one by one and record by record.
use Prim.Native.Nat.{ℕ, suc, ◌+◌, ◌-◌, ◌*◌, ◌≤◌, ◌<◌}
use mathlib.Core.List.{List, [], ◌∷◌, ◌++◌, map, append-nil, append_assoc}
use mathlib.Core.Path.{◌≡◌, refl, ap, sym, ◌∙◌}
use native.Mathlib.Numerals.{add-one}
use native.Mathlib.Omega.{arith}
use lib.ListN.{length, get_or, set, take, drop, length-append, length-drop, length-map, get_or-append}
use lib.Seq.{get_or-append-add, length-take-le, take-suc, take_all}
use Rattle.numbers.specs.Pairs.{pairs}
use Rattle.numbers.specs.Range.{Range, range, blank, end_of}
use Rattle.numbers.specs.Sums.{stop, sum}
use Rattle.settle.specs.Inner.{Enough, no_region}
use Rattle.settle.specs.Laying.{Laid, no_piece}
use Rattle.settle.specs.Regions.{Lent, Piece, piece, pieces_from, Region, regions_of}
use Rattle.settle.specs.Settle.{range_count}
use Rattle.numbers.proofs.Cases.{by_eq, by_lt}
use Rattle.std.proofs.lemmas.List.{get_or-map}
use Rattle.numbers.proofs.Lists.{stored_new, stored_old}
use Rattle.numbers.proofs.Pairs.{length_pairs, same_pairs, pairs_take, pairs_drop}
use Rattle.numbers.proofs.Sums.{sum_next, sum_front}
use Rattle.settle.proofs.Reading.{length_of, region_at, region_of}

pub record Laying (rs : List Range) (owner first n : ℕ) (s₀ s : List ℕ) (k : ℕ) : Type 0 where
  pub room : first + length rs ≤ n
  pub space : n + n ≤ length (pairs s₀)
  pub upto : k ≤ length rs
  pub size : length s ≡ length s₀
  pub starts : (j : ℕ) → j < k → get_or (pairs s) (first + j) blank ≡ range (get_or rs j blank).offset (first + j)
  pub ends : (j : ℕ) → j < k → get_or (pairs s) (n + (first + j)) blank ≡ range (end_of (get_or rs j blank)) owner
  pub old_starts : (j : ℕ) → j < first → get_or (pairs s) j blank ≡ get_or (pairs s₀) j blank
  pub old_ends : (j : ℕ) → j < first → get_or (pairs s) (n + j) blank ≡ get_or (pairs s₀) (n + j) blank

pub laying_begins : (rs : List Range) (owner first n : ℕ) (s : List ℕ) → first + length rs ≤ n → n + n ≤ length (pairs s) → Laying rs owner first n s s 0
laying_begins rs owner first n s r p =
    record {
      room = r;
      space = p;
      upto = omega arith;
      size = refl;
      starts = λ j h. absurd (omega arith);
      ends = λ j h. absurd (omega arith);
      old_starts = λ j h. refl;
      old_ends = λ j h. refl;
    }

module _ {rs : List Range} {owner first n : ℕ} {s₀ s : List ℕ} {k : ℕ} (g : Laying rs owner first n s₀ s k) where
  pub laying_start : k < length rs → first + k < length (pairs s)
  laying_start h = let e = same_pairs s s₀ g.size in omega (arith, g.room, g.space)

  laying_end : (s₁ : List ℕ) → k < length rs → length s₁ ≡ length s → n + (first + k) < length (pairs s₁)
  laying_end s₁ h l = let e = same_pairs s₁ s₀ (l ∙ g.size) in omega (arith, g.room, g.space)

  pub laying_far : k < length rs → n + (first + k) < length (pairs s₀)
  laying_far h = omega (arith, g.room, g.space)

  pub laying_on : (s₁ s₂ : List ℕ) (x y e : ℕ) → k < length rs
      → range x y ≡ get_or rs k blank → e ≡ stop (x + y)
      → pairs s₁ ≡ set (pairs s) (first + k) (range x (first + k)) → length s₁ ≡ length s
      → pairs s₂ ≡ set (pairs s₁) (n + (first + k)) (range e owner) → length s₂ ≡ length s₁
      → Laying rs owner first n s₀ s₂ (k + 1)
  unfolding end_of
  laying_on s₁ s₂ x y e h q z a l b m =
      let r = g.room in
      let inside : n + (first + k) < length (pairs s₁) = laying_end s₁ h l in
      let first-old : (j : ℕ) → (j ≡ first + k → ⊥) → (j ≡ n + (first + k) → ⊥) → get_or (pairs s₂) j blank ≡ get_or (pairs s) j blank =
      λ j u v. stored_old (pairs s₁) (pairs s₂) (n + (first + k)) j (range e owner) blank b v ∙ stored_old (pairs s) (pairs s₁) (first + k) j (range x (first + k)) blank a u in
      record {
        room = g.room;
        space = g.space;
        upto = omega arith;
        size = m ∙ l ∙ g.size;
        starts = λ j u. by_eq j k
            (λ v. stored_old (pairs s₁) (pairs s₂) (n + (first + k)) (first + j) (range e owner) blank b (λ w. omega arith)
            ∙ stored_new (pairs s) (pairs s₁) (first + k) (first + j) (range x (first + k)) blank a (laying_start h) (omega arith)
            ∙ ap (λ (p : Range). range p.offset (first + k)) q
            ∙ ap (λ (i : ℕ). range (get_or rs i blank).offset (first + i)) (sym v))
            (λ v. first-old (first + j) (λ w. v (omega arith)) (λ w. omega arith) ∙ g.starts j (omega (arith, v)));
        ends = λ j u. by_eq j k
            (λ v. stored_new (pairs s₁) (pairs s₂) (n + (first + k)) (n + (first + j)) (range e owner) blank b inside (omega arith)
            ∙ ap (λ (i : ℕ). range i owner) (z ∙ ap end_of q)
            ∙ ap (λ (i : ℕ). range (end_of (get_or rs i blank)) owner) (sym v))
            (λ v. first-old (n + (first + j)) (λ w. omega arith) (λ w. v (omega arith)) ∙ g.ends j (omega (arith, v)));
        old_starts = λ j u. first-old j (λ w. omega arith) (λ w. omega arith) ∙ g.old_starts j u;
        old_ends = λ j u. first-old (n + j) (λ w. omega arith) (λ w. omega arith) ∙ g.old_ends j u;
      }

  pub laying_ends : length rs ≤ k → (seq : ℕ) → Laid (map (piece owner seq) rs) first n s₀ s
  laying_ends h seq =
      let u = g.upto in
      let m : length (map (piece owner seq) rs) ≡ length rs = length-map rs (piece owner seq) in
      let read : (j : ℕ) → j < length rs → get_or (map (piece owner seq) rs) j no_piece ≡ piece owner seq (get_or rs j blank) =
      λ j b. get_or-map (piece owner seq) rs j blank no_piece b in
      record {
        size = g.size;
        starts = λ j b. g.starts j (omega arith) ∙ ap (λ (p : Piece). range p.range.offset (first + j)) (sym (read j (omega arith)));
        ends = λ j b. g.ends j (omega arith) ∙ ap (λ (p : Piece). range (end_of p.range) p.region) (sym (read j (omega arith)));
        old_starts = g.old_starts;
        old_ends = g.old_ends;
      }

-- ---- record by record

-- what is laid behind what is laid
pub laid_more : (ps qs : List Piece) (first f n : ℕ) (s₀ s₁ s₂ : List ℕ) → f ≡ first + length ps → Laid ps first n s₀ s₁ → Laid qs f n s₁ s₂ → Laid (ps ++ qs) first n s₀ s₂
laid_more ps qs first f n s₀ s₁ s₂ e g h =
    let l = length-append ps qs in
    record {
      size = h.size ∙ g.size;
      starts = λ k i. by_lt k (length ps)
          (λ a. h.old_starts (first + k) (omega arith) ∙ g.starts k a
          ∙ ap (λ (p : Piece). range p.range.offset (first + k)) (sym (get_or-append ps qs no_piece k a)))
          (λ a. ap (λ (j : ℕ). get_or (pairs s₂) j blank) (omega arith) ∙ h.starts (k - length ps) (omega arith)
          ∙ ap (λ (j : ℕ). range (get_or qs (k - length ps) no_piece).range.offset j) (omega arith)
          ∙ ap (λ (p : Piece). range p.range.offset (first + k)) (sym (behind k a)));
      ends = λ k i. by_lt k (length ps)
          (λ a. h.old_ends (first + k) (omega arith) ∙ g.ends k a
          ∙ ap (λ (p : Piece). range (end_of p.range) p.region) (sym (get_or-append ps qs no_piece k a)))
          (λ a. ap (λ (j : ℕ). get_or (pairs s₂) j blank) (omega arith) ∙ h.ends (k - length ps) (omega arith)
          ∙ ap (λ (p : Piece). range (end_of p.range) p.region) (sym (behind k a)));
      old_starts = λ j i. h.old_starts j (omega arith) ∙ g.old_starts j i;
      old_ends = λ j i. h.old_ends j (omega arith) ∙ g.old_ends j i;
    }
  where
    behind : (k : ℕ) → length ps ≤ k → get_or (ps ++ qs) k no_piece ≡ get_or qs (k - length ps) no_piece
    behind k a = let d : k ≡ length ps + (k - length ps) = omega arith in ap (λ (j : ℕ). get_or (ps ++ qs) j no_piece) d ∙ get_or-append-add ps qs (k - length ps) no_piece

-- the pieces of one region more
pieces_more : (i : ℕ) (rs : List Region) (r : Region) → pieces_from i (rs ++ (r ∷ [])) ≡ pieces_from i rs ++ map (piece (i + length rs) r.seq) r.ranges
unfolding pieces_from
pieces_more i [] r = append-nil (map (piece i r.seq) r.ranges) ∙ ap (λ (j : ℕ). map (piece j r.seq) r.ranges) (omega arith)
pieces_more i (q ∷ rs) r =
    ap (λ (l : List Piece). map (piece i q.seq) q.ranges ++ l)
    (pieces_more (suc i) rs r ∙ ap (λ (j : ℕ). pieces_from (suc i) rs ++ map (piece j r.seq) r.ranges) (omega arith))
    ∙ sym (append_assoc (map (piece i q.seq) q.ranges) (pieces_from (suc i) rs) (map (piece (i + suc (length rs)) r.seq) r.ranges))

-- the ranges of one record, as the code cuts them
abbrev pub cut : Lent → (at own : ℕ) → List ℕ
cut rs at own = take (2 * (at + own) - 2 * at) (drop (2 * at) rs.ranges)

cut_pairs : (rs : Lent) (at own : ℕ) → pairs (cut rs at own) ≡ take own (drop at (pairs rs.ranges))
cut_pairs rs at own =
    let e : 2 * (at + own) - 2 * at ≡ 2 * own = omega arith in
    ap (λ (m : ℕ). pairs (take m (drop (2 * at) rs.ranges))) e ∙ pairs_take own (drop (2 * at) rs.ranges) ∙ ap (take own) (pairs_drop at rs.ranges)

pub record LayingAll (rs : Lent) (owner first n : ℕ) (s₀ s : List ℕ) (at i : ℕ) : Type 0 where
  pub enough : Enough rs
  pub few : rs.count + owner ≤ 2048
  pub room : first + range_count rs ≤ n
  pub space : n + n ≤ length (pairs s₀)
  pub upto : i ≤ rs.count
  pub before : at ≡ sum (take i rs.counts)
  pub laid : Laid (pieces_from owner (take i (regions_of rs))) first n s₀ s
  pub many : length (pieces_from owner (take i (regions_of rs))) ≡ at

pub all_begins : (rs : Lent) (owner first n : ℕ) (s : List ℕ) → Enough rs → rs.count + owner ≤ 2048 → first + range_count rs ≤ n → n + n ≤ length (pairs s) → LayingAll rs owner first n s s 0 0
unfolding pieces_from sum
all_begins rs owner first n s a b d e =
    record {
      enough = a;
      few = b;
      room = d;
      space = e;
      upto = omega arith;
      before = refl;
      laid = record {
        size = refl;
        starts = λ k i. absurd (omega arith);
        ends = λ k i. absurd (omega arith);
        old_starts = λ j i. refl;
        old_ends = λ j i. refl;
      };
      many = refl;
    }

module _ {rs : Lent} {owner first n : ℕ} {s₀ s : List ℕ} {at i : ℕ} (g : LayingAll rs owner first n s₀ s at i) where
  pub all_size : length s ≡ length s₀
  all_size = g.laid.size

  pub all_space : n + n ≤ length (pairs s)
  all_space = let e = same_pairs s s₀ all_size in omega (arith, g.space)

  module _ (h : i < rs.count) where
    -- the ranges of the record i are inside
    pub all_inside : at + get_or rs.counts i 0 ≤ range_count rs
    all_inside =
        let e = sum_next rs.counts i (omega (arith, g.enough.counts)) in
        let f = sum_front rs.counts (suc i) rs.count h in
        omega (arith, g.before)

    -- and end inside the list
    pub all_end : 2 * (at + get_or rs.counts i 0) ≤ length rs.ranges
    all_end = let l = length_pairs rs.ranges in omega (arith, all_inside, g.enough.ranges)

    pub all_cut : length (pairs (cut rs at (get_or rs.counts i 0))) ≡ get_or rs.counts i 0
    all_cut =
        let d = length-drop at (pairs rs.ranges) in
        ap length (cut_pairs rs at (get_or rs.counts i 0))
        ∙ length-take-le (get_or rs.counts i 0) (drop at (pairs rs.ranges)) (omega (arith, all_inside, g.enough.ranges))

    pub all_on : (s' : List ℕ) → ((seq : ℕ) → Laid (map (piece (owner + i) seq) (pairs (cut rs at (get_or rs.counts i 0)))) (first + at) n s s')
        → LayingAll rs owner first n s₀ s' (at + get_or rs.counts i 0) (i + 1)
    all_on s' f =
        record {
          enough = g.enough;
          few = g.few;
          room = g.room;
          space = g.space;
          upto = omega arith;
          before = ap (λ (k : ℕ). k + own) g.before ∙ sym (sum_next rs.counts i (omega (arith, g.enough.counts))) ∙ ap (λ (k : ℕ). sum (take k rs.counts)) (sym (add-one i));
          laid = rw next (laid_more done new first (first + at) n s₀ s s' (ap (λ (k : ℕ). first + k) (sym g.many)) g.laid (f (get_or rs.seqs i 0)));
          many =
              let m = g.many in
              let k = length-append done new in
              let t = length-map (pairs (cut rs at own)) (piece (owner + i) (get_or rs.seqs i 0)) in
              let q = all_cut in
              ap length next ∙ omega arith;
        }
      where
        own : ℕ
        own = get_or rs.counts i 0

        done : List Piece
        done = pieces_from owner (take i (regions_of rs))

        new : List Piece
        new = map (piece (owner + i) (get_or rs.seqs i 0)) (pairs (cut rs at own))

        next : pieces_from owner (take (i + 1) (regions_of rs)) ≡ done ++ new
        next =
            let r : Region = region_at rs.seqs rs.counts (pairs rs.ranges) rs.lens rs.names i in
            let l = length_of rs in
            let t : take (i + 1) (regions_of rs) ≡ take i (regions_of rs) ++ (r ∷ []) =
            ap (λ (k : ℕ). take k (regions_of rs)) (add-one i) ∙ take-suc (regions_of rs) i no_region (omega arith)
            ∙ ap (λ (q : Region). take i (regions_of rs) ++ (q ∷ [])) (region_of rs i h) in
            let k : length (take i (regions_of rs)) ≡ i = length-take-le i (regions_of rs) (omega arith) in
            ap (pieces_from owner) t ∙ pieces_more owner (take i (regions_of rs)) r
            ∙ ap (λ (j : ℕ). done ++ map (piece (owner + j) (get_or rs.seqs i 0)) (take own (drop (sum (take i rs.counts)) (pairs rs.ranges)))) k
            ∙ ap (λ (j : ℕ). done ++ map (piece (owner + i) (get_or rs.seqs i 0)) (take own (drop j (pairs rs.ranges)))) (sym g.before)
            ∙ ap (λ (l : List Range). done ++ map (piece (owner + i) (get_or rs.seqs i 0)) l) (sym (cut_pairs rs at own))

  pub all_ends : rs.count ≤ i → Laid (pieces_from owner (regions_of rs)) first n s₀ s
  all_ends h = let l = length_of rs in rw (sym (take_all i (regions_of rs) (omega arith))) g.laid
