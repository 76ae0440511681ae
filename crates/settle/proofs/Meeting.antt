-- The sweep forward and the one back together: whom they strike is overlapped, or superseded, as the definitions say.
use Prim.Native.Nat.{ℕ, suc, ◌+◌, ◌-◌, ◌≤◌, ◌<◌, min, max}
use mathlib.Core.Bool.{Bool, true, false, ◌&&◌, ◌||◌, and_comm, and-false, or-false}
use mathlib.Core.List.{List, [], ◌∷◌, ◌++◌, map, reverse}
use mathlib.Core.Path.{◌≡◌, refl, ap, sym, ◌∙◌}
use native.Mathlib.Omega.{arith}
use lib.Dec.{ltb, leb, eqb}
use lib.ListN.{length, get_or, take, length-append, length-map, get_or-append}
use lib.Seq.{ext_get_or, get_or-append-add, get_or-take, length-take-le}
use borrow.Author.Tests.{lt-ltb, le-ltb, le-leb, lt-leb, leb-true, leb-false, ne_eqb}
use Rattle.numbers.specs.Lists.{All, any}
use Rattle.numbers.specs.Order.{InOrder}
use Rattle.numbers.specs.Range.{Range, blank, end_of, meets}
use Rattle.numbers.specs.Sums.{top}
use Rattle.settle.specs.Inner.{no_region}
use Rattle.settle.specs.Laying.{Ordered, no_piece}
use Rattle.settle.specs.Ranking.{Ranks}
use Rattle.settle.specs.Regions.{Lent, Region, regions_of, Piece, piece, pieces, pieces_from}
use Rattle.settle.specs.Settle.{any_other, overlapped, superseded}
use Rattle.settle.specs.Sweeping.{item_of, no_item, item_at, items_of, mirror, walk, within, usable_over, own_over, struck, behind}
use Rattle.settle.specs.declared.sweep.Item.{Item}
use Rattle.sort.specs.Sort.{Ascending}
use Rattle.numbers.proofs.Cases.{by_lt}
use Rattle.std.proofs.lemmas.List.{get_or-map}
use Rattle.numbers.proofs.Lists.{all_append, all_of, all_imp, all_both, all_map, map_all, any_append, any_map, any_same}
use Rattle.numbers.proofs.Order.{in_offset}
use Rattle.numbers.proofs.Ranges.{end_top}
use Rattle.settle.proofs.Others.{InTurn, across, across_none, behind_map, behind_reverse, behind_turn, other_append, other_behind, other_map, other_none, other_same, other_sorted}
use Rattle.settle.proofs.Reading.{length_of, region_of}
use Rattle.sort.proofs.Laws.{all_sorted, sorted_ascending}

-- ---- the pieces of regions

-- a piece of the regions rs, whose first one has the place i
pub record Of (rs : List Region) (i : ℕ) (x : Piece) : Type 0 where
  pub at : ℕ
  pub inside : at < length rs
  pub region : x.region ≡ i + at
  pub seq : x.seq ≡ (get_or rs at no_region).seq

pub pieces_of : (rs : List Region) (i : ℕ) → All (Of rs i) (pieces_from i rs)
unfolding pieces_from
pieces_of [] i = tt
pieces_of (r ∷ rs) i =
    all_append (Of (r ∷ rs) i) (map (piece i r.seq) r.ranges) (pieces_from (suc i) rs)
    (all_map (Of (r ∷ rs) i) (piece i r.seq) r.ranges
    (all_of (λ (x : Range). Of (r ∷ rs) i (piece i r.seq x)) r.ranges blank
    (λ k h. record { at = 0; inside = omega arith; region = omega arith; seq = refl })))
    (all_imp (Of rs (suc i)) (Of (r ∷ rs) i)
    (λ x o. record { at = suc o.at; inside = omega (arith, o.inside); region = omega (arith, o.region); seq = o.seq })
    (pieces_from (suc i) rs) (pieces_of rs (suc i)))

of_lent : (g : Lent) (i : ℕ) (x : Piece) (p : Of (regions_of g) i x) → (p.at < g.count) × (x.seq ≡ get_or (take g.count g.seqs) p.at 0)
of_lent g i x p =
    let h : p.at < g.count = omega (arith, p.inside, length_of g) in
    (h, p.seq ∙ ap (λ (q : Region). q.seq) (region_of g p.at h) ∙ sym (get_or-take g.count g.seqs p.at 0 h))

-- a test of the number and the range alone is the same wherever the regions stand
any_pieces : (g : ℕ → Range → Bool) (rs : List Region) (i j : ℕ)
    → any (λ (y : Piece). g y.seq y.range) (pieces_from i rs) ≡ any (λ (y : Piece). g y.seq y.range) (pieces_from j rs)
unfolding pieces_from
any_pieces g [] i j = refl
any_pieces g (r ∷ rs) i j = parts i ∙ ap (λ (b : Bool). any (g r.seq) r.ranges || b) (any_pieces g rs (suc i) (suc j)) ∙ sym (parts j)
  where
    parts : (k : ℕ) → any (λ (y : Piece). g y.seq y.range) (pieces_from k (r ∷ rs))
        ≡ (any (g r.seq) r.ranges || any (λ (y : Piece). g y.seq y.range) (pieces_from (suc k) rs))
    parts k =
        any_append (λ (y : Piece). g y.seq y.range) (map (piece k r.seq) r.ranges) (pieces_from (suc k) rs)
        ∙ rw (any_map (λ (y : Piece). g y.seq y.range) (piece k r.seq) r.ranges)

-- ---- items that meet

-- some byte is in both
abbrev shares : Item → Item → Bool
shares y x = ltb (max y.start x.start) (min y.end x.end)

shares_comm : (y x : Item) → shares y x ≡ shares x y
shares_comm y x =
    let a : max y.start x.start ≡ max x.start y.start = omega arith in
    let b : min y.end x.end ≡ min x.end y.end = omega arith in
    rw (a, b)

mirrored : (s e : ℕ) → e ≤ top → ltb (top - e) (top - s) ≡ ltb s e
mirrored s e h =
    by_lt s e (λ l. lt-ltb (top - e) (top - s) (omega arith) ∙ sym (lt-ltb s e l))
    (λ l. le-ltb (top - e) (top - s) (omega arith) ∙ sym (le-ltb s e l))

-- x starts no later than y
module _ (x y : Item) (h : x.start ≤ y.start) where
  in_order : (ltb x.start x.end && ltb y.start y.end && ltb y.start x.end) ≡ shares x y
  in_order =
      by_lt y.start (min x.end y.end)
      (λ a. rw (lt-ltb x.start x.end (omega arith), lt-ltb y.start y.end (omega arith), lt-ltb y.start x.end (omega arith))
      (sym (lt-ltb (max x.start y.start) (min x.end y.end) (omega arith))))
      (λ a.
      by_lt y.start y.end (λ b. rw (le-ltb y.start x.end (omega arith), and-false)) (λ b. rw (le-ltb y.start y.end b, and-false))
      ∙ sym (le-ltb (max x.start y.start) (min x.end y.end) (omega arith)))

  -- on the way forward x stands in front of y
  forward : within y x ≡ shares y x
  forward =
      ap (λ (b : Bool). b && ltb y.start x.end) (and_comm (ltb y.start y.end) (ltb x.start x.end))
      ∙ in_order ∙ shares_comm x y

  -- and on the way back y in front of x
  back : x.end ≤ top → y.end ≤ top → within (mirror x) (mirror y) ≡ shares x y
  back a b = rw (mirrored x.start x.end a, mirrored y.start y.end b, mirrored y.start x.end a) in_order

-- ---- the items of an order

-- a piece as an item
abbrev pub to_item : Piece → Item
to_item x = item_of x.range.offset (end_of x.range) x.region

-- x, in front of y in the order of starts
abbrev Early : Item → Item → Type 0
Early x y = (x.start ≤ y.start) × (x.end ≤ top) × (y.end ≤ top)

early : (facts l : List Range) → Ascending l → All (λ (p : Range). (item_at facts p).end ≤ top) l → InTurn Early (items_of l facts)
early facts [] a b = tt
early facts (p ∷ l) a b = (
  all_map (Early (item_at facts p)) (item_at facts) l
      (all_both (InOrder p) (λ (q : Range). (item_at facts q).end ≤ top) (λ (q : Range). Early (item_at facts p) (item_at facts q))
      (λ q i e. (in_offset p q i, b.0, e)) l a.0 b.1),
  early facts l a.1 b.1,
)

module _ (ps : List Piece) (order facts : List Range) (o : Ordered ps order facts) where
  items_starts : map (item_at facts) o.starts ≡ map to_item ps
  items_starts =
      let l = length-map o.starts (item_at facts) in
      let m = length-map ps to_item in
      let e = o.size in
      ext_get_or no_item (map (item_at facts) o.starts) (map to_item ps) (omega arith)
      (λ k h.
      get_or-map (item_at facts) o.starts k blank no_item (omega arith)
      ∙ rw (o.start k (omega arith), o.fact k (omega arith)) (sym (get_or-map to_item ps k no_piece no_item (omega arith))))

  starts_all : (P : Item → Type 0) → All (λ (x : Piece). P (to_item x)) ps → All (λ (p : Range). P (item_at facts p)) order
  starts_all P a =
      rw o.sort
      (all_sorted (λ (p : Range). P (item_at facts p)) o.starts
      (map_all P (item_at facts) o.starts (rw items_starts (all_map P to_item ps a))))

  -- what holds of the item of each piece
  pub items_all : (P : Item → Type 0) → All (λ (x : Piece). P (to_item x)) ps → All P (items_of order facts)
  items_all P a = all_map P (item_at facts) order (starts_all P a)

  pieces_end : All (λ (x : Piece). end_of x.range ≤ top) ps
  pieces_end = all_of (λ (x : Piece). end_of x.range ≤ top) ps no_piece (λ k h. end_top (get_or ps k no_piece).range)

  items_early : InTurn Early (items_of order facts)
  items_early = early facts order (rw o.sort (sorted_ascending o.starts)) (starts_all (λ (x : Item). x.end ≤ top) pieces_end)

  -- c says which region counts against which: a range of i is struck on either way if a piece of i meets another one that
  -- counts against it, and only then
  module _ (c : ℕ → ℕ → Bool) (i : ℕ) where
    abbrev strikes : Item → Item → Bool
    strikes = struck (λ (y x : Item). c y.owner x.owner) i

    abbrev strike : Item → Item → Bool
    strike y x = eqb y.owner i && c y.owner x.owner && shares y x

    both : (behind strikes (items_of order facts) || behind strikes (reverse (map mirror (items_of order facts)))) ≡ any_other strike (items_of order facts)
    both =
        let w = items_of order facts in
        ap (λ (b : Bool). b || behind strikes (reverse (map mirror w)))
        (behind_turn strikes strike Early (λ x y e. ap (λ (b : Bool). eqb y.owner i && c y.owner x.owner && b) (forward x y e.0)) w items_early)
        ∙ ap (λ (b : Bool). behind strike w || b)
        (behind_reverse strikes (map mirror w)
        ∙ behind_map (λ (y x : Item). strikes x y) mirror w
        ∙ behind_turn (λ (y x : Item). strikes (mirror x) (mirror y)) (λ (y x : Item). strike x y) Early
        (λ x y e. ap (λ (b : Bool). eqb x.owner i && c x.owner y.owner && b) (back x y e.0 e.1 e.2)) w items_early)
        ∙ sym (other_behind strike w)

    swept : (behind strikes (walk false (items_of order facts)) || behind strikes (walk true (items_of order facts)))
        ≡ any_other (λ (x y : Piece). eqb x.region i && c x.region y.region && meets x.range y.range) ps
    unfolding walk meets
    swept =
        let h = item_at facts in
        let f : Range → Range → Bool = λ p q. strike (h p) (h q) in
        both ∙ other_map strike h order ∙ ap (any_other f) o.sort ∙ other_sorted f o.starts ∙ sym (other_map strike h o.starts)
        ∙ ap (any_other strike) items_starts ∙ other_map strike to_item ps

-- ---- both kinds

-- where at most is the same, below is
below_too : (a b c d : ℕ) → leb a b ≡ leb c d → ltb b a ≡ ltb d c
below_too a b c d e =
    by_lt b a (λ h. lt-ltb b a h ∙ sym (lt-ltb d c (leb-false c d (sym e ∙ lt-leb a b h))))
    (λ h. le-ltb b a h ∙ sym (le-ltb d c (leb-true c d (sym e ∙ le-leb a b h))))

module _ (us un : Lent) (e : us.count ≤ length us.seqs) (e' : un.count ≤ length un.seqs) (order facts : List Range) (ranks : List ℕ)
    (o : Ordered (pieces (regions_of us) ++ pieces_from us.count (regions_of un)) order facts)
    (r : Ranks (take us.count us.seqs ++ take un.count un.seqs) ranks) where
  abbrev front : List ℕ
  front = take us.count us.seqs

  abbrev rest : List ℕ
  rest = take un.count un.seqs

  abbrev seqs : List ℕ
  seqs = front ++ rest

  abbrev ours : List Piece
  ours = pieces (regions_of us)

  abbrev theirs : List Piece
  theirs = pieces_from us.count (regions_of un)

  -- a piece's region is one of the records, and it has that record's number
  abbrev Known : Piece → Type 0
  Known x = (x.region < length seqs) × (x.seq ≡ get_or seqs x.region 0)

  abbrev Ours : Piece → Type 0
  Ours x = (x.region < us.count) × Known x

  abbrev Theirs : Piece → Type 0
  Theirs x = (us.count ≤ x.region) × Known x

  front_length : length front ≡ us.count
  front_length = length-take-le us.count us.seqs e

  pub all_seqs : length (take us.count us.seqs ++ take un.count un.seqs) ≡ us.count + un.count
  all_seqs = length-append front rest ∙ omega (arith, front_length, length-take-le un.count un.seqs e')

  ours_at : (x : Piece) → Of (regions_of us) 0 x → Ours x
  ours_at x p =
      let q = of_lent us 0 x p in
      let h : x.region < us.count = omega (arith, p.region, q.0) in
      let f : p.at ≡ x.region = omega (arith, p.region) in
      (h, (omega (arith, all_seqs), q.1 ∙ ap (λ (k : ℕ). get_or front k 0) f ∙ sym (get_or-append front rest 0 x.region (omega (arith, front_length)))))

  theirs_at : (x : Piece) → Of (regions_of un) us.count x → Theirs x
  theirs_at x p =
      let q = of_lent un us.count x p in
      let h : x.region < length seqs = omega (arith, p.region, q.0, all_seqs) in
      let f : length front + p.at ≡ x.region = omega (arith, p.region, front_length) in
      (omega (arith, p.region), (h, q.1 ∙ sym (get_or-append-add front rest p.at 0) ∙ ap (λ (k : ℕ). get_or seqs k 0) f))

  ours_all : All Ours ours
  ours_all = all_imp (Of (regions_of us) 0) Ours ours_at ours (pieces_of (regions_of us) 0)

  theirs_all : All Theirs theirs
  theirs_all = all_imp (Of (regions_of un) us.count) Theirs theirs_at theirs (pieces_of (regions_of un) us.count)

  all_known : All Known (ours ++ theirs)
  all_known =
      all_append Known ours theirs
      (all_imp Ours Known (λ x p. p.1) ours ours_all)
      (all_imp Theirs Known (λ x p. p.1) theirs theirs_all)

  pub items_owner : All (λ (x : Item). x.owner < us.count + un.count) (items_of order facts)
  items_owner =
      items_all (ours ++ theirs) order facts o (λ (x : Item). x.owner < us.count + un.count)
      (all_imp Known (λ (x : Piece). x.region < us.count + un.count) (λ x p. omega (arith, p.0, all_seqs)) (ours ++ theirs) all_known)

  -- of one kind, by an order that ranks and numbers share
  module _ (kind : ℕ → Bool) (over : ℕ → ℕ → Bool)
      (agree : (a b : ℕ) → a < length seqs → b < length seqs → over (get_or ranks a 0) (get_or ranks b 0) ≡ over (get_or seqs a 0) (get_or seqs b 0))
      (i : ℕ) (h : i < us.count) where
    abbrev counts : Item → Item → Bool
    counts y x = kind x.owner && over (get_or ranks y.owner 0) (get_or ranks x.owner 0)

    abbrev meeting : Piece → Piece → Bool
    meeting x y = eqb x.region i && (kind y.region && over x.seq y.seq) && meets x.range y.range

    abbrev plain : Piece → Piece → Bool
    plain x y = eqb x.region i && over x.seq y.seq && meets x.range y.range

    abbrev either : Bool
    either = behind (struck counts i) (walk false (items_of order facts)) || behind (struck counts i) (walk true (items_of order facts))

    away : (x y : Piece) → us.count ≤ x.region → meeting x y ≡ false
    away x y l = rw (ne_eqb x.region i (λ q. omega arith))

    -- a piece of i is one of the usable ones
    from_ours : either ≡ (any_other meeting ours || across meeting ours theirs)
    from_ours =
        swept (ours ++ theirs) order facts o (λ (a b : ℕ). kind b && over (get_or ranks a 0) (get_or ranks b 0)) i
        ∙ other_same (λ (x y : Piece). eqb x.region i && (kind y.region && over (get_or ranks x.region 0) (get_or ranks y.region 0)) && meets x.range y.range)
        meeting Known
        (λ x y p q. rw (agree x.region y.region p.0 q.0, p.1, q.1)) (ours ++ theirs) all_known
        ∙ other_append meeting ours theirs
        ∙ rw (
          other_none meeting Theirs (λ x y p q. away x y p.0) theirs no_piece theirs_all,
          across_none Ours Theirs (λ (x y : Piece). meeting y x) (λ x y p q. away y x q.0) ours theirs ours_all theirs_all,
          or-false (any_other meeting ours),
          or-false (across meeting ours theirs),
        )

    only : (x y : Piece) → kind y.region ≡ true → meeting x y ≡ plain x y
    only x y q = rw q

    none : (x y : Piece) → kind y.region ≡ false → meeting x y ≡ false
    none x y q = rw (q, and-false)

    from_usable : ((w : ℕ) → w < us.count → kind w ≡ true) → ((w : ℕ) → us.count ≤ w → kind w ≡ false) → either ≡ any_other plain ours
    from_usable t f =
        from_ours
        ∙ rw (
          other_same meeting plain Ours (λ x y p q. only x y (t y.region q.0)) ours ours_all,
          across_none Ours Theirs meeting (λ x y p q. none x y (f y.region q.0)) ours theirs ours_all theirs_all,
          or-false,
        )

    from_unavailable : ((w : ℕ) → w < us.count → kind w ≡ false) → ((w : ℕ) → us.count ≤ w → kind w ≡ true) → either ≡ across plain ours (pieces (regions_of un))
    from_unavailable f t =
        from_ours
        ∙ rw (other_none meeting Ours (λ x y p q. none x y (f y.region q.0)) ours no_piece ours_all)
        (any_same (λ (x : Piece). any (meeting x) theirs) Ours (λ (x : Piece). any (plain x) (pieces (regions_of un)))
        (λ x p. any_same (meeting x) Theirs (plain x) (λ y q. only x y (t y.region q.0)) theirs theirs_all
        ∙ any_pieces (λ (s : ℕ) (z : Range). eqb x.region i && over x.seq s && meets x.range z) (regions_of un) us.count 0)
        ours ours_all)

  pub swept_overlapped : (i : ℕ) → i < us.count
      → (behind (struck (usable_over ranks us.count) i) (walk false (items_of order facts)) || behind (struck (usable_over ranks us.count) i) (walk true (items_of order facts)))
      ≡ overlapped (regions_of us) i
  unfolding overlapped
  swept_overlapped i h =
      from_usable (λ (w : ℕ). ltb w us.count) leb r.order i h (λ w l. lt-ltb w us.count l) (λ w l. le-ltb w us.count l)

  pub swept_superseded : (i : ℕ) → i < us.count
      → (behind (struck (own_over ranks us.count) i) (walk false (items_of order facts)) || behind (struck (own_over ranks us.count) i) (walk true (items_of order facts)))
      ≡ superseded (regions_of us) (regions_of un) i
  unfolding superseded
  swept_superseded i h =
      from_unavailable (λ (w : ℕ). leb us.count w) ltb
      (λ a b p q. below_too (get_or ranks b 0) (get_or ranks a 0) (get_or seqs b 0) (get_or seqs a 0) (r.order b a q p))
      i h (λ w l. lt-leb us.count w l) (λ w l. le-leb us.count w l)
