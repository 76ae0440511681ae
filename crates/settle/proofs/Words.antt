-- The marks in document 01's words: which ranges meet, at which places of the lists, over bytes.
use Prim.Native.Nat.{ℕ, ◌≤◌, ◌<◌}
use mathlib.Core.Bool.{Bool, true, ◌&&◌}
use mathlib.Core.List.{List}
use mathlib.Core.Path.{◌≡◌}
use lib.Dec.{eqb, ltb, leb}
use lib.ListN.{length, get_or}
use borrow.Author.Tests.{eqb-true, eq-eqb, ltb-true, lt-ltb, leb-true, le-leb}
use Rattle.numbers.specs.Lists.{any}
use Rattle.numbers.specs.Range.{Meet, meets}
use Rattle.settle.specs.Laying.{no_piece}
use Rattle.settle.specs.Regions.{Region, Piece, pieces}
use Rattle.settle.specs.Settle.{overlapped, superseded}
use Rattle.numbers.proofs.Cases.{and-true}
use Rattle.numbers.proofs.Lists.{any_at, any_of, any_true, of_any}
use Rattle.numbers.proofs.Ranges.{meets_true, meet_true}
use Rattle.settle.proofs.Others.{other_places, places_other}

-- "a range of the region meets another range in the usable list .. of equal or higher sequence number"
pub record Overlap (us : List Region) (i : ℕ) : Type 0 where
  pub range : ℕ
  pub another : ℕ
  pub inside : range < length (pieces us)
  pub inside' : another < length (pieces us)
  pub apart : range ≡ another → ⊥
  pub own : (get_or (pieces us) range no_piece).region ≡ i
  pub number : (get_or (pieces us) range no_piece).seq ≤ (get_or (pieces us) another no_piece).seq
  pub meet : Meet (get_or (pieces us) range no_piece).range (get_or (pieces us) another no_piece).range

-- "a range meets an unavailable record's own range of strictly higher number"
pub record Supersede (us un : List Region) (i : ℕ) : Type 0 where
  pub range : ℕ
  pub another : ℕ
  pub inside : range < length (pieces us)
  pub inside' : another < length (pieces un)
  pub own : (get_or (pieces us) range no_piece).region ≡ i
  pub number : (get_or (pieces us) range no_piece).seq < (get_or (pieces un) another no_piece).seq
  pub meet : Meet (get_or (pieces us) range no_piece).range (get_or (pieces un) another no_piece).range

module _ (order : ℕ → ℕ → Bool) (i : ℕ) (x y : Piece) where
  -- the three tests on two ranges
  abbrev strikes : Bool
  strikes = eqb x.region i && order x.seq y.seq && meets x.range y.range

  three : strikes ≡ true → (x.region ≡ i) × (order x.seq y.seq ≡ true) × Meet x.range y.range
  three e =
      let a = and-true (eqb x.region i && order x.seq y.seq) (meets x.range y.range) e in
      let b = and-true (eqb x.region i) (order x.seq y.seq) a.0 in
      (eqb-true x.region i b.0, b.1, meets_true x.range y.range a.1)

  all_three : x.region ≡ i → order x.seq y.seq ≡ true → Meet x.range y.range → strikes ≡ true
  all_three r o m = simp (eq-eqb x.region i r, o, meet_true x.range y.range m)

module _ (us : List Region) (i : ℕ) where
  pub overlapped_true : overlapped us i ≡ true → Overlap us i
  unfolding overlapped
  overlapped_true e =
      let p = other_places (strikes leb i) (pieces us) no_piece e in
      let t = three leb i (get_or (pieces us) p.left no_piece) (get_or (pieces us) p.right no_piece) p.holds in
      record {
        range = p.left;
        another = p.right;
        inside = p.inside;
        inside' = p.inside';
        apart = p.apart;
        own = t.0;
        number = leb-true _ _ t.1;
        meet = t.2;
      }

  pub overlap_true : Overlap us i → overlapped us i ≡ true
  unfolding overlapped
  overlap_true o =
      places_other (strikes leb i) (pieces us) no_piece (record {
        left = o.range;
        right = o.another;
        inside = o.inside;
        inside' = o.inside';
        apart = o.apart;
        holds = all_three leb i (get_or (pieces us) o.range no_piece) (get_or (pieces us) o.another no_piece) o.own (le-leb _ _ o.number) o.meet;
      })

module _ (us un : List Region) (i : ℕ) where
  abbrev one : Piece → Bool
  one x = any (strikes ltb i x) (pieces un)

  pub superseded_true : superseded us un i ≡ true → Supersede us un i
  unfolding superseded
  superseded_true e =
      let a = any_at (λ (x : Piece). one x ≡ true) (pieces us) no_piece (any_true one (pieces us) e) in
      let x : Piece = get_or (pieces us) a.0 no_piece in
      let b = any_at (λ (y : Piece). strikes ltb i x y ≡ true) (pieces un) no_piece (any_true (strikes ltb i x) (pieces un) a.2) in
      let t = three ltb i x (get_or (pieces un) b.0 no_piece) b.2 in
      record {
        range = a.0;
        another = b.0;
        inside = a.1;
        inside' = b.1;
        own = t.0;
        number = ltb-true _ _ t.1;
        meet = t.2;
      }

  pub supersede_true : Supersede us un i → superseded us un i ≡ true
  unfolding superseded
  supersede_true s =
      let x : Piece = get_or (pieces us) s.range no_piece in
      of_any one (pieces us) (any_of (λ (x : Piece). one x ≡ true) (pieces us) s.range no_piece s.inside
      (of_any (strikes ltb i x) (pieces un) (any_of (λ (y : Piece). strikes ltb i x y ≡ true) (pieces un) s.another no_piece s.inside'
      (all_three ltb i x (get_or (pieces un) s.another no_piece) s.own (lt-ltb _ _ s.number) s.meet))))
