-- The map of a record's extents, in its row.
use Prim.Native.Nat.{ℕ, ◌+◌, ◌≤◌, max}
use mathlib.Core.Bool.{false}
use mathlib.Core.List.{List}
use mathlib.Core.Path.{◌≡◌, ap, sym, ◌∙◌}
use native.Mathlib.Omega.{arith}
use lib.ListN.{length}
use borrow.Author.Tests.{le-ltb}
use Rattle.numbers.specs.Lists.{All}
use Rattle.numbers.specs.Pairs.{is_odd, pairs}
use Rattle.numbers.specs.Range.{Range, total}
use Rattle.numbers.specs.Sums.{top}
use Rattle.plan_open.specs.Rows.{Mappable, RowMap}
use Rattle.regionmap.specs.Map.{Placement, placement_of, Valid, too_few, extents_fail, passes_top, from_refusal, placed, Made, room_refusal, with_room, Roomed}
use Rattle.numbers.specs.declared.refusal.Refusal.{Refusal}
use Rattle.std.specs.Prelude.{Result, Ok, Err}
use Rattle.std.specs.Result.{result_unwrap_or}
use Rattle.regionmap.specs.declared.RegionMap.{RegionMap}
use Rattle.numbers.specs.Refusals.{refusal_number}
use Rattle.numbers.proofs.Answers.{accepted_is, refused_is}
use Rattle.numbers.proofs.Lists.{all_imp}
use Rattle.numbers.proofs.Refusals.{none_first, pass_none, each_none}
use Rattle.regionmap.proofs.Bytes.{lays_placed, lays_roomed}
use Rattle.regionmap.proofs.Extents.{runs_few}

-- ---- room for 60

-- a map whose runs stand in a row, with no more room than that
pub record Roomy (m : RegionMap) (ss fs : List ℕ) : Type 0 where
  pub valid : Valid m ss fs
  pub room : m.room ≤ 60
  pub starts : length ss ≡ 60
  pub files : length fs ≡ 60

-- the map with that room
pub record RoomyMap (m : RegionMap) (ss fs : List ℕ) (r : RegionMap) : Type 0 where
  pub valid : Valid r ss fs
  pub same : placement_of r ss fs ≡ with_room (placement_of m ss fs) 60
  pub room : r.room ≡ 60

module _ (m : RegionMap) (ss fs : List ℕ) (g : Roomy m ss fs) where
  goes : room_refusal (placement_of m ss fs) 60 ss fs ≡ 0
  unfolding room_refusal too_few
  goes =
      let e : max m.room 60 ≡ 60 = omega (arith, g.room) in
      pass_none 1 _ (rw (e, g.starts, g.files))

  roomy_map : (r : RegionMap) → Roomed m 60 ss fs (Ok r) → RoomyMap m ss fs r
  roomy_map r h =
      let q =
      accepted_is (room_refusal (placement_of m ss fs) 60 ss fs) (with_room (placement_of m ss fs) 60) (placement_of r ss fs)
      (sym h.answer) in
      let e : max m.room 60 ≡ 60 = omega (arith, g.room) in
      record {
        valid = h.valid g.valid;
        same = sym q.1;
        room = ap (λ (p : Placement). p.room) (sym q.1) ∙ e;
      }

  -- it is not refused
  roomy_or : (x : Result RegionMap Refusal) → Roomed m 60 ss fs x → RoomyMap m ss fs (result_unwrap_or x m)
  roomy_or (Ok r) h = roomy_map r h
  roomy_or (Err n) h =
      let q =
      refused_is (room_refusal (placement_of m ss fs) 60 ss fs) (with_room (placement_of m ss fs) 60) (refusal_number n) (sym h.answer) in
      absurd (q.1 (sym q.0 ∙ goes))

-- ---- a map in a row

module _ (xs : List ℕ) (len : ℕ) (ss₀ ss fs₀ fs : List ℕ) (g : Mappable xs len ss₀ fs₀) (s : length ss ≡ length ss₀)
    (f : length fs ≡ length fs₀) where
  module _ (m : RegionMap) (h : Made xs len ss₀ ss fs₀ fs (Ok m)) where
    made_is : placed (pairs xs) len ≡ placement_of m ss fs
    made_is = (accepted_is (from_refusal xs len ss₀ fs₀) (placed (pairs xs) len) (placement_of m ss fs) (sym h.answer)).1

    map_roomy : Roomy m ss fs
    map_roomy =
        let e = ap (λ (p : Placement). p.room) made_is in
        let k = runs_few (pairs xs) in
        record { valid = h.valid; room = omega (arith, g.few); starts = s ∙ g.starts; files = f ∙ g.files }

    row_map : (r : RegionMap) → RoomyMap m ss fs r → RowMap (pairs xs) len ss fs r
    row_map r q =
        let e : placement_of r ss fs ≡ with_room (placed (pairs xs) len) 60 =
        q.same ∙ ap (λ (p : Placement). with_room p 60) (sym made_is) in
        record {
          room = q.room;
          valid = q.valid;
          lays = rw e (lays_roomed (placed (pairs xs) len) (pairs xs) 60 (lays_placed (pairs xs) len));
          size = ap (λ (p : Placement). p.len) e;
        }

    -- with room for 60, which is never refused
    pub row_made : (x : Result RegionMap Refusal) → Roomed m 60 ss fs x → RowMap (pairs xs) len ss fs (result_unwrap_or x m)
    row_made x q = row_map (result_unwrap_or x m) (roomy_or m ss fs map_roomy x q)

  pub map_never : {P : Type 0} (n : Refusal) → Made xs len ss₀ ss fs₀ fs (Err n) → P
  map_never n h =
      let q = refused_is (from_refusal xs len ss₀ fs₀) (placed (pairs xs) len) (refusal_number n) (sym h.answer) in
      absurd (q.1 (sym q.0 ∙ g.none))

-- what makes extents mappable
pub mappable : (xs : List ℕ) (len : ℕ) (ss fs : List ℕ) → is_odd xs ≡ false → length (pairs xs) ≤ 60 → length ss ≡ 60 → length fs ≡ 60
    → All (λ (x : Range). x.offset + x.len ≤ top) (pairs xs) → total (pairs xs) ≤ top → len ≤ total (pairs xs) → Mappable xs len ss fs
unfolding from_refusal extents_fail too_few passes_top
mappable xs len ss fs o k s f a t h =
    record {
      none =
          none_first _ (
            pass_none 1 _
                (simp (
                  o,
                  le-ltb 4084 (length (pairs xs)) (omega arith),
                  le-ltb (length ss) (length (pairs xs)) (omega arith),
                  le-ltb (length fs) (length (pairs xs)) (omega arith),
                )),
            (
              each_none passes_top 0 (pairs xs)
                  (all_imp (λ (x : Range). x.offset + x.len ≤ top) (λ (x : Range). passes_top x ≡ false)
                  (λ x e. le-ltb top (x.offset + x.len) e) (pairs xs) a)
                  (omega arith),
              (pass_none 23 _ (le-ltb (total (pairs xs)) len h), tt),
            ),
          );
      few = k;
      starts = s;
      files = f;
    }
