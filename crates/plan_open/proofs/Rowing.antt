-- One region in its row.
use Prim.Native.Nat.{ℕ, ◌*◌}
use mathlib.Core.List.{List, ◌++◌}
use mathlib.Core.Path.{◌≡◌, refl, ap, ◌∙◌}
use native.Mathlib.Omega.{arith}
use lib.ListN.{length, take, drop, length-take}
use lib.Seq.{take_at, length-take-le}
use Rattle.footprint.specs.Footprint.{committed}
use Rattle.numbers.specs.Lists.{written}
use Rattle.numbers.specs.Pairs.{pairs}
use Rattle.plan_open.specs.Rows.{Mappable, RowMap, Fit, Rowed}
use Rattle.plan_record.specs.Record.{record_of}
use Rattle.plan_record.specs.declared.Record.{Record}
use Rattle.plan_record.specs.declared.Region.{Region}
use Rattle.regionmap.specs.declared.RegionMap.{RegionMap}
use Rattle.model.proofs.Opening.{count_of}
use Rattle.numbers.proofs.Pairs.{length_pairs, pairs_append, pairs_take, even_list}
use Rattle.plan_open.proofs.Mapping.{mappable}
use Rattle.model.specs.Open as model

module _ (r : model.Record) (own : List ℕ) (f : Fit r own) where
  -- the part of the own list that is committed, as the code takes it
  abbrev part : List ℕ
  part = take (2 * count_of r) own

  pub part_length : length part ≡ 2 * count_of r
  part_length = length-take-le (2 * count_of r) own f.listed

  part_pairs : pairs part ≡ committed r.entry own
  part_pairs = pairs_take (count_of r) own

  pub part_mappable : (ss fs : List ℕ) → length ss ≡ 60 → length fs ≡ 60 → Mappable part r.entry.data_size ss fs
  part_mappable ss fs s t =
      let e = part_pairs in
      let l = part_length in
      mappable part r.entry.data_size ss fs (even_list part (omega arith)) (rw (e, length-take) (omega (arith, f.few))) s t
      (rw e f.ends)
      (rw e f.whole)
      (rw e f.size)

  -- copied to the front of a row
  pub row_extents : (xs₀ xs : List ℕ) → length xs₀ ≡ 120 → xs ≡ written part xs₀ → take (count_of r) (pairs xs) ≡ committed r.entry own
  row_extents xs₀ xs h e =
      let l = part_length in
      let p : pairs xs ≡ pairs part ++ pairs (drop (length part) xs₀) =
      ap pairs e ∙ pairs_append part (drop (length part) xs₀) (omega arith) in
      let k : length (pairs part) ≡ count_of r = length_pairs part ∙ omega arith in
      ap (take (count_of r)) p ∙ take_at (pairs part) _ (count_of r) k ∙ part_pairs

module _ (one : Record) (own : List ℕ) (f : Fit (record_of one) own) (row : ℕ) where
  -- the region as the code makes it
  abbrev made : RegionMap → Region
  made m =
      record {
        number = one.number;
        tag = one.tag;
        name = one.name;
        kind = one.entry.kind;
        flags = one.entry.flags;
        log2_block = one.header.log2_block;
        header_a = one.entry.header_a;
        header_b = one.entry.header_b;
        span_start = one.entry.span_start;
        span_end = one.entry.span_end;
        footprint_seq = one.entry.footprint_seq;
        extent_count = one.entry.extent_count;
        row = row;
        map = m;
      }

  pub rowed : (xs₀ xs ss fs : List ℕ) (m : RegionMap) → length xs₀ ≡ 120 → xs ≡ written (part (record_of one) own f) xs₀
      → RowMap (pairs (part (record_of one) own f)) one.entry.data_size ss fs m → Rowed (record_of one) own row (pairs xs) ss fs (made m)
  rowed xs₀ xs ss fs m h e q =
      let x = row_extents (record_of one) own f xs₀ xs h e in
      record {
        row = refl;
        means = rw (x, q.size);
        count = f.few;
        room = q.room;
        valid = q.valid;
        lays = rw (x, ← part_pairs (record_of one) own f) q.lays;
      }
