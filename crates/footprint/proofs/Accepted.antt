-- What it means that a region is accepted.
use Prim.Native.Nat.{ℕ, ◌+◌, ◌*◌, ◌≤◌, ◌<◌, min, max}
use mathlib.Core.List.{List}
use mathlib.Core.Path.{◌≡◌, refl, ◌∙◌}
use native.Mathlib.Omega.{arith}
use lib.ListN.{length, get_or}
use lib.Pow.{pow-lt}
use Rattle.footprint.specs.Footprint.{max_extents, block_of, committed, ranges, footprint_of, refusal_of}
use Rattle.footprint.specs.declared.Entry.{Entry}
use Rattle.footprint.specs.declared.Header.{Header}
use Rattle.footprint.specs.declared.Limits.{Limits}
use Rattle.numbers.specs.Lists.{All}
use Rattle.numbers.specs.Range.{Range, blank, Meet, total}
use Rattle.numbers.specs.Sums.{sum}
use Rattle.footprint.proofs.Answer.{accepted_passed, accepted_apart}
use Rattle.footprint.proofs.Overlap.{overlaps_sorted, overlaps_false}
use Rattle.footprint.proofs.Passed.{Inside}
use Rattle.numbers.proofs.Lists.{all_imp}
use Rattle.sort.proofs.Laws.{all_sorted, sorted_sum}

-- a range lies between table end and file length, and inside the span
pub record Placed (lim : Limits) (e : Entry) (r : Range) : Type 0 where
  pub table : lim.table_end ≤ r.offset
  pub file : r.offset + r.len ≤ lim.file_len
  pub from : e.span_start ≤ r.offset
  pub upto : r.offset + r.len ≤ e.span_end

-- the ranges of the footprint have no common byte, lie where they may, and have two blocks and the capacity together
pub record Accepted (lim : Limits) (e : Entry) (xs : List ℕ) : Type 0 where
  pub apart : (i j : ℕ) → i < j → j < length (footprint_of lim e xs) → Meet (get_or (footprint_of lim e xs) i blank) (get_or (footprint_of lim e xs) j blank) → ⊥
  pub placed : All (Placed lim e) (footprint_of lim e xs)
  pub lengths : total (footprint_of lim e xs) ≡ 2 * block_of lim + e.capacity

pub accepted : (lim : Limits) (id : ℕ) (e : Entry) (h : Header) (xs : List ℕ) (places : ℕ) → refusal_of lim id e h xs places ≡ 0 → Accepted lim e xs
unfolding sum
accepted lim id e h xs places z =
    let p = accepted_passed lim id e h xs places z in
    let t = p.entry in
    let a = t.a in
    let b = t.b in
    let s = sorted_sum (λ (r : Range). r.len) (ranges lim e xs) in
    record {
      apart = overlaps_false (footprint_of lim e xs) (overlaps_sorted (ranges lim e xs) ∙ accepted_apart lim id e h xs places z);
      placed =
          all_sorted (Placed lim e) (ranges lim e xs) (
            record { table = omega (arith, t.table, a.from); file = omega (arith, t.file, a.upto); from = a.from; upto = a.upto },
            (
              record { table = omega (arith, t.table, b.from); file = omega (arith, t.file, b.upto); from = b.from; upto = b.upto },
              all_imp (Inside lim e) (Placed lim e) (λ r i. record {
                table = omega (arith, t.table, i.from);
                file = omega (arith, t.file, i.upto);
                from = i.from;
                upto = i.upto;
              }) (committed e xs) p.inside,
            ),
          );
      lengths = s ∙ omega (arith, p.capacity);
    }

-- "244 at 12; 4,084 at 16"
pub most_at_12 : max_extents 12 ≡ 244
unfolding max_extents
most_at_12 = refl

pub most_at_16 : max_extents 16 ≡ 4084
unfolding max_extents
most_at_16 = refl

-- a region of the plan, of "up to 60 extents", is within it for every L
pub sixty_within : (l : ℕ) → 60 ≤ max_extents l
unfolding max_extents
sixty_within l =
    let k : 11 < max 12 (min l 16) = omega arith in
    let h = pow-lt k in
    omega (arith, h)
