-- Document 01, "Footprint check": what `check_region` refuses, and the footprint of a region that it accepts.
use Rattle.std.specs.Prelude.{ℕ, ◌+◌, ◌-◌, ◌*◌, ◌/◌, ◌%◌, ◌^◌, min, max, Bool, cond, not, ◌&&◌, ◌||◌, List, [], ◌∷◌, ◌++◌, ◌≡◌, ltb, eqb, length, take, drop, Option, Some, None, Result, Ok, Err}
use Rattle.footprint.specs.declared.Entry.{Entry}
use Rattle.footprint.specs.declared.Header.{Header}
use Rattle.footprint.specs.declared.Limits.{Limits}
use Rattle.footprint.specs.declared.RegionKind.{RegionKind}
use Rattle.footprint.specs.declared.RegionKind.TheVariants.{Append, Page, Slot}
use Rattle.footprint.specs.declared.Extent.{Extent}
use Rattle.numbers.specs.Lists.{any, any_two, written}
use Rattle.numbers.specs.Pairs.{is_odd, pairs, flat}
use Rattle.numbers.specs.Range.{Range, range, meets, total}
use Rattle.numbers.specs.Refusals.{refuse, first, Answer, accepted, refused, answer, refusal_number, each_extent}
use Rattle.numbers.specs.declared.refusal.Refusal.{Refusal}
use Rattle.numbers.specs.Sums.{top}
use Rattle.sort.specs.Sort.{sorted}

-- "max_extents(L) = (2^L - 192) / 16, L first held to 12..16"
unfoldable pub max_extents : ℕ → ℕ
max_extents l = (2 ^ max 12 (min l 16) - 192) / 16

-- "block = 2^L"
abbrev pub block_of : Limits → ℕ
block_of lim = 2 ^ lim.log2_block

-- A kind's number in the table (meta.rs).
unfoldable pub kind_code : RegionKind → ℕ
kind_code Append = 1
kind_code Page = 2
kind_code Slot = 3

-- The kind that has a number in the table, and no kind where none has it.
unfoldable pub kind_in : ℕ → Result RegionKind (Unit {0})
kind_in n = cond (eqb n 1) (Ok Append) (cond (eqb n 2) (Ok Page) (cond (eqb n 3) (Ok Slot) (Err tt)))

-- "committed extent (the first ones up to the entry's count, or all if the header lists fewer)"
abbrev pub committed : Entry → List ℕ → List Range
committed e xs = take e.extent_count (pairs xs)

-- "The footprint is both header blocks and the committed extents."
abbrev pub ranges : Limits → Entry → List ℕ → List Range
ranges lim e xs = range e.header_a (block_of lim) ∷ range e.header_b (block_of lim) ∷ committed e xs

-- "sorted by (offset, length)"
abbrev pub footprint_of : Limits → Entry → List ℕ → List Range
footprint_of lim e xs = sorted (ranges lim e xs)

-- 1. "a list of pairs is odd or not the header's count, or a count is over its limit .. fewer places than: .. count + 2 pairs"
unfoldable pub lists_fail : Limits → Entry → Header → List ℕ → ℕ → Bool
lists_fail lim e h xs places =
    is_odd xs
    || not (eqb (length (pairs xs)) h.extent_count)
    || ltb (max_extents lim.log2_block) e.extent_count
    || ltb (max_extents lim.log2_block) h.extent_count
    || ltb places (2 * (e.extent_count + 2))

-- 2. "L is out of range, .. or the header's block log is neither L nor 9."
unfoldable pub logs_fail : Limits → Header → Bool
logs_fail lim h =
    ltb lim.log2_block 12
    || ltb 16 lim.log2_block
    || not (eqb h.log2_block 9 || eqb h.log2_block lim.log2_block)

-- "table end <= span start <= span end <= file length"
unfoldable pub span_fails : Limits → Entry → Bool
span_fails lim e =
    ltb e.span_start lim.table_end
    || ltb e.span_end e.span_start
    || ltb lim.file_len e.span_end

-- "block-aligned, wholly inside the span"
unfoldable pub block_fails : ℕ → Entry → ℕ → Bool
block_fails block e at =
    not (eqb (at % block) 0)
    || ltb at e.span_start
    || ltb e.span_end (at + block)

-- "at least one block apart"
unfoldable pub near : ℕ → ℕ → ℕ → Bool
near block a b = ltb b (a + block) && ltb a (b + block)

-- 4. "The added entry checks fail."
unfoldable pub entry_fails : Limits → Entry → List ℕ → Bool
entry_fails lim e xs =
    span_fails lim e
    || block_fails (block_of lim) e e.header_a
    || block_fails (block_of lim) e e.header_b
    || near (block_of lim) e.header_a e.header_b
    || ltb e.capacity e.data_size
    || any (λ (x : Range). eqb x.len 0) (committed e xs)

-- 9. "The header may list the entry's count of extents or, unless the kind is Slot, one more"
unfoldable pub count_fails : Entry → Header → Bool
count_fails e h =
    not (eqb h.extent_count e.extent_count
    || (not (eqb (kind_code e.kind) 3) && eqb h.extent_count (e.extent_count + 1)))

-- 11. "An extent's offset + length passes 2^64 - 1, it ends or starts outside the span or starts before table end"
unfoldable pub outside : Limits → Entry → Range → Bool
outside lim e x =
    ltb top (x.offset + x.len)
    || ltb e.span_end (x.offset + x.len)
    || ltb x.offset e.span_start
    || ltb x.offset lim.table_end

-- Some two ranges of a list meet.
abbrev pub overlaps : List Range → Bool
overlaps = any_two meets

-- 1, 2 and 4: the lists' lengths, the block logs and the added entry checks.
abbrev pub entry_tests : Limits → Entry → Header → List ℕ → ℕ → List ℕ
entry_tests lim e h xs places =
    refuse 1 (lists_fail lim e h xs places) ∷
    refuse 2 (logs_fail lim h) ∷
    refuse 4 (entry_fails lim e xs) ∷ []

-- 5 to 10: what entry and header must agree on.
abbrev pub header_tests : ℕ → Entry → Header → List ℕ
header_tests id e h =
    -- "Region numbers differ."
    refuse 5 (not (eqb h.region_id id)) ∷
    -- "Kinds differ."
    refuse 6 (not (eqb (kind_code h.kind) (kind_code e.kind))) ∷
    -- "Flags differ."
    refuse 7 (not (eqb h.flags e.flags)) ∷
    -- "The header isn't Ready."
    refuse 8 (not h.ready) ∷
    -- "The header's extent count is not allowed."
    refuse 9 (count_fails e h) ∷
    -- "Data size .. is no multiple of the header's block."
    refuse 10 (not (eqb (e.data_size % 2 ^ h.log2_block) 0)) ∷ []

-- 11 and 12 extent by extent, and 12's second half, "The sum of extents .. isn't the capacity".
abbrev pub extent_tests : Limits → Entry → List Range → List ℕ
extent_tests lim e xs =
    each_extent (outside lim e) 0 xs ∷
    refuse 12 (not (eqb (total xs) e.capacity)) ∷ []

-- 13. "The footprint overlaps itself."
abbrev pub overlap_tests : List Range → List ℕ
overlap_tests rs = refuse 13 (overlaps rs) ∷ []

-- The refusal of every input whatever, 0 where the region is accepted.
unfoldable pub refusal_of : Limits → ℕ → Entry → Header → List ℕ → ℕ → ℕ
refusal_of lim id e h xs places =
    first (entry_tests lim e h xs places ++ header_tests id e h ++ extent_tests lim e (committed e xs) ++ overlap_tests (ranges lim e xs))

-- A usable region with the extra extent, if one is handed out; or document 01's number.
abbrev pub answer_of : Result (Option Extent) Refusal → Answer (List Range)
answer_of (Ok None) = accepted []
answer_of (Ok (Some x)) = accepted (range x.offset x.len ∷ [])
answer_of (Err r) = refused (refusal_number r)

-- "that extra one is handed out unchecked"
abbrev pub extra_of : Entry → List ℕ → List Range
extra_of e xs = drop e.extent_count (pairs xs)

-- What the check answers.
abbrev pub check_of : Limits → ℕ → Entry → Header → List ℕ → ℕ → Answer (List Range)
check_of lim id e h xs places = answer (refusal_of lim id e h xs places) (extra_of e xs)

-- Scratch after a refusal n, or 0: "Accepted: the first count + 2 pairs of scratch hold" the footprint; a refused call "changes
-- nothing, except that 13 leaves the first count + 2 pairs of scratch filled and sorted".
abbrev pub scratch_of : Limits → Entry → List ℕ → ℕ → List ℕ → List ℕ
scratch_of lim e xs n s = cond (eqb n 0 || eqb n 13) (written (flat (footprint_of lim e xs)) s) s

-- What `fill_footprint` promises: its answer, and every slot of scratch.
pub record Filled (lim : Limits) (id : ℕ) (e : Entry) (h : Header) (xs s₀ s : List ℕ) (a : Answer (List Range)) : Type 0 where
  pub answer : a ≡ check_of lim id e h xs (length s₀)
  pub slots : s ≡ scratch_of lim e xs (refusal_of lim id e h xs (length s₀)) s₀

-- "Accepted: the first count + 2 pairs of scratch hold it sorted by (offset, length), and that filled front part is handed back",
-- with the extra.
pub record Checked (lim : Limits) (id : ℕ) (e : Entry) (h : Header) (xs s₀ part : List ℕ) (a : Answer (List Range)) : Type 0 where
  pub answer : a ≡ check_of lim id e h xs (length s₀)
  pub filled : part ≡ flat (footprint_of lim e xs)
