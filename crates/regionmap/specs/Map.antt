-- Document 01, "regionmap.rs": what a region's map means, and what each call on it answers.
use Rattle.std.specs.Prelude.{ℕ, ◌+◌, ◌-◌, ◌≤◌, max, Bool, false, cond, not, ◌&&◌, ◌||◌, List, [], ◌∷◌, ◌++◌, map, ◌⊎◌, ◌≡◌, ltb, leb, eqb, length, take, drop, set, Result, Ok, Err}
use Rattle.runs.specs.declared.Run.{Run}
use Rattle.runs.specs.Runs.{run, blank_run, runs_of, run_byte}
use Rattle.numbers.specs.Lists.{All, list_after}
use Rattle.numbers.specs.Pairs.{is_odd, pairs, flat}
use Rattle.numbers.specs.Range.{Range, range, total}
use Rattle.numbers.specs.Refusals.{refuse, first, Answer, accepted, refused, answer, refusal_number, told, each_extent}
use Rattle.numbers.specs.Sums.{top}
use Rattle.regionmap.specs.declared.RegionMap.{RegionMap}
use Rattle.numbers.specs.declared.refusal.Refusal.{Refusal}

-- ---- what a map means

-- A region's data placement: its runs in data order, its capacity, its published length, and the room for runs after the first.
pub record Placement : Type 0 where
  pub runs : List Run
  pub capacity : ℕ
  pub len : ℕ
  pub room : ℕ

-- The runs that starts and file offsets stand for: each ends where the next starts, the last at the capacity.
unfoldable pub runs_to : ℕ → ℕ → ℕ → List ℕ → List ℕ → List Run
runs_to cap s f [] fs = run s f (cap - s) ∷ []
runs_to cap s f (t ∷ ts) [] = run s f (cap - s) ∷ []
runs_to cap s f (t ∷ ts) (g ∷ gs) = run s f (t - s) ∷ runs_to cap t g ts gs

-- What a map means with the lists that hold its runs after the first.
abbrev pub placement_of : RegionMap → List ℕ → List ℕ → Placement
placement_of m ss fs =
    record {
      runs = runs_to m.capacity 0 m.first (take m.count ss) (take m.count fs);
      capacity = m.capacity;
      len = m.len;
      room = m.room;
    }

-- "At most 4,084 extents, and as much room."
abbrev pub limit : ℕ
limit = 4084

-- Runs that lie end to end from position a to position b.
abbrev pub EndToEnd : ℕ → List Run → ℕ → Type 0
EndToEnd a [] b = a ≡ b
EndToEnd a (r ∷ rs) b = (r.start ≡ a) × EndToEnd (a + r.len) rs b

-- The runs lie end to end up to the capacity and end in the file at or below 2^64 - 1, the length is at most the capacity, and the
-- runs after the first have room.
pub record Sound (m : Placement) : Type 0 where
  pub laid : EndToEnd 0 m.runs m.capacity
  pub inside : All (λ (r : Run). r.file + r.len ≤ top) m.runs
  pub whole : m.capacity ≤ top
  pub fits : m.len ≤ m.capacity
  pub counted : length m.runs ≤ m.room + 1
  pub limited : m.room ≤ limit

-- What every map that a call handed back has, with the lists as that call left them.
pub record Valid (m : RegionMap) (ss fs : List ℕ) : Type 0 where
  pub starts : m.count ≤ length ss
  pub files : m.count ≤ length fs
  pub sound : Sound (placement_of m ss fs)

-- ---- answers

-- The placement of the map handed back, or document 01's number.
abbrev pub outcome_of : Result RegionMap Refusal → List ℕ → List ℕ → Answer Placement
outcome_of (Ok m) ss fs = accepted (placement_of m ss fs)
outcome_of (Err e) ss fs = refused (refusal_number e)

-- The map that is handed back, if one is, is valid.
abbrev pub HandsValid : Result RegionMap Refusal → List ℕ → List ℕ → Type 0
HandsValid (Ok m) ss fs = Valid m ss fs
HandsValid (Err e) ss fs = Unit {0}

-- 1. "fewer places than: .. extents or room for a map's runs"
unfoldable pub too_few : ℕ → List ℕ → List ℕ → Bool
too_few n ss fs = ltb (length ss) n || ltb (length fs) n

-- ---- from_extents

-- 1. "a list of pairs is odd .., or a count is over its limit", or too few places
unfoldable pub extents_fail : List ℕ → List ℕ → List ℕ → Bool
extents_fail xs ss fs = is_odd xs || ltb limit (length (pairs xs)) || too_few (length (pairs xs)) ss fs

-- 11. "An extent's offset + length passes 2^64 - 1"
unfoldable pub passes_top : Range → Bool
passes_top x = ltb top (x.offset + x.len)

-- 1, then 11 and 12 extent by extent, then 23. "A .. length .. passes the .. capacity"
unfoldable pub from_refusal : List ℕ → ℕ → List ℕ → List ℕ → ℕ
from_refusal xs len ss fs =
    first (refuse 1 (extents_fail xs ss fs) ∷
    each_extent passes_top 0 (pairs xs) ∷
    refuse 23 (ltb (total (pairs xs)) len) ∷ [])

-- "A map without extents has an empty first run at byte 0"
abbrev pub with_first : List Run → List Run
with_first [] = blank_run ∷ []
with_first (r ∷ rs) = r ∷ rs

-- The runs of extents, with room for just those after the first.
abbrev pub placed : List Range → ℕ → Placement
placed xs n = record { runs = with_first (runs_of xs); capacity = total xs; len = n; room = length (runs_of xs) - 1 }

-- What `from_extents` promises: its answer, every slot of the two lists, and a valid map.
pub record Made (xs : List ℕ) (len : ℕ) (ss₀ ss fs₀ fs : List ℕ) (r : Result RegionMap Refusal) : Type 0 where
  pub answer : outcome_of r ss fs ≡ answer (from_refusal xs len ss₀ fs₀) (placed (pairs xs) len)
  pub starts : ss ≡ list_after (not (eqb (from_refusal xs len ss₀ fs₀) 0)) (map (λ (q : Run). q.start) (drop 1 (runs_of (pairs xs)))) ss₀
  pub files : fs ≡ list_after (not (eqb (from_refusal xs len ss₀ fs₀) 0)) (map (λ (q : Run). q.file) (drop 1 (runs_of (pairs xs)))) fs₀
  pub valid : HandsValid r ss fs

-- ---- with_room and publish_len

-- 1. room over the limit, or too few places for the room that the map has then
unfoldable pub room_refusal : Placement → ℕ → List ℕ → List ℕ → ℕ
room_refusal m n ss fs = refuse 1 (ltb limit n || too_few (max m.room n) ss fs)

-- Room for n runs after the first, or what there was where that is more.
abbrev pub with_room : Placement → ℕ → Placement
with_room m n = record { runs = m.runs; capacity = m.capacity; len = m.len; room = max m.room n }

-- What `with_room` promises of any record; it only reads the lists.
pub record Roomed (m : RegionMap) (n : ℕ) (ss fs : List ℕ) (r : Result RegionMap Refusal) : Type 0 where
  pub answer : outcome_of r ss fs ≡ answer (room_refusal (placement_of m ss fs) n ss fs) (with_room (placement_of m ss fs) n)
  pub valid : Valid m ss fs → HandsValid r ss fs

-- "`publish_len` never lowers."
abbrev pub published : Placement → ℕ → Placement
published m n = record { runs = m.runs; capacity = m.capacity; len = max m.len n; room = m.room }

-- What `publish_len` promises of any record, with whatever lists hold its runs; 23 is "A .. length .. passes the .. capacity".
pub record Published (m : RegionMap) (n : ℕ) (r : Result RegionMap Refusal) : Type 0 where
  pub answer : (ss fs : List ℕ) → outcome_of r ss fs ≡ answer (refuse 23 (ltb m.capacity n)) (published (placement_of m ss fs) n)
  pub valid : (ss fs : List ℕ) → Valid m ss fs → HandsValid r ss fs

-- ---- extend

-- Where the last run ends in the file.
unfoldable pub file_end : List Run → ℕ
file_end [] = 0
file_end (r ∷ []) = r.file + r.len
file_end (r ∷ q ∷ rs) = file_end (q ∷ rs)

-- The last run n longer.
unfoldable pub longer : ℕ → List Run → List Run
longer n [] = []
longer n (r ∷ []) = run r.start r.file (r.len + n) ∷ []
longer n (r ∷ q ∷ rs) = r ∷ longer n (q ∷ rs)

-- "`extend` joins only to the last run, else takes one place of the room."
unfoldable pub extended_runs : List Run → ℕ → ℕ → ℕ → List Run
extended_runs rs cap f n = cond (eqb (file_end rs) f) (longer n rs) (rs ++ (run cap f n ∷ []))

-- The bytes come behind the capacity; how many are published stays as it was.
abbrev pub extended : Placement → ℕ → ℕ → Placement
extended m f n = record { runs = extended_runs m.runs m.capacity f n; capacity = m.capacity + n; len = m.len; room = m.room }

-- 11 is also "a map extension is empty"; 12, "The sum of extents passes 2^64 - 1", of the capacity; 19, "a run beyond the room".
unfoldable pub extend_refusal : Placement → ℕ → ℕ → List ℕ → List ℕ → ℕ
extend_refusal m f n ss fs =
    first (refuse 1 (too_few m.room ss fs) ∷
    refuse 11 (eqb n 0 || passes_top (range f n)) ∷
    refuse 12 (ltb top (m.capacity + n)) ∷
    refuse 19 (not (eqb (file_end m.runs) f) && ltb m.room (length m.runs)) ∷ [])

-- The map that is handed back has a run more.
abbrev pub takes_place : RegionMap → Result RegionMap Refusal → Bool
takes_place m (Ok m') = ltb m.count m'.count
takes_place m (Err e) = false

-- What `extend` promises. Of any record: no slot changes but the one that a new run takes, which gets its start and file offset.
pub record Extended (m : RegionMap) (f n : ℕ) (ss₀ ss fs₀ fs : List ℕ) (r : Result RegionMap Refusal) : Type 0 where
  pub answer : Valid m ss₀ fs₀ → outcome_of r ss fs ≡ answer (extend_refusal (placement_of m ss₀ fs₀) f n ss₀ fs₀) (extended (placement_of m ss₀ fs₀) f n)
  pub valid : Valid m ss₀ fs₀ → HandsValid r ss fs
  pub starts : ss ≡ cond (takes_place m r) (set ss₀ m.count m.capacity) ss₀
  pub files : fs ≡ cond (takes_place m r) (set fs₀ m.count f) fs₀

-- ---- locate

-- The last run of the list whose start is at or below p; r where there is none.
unfoldable pub last_at : ℕ → Run → List Run → Run
last_at p r [] = r
last_at p r (q ∷ qs) = last_at p (cond (leb q.start p) q r) qs

-- "A position at a join belongs to the later run."
abbrev pub run_of : List Run → ℕ → Run
run_of rs p = last_at p blank_run rs

-- "Position p in the run starting at s with file offset f is byte f + (p - s)."
abbrev pub byte_at : Placement → ℕ → ℕ
byte_at m p = run_byte (run_of m.runs p) p

-- 23. "A .. range passes the data"; 24. "The range crosses a run's end."
unfoldable pub locate_refusal : Placement → ℕ → ℕ → List ℕ → List ℕ → ℕ
locate_refusal m p n ss fs =
    first (refuse 1 (too_few m.room ss fs) ∷
    refuse 23 (ltb m.len (p + n)) ∷
    refuse 24 (ltb ((run_of m.runs p).start + (run_of m.runs p).len) (p + n)) ∷ [])

-- What `locate` answers.
abbrev pub locate_of : Placement → ℕ → ℕ → List ℕ → List ℕ → Answer ℕ
locate_of m p n ss fs = answer (locate_refusal m p n ss fs) (byte_at m p)

-- What `locate` promises of every map that a call handed back.
pub record Answered (m : RegionMap) (p n : ℕ) (ss fs : List ℕ) (r : Result ℕ Refusal) : Type 0 where
  pub answer : Valid m ss fs → told r ≡ locate_of (placement_of m ss fs) p n ss fs

-- ---- runs

-- Runs as ranges of the file.
abbrev pub ranges_of : List Run → List Range
ranges_of rs = map (λ (r : Run). range r.file r.len) rs

-- 1. too few places for a map's runs after the first, a record of more runs than its room, or too few places for all
-- its runs in the list that is written
unfoldable pub runs_fail : RegionMap → List ℕ → List ℕ → List ℕ → Bool
runs_fail m ss fs out = too_few m.room ss fs || ltb m.room m.count || ltb (length (pairs out)) (m.count + 1)

-- What `runs` promises of any record: how many runs it wrote, and every slot of the list, which has their file offsets and lengths.
pub record Written (m : RegionMap) (ss fs out₀ out : List ℕ) (c : Answer ℕ) : Type 0 where
  pub answer : c ≡ answer (refuse 1 (runs_fail m ss fs out₀)) (length (placement_of m ss fs).runs)
  pub slots : out ≡ list_after (runs_fail m ss fs out₀) (flat (ranges_of (placement_of m ss fs).runs)) out₀

-- ---- the extents of a map

-- The map's runs are those of the extents xs, behind an empty first run where the map began without extents.
pub record Lays (m : Placement) (xs : List Range) : Type 0 where
  pub runs : (m.runs ≡ runs_of xs) ⊎ (m.runs ≡ blank_run ∷ runs_of xs)
  pub capacity : m.capacity ≡ total xs
