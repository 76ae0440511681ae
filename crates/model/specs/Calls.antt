-- Document 01, "The plan (added)" and "Why a call is turned down": what each call answers, and what it makes of the world.
use Rattle.std.specs.Prelude.{ℕ, ◌+◌, ◌*◌, ◌/◌, ◌%◌, ◌^◌, min, max, Bool, cond, not, ◌&&◌, ◌||◌, List, [], ◌∷◌, ◌++◌, eqb, leb, ltb, length, Option, None, Some}
use Rattle.footprint.specs.Footprint.{kind_code}
use Rattle.footprint.specs.declared.RegionKind.TheVariants.{Append, Slot}
use Rattle.model.specs.Region.{Region, capacity, with_data, id_of, region_of, on_region, without}
use Rattle.model.specs.Span.{least_free, is_none, or_zero}
use Rattle.model.specs.World.{World, TagRow, tag_row, block, account_of, has_row, put_row, with_tag}
use Rattle.numbers.specs.Keyed.{has_key}
use Rattle.numbers.specs.Lists.{any, same}
use Rattle.numbers.specs.Range.{range}
use Rattle.numbers.specs.Refusals.{refuse, first, Answer, answer, number_of, value_or}
use Rattle.numbers.specs.Sums.{top}
use Rattle.regionmap.specs.Map.{run_of}
use Rattle.runs.specs.declared.Run.{Run}
use Rattle.runs.specs.Runs.{runs_of, run_byte}
use Rattle.tagspace.specs.Row.{fits}

pub data Call : Type 0 where
  -- "create(id, tag, name)"
  create : (id tag : ℕ) (name : List ℕ) → Call
  -- "grow(id)"
  grow : (id : ℕ) → Call
  -- "publish(id, length)"
  publish : (id len : ℕ) → Call
  -- "drop(id)"
  drop : (id : ℕ) → Call
  -- "cap(tag, limit or none)"
  cap : (tag : ℕ) (limit : Option ℕ) → Call
  -- "locate(id, pos, n)"
  locate : (id pos n : ℕ) → Call

-- ---- what the tests ask

-- 14. "The region number is held"; 16. "The region is unknown."
unfoldable pub known : World → ℕ → Bool
known w id = has_key id_of id w.regions

-- 18. "The name is held."
unfoldable pub named : World → List ℕ → Bool
named w name = any (λ (r : Region). same r.name name) w.regions

-- 19. A "97th tag": of those that ever had a row, since rows stay.
unfoldable pub tag_full : World → ℕ → Bool
tag_full w tag = not (has_row w tag) && leb 96 (length w.rows)

-- 21. "The cap doesn't allow it": "Create and grow ask `fits` for 2 blocks or the step".
unfoldable pub cap_fails : World → ℕ → ℕ → Bool
cap_fails w tag n = not (fits n (account_of w tag))

-- 22. "No span is free."
unfoldable pub room_fails : World → ℕ → Bool
room_fails w n = is_none (least_free w n)

abbrev pub region_in : World → ℕ → Region
region_in w id = region_of id w.regions

abbrev pub with_regions : World → List Region → World
with_regions w rs = record { limits = w.limits; regions = rs; last = w.last; rows = w.rows }

abbrev pub with_rows : World → List TagRow → World
with_rows w ts = record { limits = w.limits; regions = w.regions; last = w.last; rows = ts }

-- ---- create

-- "first fit of two blocks"
abbrev pub header_len : World → ℕ
header_len w = 2 * block w

-- What is tested before room is looked for.
abbrev pub create_tests : World → (id tag : ℕ) → List ℕ → List ℕ
create_tests w id tag name =
    -- names "of 0 to 24 bytes": "a count is over its limit"
    refuse 1 (ltb 24 (length name)) ∷
    refuse 14 (known w id) ∷
    refuse 18 (named w name) ∷
    -- "A 65th region, .. 97th tag"
    refuse 19 (leb 64 (length w.regions) || tag_full w tag) ∷
    -- "At create the last number is 2^64 - 1."
    refuse 20 (eqb w.last top) ∷
    refuse 21 (cap_fails w tag (header_len w)) ∷ []

-- "an Append region, flags 0, header block log L, with the next number (last number + 1 ..), published length 0, header blocks at
-- a and a + block ..; its span is those two blocks, its capacity 0"
abbrev pub created : World → (id tag : ℕ) → List ℕ → ℕ → Region
created w id tag name a =
    record {
      number = id;
      tag = tag;
      name = name;
      kind = Append;
      flags = 0;
      log2 = w.limits.log2_block;
      header-a = a;
      header-b = a + block w;
      extents = [];
      published = 0;
      span-start = a;
      span-end = a + 2 * block w;
      seq = w.last + 1;
    }

-- Last, behind the others; its number is "from then the last"; its tag has a row.
abbrev pub created_at : World → (id tag : ℕ) → List ℕ → ℕ → World
created_at w id tag name a =
    record {
      limits = w.limits;
      regions = w.regions ++ (created w id tag name a ∷ []);
      last = w.last + 1;
      rows = with_tag tag w.rows;
    }

-- ---- grow

-- "Step n is 16 times 2^(n / 2 rounded down) for n = 0 to 23 and 32,768 above"
unfoldable pub step : ℕ → ℕ
step n = cond (leb n 23) (16 * 2 ^ (n / 2)) 32768

-- "step n blocks, n its extent count"
abbrev pub step_len : World → Region → ℕ
step_len w r = step (length r.extents) * block w

-- What is tested before room is looked for.
abbrev pub grow_tests : World → ℕ → List ℕ
grow_tests w id =
    refuse 16 (not (known w id)) ∷
    -- "Grow of a Slot region."
    refuse 17 (eqb (kind_code (region_in w id).kind) (kind_code Slot)) ∷
    -- A "61st extent"
    refuse 19 (leb 60 (length (region_in w id).extents)) ∷
    refuse 21 (cap_fails w (region_in w id).tag (step_len w (region_in w id))) ∷ []

-- "one more extent ..; the span widens to cover it and the capacity gains its length"
abbrev pub grown : (a n : ℕ) → Region → Region
grown a n r = with_data (r.extents ++ (range a n ∷ [])) r.published (min r.span-start a) (max r.span-end (a + n)) r

-- With that region grown at a.
abbrev pub grown_at : World → (id a : ℕ) → World
grown_at w id a = with_regions w (on_region id (grown a (step_len w (region_in w id))) w.regions)

-- ---- publish

-- 10. ".. published length is no multiple of the header's block", which can be asked only of a known region; 23. "A .. length ..
-- passes the .. capacity"
abbrev pub publish_tests : World → (id len : ℕ) → List ℕ
publish_tests w id len =
    refuse 16 (not (known w id)) ∷
    refuse 10 (not (eqb (len % 2 ^ (region_in w id).log2) 0)) ∷
    refuse 23 (ltb (capacity (region_in w id)) len) ∷ []

-- "`publish_len` never lowers."
abbrev pub published_to : ℕ → Region → Region
published_to len r = with_data r.extents (max r.published len) r.span-start r.span-end r

-- The world with the region published to len.
abbrev pub published_at : World → (id len : ℕ) → World
published_at w id len = with_regions w (on_region id (published_to len) w.regions)

-- ---- drop and cap

-- 16. "The region is unknown."
abbrev pub drop_tests : World → ℕ → List ℕ
drop_tests w id = refuse 16 (not (known w id)) ∷ []

-- "its bytes are free for the next call"; its tag's row stays.
abbrev pub dropped : World → ℕ → World
dropped w id = with_regions w (without id w.regions)

-- 19. "A .. 97th tag".
abbrev pub cap_tests : World → ℕ → List ℕ
cap_tests w tag = refuse 19 (tag_full w tag) ∷ []

-- A cap below what is used is a cap like others.
abbrev pub capped : World → ℕ → Option ℕ → World
capped w tag limit = with_rows w (put_row (tag_row tag limit) w.rows)

-- ---- locate

-- "A position at a join belongs to the later run."
abbrev pub run_at : Region → ℕ → Run
run_at r pos = run_of (runs_of r.extents) pos

-- 23. "A .. range passes the data"; 24. "The range crosses a run's end."
abbrev pub locate_tests : World → (id pos n : ℕ) → List ℕ
locate_tests w id pos n =
    refuse 16 (not (known w id)) ∷
    refuse 23 (ltb (region_in w id).published (pos + n)) ∷
    refuse 24 (ltb ((run_at (region_in w id) pos).start + (run_at (region_in w id) pos).len) (pos + n)) ∷ []

-- ---- what a call answers, and the world after it

-- "Where several apply, the lowest number is given": the first test that fails, in rising order but for publish.
unfoldable pub refusal_to : World → Call → ℕ
refusal_to w (create id tag name) = first (create_tests w id tag name ++ (refuse 22 (room_fails w (header_len w)) ∷ []))
refusal_to w (grow id) = first (grow_tests w id ++ (refuse 22 (room_fails w (step_len w (region_in w id))) ∷ []))
refusal_to w (publish id len) = first (publish_tests w id len)
refusal_to w (drop id) = first (drop_tests w id)
refusal_to w (cap tag limit) = first (cap_tests w tag)
refusal_to w (locate id pos n) = first (locate_tests w id pos n)

-- The byte of an accepted call: "placed", by create that of its first header block, or "located": "Position p in the run starting
-- at s with file offset f is byte f + (p - s)."
unfoldable pub byte_for : World → Call → Option ℕ
byte_for w (create id tag name) = least_free w (header_len w)
byte_for w (grow id) = least_free w (step_len w (region_in w id))
byte_for w (publish id len) = None
byte_for w (drop id) = None
byte_for w (cap tag limit) = None
byte_for w (locate id pos n) = Some (run_byte (run_at (region_in w id) pos) pos)

-- Accepted, with its byte where it has one, or "its number alone".
abbrev pub answer_to : World → Call → Answer (Option ℕ)
answer_to w c = answer (refusal_to w c) (byte_for w c)

-- What an accepted call makes of the world; create and grow take the place that they answer.
unfoldable pub accept : World → Call → World
accept w (create id tag name) = created_at w id tag name (or_zero (byte_for w (create id tag name)))
accept w (grow id) = grown_at w id (or_zero (byte_for w (grow id)))
accept w (publish id len) = published_at w id len
accept w (drop id) = dropped w id
accept w (cap tag limit) = capped w tag limit
accept w (locate id pos n) = w

-- "A refused call .. changes nothing".
unfoldable pub next : World → Call → World
next w c = cond (eqb (refusal_to w c) 0) (accept w c) w

-- The listing's "refusal (0 if accepted)" and "at (byte placed or located, else 0)".
abbrev pub refusal_shown : Answer (Option ℕ) → ℕ
refusal_shown a = number_of a

abbrev pub at_shown : Answer (Option ℕ) → ℕ
at_shown a = or_zero (value_or None a)

-- ---- a list of calls: "Each call gets the plan as the last one left it"

unfoldable pub world_after : World → List Call → World
world_after w [] = w
world_after w (c ∷ cs) = world_after (next w c) cs

-- The worlds along it, the last one included.
unfoldable pub worlds_along : World → List Call → List World
worlds_along w [] = w ∷ []
worlds_along w (c ∷ cs) = w ∷ worlds_along (next w c) cs

unfoldable pub answers_along : World → List Call → List (Answer (Option ℕ))
answers_along w [] = []
answers_along w (c ∷ cs) = answer_to w c ∷ answers_along (next w c) cs
