-- Document 01, "The plan (added)", open, by examples: one that is accepted, with the world that it begins, and some that are refused
-- for each number from 1 to 15. `opens` (proofs/Opens) computes them.
use Rattle.std.specs.Prelude.{ℕ, ◌+◌, ◌*◌, ◌^◌, Bool, true, false, List, [], ◌∷◌, ◌++◌, map, ◌≡◌, replicate, take, Some, None}
use Rattle.footprint.specs.declared.Entry.{Entry}
use Rattle.footprint.specs.declared.Header.{Header}
use Rattle.footprint.specs.declared.Limits.{Limits}
use Rattle.footprint.specs.declared.RegionKind.{RegionKind}
use Rattle.footprint.specs.declared.RegionKind.TheVariants.{Append, Page, Slot}
use Rattle.model.specs.Calls.{locate, answer_to}
use Rattle.model.specs.Listing.{main_a}
use Rattle.model.specs.Open.{Record, Opening, open_refusal, opened, open_answer}
use Rattle.model.specs.Region.{Region}
use Rattle.model.specs.World.{tag_row, held, physical, logical}
use Rattle.numbers.specs.Range.{range}
use Rattle.numbers.specs.Refusals.{accepted, refused}

-- ---- what an open is made of

-- A container whose table ends at 8192.
abbrev pub limits : (log2 len : ℕ) → Limits
limits log2 len = record { log2_block = log2; table_end = 8192; file_len = len }

-- Flags 0; the span begins with both header blocks, of 4096 bytes each.
abbrev pub entry : RegionKind → (count seq start end size capacity : ℕ) → Entry
entry kind count seq start end size capacity =
    record {
      kind = kind;
      flags = 0;
      extent_count = count;
      header_a = start;
      header_b = start + 4096;
      span_start = start;
      span_end = end;
      data_size = size;
      capacity = capacity;
      footprint_seq = seq;
    }

abbrev pub header : (number : ℕ) → RegionKind → (flags : ℕ) → (ready : Bool) → (log2 count : ℕ) → Header
header number kind flags ready log2 count =
    record { region_id = number; kind = kind; flags = flags; ready = ready; log2_block = log2; extent_count = count }

abbrev pub filed : (number tag : ℕ) → (name : List ℕ) → Entry → Header → Record
filed number tag name e h = record { number = number; tag = tag; name = name; entry = e; header = h }

-- The headers' extent lists are pairs, one behind the other.
abbrev pub opening : Limits → List Record → (extents : List ℕ) → (scratch places : ℕ) → Opening
opening lim rs xs scratch places = record { limits = lim; records = rs; extents = xs; scratch = scratch; places = places }

-- "logB" in bytes, as `main_a` is "mainA".
abbrev pub log_b : List ℕ
log_b = 108 ∷ 111 ∷ 103 ∷ 66 ∷ []

-- ---- one that is accepted

-- Region 1 of tag 7: two extents of 16 blocks, the second where the first ends, and 24 blocks published.
abbrev pub record1 : Record
record1 = filed 1 7 main_a (entry Append 2 5 8192 147456 98304 131072) (header 1 Append 0 true 12 2)

-- Region 2 of tag 3: two extents of a block with a block between them, nine blocks of 512 bytes published, and an extra extent.
abbrev pub record2 : Record
record2 = filed 2 3 log_b (entry Page 2 4 147456 167936 4608 8192) (header 2 Page 0 true 9 3)

abbrev pub two : Opening
two =
    opening (limits 12 262144) (record1 ∷ record2 ∷ [])
    (16384 ∷ 65536 ∷ 81920 ∷ 65536 ∷ 155648 ∷ 4096 ∷ 163840 ∷ 4096 ∷ 167936 ∷ 4096 ∷ []) 128 64

pub record Accepting : Type 0 where
  pub number : open_refusal two ≡ 0
  pub answer : open_answer two ≡ accepted (opened two)
  -- "Last number = the highest sequence number"
  pub last : (opened two).last ≡ 5
  -- the committed ones: "An extra extent's bytes count as free."
  pub extents : map (λ (r : Region). r.extents) (opened two).regions
      ≡ (range 16384 65536 ∷ range 81920 65536 ∷ []) ∷ (range 155648 4096 ∷ range 163840 4096 ∷ []) ∷ []
  -- "Held is the sum of footprints": 2 + 32 blocks and 2 + 2.
  pub held_bytes : held (opened two) ≡ 38 * 4096
  -- "A region's published length is then its entry's data size"
  pub published : map (λ (r : Region). r.published) (opened two).regions ≡ 98304 ∷ 4608 ∷ []
  -- "in tag order"; "no tag has a cap"
  pub rows : (opened two).rows ≡ tag_row 3 None ∷ tag_row 7 None ∷ []
  -- "physical totals count footprints, logical ones published lengths"
  pub totals : (physical (opened two) 7 ≡ 34 * 4096) × (logical (opened two) 7 ≡ 98304)
  -- Across the join of two extents: byte 16384 + 65535.
  pub joined : answer_to (opened two) (locate 1 65535 2) ≡ accepted (Some 81919)
  -- 23. "A .. range passes the data", though the capacity is 131072.
  pub past : (answer_to (opened two) (locate 1 98303 1) ≡ accepted (Some 114687)) × (answer_to (opened two) (locate 1 98303 2) ≡ refused 23)
  -- "A position at a join belongs to the later run."
  pub later : answer_to (opened two) (locate 2 4096 1) ≡ accepted (Some 163840)
  -- 24. "The range crosses a run's end", where the extents don't adjoin.
  pub crossing : answer_to (opened two) (locate 2 4095 2) ≡ refused 24

-- ---- those that are refused

-- `one` is accepted: region 1 alone, with one extent of four blocks, two of them published, and as little scratch and as few places
-- as will do. Each function below is `one` with some of its parts left open.
abbrev pub alone : Limits → (name : List ℕ) → Entry → Header → (extents : List ℕ) → (scratch places : ℕ) → Opening
alone lim name e h xs scratch places = opening lim (filed 1 7 name e h ∷ []) xs scratch places

abbrev pub small : RegionKind → (count size capacity : ℕ) → Entry
small kind count size capacity = entry kind count 1 8192 32768 size capacity

abbrev pub ready : Header
ready = header 1 Append 0 true 12 1

abbrev pub extent : List ℕ
extent = 16384 ∷ 16384 ∷ []

-- With one more, in the container's table.
abbrev pub one_extent_more : List ℕ
one_extent_more = 16384 ∷ 16384 ∷ 0 ∷ 4096 ∷ []

abbrev pub one : Opening
one = alone (limits 12 262144) main_a (small Append 1 8192 16384) ready extent 48 64

abbrev pub within : (log2 len : ℕ) → Opening
within log2 len = alone (limits log2 len) main_a (small Append 1 8192 16384) ready extent 48 64

abbrev pub lent : (name xs : List ℕ) → (scratch places : ℕ) → Opening
lent name xs scratch places = alone (limits 12 262144) name (small Append 1 8192 16384) ready xs scratch places

-- The entry's count, with scratch for as many.
abbrev pub counted : ℕ → Opening
counted n = alone (limits 12 262144) main_a (small Append n 8192 16384) ready extent (16 * (n + 2)) 64

abbrev pub sized : (size capacity : ℕ) → Opening
sized size capacity = alone (limits 12 262144) main_a (small Append 1 size capacity) ready extent 48 64

abbrev pub headed : Header → Opening
headed h = alone (limits 12 262144) main_a (small Append 1 8192 16384) h extent 48 64

-- The kind, and the extents that the header lists.
abbrev pub listed : RegionKind → (count : ℕ) → List ℕ → Opening
listed kind count xs = alone (limits 12 262144) main_a (small kind 1 8192 16384) (header 1 kind 0 true 12 count) xs 48 64

-- n regions of no extents, all alike.
abbrev pub alike : ℕ → Opening
alike n = opening (limits 12 262144) (replicate n (filed 1 7 main_a (small Append 0 0 0) (header 1 Append 0 true 12 0))) [] (32 * n) 64

-- `one` and a second region of the same form from `start` on, of sequence number 2.
abbrev pub beside : (number : ℕ) → (name : List ℕ) → (start : ℕ) → Opening
beside number name start =
    opening (limits 12 262144)
    (filed 1 7 main_a (small Append 1 8192 16384) ready ∷
    filed number 7 name (entry Append 1 2 start (start + 24576) 8192 16384) (header number Append 0 true 12 1) ∷ [])
    (16384 ∷ 16384 ∷ (start + 8192) ∷ 16384 ∷ []) 96 64

pub record Refusing : Type 0 where
  pub accepted_one : open_refusal one ≡ 0
  -- 1. "More than 64 records": 64 of the same number are refused for that.
  pub records : (open_refusal (alike 65) ≡ 1) × (open_refusal (alike 64) ≡ 14)
  -- "or an entry's count above 60": 60 are refused since the header counts one.
  pub count : (open_refusal (counted 61) ≡ 1) × (open_refusal (counted 60) ≡ 9)
  -- "max_extents(L) .. limits the entry's and the header's extent count", "244 at 12"
  pub header_count : (open_refusal (listed Append 245 (replicate 490 4096)) ≡ 1) × (open_refusal (listed Append 244 (replicate 488 4096)) ≡ 9)
  -- "names of 0 to 24 bytes"
  pub name : (open_refusal (lent (replicate 25 97) extent 48 64) ≡ 1) × (open_refusal (lent (replicate 24 97) extent 48 64) ≡ 0)
  -- "a list of pairs is odd"
  pub odd : open_refusal (lent main_a (16384 ∷ 16384 ∷ 0 ∷ []) 48 64) ≡ 1
  -- "or not the header's count"
  pub pair_too_many : open_refusal (lent main_a one_extent_more 48 64) ≡ 1
  -- "Too short is fewer places than: .. 16 numbers a range for scratch of .. open"
  pub scratch : open_refusal (lent main_a extent 47 64) ≡ 1
  -- ".. room for a map's runs", of "Up to 64 regions"
  pub places : open_refusal (lent main_a extent 48 63) ≡ 1
  -- 2. "L is out of range"
  pub block_log : (open_refusal (within 11 262144) ≡ 2) × (open_refusal (within 17 262144) ≡ 2)
  -- "or the header's block log is neither L nor 9"
  pub header_log : open_refusal (headed (header 1 Append 0 true 10 1)) ≡ 2
  -- 3. "At open, length < table end or length > 2^63 - 1."
  pub length : (open_refusal (within 12 8191) ≡ 3) × (open_refusal (within 12 (2 ^ 63)) ≡ 3)
  -- 4. "The added entry checks fail": "data size <= capacity", "no committed extent .. of length 0"
  pub checks : (open_refusal (sized 20480 16384) ≡ 4) × (open_refusal (listed Append 1 (16384 ∷ 0 ∷ [])) ≡ 4)
  -- 5. "Region numbers differ."
  pub numbers : open_refusal (headed (header 2 Append 0 true 12 1)) ≡ 5
  -- 6. "Kinds differ."
  pub kinds : open_refusal (headed (header 1 Page 0 true 12 1)) ≡ 6
  -- 7. "Flags differ."
  pub flags : open_refusal (headed (header 1 Append 1 true 12 1)) ≡ 7
  -- 8. "The header isn't Ready."
  pub not_ready : open_refusal (headed (header 1 Append 0 false 12 1)) ≡ 8
  -- 9. "The header's extent count is not allowed."
  pub fewer : open_refusal (listed Append 0 []) ≡ 9
  -- "unless the kind is Slot, one more; that extra one is handed out unchecked"
  pub one_more : (open_refusal (listed Slot 2 one_extent_more) ≡ 9) × (open_refusal (listed Append 2 one_extent_more) ≡ 0)
  -- 10. "Data size .. is no multiple of the header's block."
  pub multiple : open_refusal (sized 8191 16384) ≡ 10
  -- 11. "it ends or starts outside the span"
  pub outside : open_refusal (listed Append 1 (20480 ∷ 16384 ∷ [])) ≡ 11
  -- 12. "The sum of extents .. isn't the capacity"
  pub capacity : open_refusal (sized 8192 12288) ≡ 12
  -- 13. "The footprint overlaps itself."
  pub overlap : open_refusal (listed Append 1 (12288 ∷ 16384 ∷ [])) ≡ 13
  -- 14. "at open two records share it", the region number
  pub shared : (open_refusal (beside 1 log_b 32768) ≡ 14) × (open_refusal (beside 2 log_b 32768) ≡ 0)
  -- 15. "Settlement marks a region overlapped": both have the bytes from 28672 to 32768
  pub overlapped : open_refusal (beside 2 log_b 28672) ≡ 15
  -- "or renamed": the same name with a higher sequence number
  pub renamed : open_refusal (beside 2 main_a 32768) ≡ 15
  -- "A refused call returns its number alone".
  pub answer : open_answer (beside 2 main_a 32768) ≡ refused 15

-- ---- the order of the tests

-- Two regions: the first one's data size and how many extents its header counts, and the number and block log of the second one's header.
abbrev pub in_turn : (size count number log2 : ℕ) → Opening
in_turn size count number log2 =
    opening (limits 12 262144)
    (filed 1 7 main_a (small Append 1 size 16384) (header 1 Append 0 true 12 count) ∷
    filed 2 7 log_b (entry Append 1 2 32768 57344 8192 16384) (header number Append 0 true log2 1) ∷ [])
    (take (2 * count) extent ++ (40960 ∷ 16384 ∷ [])) 96 64

-- No records.
abbrev pub empty : (log2 len : ℕ) → Opening
empty log2 len = opening (limits log2 len) [] [] 0 64

pub record InOrder : Type 0 where
  pub neither : open_refusal (in_turn 8192 1 2 12) ≡ 0
  -- "the first record that fails gives its lowest number": 5 of the second alone, and beside 9 of the first
  pub in-turn : (open_refusal (in_turn 8192 1 9 12) ≡ 5) × (open_refusal (in_turn 8192 0 9 12) ≡ 9)
  -- "1, 2 and 3 are tested over all, each record is then checked": 4 of the first alone, and beside 2 of the second
  pub over_all : (open_refusal (in_turn 20480 1 2 12) ≡ 4) × (open_refusal (in_turn 20480 1 2 13) ≡ 2)
  -- "then 14, then all are settled"
  pub last : open_refusal (beside 1 main_a 32768) ≡ 14
  -- No records: L 11, a length below the table end, and neither; "0 if none" is the last number.
  pub empty_log : open_refusal (empty 11 262144) ≡ 2
  pub empty_length : open_refusal (empty 12 8191) ≡ 3
  pub empty_accepted : (open_refusal (empty 12 8192) ≡ 0) × ((opened (empty 12 8192)).last ≡ 0)
