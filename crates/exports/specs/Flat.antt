-- Answers as flat numbers, and records from them.
use Rattle.std.specs.Prelude.{ℕ, Bool, true, false, cond, List, [], ◌≡◌, eqb, length, get_or, Option, None, Some, Result}
use Rattle.flat.specs.Flat.{kind_of, flat_of}
use Rattle.flat.specs.declared.FlatOption.{FlatOption}
use Rattle.footprint.specs.Footprint.{footprint_of, refusal_of, check_of}
use Rattle.footprint.specs.declared.Entry.{Entry}
use Rattle.footprint.specs.declared.Header.{Header}
use Rattle.footprint.specs.declared.Limits.{Limits}
use Rattle.freemap.specs.declared.FreeMap.{FreeMap}
use Rattle.layout.specs.Layout.{choose_log2_block}
use Rattle.layout.specs.declared.Evidence.{Evidence}
use Rattle.numbers.specs.Range.{Range}
use Rattle.numbers.specs.Pairs.{flat}
use Rattle.numbers.specs.Refusals.{Answer, accepted, refused, number_of, value_or, told, refusal_in}
use Rattle.numbers.specs.declared.refusal.Refusal.{Refusal}
use Rattle.regionmap.specs.declared.RegionMap.{RegionMap}

-- r is an answer of which P holds, as flat numbers.
pub record Flattened {A B : Type 0} (flatten : A → B) (P : A → Type 0) (r : B) : Type 0 where
  pub answer : A
  pub promise : P answer
  pub flat : r ≡ flatten answer

abbrev pub limits_of : ℕ → ℕ → ℕ → Limits
limits_of log2 table file = record { log2_block = log2; table_end = table; file_len = file }

abbrev pub entry_of : ℕ → ℕ → ℕ → ℕ → ℕ → ℕ → ℕ → ℕ → ℕ → ℕ → Entry
entry_of kind f count a b start end size cap seq =
    record {
      kind = kind_of kind;
      flags = f;
      extent_count = count;
      header_a = a;
      header_b = b;
      span_start = start;
      span_end = end;
      data_size = size;
      capacity = cap;
      footprint_seq = seq;
    }

abbrev pub header_of : ℕ → ℕ → ℕ → Bool → ℕ → ℕ → Header
header_of id kind f r log2 count =
    record {
      region_id = id;
      kind = kind_of kind;
      flags = f;
      ready = r;
      log2_block = log2;
      extent_count = count;
    }

-- "that filled front part is handed back", the empty one where the region is refused.
abbrev pub part_of : Limits → Entry → List ℕ → ℕ → List ℕ
part_of lim e xs n = cond (eqb n 0) (flat (footprint_of lim e xs)) []

-- What `check_region` promises, of the part its length: the refusal, and the extra's slots, which keep the old range where no extra is
-- handed out.
pub record FlatChecked (lim : Limits) (id : ℕ) (e : Entry) (h : Header) (xs s₀ : List ℕ) (n refusal : ℕ) (old extra : Range) : Type 0 where
  pub number : refusal ≡ refusal_of lim id e h xs (length s₀)
  pub count : n ≡ length (part_of lim e xs (refusal_of lim id e h xs (length s₀)))
  pub handed : extra ≡ get_or (value_or [] (check_of lim id e h xs (length s₀))) 0 old

-- The number of an answer, and its extra in two slots, which keep the old range where there is none.
pub record Told (a : Answer (List Range)) (refusal : ℕ) (old extra : Range) : Type 0 where
  pub number : refusal ≡ number_of a
  pub handed : extra ≡ get_or (value_or [] a) 0 old

-- An answer of which P holds, told.
pub record FlatTold (P : Answer (List Range) → Type 0) (refusal : ℕ) (old extra : Range) : Type 0 where
  pub answer : Answer (List Range)
  pub promise : P answer
  pub told : Told answer refusal old extra

abbrev pub map_from : ℕ → ℕ → ℕ → ℕ → ℕ → RegionMap
map_from f l cap n r = record { first = f; len = l; capacity = cap; count = n; room = r }

-- 0 and the record handed back, or the refusal and the record as it was.
pub record HandedOut {M : Type 0} (a : Result M Refusal) (refusal : ℕ) (old new : M) : Type 0 where
  pub number : refusal ≡ refusal_in a
  pub lent : new ≡ value_or old (told a)

-- An answer of which P holds, handed out.
pub record FlatHanded {M : Type 0} (P : Result M Refusal → Type 0) (refusal : ℕ) (old new : M) : Type 0 where
  pub answer : Result M Refusal
  pub promise : P answer
  pub handed : HandedOut answer refusal old new

abbrev pub free_from : ℕ → ℕ → FreeMap
free_from n t = record { count = n; tail = t }

-- A place as a refusal and a number or none.
pub record FlatFit (p : Answer (Option ℕ)) (refusal : ℕ) (r : FlatOption) : Type 0 where
  pub number : refusal ≡ number_of p
  pub place : r ≡ flat_of (value_or None p)

abbrev pub evidence_of : ℕ → ℕ → ℕ → ℕ → ℕ → Evidence
evidence_of l p o m d = record { logical_block = l; physical_block = p; optimal_write = o; dio_mem_align = m; dio_offset_align = d }

-- A request by whether there is one, and its number.
abbrev pub request_of : Bool → ℕ → Option ℕ
request_of true n = Some n
request_of false n = None

-- The log of six numbers in a list, the figures and a request.
abbrev pub log_in : List ℕ → ℕ
log_in c = choose_log2_block (evidence_of (get_or c 0 0) (get_or c 1 0) (get_or c 2 0) (get_or c 3 0) (get_or c 4 0)) (Some (get_or c 5 0))
