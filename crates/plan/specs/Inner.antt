-- What the inner functions of the calls compute.
use Rattle.numbers.specs.declared.refusal.Refusal.{Refusal}
use Rattle.std.specs.Prelude.{ℕ, suc, ◌+◌, ◌-◌, ◌*◌, ◌≤◌, ◌<◌, min, max, List, ◌∷◌, ◌++◌, ◌≡◌, length, take, drop, set, get_or, Err}
use Rattle.footprint.specs.declared.RegionKind.TheVariants.{Append}
use Rattle.model.specs.Calls.{step, create_tests, grow_tests}
use Rattle.numbers.specs.Refusals.{first}
use Rattle.numbers.specs.Sums.{top, stop}
use Rattle.plan_record.specs.Inner.{block_in}
use Rattle.plan_record.specs.Record.{text_of}
use Rattle.plan_record.specs.Plan.{regions_of, world_of, Valid, spot_of, past_region}
use Rattle.plan_record.specs.declared.Outcome.{Outcome}
use Rattle.plan_record.specs.declared.Plan.{Plan}
use Rattle.plan_record.specs.declared.names.Name.{Name}
use Rattle.plan_record.specs.declared.Region.{Region}
use Rattle.regionmap.specs.declared.RegionMap.{RegionMap}

-- A refused call.
abbrev pub refusing : Plan → Refusal → Outcome
refusing p n = record { reply = Err n; plan = p }

-- Regions of which the one at i goes behind the first n, and those between move up.
unfoldable pub moved : ℕ → ℕ → List Region → List Region
moved i n rs = (take i rs ++ take (n - suc i) (drop (suc i) rs)) ++ (get_or rs i past_region ∷ drop n rs)

-- A plan without the region at i.
abbrev pub rotated : Plan → ℕ → Plan
rotated p i =
    record {
      limits = p.limits;
      last = p.last;
      count = length (regions_of p) - 1;
      regions = moved i (length (regions_of p)) p.regions;
      accounts = p.accounts;
    }

-- A region with an extent more: "the span widens to cover it".
abbrev pub stretched : Region → RegionMap → ℕ → ℕ → Region
stretched g m a n =
    record {
      number = g.number;
      tag = g.tag;
      name = g.name;
      kind = g.kind;
      flags = g.flags;
      log2_block = g.log2_block;
      header_a = g.header_a;
      header_b = g.header_b;
      span_start = min g.span_start a;
      span_end = max g.span_end (stop (a + n));
      footprint_seq = g.footprint_seq;
      extent_count = g.extent_count + 1;
      row = g.row;
      map = m;
    }

-- A region that was just created in a row, with its header blocks at a.
abbrev pub fresh : (row id tag : ℕ) → Name → (log2 a block seq : ℕ) → Region
fresh row id tag name log2 a block seq =
    record {
      number = id;
      tag = tag;
      name = name;
      kind = Append;
      flags = 0;
      log2_block = log2;
      header_a = a;
      header_b = stop (a + block);
      span_start = a;
      span_end = stop (a + 2 * block);
      footprint_seq = seq;
      extent_count = 0;
      row = row;
      map = record { first = 0; len = 0; capacity = 0; count = 0; room = 60 };
    }

-- What the tests of create tell that come before the one for room, of a valid plan; and what they have shown of any record where none failed.
pub record CreateTested (p : Plan) (id tag : ℕ) (name : List ℕ) (n : ℕ) : Type 0 where
  pub told : (xs ss fs : List ℕ) → Valid p xs ss fs → first (create_tests (world_of p xs) id tag name) ≡ n
  pub short : n ≡ 0 → length name ≤ 24
  pub few : n ≡ 0 → length (regions_of p) < 64
  pub below : n ≡ 0 → p.last ≡ top → ⊥

-- Of grow, for the region at i.
pub record GrowTested (p : Plan) (i n : ℕ) : Type 0 where
  pub told : (xs ss fs : List ℕ) → Valid p xs ss fs → (id : ℕ) → i ≡ spot_of p id → first (grow_tests (world_of p xs) id) ≡ n
  pub few : n ≡ 0 → (get_or p.regions i past_region).extent_count < 60

-- A plan with a region more.
abbrev pub with_new : Plan → Region → Plan
with_new p g =
    record {
      limits = p.limits;
      last = p.last + 1;
      count = length (regions_of p) + 1;
      regions = set p.regions (length (regions_of p)) g;
      accounts = p.accounts;
    }

-- The bytes of the next extent of the region at i.
abbrev pub len_at : Plan → ℕ → ℕ
len_at p i = step (get_or p.regions i past_region).extent_count * block_in p

-- What `add_region` makes, with the name's bytes at the front of 24.
pub record Adds (p : Plan) (id tag : ℕ) (name : List ℕ) (at : ℕ) (r : Plan) : Type 0 where
  pub own : Name
  pub named : text_of own ≡ name
  pub is : r ≡ with_new p (fresh (get_or p.regions (length (regions_of p)) past_region).row id tag own p.limits.log2_block at (block_in p) (p.last + 1))
