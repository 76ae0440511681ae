-- A plan as flat numbers, and a plan from them.
use Rattle.numbers.specs.Refusals.{refusal_number}
use Rattle.plan_record.specs.Plan.{Reply}
use Rattle.std.specs.Prelude.{List, map, Ok, Err, Some, None}
use Rattle.flat.specs.Flat.{kind_of, accounts_from, flat_accounts}
use Rattle.flat_plan.specs.declared.FlatOutcome.{FlatOutcome}
use Rattle.flat_plan.specs.declared.FlatPlan.{FlatPlan}
use Rattle.flat_plan.specs.declared.FlatReply.{FlatReply}
use Rattle.flat_plan.specs.declared.region.FlatRegion.{FlatRegion}
use Rattle.footprint.specs.Footprint.{kind_code}
use Rattle.plan_record.specs.declared.Outcome.{Outcome}
use Rattle.plan_record.specs.declared.Plan.{Plan}
use Rattle.plan_record.specs.declared.Region.{Region}

abbrev pub region_from : FlatRegion → Region
region_from r =
    record {
      number = r.number;
      tag = r.tag;
      name = record { bytes = r.name; len = r.name_len };
      kind = kind_of r.kind;
      flags = r.flags;
      log2_block = r.log2_block;
      header_a = r.header_a;
      header_b = r.header_b;
      span_start = r.span_start;
      span_end = r.span_end;
      footprint_seq = r.footprint_seq;
      extent_count = r.extent_count;
      row = r.row;
      map = record { first = r.first; len = r.len; capacity = r.capacity; count = r.runs; room = r.room };
    }

abbrev pub regions_from : List FlatRegion → List Region
regions_from rs = map region_from rs

unfoldable pub plan_from : FlatPlan → Plan
plan_from p =
    record {
      limits = record { log2_block = p.log2_block; table_end = p.table_end; file_len = p.file_len };
      last = p.last;
      count = p.count;
      regions = regions_from p.regions;
      accounts = accounts_from p.accounts;
    }

abbrev pub flat_region : Region → FlatRegion
flat_region r =
    record {
      number = r.number;
      tag = r.tag;
      name = r.name.bytes;
      name_len = r.name.len;
      kind = kind_code r.kind;
      flags = r.flags;
      log2_block = r.log2_block;
      header_a = r.header_a;
      header_b = r.header_b;
      span_start = r.span_start;
      span_end = r.span_end;
      footprint_seq = r.footprint_seq;
      extent_count = r.extent_count;
      row = r.row;
      first = r.map.first;
      len = r.map.len;
      capacity = r.map.capacity;
      runs = r.map.count;
      room = r.map.room;
    }

abbrev pub flat_regions : List Region → List FlatRegion
flat_regions rs = map flat_region rs

-- `from_flat` (proofs/Again) says that the plan from these is the same again.
unfoldable pub flat_plan : Plan → FlatPlan
flat_plan p =
    record {
      log2_block = p.limits.log2_block;
      table_end = p.limits.table_end;
      file_len = p.limits.file_len;
      last = p.last;
      count = p.count;
      regions = flat_regions p.regions;
      accounts = flat_accounts p.accounts;
    }

-- Done is 0, a byte 1 and the byte, a refusal 2 and its number.
abbrev pub flat_reply : Reply → FlatReply
flat_reply (Ok (Some a)) = record { kind = 1; value = a }
flat_reply (Ok None) = record { kind = 0; value = 0 }
flat_reply (Err n) = record { kind = 2; value = refusal_number n }

abbrev pub flat_outcome : Outcome → FlatOutcome
flat_outcome r = record { kind = (flat_reply r.reply).kind; value = (flat_reply r.reply).value; plan = flat_plan r.plan }
