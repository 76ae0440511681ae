-- Document 01, "The plan (added)", open's records: what a record by value stands for.
use Rattle.std.specs.Prelude.{ℕ, List, ◌++◌, true, length, take, replicate}
use Rattle.footprint.specs.declared.RegionKind.TheVariants.{Append}
use Rattle.model.specs.Open as model
use Rattle.model.specs.Region as region
use Rattle.plan_record.specs.declared.Record.{Record}
use Rattle.plan_record.specs.declared.names.Name.{Name}

-- A name of n bytes that stands at the front of 24; bytes past these are 0, so that a length over 24 is refused as such.
abbrev pub name_of : List ℕ → ℕ → List ℕ
name_of bytes n = take n (bytes ++ replicate n 0)

abbrev pub text_of : Name → List ℕ
text_of n = name_of n.bytes n.len

-- The empty name.
abbrev pub no_name : Name
no_name = record { bytes = replicate 24 0; len = 0 }

abbrev pub record_of : Record → model.Record
record_of r = record { number = r.number; tag = r.tag; name = text_of r.name; entry = r.entry; header = r.header }

-- No record.
abbrev pub blank_record : Record
blank_record =
    record {
      number = 0;
      tag = 0;
      name = no_name;
      entry =
          record {
            kind = Append;
            flags = 0;
            extent_count = 0;
            header_a = 0;
            header_b = 0;
            span_start = 0;
            span_end = 0;
            data_size = 0;
            capacity = 0;
            footprint_seq = 0;
          };
      header = record { region_id = 0; kind = Append; flags = 0; ready = true; log2_block = 0; extent_count = 0 };
    }

-- A region as open's own record: `handed_again` (proofs/Filing) says that open makes the same region of it.
abbrev pub handed_from : region.Region → model.Record
handed_from r =
    record {
      number = r.number;
      tag = r.tag;
      name = r.name;
      entry =
          record {
            kind = r.kind;
            flags = r.flags;
            extent_count = length r.extents;
            header_a = r.header-a;
            header_b = r.header-b;
            span_start = r.span-start;
            span_end = r.span-end;
            data_size = r.published;
            capacity = region.capacity r;
            footprint_seq = r.seq;
          };
      header =
          record {
            region_id = r.number;
            kind = r.kind;
            flags = r.flags;
            ready = true;
            log2_block = r.log2;
            extent_count = length r.extents;
          };
    }
