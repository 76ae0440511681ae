-- A record of open as flat numbers, and a record from them.
use Rattle.std.specs.Prelude.{List, map}
use Rattle.flat.specs.Flat.{kind_of}
use Rattle.flat_plan.specs.declared.record.FlatRecord.{FlatRecord}
use Rattle.footprint.specs.Footprint.{kind_code}
use Rattle.plan_record.specs.declared.Record.{Record}

abbrev pub record_from : FlatRecord → Record
record_from r =
    record {
      number = r.number;
      tag = r.tag;
      name = record { bytes = r.name; len = r.name_len };
      entry =
          record {
            kind = kind_of r.kind;
            flags = r.flags;
            extent_count = r.extent_count;
            header_a = r.header_a;
            header_b = r.header_b;
            span_start = r.span_start;
            span_end = r.span_end;
            data_size = r.data_size;
            capacity = r.capacity;
            footprint_seq = r.footprint_seq;
          };
      header =
          record {
            region_id = r.hnumber;
            kind = kind_of r.hkind;
            flags = r.hflags;
            ready = r.hready;
            log2_block = r.hlog2;
            extent_count = r.hcount;
          };
    }

abbrev pub records_from : List FlatRecord → List Record
records_from rs = map record_from rs

abbrev pub flat_record : Record → FlatRecord
flat_record r =
    record {
      number = r.number;
      tag = r.tag;
      name = r.name.bytes;
      name_len = r.name.len;
      kind = kind_code r.entry.kind;
      flags = r.entry.flags;
      extent_count = r.entry.extent_count;
      header_a = r.entry.header_a;
      header_b = r.entry.header_b;
      span_start = r.entry.span_start;
      span_end = r.entry.span_end;
      data_size = r.entry.data_size;
      capacity = r.entry.capacity;
      footprint_seq = r.entry.footprint_seq;
      hnumber = r.header.region_id;
      hkind = kind_code r.header.kind;
      hflags = r.header.flags;
      hready = r.header.ready;
      hlog2 = r.header.log2_block;
      hcount = r.header.extent_count;
    }
