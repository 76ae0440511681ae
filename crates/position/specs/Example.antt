-- The theorem's premise is met: an open with two records, of which one has two extents that join and the other an extra one.
use Rattle.std.specs.Prelude.{ℕ, ◌-◌, List, ◌∷◌, ◌++◌, ◌≡◌, length, replicate, []}
use Rattle.model.specs.Open as model
use Rattle.model.specs.Opens.{limits, record1, record2, two}
use Rattle.plan_record.specs.Plan.{blank_plan}
use Rattle.plan_record.specs.declared.Record.{Record}
use Rattle.position.specs.Runs.{Whole, Arguments, opening_with}

-- A record with its name at the front of 24 bytes.
abbrev pub file : model.Record → Record
file r =
    record {
      number = r.number;
      tag = r.tag;
      name = record { bytes = r.name ++ replicate (24 - length r.name) 0; len = length r.name };
      entry = r.entry;
      header = r.header;
    }

-- The model's own example as open is called with it.
abbrev pub arguments : Arguments
arguments =
    record {
      limits = limits 12 262144;
      records = file record1 ∷ file record2 ∷ [];
      listed = two.extents;
    }

-- Scratch and lists as long as need be.
abbrev pub scratch : List ℕ
scratch = replicate 128 0

abbrev pub lists : Whole
lists = record { plan = blank_plan; extents = replicate 7680 0; starts = replicate 3840 0; files = replicate 3840 0 }

pub record Example : Type 0 where
  -- these arguments say to the model what its example says, and it accepts them
  pub opening : opening_with arguments scratch lists ≡ two
  pub accepted : model.open_refusal (opening_with arguments scratch lists) ≡ 0
