-- More records than open takes.
use Prim.Native.Nat.{ℕ, ◌<◌}
use mathlib.Core.List.{List}
use mathlib.Core.Path.{◌≡◌, sym}
use lib.ListN.{length, length-map}
use borrow.Author.Tests.{lt-ltb}
use Rattle.std.specs.Prelude.{Err}
use Rattle.flat_plan.specs.Record.{record_from, records_from}
use Rattle.flat_plan.specs.declared.record.FlatRecord.{FlatRecord}
use Rattle.footprint.specs.declared.Limits.{Limits}
use Rattle.model.specs.Open.{Opening, open_refusal, lists_fail_in}
use Rattle.numbers.specs.Refusals.{first, refuse}
use Rattle.numbers.specs.declared.refusal.Refusal.TheVariants.{Lists}
use Rattle.plan_open.specs.Open.{opening_of, Opens}
use Rattle.plan_open.proofs.Answering.{refused_opens}
use Rattle.plan_record.specs.Plan.{blank_plan}
use Rattle.plan_record.specs.Record.{record_of}
use Rattle.plan_record.specs.declared.Plan.{Plan}

-- "More than 64 records .. answer 1"
many_refused : (o : Opening) → 64 < length o.records → open_refusal o ≡ 1
unfolding open_refusal lists_fail_in first refuse
many_refused o h = simp (lt-ltb _ _ h)

pub opens_many : (lim : Limits) (rs : List FlatRecord) (listed scratch xs ss fs : List ℕ) (b : Plan) → 64 < length rs → b ≡ blank_plan
    → Opens (opening_of lim (records_from rs) listed scratch xs ss fs) xs xs ss ss fs fs (record { reply = Err Lists; plan = b })
opens_many lim rs listed scratch xs ss fs b h e =
    let o = opening_of lim (records_from rs) listed scratch xs ss fs in
    refused_opens o Lists (sym (many_refused o (simp (length-map (records_from rs) record_of, length-map rs record_from) h))) xs ss fs b e
