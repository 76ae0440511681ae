use Rattle.std.proofs.Common.{take}
use Rattle.plan_settled.specs.Settled.{FieldsIn}
use Rattle.plan_settled.proofs.fields.list_fields.Given as goal

abbrev pub invariant-loop-i : goal.invariant-loop-i
invariant-loop-i l =
    let a = l.initial in FieldsIn (take l.i l.records) a.seqs l.seqs a.counts l.counts a.lens l.lens a.names l.names
