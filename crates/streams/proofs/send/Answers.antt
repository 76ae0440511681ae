use Rattle.std.proofs.Common.{◌+◌}
use Rattle.streams.proofs.Known.{sent_part, appends_keeps, sent_more, part_within}
use Rattle.streams.proofs.send.Goals as goal
use Rattle.streams.proofs.send.Goals.{in-Ok, in-Err+else-ne}

pub returns-in-Ok-eq0 : goal.returns-in-Ok-eq0
returns-in-Ok-eq0 g c = sent_part _ _ _ (c.loop.at + c.in-Ok-eq0.field-0) _ (sent_more _ _ _ c.args.text.now _ _ c.loop.invariant.wrote c.in-Ok-eq0.ensures.bytes)

pub returns-then-ne : goal.returns-then-ne
returns-then-ne g c = sent_part _ _ _ c.loop.at _ (appends_keeps _ _ _ _ c.loop.invariant.wrote c.in-Err.ensures.bytes)

pub loop-preserved : goal.loop-preserved
loop-preserved g c =
    let h = c.loop.invariant in
    elim c.match-write.branch [
      | in-Ok w ↦
          rw w.at-is
          (record {
            within = part_within _ _ _ h.within w.in-Ok.ensures.bound;
            wrote = sent_more _ _ _ c.args.text.now _ _ h.wrote w.in-Ok.ensures.bytes;
          })
      | in-Err+else-ne w ↦ rw w.at-is (record { within = h.within; wrote = appends_keeps _ _ _ _ h.wrote w.in-Err.ensures.bytes })
    ]

pub returns : goal.returns
returns g c = sent_part _ _ _ c.loop.at _ c.loop.invariant.wrote
