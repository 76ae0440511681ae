use Rattle.listing.proofs.Filling.{front_start, front_on}
use Rattle.listing.proofs.listing.Listing.fill.Goals as goal

pub loop-bytes-init : goal.loop-bytes-init
loop-bytes-init c = record { front = front_start c.args.self.now c.args.block.now c.args.out.now }

pub loop-bytes-preserved : goal.loop-bytes-preserved
loop-bytes-preserved c =
    record {
      front =
          front_on c.args.self.now c.args.block.now c.args.out.now c.loop-bytes.invariant.front c.next-next.ensures c.put-text.ensures.puts c.put-text.ensures.short
          c.if-out-text-ge105.true c.loop-bytes-test.true;
    }
