use native.Mathlib.Omega.{arith}
use Rattle.numbers.proofs.Pairs.{length_pairs}
use Rattle.sort.proofs.Halves.{odd_whole, short_whole, long_parted, parted_at}
use Rattle.sort.proofs.part.part_pairs.Goals as goal

pub pivot-offset-requires : goal.pivot-offset-requires
pivot-offset-requires c = omega (arith, length_pairs c.args.s.now)

pub returns-then-s-ne0-clause-none : goal.returns-then-s-ne0-clause-none
returns-then-s-ne0-clause-none c = odd_whole _ c.if-s-ne0.true

pub returns-then-s-lt34-clause-none : goal.returns-then-s-lt34-clause-none
returns-then-s-lt34-clause-none c = short_whole _ c.if-s-ne0.false (omega arith)

pub returns : goal.returns
returns c =
    record {
      none = long_parted _ c.if-s-ne0.false (omega arith);
      parted = parted_at _ _ _ _ _ c.partition-front.ensures c.pivot-offset.ensures;
    }
