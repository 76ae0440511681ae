-- `settle::names::hash_of` meets its contract: the bytes in front are mixed in.
use Rattle.settle.proofs.Naming.{mix_on, mix_ends}
use Rattle.settle.proofs.names.hash_of.Goals as goal

pub loop-byte-preserved : goal.loop-byte-preserved
loop-byte-preserved c = mix_on c.loop-byte.invariant c.loop-byte-test.true

pub returns : goal.returns
returns c = mix_ends c.loop-byte.invariant c.loop-byte-test.false
