use Rattle.std.proofs.Common.{◌∙◌, List, ap}
use Rattle.numbers.specs.Pairs.{ranges_in}
use Rattle.numbers.specs.Range.{Range, total}
use Rattle.numbers.specs.Sums.{stop}
use Rattle.numbers.proofs.Chunks.{chunk_pairs}
use Rattle.freemap.proofs.sum.bytes_of.Goals as goal

pub returns : goal.returns
returns c = c.sum_bytes.ensures ∙ ap (λ (rs : List Range). stop (total rs)) (ap ranges_in c.as_chunks.ensures.front ∙ chunk_pairs c.args.ranges.now)
