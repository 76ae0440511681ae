-- `numbers::pairs_of` meets its contract: its chunks of two are the pairs of an even list.
use Rattle.std.proofs.Common.{rules, ◌≡◌, ◌∙◌, ap, ◌%◌, length}
use Rattle.numbers.specs.Pairs.{ranges_in}
use Rattle.numbers.proofs.Chunks.{chunk_pairs}
use Rattle.numbers.proofs.Pairs.{even_list}
use Rattle.numbers.proofs.paired.pairs_of.Goals as goal

pub returns-then-is_empty : goal.returns-then-is_empty
returns-then-is_empty c =
    let e : length c.args.list.now % 2 ≡ 0 = search (rules, c.if-is_empty.ensures, c.as_chunks.ensures.back_len) in
    (even_list _ e, ap ranges_in c.as_chunks.ensures.front ∙ chunk_pairs c.args.list.now)
