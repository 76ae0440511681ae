-- `settle::records::Records::range_count` meets its contract: the chain is the sum, stopped.
use Prim.Native.Nat.{ℕ, ◌+◌}
use mathlib.Core.Path.{◌≡◌, ap, ◌∙◌}
use native.Mathlib.Omega.{arith}
use lib.ListN.{take}
use Rattle.numbers.specs.Sums.{stop}
use Rattle.std.proofs.Common.{rules}
use Rattle.std.specs.List.{fold}
use Rattle.settle.proofs.Chains.{fold_stop}
use Rattle.settle.proofs.records.Records.range_count.Goals as goal

pub returns : goal.returns
returns c = let r = c.args.self in
    let e : c.fold.result ≡ fold (λ (s x : ℕ). stop (s + x)) 0 (take r.count r.counts.now) = search rules in
    e ∙ fold_stop 0 (take r.count r.counts.now) (omega arith) ∙ ap stop (omega arith)
