use lib.ListN.{drop}
use mathlib.Core.Path.{◌≡◌}
use Rattle.sample.specs.Words.{past_lists}
use Rattle.sample.proofs.words.past_lists.Given as goal

abbrev pub invariant-loop : goal.invariant-loop
invariant-loop l = l.rest ≡ past_lists l.counter (drop l.from l.w)
