use Rattle.std.proofs.Common.{ℕ, ◌≡◌, ◌-◌, ◌<◌}
use Rattle.std.specs.Prelude.{Option}
use Rattle.accounting.specs.Entries.{Usage}
use Rattle.accounting.specs.Inner.{gathered}
use Rattle.accounting.proofs.Counting.{Counting}
use Rattle.accounting.proofs.entries.count_all.Given as goal

abbrev pub invariant-loop-i : goal.invariant-loop-i
invariant-loop-i g l =
    (us : ℕ → Option Usage) → ((i : ℕ) (u : Option Usage) → i < l.n → goal.F-post g l.usage_at i u → u ≡ us i) → Counting (gathered us 0 l.n) (gathered us l.i (l.n - l.i)) l.accounts
