-- `accounting::Accounting::remove` meets its contract: a usage, with what `extent_len` answers.
use Prim.Native.Nat.{ℕ}
use mathlib.Core.Path.{subst}
use Rattle.tagspace.specs.Row.{remove_usage}
use Rattle.accounting.specs.Table.{Posts, on_row}
use Rattle.accounting.proofs.Accounting.remove.Goals as goal

pub returns : goal.returns
returns c = subst (λ (n : ℕ). Posts c.args.self (on_row c.args.tag (remove_usage c.args.data_size n)) c.remove_usage.result) c.extent_len_or.ensures c.remove_usage.ensures
