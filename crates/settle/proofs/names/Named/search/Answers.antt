-- `settle::names::Named::search` meets its contract: where no other hash is alike there is nothing to search; else no record in front of j is a rival.
use mathlib.Core.Path.{sym, ◌∙◌}
use native.Mathlib.Omega.{arith}
use Rattle.settle.specs.Regions.{lent_of}
use Rattle.settle.proofs.Naming.{alone_none, seek_begins, seek_found, seek_on, seek_past}
use Rattle.settle.proofs.names.Named.search.Goals as goal
use Rattle.settle.proofs.names.Named.search.Goals.{then-self-j+else-rival, else-self-j}

pub returns-then-alike-eq0-2 : goal.returns-then-alike-eq0-2
returns-then-alike-eq0-2 c = let p = c.requires in let m = c.min-behind.ensures in
    sym (alone_none (lent_of c.args.self.complete.records) _ _ _ _ _ _ c.args.self.listed p.0 p.1 p.2 (sym c.alike.ensures ∙ c.if-alike-eq0.true)
    (omega arith) (sym c.alike-then-alike-eq0.ensures ∙ c.if-alike-eq0-2.true))

pub loop-j-init : goal.loop-j-init
loop-j-init c = seek_begins _ _ _ _

pub returns-then-rival : goal.returns-then-rival
returns-then-rival c = sym (seek_found c.loop-j.invariant c.loop-j-test.true (sym c.rival.ensures ∙ c.if-rival.true))

pub loop-j-preserved : goal.loop-j-preserved
loop-j-preserved c = let p = c.requires in elim c.if-self-j.branch [
  | then-self-j+else-rival w ↦ seek_on c.loop-j.invariant c.loop-j-test.true (sym w.rival.ensures ∙ w.if-rival.false)
  | else-self-j w ↦ seek_past c.loop-j.invariant c.loop-j-test.true _ c.args.self.listed p.0 (λ e. w.if-self-j.false (e ∙ sym p.1))
]
