-- `settle::struck::strike` meets its contract: both passes together are the definitions.
use Prim.Native.Nat.{ℕ}
use mathlib.Core.Path.{refl, ◌∙◌}
use lib.ListN.{length-replicate}
use Rattle.settle.specs.Regions.{lent_of}
use Rattle.settle.proofs.Striking.{strike_ready, strike_marks}
use Rattle.settle.proofs.struck.strike.Goals as goal

pub sweep_both-requires : goal.sweep_both-requires
sweep_both-requires c = let p = c.requires in let a = c.args in
    strike_ready (lent_of a.usable.records) (lent_of a.unavailable.records) a.usable.enough a.unavailable.enough c.lay_out.new.s _ _ c.lay_out.ensures c.rank_all.ensures
    (c.rank_all.auto.ranks ∙ length-replicate {A = ℕ} 2048 0)

pub returns : goal.returns
returns c = let p = c.requires in let a = c.args in
    strike_marks (lent_of a.usable.records) (lent_of a.unavailable.records) a.usable.enough a.unavailable.enough c.lay_out.new.s _ _ c.lay_out.ensures c.rank_all.ensures refl refl c.sweep_both.ensures
