-- `settle::ranks::rank_keys` meets its contract: the sorted keys are the keys.
use Rattle.settle.proofs.Ranking.{keys_ready, keys_ranked}
use Rattle.settle.proofs.ranks.rank_keys.Goals as goal

pub assign-requires : goal.assign-requires
assign-requires c = let p = c.requires in keys_ready _ _ _ c.sort_pairs-sorted.ensures p.0 _ p.1

pub returns : goal.returns
returns c = keys_ranked _ _ _ c.sort_pairs-sorted.ensures c.requires.0 _ c.assign.ensures
