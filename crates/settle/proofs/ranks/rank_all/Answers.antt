-- `settle::ranks::rank_all` meets its contract: the keys of both kinds stand one behind the other.
use Rattle.settle.specs.Regions.{lent_of}
use Rattle.settle.proofs.Ranking.{keys_room, keys_more, all_keys, all_ready, ranks_of}
use Rattle.settle.proofs.ranks.rank_all.Goals as goal

pub key-requires : goal.key-requires
key-requires c = let p = c.requires in let a = c.args in keys_room (lent_of a.usable.records) (lent_of a.unavailable.records) a.usable.enough a.unavailable.enough

pub key-requires-2 : goal.key-requires-2
key-requires-2 c = let p = c.requires in let a = c.args in keys_more (lent_of a.usable.records) (lent_of a.unavailable.records) a.usable.enough a.unavailable.enough _ c.key.ensures.size

pub rank_keys-requires : goal.rank_keys-requires
rank_keys-requires c = let p = c.requires in let a = c.args in all_ready (lent_of a.usable.records) (lent_of a.unavailable.records) a.usable.enough
    a.unavailable.enough _ _ c.key.ensures c.key-2.ensures _ p

pub returns : goal.returns
returns c = let p = c.requires in let a = c.args in ranks_of (all_keys (lent_of a.usable.records) (lent_of a.unavailable.records) a.usable.enough
    a.unavailable.enough _ _ c.key.ensures c.key-2.ensures) _ c.rank_keys.ensures
