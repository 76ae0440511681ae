use Rattle.plan_record.proofs.Searching.{all_taken, all_told}
use Rattle.plan_record.proofs.search.Piece.in_order.Goals as goal

pub returns-in_err-map : goal.returns-in_err-map
returns-in_err-map c = all_taken _ _ _ _ c.args.ranges.now _ c.args.gaps.now _ c.requires _ _ _ c.complement.ensures c.in_err-map.was

pub returns : goal.returns
returns c = all_told _ _ _ _ c.args.ranges.now _ c.args.gaps.now _ c.requires _ _ _ c.complement.ensures c.in_ok-map.was c.first_fit.ensures
