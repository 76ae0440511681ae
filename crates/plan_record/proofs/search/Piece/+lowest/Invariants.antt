use Rattle.plan_record.proofs.search.Piece.+lowest.Given as goal

abbrev pub decreases-lowest : goal.decreases-lowest
decreases-lowest l = l.depth
