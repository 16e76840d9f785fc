use Rattle.test_talking.proofs.lengths.followed_by_zeros.Given as goal

abbrev pub decreases-loop-left : goal.decreases-loop-left
decreases-loop-left l = l.left
