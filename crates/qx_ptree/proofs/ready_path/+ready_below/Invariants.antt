use Rattle.qx_ptree.proofs.ready_path.+ready_below.Given as goal

-- the levels above the leaves
abbrev pub decreases-ready_below : goal.decreases-ready_below
decreases-ready_below g l = l.level
