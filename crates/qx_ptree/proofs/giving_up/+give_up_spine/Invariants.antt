use Rattle.qx_ptree.proofs.giving_up.+give_up_spine.Given as goal

-- proposed from what the function passes where it calls itself
abbrev pub decreases-give_up_spine : goal.decreases-give_up_spine
decreases-give_up_spine g l = l.above
