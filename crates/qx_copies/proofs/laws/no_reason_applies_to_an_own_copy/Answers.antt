use Rattle.qx_view.proofs.RoomForPointers.{tree_sized}
use Rattle.qx_copies.proofs.OwnReasons.{dots_pass, inodes_pass, names_pass, nodes_pass, tails_pass}
use Rattle.qx_copies.proofs.laws.no_reason_applies_to_an_own_copy.Goals as goal

pub returns-clause-nodes : goal.returns-clause-nodes
returns-clause-nodes c = λ m r c t tree is has own. nodes_pass m r c t (tree_sized m r t tree) tree is has own

pub returns-clause-dots : goal.returns-clause-dots
returns-clause-dots c = λ m r c t tree is has own. dots_pass m r c t (tree_sized m r t tree) tree is has own

pub returns-clause-inodes : goal.returns-clause-inodes
returns-clause-inodes c = λ m r c t tree is has own. inodes_pass m r c t (tree_sized m r t tree) tree is has own

pub returns-clause-long_names : goal.returns-clause-long_names
returns-clause-long_names c = λ m r c t tree is has own. names_pass m r c t (tree_sized m r t tree) tree is has own

pub returns-clause-tails : goal.returns-clause-tails
returns-clause-tails c = λ m r c t tree is has own. tails_pass m r c t (tree_sized m r t tree) tree is has own
