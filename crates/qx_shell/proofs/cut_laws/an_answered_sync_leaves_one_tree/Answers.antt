use Rattle.qx_shell.specs.Occasions.{occasions_of}
use Rattle.qx_shell.proofs.AllowedTrees.{one_tree}
use Rattle.qx_shell.proofs.LastTurns.{fsync_turn_settles, sync_turn_settles}
use Rattle.qx_shell.proofs.RunEnds.{mount_marked, run_marked}
use Rattle.qx_shell.proofs.cut_laws.an_answered_sync_leaves_one_tree.Goals as goal

pub returns-clause-sync : goal.returns-clause-sync
returns-clause-sync c = sync_turn_settles

pub returns-clause-fsync : goal.returns-clause-fsync
returns-clause-fsync c = fsync_turn_settles

pub returns-clause-one : goal.returns-clause-one
returns-clause-one c = one_tree

pub returns-clause-mount : goal.returns-clause-mount
returns-clause-mount c how img moment s starts = mount_marked img moment s how starts

pub returns-clause-turns : goal.returns-clause-turns
returns-clause-turns c how h status r m among = run_marked r.start r.moments (occasions_of h) r.made r.reach (mount_marked h.starting r.moment r.start how r.starts) r.turns m among
