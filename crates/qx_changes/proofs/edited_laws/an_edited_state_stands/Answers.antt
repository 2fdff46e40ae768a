use Rattle.qx_changes.proofs.EditedStates.{begins_itself, edit_stands}
use Rattle.qx_changes.proofs.edited_laws.an_edited_state_stands.Goals as goal

pub returns-clause-edited : goal.returns-clause-edited
returns-clause-edited c = λ m n w v after x t e ps held told stands begins of written made ends shown. edit_stands m n w v after x t e ps held told stands begins of written made ends shown

pub returns-clause-laid : goal.returns-clause-laid
returns-clause-laid c = begins_itself
