use Rattle.qx_file.proofs.ChangedContents.{content_past, content_put}
use Rattle.qx_file.proofs.PutContent.{byte_put_after, byte_stays_after, leaf_put_after, leaf_stays_after}
use Rattle.qx_file.proofs.laws.what_is_put_is_the_nodes.Goals as goal

pub returns-clause-put : goal.returns-clause-put
returns-clause-put c = λ order m n node at k bytes s can once puts from to. byte_put_after order m n node at bytes s can once puts k from to

pub returns-clause-stays : goal.returns-clause-stays
returns-clause-stays c = λ order m n node at k bytes s can once puts low out. byte_stays_after order m n node at bytes s can once puts k low out

pub returns-clause-leaf : goal.returns-clause-leaf
returns-clause-leaf c = λ order m n node at i bytes is can puts has. leaf_put_after order m n node at bytes is.consistent can is.regular.apart puts i has

pub returns-clause-other_leaf : goal.returns-clause-other_leaf
returns-clause-other_leaf c = λ order m n node at i bytes is can puts out low. leaf_stays_after order m n node at bytes is.consistent can is.regular.apart puts i low out

pub returns-clause-content : goal.returns-clause-content
returns-clause-content c = λ order m n node at bytes is can puts room. content_put order m n node at bytes is can puts room

pub returns-clause-past : goal.returns-clause-past
returns-clause-past c = λ order m n node at bytes is can puts past. content_past order m n node at bytes is can puts past
