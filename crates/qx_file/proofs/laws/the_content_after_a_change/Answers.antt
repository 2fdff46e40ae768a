use Rattle.qx_file.proofs.ChangedContents.{byte_after, byte_same, content_after}
use Rattle.qx_file.proofs.laws.the_content_after_a_change.Goals as goal

pub returns-clause-byte : goal.returns-clause-byte
returns-clause-byte c = λ order old now m p k w s a low. byte_after order old now m p w s a k low

pub returns-clause-same : goal.returns-clause-same
returns-clause-same c = λ order old now m p k w s a low stays. byte_same order old now m p w s a k low stays

pub returns-clause-content : goal.returns-clause-content
returns-clause-content c = λ order old now m p w s a none tail. content_after order old now m p w s a none tail
