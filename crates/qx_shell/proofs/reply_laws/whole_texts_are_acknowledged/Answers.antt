use Rattle.qx_shell.proofs.Replied.{all_texts, front_replied, replied_front, whole_texts}
use Rattle.qx_shell.proofs.reply_laws.whole_texts_are_acknowledged.Goals as goal

pub returns-clause-part : goal.returns-clause-part
returns-clause-part c = whole_texts

pub returns-clause-all : goal.returns-clause-all
returns-clause-all c = all_texts

pub returns-clause-greatest : goal.returns-clause-greatest
returns-clause-greatest c texts out n within = (front_replied texts out n within, replied_front texts out n)
