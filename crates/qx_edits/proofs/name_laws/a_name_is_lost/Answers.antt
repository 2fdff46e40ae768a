use Rattle.qx_edits.proofs.ComposedNames.{kept_shown, last_shown, lost_name_links}
use Rattle.qx_edits.proofs.name_laws.a_name_is_lost.Goals as goal

pub returns-clause-last : goal.returns-clause-last
returns-clause-last c = λ order s before mid after old new t row holds whole shows dir low named live ne single times sets others loses put.
    last_shown s t row dir low named order before mid after old new holds whole shows live ne single times sets others loses put

pub returns-clause-stays : goal.returns-clause-stays
returns-clause-stays c = λ order s before mid after old new t row holds whole shows dir low named more times sets others loses put.
    kept_shown s t row dir low named order before mid after old new holds whole shows more times sets others loses put

pub returns-clause-links : goal.returns-clause-links
returns-clause-links c = λ s links t row dir low named live ne bare has. lost_name_links s t row dir low named links live ne bare has
