use Rattle.qx_edits.proofs.ComposedNames.{made_links, made_shown}
use Rattle.qx_edits.proofs.name_laws.a_name_is_made.Goals as goal

pub returns-clause-shows : goal.returns-clause-shows
returns-clause-shows c = λ order s before mid after old new t p n i x leaves holds whole shows dir from within absent own none sets times others is gets put.
    made_shown s t p n x leaves dir absent order before mid after old new i holds whole shows from within own none sets times others is gets put

pub returns-clause-links : goal.returns-clause-links
returns-clause-links c = λ s links t p n x leaves link dir from within absent bare plain rows parent has. made_links s t p n x leaves dir absent links link from within bare plain rows parent has
