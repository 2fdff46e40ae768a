-- Turns are added at the end.
use Rattle.std.proofs.Common.{◌≡◌, ℕ, List, [], ◌∷◌, ◌++◌}
use Rattle.std.specs.Prelude.{true, false}
use Rattle.qx_model.specs.declared.turn.Act.TheVariants as act
use Rattle.qx_model.specs.Machine.{Machine}
use Rattle.qx_model.specs.Next.{Next}
use Rattle.qx_words.specs.Scripts.{event_by}
use Rattle.qx_words.specs.Texts.{last_text, turn_text}
use Rattle.qx_shell.specs.Occasions.{OfEnd, OfLine, Occasion}
use Rattle.qx_shell.specs.MadeTurns.{AreMade, IsLineTurn, Over, MadeTurn, Open, end, last_machine, line, none, quit}

-- what is left while the last turn wasn't made
pub more_left : (s : Machine) (moments : List ℕ) (occasions more left : List Occasion) (made : List MadeTurn) → AreMade s moments occasions made (Open left) → AreMade s moments (occasions ++ more) made (Open (left ++ more))
more_left s moments occasions more left made (none s' left') = none s (left ++ more)
more_left s moments occasions more left made (line s' moment moments' bytes left' m made' reach' turns text later) =
    line s moment moments' bytes (left' ++ more) m made' (Open (left ++ more)) turns text (more_left m.machine moments' left' more left made' later)

-- one more turn of a line
pub line_added : (s : Machine) (moments : List ℕ) (moment : ℕ) (occasions : List Occasion) (bytes : List ℕ) (left : List Occasion) (made : List MadeTurn) (m : MadeTurn) → AreMade s moments occasions made (Open (OfLine bytes ∷ left))
    → IsLineTurn (last_machine s made) moment bytes m.turn false m.machine → m.text ≡ turn_text m.turn → AreMade s (moments ++ moment ∷ []) occasions (made ++ m ∷ []) (Open left)
line_added s moments moment occasions bytes left made m (none s' left') turns text = line s moment [] bytes left m [] (Open left) turns text (none m.machine left)
line_added s moments moment occasions bytes left made m (line s' moment' moments' bytes' left' n made' reach' turns' text' later) turns text =
    line s moment' (moments' ++ moment ∷ []) bytes' left' n (made' ++ m ∷ []) (Open left) turns' text' (line_added n.machine moments' moment left' bytes left made' m later turns text)

-- the last one, of a line that is read as `quit`
pub quit_added : (s : Machine) (moments : List ℕ) (moment : ℕ) (occasions : List Occasion) (bytes : List ℕ) (left : List Occasion) (made : List MadeTurn) (m : MadeTurn) → AreMade s moments occasions made (Open (OfLine bytes ∷ left))
    → IsLineTurn (last_machine s made) moment bytes m.turn true m.machine → m.text ≡ turn_text m.turn → AreMade s (moments ++ moment ∷ []) occasions (made ++ m ∷ []) Over
quit_added s moments moment occasions bytes left made m (none s' left') turns text = quit s moment bytes left m turns text
quit_added s moments moment occasions bytes left made m (line s' moment' moments' bytes' left' n made' reach' turns' text' later) turns text =
    line s moment' (moments' ++ moment ∷ []) bytes' left' n (made' ++ m ∷ []) Over turns' text' (quit_added n.machine moments' moment left' bytes left made' m later turns text)

-- or of the end
pub end_added : (s : Machine) (moments : List ℕ) (moment : ℕ) (occasions left : List Occasion) (made : List MadeTurn) (m : MadeTurn) → AreMade s moments occasions made (Open (OfEnd ∷ left))
    → Next (last_machine s made) (event_by 0 act.End moment) m.turn m.machine → m.text ≡ last_text m.turn → AreMade s (moments ++ moment ∷ []) occasions (made ++ m ∷ []) Over
end_added s moments moment occasions left made m (none s' left') turns text = end s moment left m turns text
end_added s moments moment occasions left made m (line s' moment' moments' bytes' left' n made' reach' turns' text' later) turns text =
    line s moment' (moments' ++ moment ∷ []) bytes' left' n (made' ++ m ∷ []) Over turns' text' (end_added n.machine moments' moment left' left made' m later turns text)

-- what comes behind the last turn changes nothing
pub more_over : (s : Machine) (moments : List ℕ) (occasions more : List Occasion) (made : List MadeTurn) → AreMade s moments occasions made Over → AreMade s moments (occasions ++ more) made Over
more_over s moments occasions more made (line s' moment moments' bytes left m made' reach' turns text later) =
    line s moment moments' bytes (left ++ more) m made' Over turns text (more_over m.machine moments' left more made' later)
more_over s moments occasions more made (quit s' moment bytes left m turns text) = quit s moment bytes (left ++ more) m turns text
more_over s moments occasions more made (end s' moment left m turns text) = end s moment (left ++ more) m turns text
