-- A run of a script in which no fault is told puts what the machine's function gives.
use Rattle.std.proofs.Common.{◌≡◌, ℕ, List, [], ◌∷◌, map, sym, ap, ◌∙◌, subst, append-nil}
use Rattle.std.specs.Prelude.{Bool, true, false}
use Rattle.std.specs.List.{concat}
use Rattle.qx_model.specs.Machine.{Machine}
use Rattle.qx_words.specs.Lines.{lines_of}
use Rattle.qx_words.specs.Scripts.{output_at, output_of}
use Rattle.qx_shell.specs.Occasions.{OfEnd, OfLine, Occasion, ended_lines_of, occasions_in}
use Rattle.qx_shell.specs.MadeTurns.{AreMade, MadeTurn, Reach, texts_of}
use Rattle.qx_shell.specs.Ends.{has_fault}
use Rattle.qx_shell.proofs.QuietRuns.{made_output, nothing, the_end}
use Rattle.qx_shell.proofs.RunEnds.{lines_more}

-- whether the end of the input was taken or not
pub script_output : (s : Machine) (moments : List ℕ) (over : Bool) (script : List ℕ) (made : List MadeTurn) (reach : Reach) → AreMade s moments (occasions_in over script) made reach → has_fault made ≡ false
    → concat (texts_of made) ≡ output_at moments s script
script_output s moments true script made reach turns quiet =
    made_output (lines_of script) [] (OfEnd ∷ []) s moments made reach the_end turns quiet
    ∙ ap (output_of s moments) (append-nil (lines_of script))
script_output s moments false script made reach turns quiet =
    let (more, lines) = lines_more script in
    let lined : List Occasion = map (λ l. OfLine l) (ended_lines_of script) in
    made_output (ended_lines_of script) more [] s moments made reach (nothing more) (subst (λ occasions. AreMade s moments occasions made reach) (sym (append-nil lined)) turns) quiet
    ∙ ap (output_of s moments) (sym lines)
