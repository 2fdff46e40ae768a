-- For what turns are made: the lines of the input and its end, as far as they were taken.
use Rattle.std.specs.Prelude.{ℕ, Bool, true, false, not, ◌==◌, filter, List, [], ◌∷◌, ◌++◌, length, map}
use Rattle.std.specs.List.{slice_split}
use Rattle.qx_outside.specs.Trail.{Deed, History, gave, input, sized, synced, told_moment, took, wrote}
use Rattle.qx_words.specs.Lines.{lines_of}

-- a turn is made for a line, or for the end of the input
pub data Occasion : Type 0 where
  OfLine : List ℕ → Occasion
  OfEnd : Occasion

-- a list but for its last element
abbrev pub but_last : {A : Type 0} → List A → List A
but_last [] = []
but_last (x ∷ []) = []
but_last (x ∷ y ∷ rest) = x ∷ but_last (y ∷ rest)

-- the lines of a script that a newline ends, but empty ones
abbrev pub ended_lines_of : List ℕ → List (List ℕ)
ended_lines_of script = filter (λ line. not (length line == 0)) (but_last (slice_split (λ c. c == 10) script))

-- whether the last that was taken of the input was its end, where a take gives nothing
abbrev pub is_input_over : List Deed → Bool
is_input_over [] = false
is_input_over (took [] ∷ before) = true
is_input_over (took (c ∷ cs) ∷ before) = false
is_input_over (gave bytes ∷ before) = is_input_over before
is_input_over (wrote at asked left ok ∷ before) = is_input_over before
is_input_over (synced ok ∷ before) = is_input_over before
is_input_over (sized len ok ∷ before) = is_input_over before
is_input_over (told_moment moment ∷ before) = is_input_over before

-- those of an input: where it is over, each of its lines and then the end; else the lines alone that a newline ends, since more of the last one may come
abbrev pub occasions_in : Bool → List ℕ → List Occasion
occasions_in true script = map (λ line. OfLine line) (lines_of script) ++ OfEnd ∷ []
occasions_in false script = map (λ line. OfLine line) (ended_lines_of script)

-- those of a run
abbrev pub occasions_of : History → List Occasion
occasions_of h = occasions_in (is_input_over h.deeds) (input h)
