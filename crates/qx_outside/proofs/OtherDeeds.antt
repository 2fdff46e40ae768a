-- What is told of the deeds but for writes and syncs.
use Rattle.std.proofs.Common.{◌≡◌, ℕ, List, [], ◌∷◌, ◌++◌, refl, ap, ◌∙◌, append-nil}
use Rattle.qx_outside.specs.Trail.{Deed, took, gave, wrote, synced, sized, told_moment, events_of, input_of, lengths_asked, others_of, output_of}

-- the lengths that were asked for are among them
pub lengths-others : (deeds : List Deed) → lengths_asked deeds ≡ lengths_asked (others_of deeds)
lengths-others [] = refl
lengths-others (took bytes ∷ before) = lengths-others before
lengths-others (gave bytes ∷ before) = lengths-others before
lengths-others (wrote at asked left ok ∷ before) = lengths-others before
lengths-others (synced ok ∷ before) = lengths-others before
lengths-others (sized len ok ∷ before) = ap (λ (l : List ℕ). len ∷ l) (lengths-others before)
lengths-others (told_moment moment ∷ before) = lengths-others before

-- so is what was taken from the console
pub input-others : (deeds : List Deed) → input_of (events_of deeds) ≡ input_of (events_of (others_of deeds))
input-others [] = refl
input-others (took bytes ∷ before) = ap (λ (l : List ℕ). l ++ bytes) (input-others before)
input-others (gave bytes ∷ before) = ap (λ (l : List ℕ). l ++ []) (input-others before)
input-others (wrote at asked left ok ∷ before) = append-nil (input_of (events_of before)) ∙ input-others before
input-others (synced ok ∷ before) = append-nil (input_of (events_of before)) ∙ input-others before
input-others (sized len ok ∷ before) = ap (λ (l : List ℕ). l ++ []) (input-others before)
input-others (told_moment moment ∷ before) = ap (λ (l : List ℕ). l ++ []) (input-others before)

-- and what was given to it
pub output-others : (deeds : List Deed) → output_of (events_of deeds) ≡ output_of (events_of (others_of deeds))
output-others [] = refl
output-others (took bytes ∷ before) = ap (λ (l : List ℕ). l ++ []) (output-others before)
output-others (gave bytes ∷ before) = ap (λ (l : List ℕ). l ++ bytes) (output-others before)
output-others (wrote at asked left ok ∷ before) = append-nil (output_of (events_of before)) ∙ output-others before
output-others (synced ok ∷ before) = append-nil (output_of (events_of before)) ∙ output-others before
output-others (sized len ok ∷ before) = ap (λ (l : List ℕ). l ++ []) (output-others before)
output-others (told_moment moment ∷ before) = ap (λ (l : List ℕ). l ++ []) (output-others before)
