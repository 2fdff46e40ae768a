-- The moments that the clock told are among the deeds but for writes and syncs.
use Rattle.std.proofs.Common.{◌≡◌, ℕ, suc, ◌+◌, List, [], ◌∷◌, ◌++◌, length, refl, sym, ap, ◌∙◌, append-nil, arith, length-append}
use Rattle.qx_outside.specs.Trail.{Deed, History, events_of, gave, output, output_of, others_of, sized, synced, told_moment, took, wrote}
use Rattle.qx_outside.proofs.OtherDeeds.{output-others}
use Rattle.qx_shell.specs.Allowed.{moments_in, moments_of}

-- they tell all moments
moments-others : (deeds : List Deed) → moments_in (events_of deeds) ≡ moments_in (events_of (others_of deeds))
moments-others [] = refl
moments-others (took bytes ∷ before) = ap (λ (l : List ℕ). l ++ []) (moments-others before)
moments-others (gave bytes ∷ before) = ap (λ (l : List ℕ). l ++ []) (moments-others before)
moments-others (wrote at asked left ok ∷ before) = append-nil (moments_in (events_of before)) ∙ moments-others before
moments-others (synced ok ∷ before) = append-nil (moments_in (events_of before)) ∙ moments-others before
moments-others (sized len ok ∷ before) = ap (λ (l : List ℕ). l ++ []) (moments-others before)
moments-others (told_moment moment ∷ before) = ap (λ (l : List ℕ). l ++ moment ∷ []) (moments-others before)

-- where nothing but writes and syncs was done, the clock told what it had told, and the same was put
pub same_moments : (a b : History) → others_of b.deeds ≡ others_of a.deeds → moments_of b ≡ moments_of a
same_moments a b same = moments-others b.deeds ∙ ap (λ deeds. moments_in (events_of deeds)) same ∙ sym (moments-others a.deeds)

pub same_output : (a b : History) → others_of b.deeds ≡ others_of a.deeds → output b ≡ output a
same_output a b same = output-others b.deeds ∙ ap (λ deeds. output_of (events_of deeds)) same ∙ sym (output-others a.deeds)

-- of deeds none of which is another, none of the first is
others-append : (xs ys : List Deed) → others_of (xs ++ ys) ≡ others_of xs ++ others_of ys
others-append [] ys = refl
others-append (took bytes ∷ xs) ys = ap (λ l. took bytes ∷ l) (others-append xs ys)
others-append (gave bytes ∷ xs) ys = ap (λ l. gave bytes ∷ l) (others-append xs ys)
others-append (wrote at asked left ok ∷ xs) ys = others-append xs ys
others-append (synced ok ∷ xs) ys = others-append xs ys
others-append (sized len ok ∷ xs) ys = ap (λ l. sized len ok ∷ l) (others-append xs ys)
others-append (told_moment moment ∷ xs) ys = ap (λ l. told_moment moment ∷ l) (others-append xs ys)

-- deeds that add no others have none
pub no_others : (xs ys : List Deed) → others_of (xs ++ ys) ≡ others_of ys → others_of xs ≡ []
no_others xs ys same = go (others_of xs) (sym (others-append xs ys) ∙ same)
  where
    go : (l : List Deed) → l ++ others_of ys ≡ others_of ys → l ≡ []
    go [] h = refl
    go (x ∷ l) h = let long : suc (length l + length (others_of ys)) ≡ length (others_of ys) = ap suc (sym (length-append l (others_of ys))) ∙ ap length h in absurd (omega arith)

-- and without them there are as many
pub with_none : (xs ys : List Deed) → others_of xs ≡ [] → others_of (xs ++ ys) ≡ others_of ys
with_none xs ys none = others-append xs ys ∙ ap (λ l. l ++ others_of ys) none

-- the later of such deeds aside, the earlier have none
pub none_before : (deed : Deed) (xs : List Deed) → others_of (deed ∷ xs) ≡ [] → others_of xs ≡ []
none_before (took bytes) xs h = absurd (cc)
none_before (gave bytes) xs h = absurd (cc)
none_before (wrote at asked left ok) xs h = h
none_before (synced ok) xs h = h
none_before (sized len ok) xs h = absurd (cc)
none_before (told_moment moment) xs h = absurd (cc)
