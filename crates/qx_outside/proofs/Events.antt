-- Events and their deeds.
use Rattle.std.proofs.Common.{◌≡◌, ℕ, List, [], ◌∷◌, length, reverse, refl, ap, sym, ◌∙◌, arith}
use Rattle.std.proofs.lemmas.List.{reverse-reverse}
use Rattle.qx_outside.specs.declared.event.Event.{Event}
use Rattle.qx_outside.specs.declared.event.Event.TheVariants.{Took, Gave, Wrote, Synced, Sized, Now}
use Rattle.qx_outside.specs.Trail.{Deed, events_of, deeds_of}

length_events_of : (deeds : List Deed) → length (events_of deeds) ≡ length deeds
length_events_of [] = refl
length_events_of (deed ∷ deeds) = omega (arith, length_events_of deeds)

-- the events of the deeds that were made of events
pub events_of_deeds_of : (events : List Event) (asked : List (List ℕ)) → events_of (deeds_of events asked) ≡ events
events_of_deeds_of [] asked = refl
events_of_deeds_of (Wrote at left ok ∷ before) [] = ap (λ (t : List Event). Wrote at left ok ∷ t) (events_of_deeds_of before [])
events_of_deeds_of (Wrote at left ok ∷ before) (bytes ∷ asked) = ap (λ (t : List Event). Wrote at left ok ∷ t) (events_of_deeds_of before asked)
events_of_deeds_of (Took bytes ∷ before) asked = ap (λ (t : List Event). Took bytes ∷ t) (events_of_deeds_of before asked)
events_of_deeds_of (Gave bytes ∷ before) asked = ap (λ (t : List Event). Gave bytes ∷ t) (events_of_deeds_of before asked)
events_of_deeds_of (Synced ok ∷ before) asked = ap (λ (t : List Event). Synced ok ∷ t) (events_of_deeds_of before asked)
events_of_deeds_of (Sized len ok ∷ before) asked = ap (λ (t : List Event). Sized len ok ∷ t) (events_of_deeds_of before asked)
events_of_deeds_of (Now moment ∷ before) asked = ap (λ (t : List Event). Now moment ∷ t) (events_of_deeds_of before asked)

-- there are as many deeds as events
pub length_deeds_of : (events : List Event) (asked : List (List ℕ)) → length (deeds_of events asked) ≡ length events
length_deeds_of events asked = sym (length_events_of (deeds_of events asked)) ∙ ap (λ (t : List Event). length t) (events_of_deeds_of events asked)

-- a trail in real order is that of the deeds that were made of it
pub trail_of_events : (events : List Event) (asked : List (List ℕ)) → reverse (events_of (deeds_of (reverse events) asked)) ≡ events
trail_of_events events asked = ap (λ (t : List Event). reverse t) (events_of_deeds_of (reverse events) asked) ∙ reverse-reverse events
