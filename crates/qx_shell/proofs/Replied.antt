-- How many turns an output acknowledges.
use Rattle.std.proofs.Common.{◌≡◌, ℕ, zero, suc, ◌<◌, ◌≤◌, Bool, true, false, List, [], ◌∷◌, ◌++◌, length, take, refl, sym, ap, ◌∙◌, subst, arith, cond, append_assoc}
use Rattle.std.specs.Prelude.{Option, Some, None, ◌==◌}
use Rattle.std.specs.List.{concat}
use Rattle.std.proofs.lemmas.Bool.{eq-eqb, eqb-true}
use Rattle.qx_shell.specs.Allowed.{after_text, replied_count}
use Rattle.qx_shell.specs.Ends.{IsFront}

-- a text stands before what follows it
after_text-itself : (text rest : List ℕ) → after_text text (text ++ rest) ≡ Some rest
after_text-itself [] rest = refl
after_text-itself (c ∷ cs) rest = subst (λ b. cond b (after_text cs (cs ++ rest)) None ≡ Some rest) (sym (eq-eqb c c refl)) (after_text-itself cs rest)

-- less than a text isn't the text
after_text-part : (text part : List ℕ) → length part < length text → after_text text part ≡ None
after_text-part [] part h = absurd (omega arith)
after_text-part (c ∷ cs) [] h = refl
after_text-part (c ∷ cs) (d ∷ ds) h =
    elim (c == d) as (λ b. cond b (after_text cs ds) None ≡ None) [ true ↦ after_text-part cs ds (omega arith) | false ↦ refl ]

-- what follows a text follows it
after_text-joined : (text out rest : List ℕ) → after_text text out ≡ Some rest → text ++ rest ≡ out
after_text-joined [] out rest h = cc
after_text-joined (c ∷ cs) [] rest h = absurd (cc)
after_text-joined (c ∷ cs) (d ∷ ds) rest h = go (c == d) refl (after_text-joined cs ds rest) h
  where
    go : (b : Bool) → (c == d) ≡ b → (after_text cs ds ≡ Some rest → cs ++ rest ≡ ds) → cond b (after_text cs ds) None ≡ Some rest → c ∷ cs ++ rest ≡ d ∷ ds
    go true same later after = let joined = later after in let first : c ≡ d = eqb-true c d same in cc
    go false same later after = absurd (cc)

-- the count after a text that stands whole
counted : (text : List ℕ) (texts : List (List ℕ)) (rest : List ℕ) → replied_count (text ∷ texts) (text ++ rest) ≡ suc (replied_count texts rest)
counted text texts rest = ap (λ (o : Option (List ℕ)). elim o [ None ↦ 0 | Some r ↦ suc (replied_count texts r) ]) (after_text-itself text rest)

-- whole texts and a part of the next count the whole ones
pub whole_texts : (whole : List (List ℕ)) (next part : List ℕ) (later : List (List ℕ)) → length part < length next → replied_count (whole ++ next ∷ later) (concat whole ++ part) ≡ length whole
whole_texts [] next part later h = ap (λ (o : Option (List ℕ)). elim o [ None ↦ 0 | Some r ↦ suc (replied_count later r) ]) (after_text-part next part h)
whole_texts (text ∷ whole) next part later h =
    ap (replied_count (text ∷ (whole ++ next ∷ later))) (append_assoc text (concat whole) part)
    ∙ counted text (whole ++ next ∷ later) (concat whole ++ part)
    ∙ ap suc (whole_texts whole next part later h)

-- and all texts count all
pub all_texts : (texts : List (List ℕ)) → replied_count texts (concat texts) ≡ length texts
all_texts [] = refl
all_texts (text ∷ texts) = counted text texts (concat texts) ∙ ap suc (all_texts texts)

-- whatever follows them
pub texts_and_more : (texts : List (List ℕ)) (more : List ℕ) → replied_count texts (concat texts ++ more) ≡ length texts
texts_and_more [] more = refl
texts_and_more (text ∷ texts) more = ap (replied_count (text ∷ texts)) (append_assoc text (concat texts) more) ∙ counted text texts (concat texts ++ more) ∙ ap suc (texts_and_more texts more)

-- no more turns are acknowledged than there are
pub replied_within : (texts : List (List ℕ)) (out : List ℕ) → replied_count texts out ≤ length texts
replied_within [] out = omega arith
replied_within (text ∷ texts) out = go (after_text text out) (λ rest. replied_within texts rest)
  where
    go : (o : Option (List ℕ)) → ((rest : List ℕ) → replied_count texts rest ≤ length texts) → elim o as (λ p. ℕ) [ None ↦ 0 | Some r ↦ suc (replied_count texts r) ] ≤ suc (length texts)
    go None less = omega arith
    go (Some rest) less = let one = less rest in omega arith

-- the texts of so many turns stand at the front only where as many are acknowledged
pub front_replied : (texts : List (List ℕ)) (out : List ℕ) (n : ℕ) → n ≤ length texts → IsFront (concat (take n texts)) out → n ≤ replied_count texts out
front_replied texts out zero h front = omega arith
front_replied [] out (suc n) h front = absurd (omega arith)
front_replied (text ∷ texts) out (suc n) h (rest, joined) =
    let later = concat (take n texts) ++ rest in
    let whole : text ++ later ≡ out = sym (append_assoc text (concat (take n texts)) rest) ∙ joined in
    let less : n ≤ replied_count texts later = front_replied texts later n (omega arith) (rest, refl) in
    let count : replied_count (text ∷ texts) out ≡ suc (replied_count texts later) = subst (λ x. replied_count (text ∷ texts) x ≡ suc (replied_count texts later)) whole (counted text texts later) in
    omega arith

-- and wherever as many are acknowledged
pub replied_front : (texts : List (List ℕ)) (out : List ℕ) (n : ℕ) → n ≤ replied_count texts out → IsFront (concat (take n texts)) out
replied_front texts out zero h = (out, refl)
replied_front [] out (suc n) h = absurd (omega arith)
replied_front (text ∷ texts) out (suc n) h = go (after_text text out) refl (λ rest less. replied_front texts rest n less) h
  where
    go : (o : Option (List ℕ)) → after_text text out ≡ o → ((rest : List ℕ) → n ≤ replied_count texts rest → IsFront (concat (take n texts)) rest)
        → suc n ≤ elim o as (λ p. ℕ) [ None ↦ 0 | Some r ↦ suc (replied_count texts r) ] → IsFront (text ++ concat (take n texts)) out
    go None after later less = absurd (omega arith)
    go (Some rest) after later less =
        let (more, joined) = later rest (omega arith) in
        (more, append_assoc text (concat (take n texts)) more ∙ ap (λ x. text ++ x) joined ∙ after_text-joined text out rest after)
