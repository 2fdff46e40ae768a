-- A run that ends with status 0 leaves the tree that its script made.
use Rattle.std.proofs.Common.{◌≡◌, ◌⊎◌, inl, inr, ℕ, suc, List, [], ◌∷◌, ◌++◌, length, refl, sym, ap, ◌∙◌, subst, arith, length-append}
use Rattle.std.specs.Prelude.{Contains, None}
use Rattle.std.specs.List.{concat}
use Rattle.qx_geom.proofs.Members.{Contains-cases}
use Rattle.qx_outside.specs.Images.{IsImage}
use Rattle.qx_outside.specs.Trail.{History, output}
use Rattle.qx_outside.proofs.Throughout.{throughout_last}
use Rattle.qx_model.specs.declared.refusal.Refusal.TheVariants as refusal
use Rattle.qx_model.specs.declared.reply.Reply.{Reply}
use Rattle.qx_model.specs.declared.reply.Reply.TheVariants as reply
use Rattle.qx_model.specs.Machine.{Copy, Machine}
use Rattle.qx_model.specs.Findable.{FoundTree, found_of}
use Rattle.qx_model.proofs.ListMembers.{Contains-none}
use Rattle.qx_view.specs.FalseSuperblocks.{HasNoFalseSuperblock}
use Rattle.qx_view.specs.Sound.{IsSound}
use Rattle.qx_shell.specs.Occasions.{occasions_of}
use Rattle.qx_shell.specs.MadeTurns.{AreMade, Over, MadeTurn, Reach, last_machine, machines_of, texts_of}
use Rattle.qx_shell.specs.Allowed.{allowed_trees, begun_count, moments_of}
use Rattle.qx_shell.specs.Cuts.{CutsFindAllowed, places_in}
use Rattle.qx_shell.specs.Ends.{Ends, IsLastStatus, IsStatusOf, at_last, at_limit, in_limit, in_text, limit_text}
use Rattle.qx_shell.specs.Headline.{IsMountedRun}
use Rattle.qx_shell.specs.Mounts.{How, Writing}
use Rattle.qx_shell.specs.NewestCopies.{IsAllDurable}
use Rattle.qx_shell.specs.Unmounted.{first_history}
use Rattle.qx_shell.proofs.AllowedTrees.{joined_texts, one_tree}
use Rattle.qx_shell.proofs.RunEnds.{HasLast, made_moments, mount_marked, over_last, run_settles}

-- ---- by status

-- no reply gives another status than 0, 3 and 5
status_of : (r : Reply) (status : ℕ) → IsStatusOf r status → (status ≡ 0) ⊎ ((status ≡ 3) ⊎ (status ≡ 5))
status_of reply.Done status h = inl h
status_of (reply.Refused refusal.Device) status h = inr (inl h)
status_of (reply.Refused refusal.NoMemory) status h = inr (inr h)
status_of r status h = absurd h

-- so with these turns
pub last_status : (made : List MadeTurn) (status : ℕ) → IsLastStatus made status → (status ≡ 0) ⊎ ((status ≡ 3) ⊎ (status ≡ 5))
last_status [] status h = absurd h
last_status (m ∷ []) status h = status_of m.turn.reply status h
last_status (m ∷ n ∷ made) status h = last_status (n ∷ made) status h

-- how a run ends with a status that isn't 4 or 6
pub record EndsAtLast (h : History) (made : List MadeTurn) (reach : Reach) (status : ℕ) : Type 0 where
  pub over : reach ≡ Over
  pub last : IsLastStatus made status
  pub put : output h ≡ concat (texts_of made)

pub zero_at_last : (h : History) (made : List MadeTurn) (reach : Reach) → Ends h made reach 0 → EndsAtLast h made reach 0
zero_at_last h made reach (at_last over last put) = record { over = over; last = last; put = put }
zero_at_last h made reach (at_limit six reached put) = absurd (omega (arith, six))
zero_at_last h made reach (in_text four front behind) = absurd (omega (arith, four))
zero_at_last h made reach (in_limit n four reached within put) = absurd (omega (arith, four))

-- with 6 the limit was reached
six_not : (made : List MadeTurn) → IsLastStatus made 6 → ⊥
six_not made last = go 6 refl (last_status made 6 last)
  where
    go : (n : ℕ) → n ≡ 6 → (n ≡ 0) ⊎ ((n ≡ 3) ⊎ (n ≡ 5)) → ⊥
    go n is (inl h) = omega (arith, h)
    go n is (inr (inl h)) = omega (arith, h)
    go n is (inr (inr h)) = omega (arith, h)

pub six_at_limit : (h : History) (made : List MadeTurn) (reach : Reach) → Ends h made reach 6 → output h ≡ concat (texts_of made) ++ limit_text
six_at_limit h made reach (at_last over last put) = absurd (six_not made last)
six_at_limit h made reach (at_limit six reached put) = put
six_at_limit h made reach (in_text four front behind) = absurd (omega (arith, four))
six_at_limit h made reach (in_limit n four reached within put) = absurd (omega (arith, four))

-- the turns of a run that ends with status 0
pub over_turns : (how : How) (h : History) (r : IsMountedRun how h 0) → AreMade r.start r.moments (occasions_of h) r.made Over
over_turns how h r = subst (λ x. AreMade r.start r.moments (occasions_of h) r.made x) (zero_at_last h r.made r.reach r.ends).over r.turns

-- it leaves all durable
pub ends_durable : (how : How) (h : History) (r : IsMountedRun how h 0) → IsAllDurable (last_machine r.start r.made)
ends_durable how h r =
    run_settles r.start r.moments (occasions_of h) r.made (mount_marked h.starting r.moment r.start how r.starts) (over_turns how h r) (zero_at_last h r.made r.reach r.ends).last

-- and then one tree alone is allowed
pub one_allowed : (how : How) (h : History) (r : IsMountedRun how h 0) → allowed_trees (texts_of r.made) (machines_of r.start r.made) h ≡ found_of (last_machine r.start r.made).durable ∷ []
one_allowed how h r =
    subst (λ (d : Machine). allowed_trees (texts_of r.made) (machines_of r.start r.made) h ≡ found_of d.durable ∷ []) (sym l.machine)
    (subst (λ xs. allowed_trees (texts_of xs) (machines_of r.start xs) h ≡ found_of l.last.machine.durable ∷ []) (sym l.split) (one_tree h r.start l.before l.last [] begun put none))
  where
    l : HasLast r.start r.made
    l = over_last r.start r.moments (occasions_of h) r.made (over_turns how h r)

    many : length r.made ≡ suc (length l.before)
    many = ap length l.split ∙ (let joined = length-append l.before (l.last ∷ []) in omega arith)

    begun : begun_count h ≡ suc (length l.before)
    begun = let told : length (moments_of h) ≡ suc (length r.moments) = ap length r.clock in let each = made_moments r.start r.moments (occasions_of h) r.made r.reach r.turns in omega (arith, many)

    put : output h ≡ concat (texts_of l.before) ++ l.last.text
    put = (zero_at_last h r.made r.reach r.ends).put ∙ ap (λ xs. concat (texts_of xs)) l.split ∙ ap concat (map-append l.before) ∙ joined_texts l.before l.last
      where
        map-append : (before : List MadeTurn) → texts_of (before ++ l.last ∷ []) ≡ texts_of before ++ l.last.text ∷ []
        map-append [] = refl
        map-append (b ∷ before) = ap (λ xs. b.text ∷ xs) (map-append before)

    none : l.last.machine.frozen ≡ None
    none = subst (λ (x : Machine). x.frozen ≡ None) l.machine (ends_durable how h r).none

only_one : (x y : FoundTree) → Contains (x ∷ []) y → y ≡ x
only_one x y c = elim (Contains-cases x y [] c) [ inl same ↦ sym same | inr more ↦ absurd (Contains-none y more) ]

-- each image that a cut may then leave has exactly the tree that the script made
pub leaves_its_tree : (h : History) (r : IsMountedRun Writing h 0) (img : List ℕ) → IsImage h img → HasNoFalseSuperblock (places_in h.starting) h img → IsSound img (last_machine r.start r.made).working.tree
leaves_its_tree h r img image chance =
    let last = throughout_last (CutsFindAllowed (places_in h.starting) (texts_of r.made) (machines_of r.start r.made)) (first_history h) h r.cuts in
    let f = last.finds img image chance in
    let d = last_machine r.start r.made in
    let one = only_one (found_of d.durable) (record { tree = f.tree; serial = f.superblock.serial }) (subst (λ found. Contains found (record { tree = f.tree; serial = f.superblock.serial })) (one_allowed Writing h r) f.is_one) in
    let tree : f.tree ≡ d.working.tree = ap (λ (x : FoundTree). x.tree) one ∙ ap (λ (c : Copy). c.tree) (ends_durable Writing h r).kept in
    subst (λ t. IsSound img t) tree f.sound
