-- The maker's run, put together from its calls: the clock, the attach, the maker, and what is said at the end.
use Rattle.std.proofs.Common.{◌≡◌, ◌≢◌, ◌⊎◌, inl, inr, ℕ, List, ◌∷◌, ◌++◌, take, Option, Some, length, refl, sym, ap, ◌∙◌, subst, append-nil, arith}
use Rattle.std.specs.Prelude.{IsTrue, Result, Ok, Err}
use Rattle.std.proofs.lemmas.Bool.{cases_eq}
use Rattle.qx_outside.specs.declared.event.Attachment.{Attachment}
use Rattle.qx_outside.specs.Calls.{Did, Idles}
use Rattle.qx_outside.specs.Causes.{Becomes, Rose}
use Rattle.qx_outside.specs.Moments.{HoldsThroughout}
use Rattle.qx_outside.specs.Outside.{Outside}
use Rattle.qx_outside.specs.Trail.{History, gave, told_moment, after, bytes_of, input, lengths_asked, output}
use Rattle.qx_outside.proofs.Cuts.{image_settled}
use Rattle.qx_outside.proofs.Throughout.{throughout_first, throughout_here, throughout_last, throughout_more, throughout_then}
use Rattle.qx_geom.specs.declared.geometry.GeomFault.{GeomFault}
use Rattle.qx_geom.specs.declared.geometry.Geometry.{Geometry}
use Rattle.qx_view.specs.FalseSuperblocks.{MayStand, kept, asked, invalid}
use Rattle.qx_make.specs.declared.options.Made.{Made as Numbers}
use Rattle.qx_make.specs.declared.options.MakeFault.{MakeFault}
use Rattle.qx_make.specs.declared.options.MakeFault.TheVariants as faults
use Rattle.qx_make.specs.declared.options.MakeOptions.{MakeOptions}
use Rattle.qx_super.specs.declared.choice.Pick.{Pick}
use Rattle.qx_super.specs.declared.choice.Pick.TheVariants as picks
use Rattle.qx_super.specs.Active.{active_area}
use Rattle.qx_make.specs.Cut.{IsLeftByMaker, nothing, old_volume, IsReadyToMake, LeavesByMaker}
use Rattle.qx_make.specs.Make.{HasMade, KeepsQuiet, MakesAtEachMoment, geometry_for, made_of, moments_told, tree_for}
use Rattle.qx_make.specs.Stages.{AsksOneLength}
use Rattle.qx_top.specs.declared.lines.Line.{Line}
use Rattle.qx_top.specs.declared.lines.Line.TheVariants.{DeviceFault, Made}
use Rattle.qx_top.specs.declared.sizes.VolumeOptions.{VolumeOptions}
use Rattle.qx_top.specs.Lines.{text_of}
use Rattle.qx_top.specs.Run.{IsLeft, IsSafe}
use Rattle.qx_top.specs.Says.{Attaches, Says}
use Rattle.qx_top.specs.Sizes.{options_of}
use Rattle.qx_top.specs.Volumes.{Adds, AddsPartOf, HasVolume, MakesAt, created}
use Rattle.qx_top.proofs.ReadRuns.{Spoke, spoke_says}

-- ---- what the console and the clock leave as it is

-- what may stand somewhere depends on no text that was given
before_text : (bytes : List ℕ) (h : History) (len place : ℕ) (stands : List ℕ) → MayStand (after (gave bytes) h) len place stands → MayStand h len place stands
before_text bytes h len place stands (kept e) = kept e
before_text bytes h len place stands (asked a) = asked a
before_text bytes h len place stands (invalid f) = invalid f

-- nor on a moment that was told
after_moment : (moment : ℕ) (h : History) (len place : ℕ) (stands : List ℕ) → MayStand h len place stands → MayStand (after (told_moment moment) h) len place stands
after_moment moment h len place stands (kept e) = kept e
after_moment moment h len place stands (asked a) = asked a
after_moment moment h len place stands (invalid f) = invalid f

module _ (old : List ℕ) (o : MakeOptions) where
  -- so each image is left as well where a text was given
  left_after_text : (bytes : List ℕ) (h : History) → LeavesByMaker old o.size (tree_for o) h → LeavesByMaker old o.size (tree_for o) (after (gave bytes) h)
  left_after_text bytes h left = λ img is none.
      left img (record { size = is.size; same = is.same }) (record { stands = λ place among within. before_text bytes h _ place _ (none.stands place among within) })

  -- and before a moment was told
  left_before_moment : (moment : ℕ) (h : History) → LeavesByMaker old o.size (tree_for o) (after (told_moment moment) h) → LeavesByMaker old o.size (tree_for o) h
  left_before_moment moment h left = λ img is none.
      left img (record { size = is.size; same = is.same }) (record { stands = λ place among within. after_moment moment h _ place _ (none.stands place among within) })

  -- the moments of a run begin where the clock is asked
  from_clock : (moment : ℕ) (a b : History) → HoldsThroughout (LeavesByMaker old o.size (tree_for o)) (after (told_moment moment) a) b → HoldsThroughout (LeavesByMaker old o.size (tree_for o)) a b
  from_clock moment a b run =
      let P : History → Type 0 = LeavesByMaker old o.size (tree_for o) in
      let there = throughout_first P (after (told_moment moment) a) b run in
      throughout_then P a (after (told_moment moment) a) b (throughout_more P a a (told_moment moment) (throughout_here P a (left_before_moment moment a there)) there) run

-- ---- the maker's answer

-- where the numbers are a volume's, the maker fails for the device alone
pub fails_by_device : {P : Type 0} (o : MakeOptions) (g : Geometry) (answer : Result Numbers MakeFault) (fault : MakeFault) → answer ≡ Err fault → geometry_for o ≡ Ok g
    → ((why : GeomFault) → answer ≡ Err (faults.Geom why) → geometry_for o ≡ Err why) → (answer ≡ Err faults.Device → P) → P
fails_by_device o g answer (faults.Geom why) is volume geom device = absurd (cc (volume, geom why is))
fails_by_device o g answer faults.Device is volume geom device = device is

-- ---- where nothing was written yet

-- the bytes themselves are left so
is_left : (old : List ℕ) (o : MakeOptions) (pick : Pick) → active_area old ≡ pick → (pick ≡ picks.Disagree → ⊥) → IsLeftByMaker old (tree_for o) old
is_left old o (picks.Active which) is agree = old_volume which is is refl (λ u. (λ x. x, λ x. x))
is_left old o picks.None is agree = nothing is
is_left old o picks.Disagree is agree = absurd (agree refl)

-- and are all that a cut may leave
left_at_rest : (o : MakeOptions) (h : History) → IsReadyToMake h → LeavesByMaker (bytes_of h) o.size (tree_for o) h
left_at_rest o h ready = λ img is none.
    subst (λ (bytes : List ℕ). IsLeftByMaker (bytes_of h) (tree_for o) bytes) (sym (image_settled h img ready.settled is)) (is_left (bytes_of h) o (active_area (bytes_of h)) refl ready.agree)

-- a moment that was told leaves the device ready
ready_later : (moment : ℕ) (h : History) → IsReadyToMake h → IsReadyToMake (after (told_moment moment) h)
ready_later moment h ready = record { settled = record { quiet = ready.settled.quiet }; agree = ready.agree; alone = ready.alone }

-- ---- what is said at the end

spoke_moments : (a b : History) → Spoke a b → moments_told b.deeds ≡ moments_told a.deeds
spoke_moments a b (inl same) = ap (λ (h : History). moments_told h.deeds) same
spoke_moments a b (inr said) = ap (λ (h : History). moments_told h.deeds) said.1

spoke_input : (a b : History) → Spoke a b → input b ≡ input a
spoke_input a b (inl same) = ap input same
spoke_input a b (inr said) = ap input said.1 ∙ append-nil (input a)

spoke_lengths : (a b : History) → Spoke a b → lengths_asked b.deeds ≡ lengths_asked a.deeds
spoke_lengths a b (inl same) = ap (λ (h : History). lengths_asked h.deeds) same
spoke_lengths a b (inr said) = ap (λ (h : History). lengths_asked h.deeds) said.1

spoke_left : (old : List ℕ) (o : MakeOptions) (first a b : History) → Spoke a b → HoldsThroughout (LeavesByMaker old o.size (tree_for o)) first a → HoldsThroughout (LeavesByMaker old o.size (tree_for o)) first b
spoke_left old o first a b (inl same) run = subst (λ (h : History). HoldsThroughout (LeavesByMaker old o.size (tree_for o)) first h) (sym same) run
spoke_left old o first a b (inr said) run =
    subst (λ (h : History). HoldsThroughout (LeavesByMaker old o.size (tree_for o)) first h) (sym said.1)
    (throughout_more (LeavesByMaker old o.size (tree_for o)) first a (gave said.0) run (left_after_text old o said.0 a (throughout_last (LeavesByMaker old o.size (tree_for o)) first a run)))

-- a volume that was made stays made
spoke_made : (o : MakeOptions) (g : Geometry) (old : List ℕ) (a b : History) → Spoke a b → HasMade o g old a → HasMade o g old b
spoke_made o g old a b (inl same) m = subst (λ (h : History). HasMade o g old h) (sym same) m
spoke_made o g old a b (inr said) m =
    subst (λ (h : History). HasMade o g old h) (sym said.1)
    (record { bytes = m.bytes; settled = record { quiet = m.settled.quiet }; active = m.active; superblock = m.superblock; sound = m.sound })

-- ---- the run

-- what is known before the last line is given
pub record IsUnderway (image : List ℕ) (v : VolumeOptions) (moment : ℕ) (old new : Outside) : Type 0 where
  pub before : IsTrue new.tells → IsTrue old.tells
  pub paths : Attaches (created image) old new
  pub clock : IsTrue new.tells → moments_told new.history.deeds ≡ moment ∷ moments_told old.history.deeds
  pub taken : IsTrue new.tells → input new.history ≡ input old.history
  pub silent : IsTrue new.tells → output new.history ≡ output old.history
  pub any_moment : IsTrue new.tells → IsReadyToMake old.history → HoldsThroughout (IsLeft (Some v) moment old.history) old.history new.history
  pub lengths : IsTrue new.tells → AsksOneLength v.size old.history new.history

-- at most one moment was told, and it is this one
same_moment : (moment other : ℕ) (old new : List ℕ) → new ≡ moment ∷ old → (new ≡ other ∷ old) ⊎ (new ≡ old) → other ≡ moment
same_moment moment other old new told (inl same) = cc
same_moment moment other old new told (inr none) = absurd (omega (arith, ap length (sym none ∙ told)))

-- a clock that fails leaves the device as it was
pub safe_without_moment : (v : VolumeOptions) (old new : Outside) → Idles old new → IsSafe (Some v) old new
safe_without_moment v old new idle = record {
  before = idle.before;
  step = λ moment t ready told.
      subst (λ (h : History). HoldsThroughout (IsLeft (Some v) moment old.history) old.history h) (sym (idle.step t))
      (throughout_here (IsLeft (Some v) moment old.history) old.history (left_at_rest (options_of v moment) old.history ready));
}

module _ (image : List ℕ) (v : VolumeOptions) (moment : ℕ) where
  -- the clock told a moment, and the image was asked to be attached
  module _ (a b c : Outside) (asked_clock : Did (told_moment moment) a b) (same : b.attached ≡ a.attached) (idle : Idles b c) (attach : Attaches (created image) b c) where
    pub begun : IsTrue c.tells → c.history ≡ after (told_moment moment) a.history
    begun t = idle.step t ∙ asked_clock.step (idle.before t)

    became : Attaches (created image) a c
    became = subst (λ (before : Option (List Attachment)). Becomes before c.attached (λ before now. now ≡ created image ∷ before)) same attach

    pub attached_first : IsUnderway image v moment a c
    attached_first = record {
      before = λ t. asked_clock.before (idle.before t);
      paths = became;
      clock = λ t. ap (λ (h : History). moments_told h.deeds) (begun t);
      taken = λ t. ap input (begun t) ∙ append-nil (input a.history);
      silent = λ t. ap output (begun t) ∙ append-nil (output a.history);
      any_moment = λ t ready.
          let o = options_of v moment in
          let P : History → Type 0 = LeavesByMaker (bytes_of a.history) v.size (tree_for o) in
          subst (λ (h : History). HoldsThroughout P a.history h) (sym (begun t))
          (from_clock (bytes_of a.history) o moment a.history (after (told_moment moment) a.history) (throughout_here P (after (told_moment moment) a.history) (left_at_rest o (after (told_moment moment) a.history) (ready_later moment a.history ready))));
      lengths = λ t. inl (ap (λ (h : History). lengths_asked h.deeds) (begun t));
    }

    -- and the maker was called
    pub made_next : (o : MakeOptions) (d : Outside) → o ≡ options_of v moment → d.attached ≡ c.attached → MakesAtEachMoment o c d
        → (IsTrue d.tells → AsksOneLength o.size c.history d.history) → (IsTrue d.tells → KeepsQuiet c.history d.history)
        → IsUnderway image v moment a d
    made_next o d is there at_each lengths quiet = record {
      before = λ t. attached_first.before (at_each.before t);
      paths = subst (λ (now : Option (List Attachment)). Becomes a.attached now (λ before now. now ≡ created image ∷ before)) (sym there) became;
      clock = λ t. (quiet t).moments ∙ attached_first.clock (at_each.before t);
      taken = λ t. (quiet t).taken ∙ attached_first.taken (at_each.before t);
      silent = λ t. (quiet t).given ∙ attached_first.silent (at_each.before t);
      any_moment = λ t ready.
          let e = begun (at_each.before t) in
          let ready_then : IsReadyToMake c.history = subst IsReadyToMake (sym e) (ready_later moment a.history ready) in
          subst (λ (o : MakeOptions). HoldsThroughout (LeavesByMaker (bytes_of a.history) o.size (tree_for o)) a.history d.history) is
          (from_clock (bytes_of a.history) o moment a.history d.history
          (subst (λ (h : History). HoldsThroughout (LeavesByMaker (bytes_of h) o.size (tree_for o)) h d.history) e (at_each.step t ready_then)));
      lengths = λ t. subst (λ (o : MakeOptions). AsksOneLength o.size a.history d.history) is (subst (λ (h : History). AsksOneLength o.size h d.history) (begun (at_each.before t)) (lengths t));
    }

    -- the volume, in terms of the bytes at the start
    pub made_of_start : (o : MakeOptions) (g : Geometry) (d : Outside) → o ≡ options_of v moment → (IsTrue d.tells → IsTrue c.tells) → (IsTrue d.tells → HasMade o g (bytes_of c.history) d.history)
        → IsTrue d.tells → HasVolume v g moment a.history d.history
    made_of_start o g d is before made t =
        subst (λ (h : History). HasMade (options_of v moment) g (bytes_of h) d.history) (begun (before t)) (subst (λ (o : MakeOptions). HasMade o g (bytes_of c.history) d.history) is (made t))

  -- the last line
  module _ (g : Geometry) (status : ℕ) (a d e : Outside) (under : IsUnderway image v moment a d) (same : e.attached ≡ d.attached) (line : Line) (owed : ℕ) (s : Says line owed status d e) where
    spoke : IsTrue e.tells → Spoke d.history e.history
    spoke t = spoke_says status d e line owed s t

    whole_text : status ≢ 4 → IsTrue e.tells → Adds line a.history e.history
    whole_text not_so t = ap output (s.whole not_so t) ∙ ap (λ (l : List ℕ). l ++ text_of line) (under.silent (s.before t))

    part_of_text : status ≡ 4 → IsTrue e.tells → AddsPartOf line a.history e.history
    part_of_text failed t = elim (s.cut failed t) [
      | inl same ↦ (0, omega arith, ap output same ∙ under.silent (s.before t) ∙ sym (append-nil _))
      | inr part ↦ (part.0, part.1, ap output part.2 ∙ ap (λ (l : List ℕ). l ++ take part.0 (text_of line)) (under.silent (s.before t)))
    ]

    ended : (status ≡ owed) ⊎ (status ≡ 4)
    ended = elim (cases_eq status 4) [ inl failed ↦ inr failed | inr not_so ↦ inl (s.owes not_so) ]

    paths_end : Attaches (created image) a e
    paths_end = subst (λ (now : Option (List Attachment)). Becomes a.attached now (λ before now. now ≡ created image ∷ before)) (sym same) under.paths

    clock_end : IsTrue e.tells → moments_told e.history.deeds ≡ moment ∷ moments_told a.history.deeds
    clock_end t = spoke_moments d.history e.history (spoke t) ∙ under.clock (s.before t)

    taken_end : IsTrue e.tells → input e.history ≡ input a.history
    taken_end t = spoke_input d.history e.history (spoke t) ∙ under.taken (s.before t)

    lengths_end : IsTrue e.tells → AsksOneLength v.size a.history e.history
    lengths_end t =
        let l = spoke_lengths d.history e.history (spoke t) in
        elim (under.lengths (s.before t)) [ inl none ↦ inl (l ∙ none) | inr one ↦ inr (l ∙ one) ]

    -- what stands at each moment
    pub safe_at_the_end : IsSafe (Some v) a e
    safe_at_the_end = record {
      before = λ t. under.before (s.before t);
      step = λ other t ready told.
          subst (λ (m : ℕ). HoldsThroughout (IsLeft (Some v) m a.history) a.history e.history) (sym (same_moment moment other (moments_told a.history.deeds) (moments_told e.history.deeds) (clock_end t) told))
          (spoke_left (bytes_of a.history) (options_of v moment) a.history d.history e.history (spoke t) (under.any_moment (s.before t) ready));
    }

  module _ (g : Geometry) (status : ℕ) (a d e : Outside) (under : IsUnderway image v moment a d) (same : e.attached ≡ d.attached) where
    -- it says that a device call failed
    pub says_fault : Says DeviceFault 3 status d e → Rose a.dev_faults e.dev_faults → MakesAt image v g moment status a e
    says_fault s rose = record {
      before = λ t. under.before (s.before t);
      ends = inr (ended g status a d e under same DeviceFault 3 s);
      paths = paths_end g status a d e under same DeviceFault 3 s;
      clock = clock_end g status a d e under same DeviceFault 3 s;
      taken = taken_end g status a d e under same DeviceFault 3 s;
      made = λ zero t. absurd (omega (arith, s.owes (omega arith)));
      fault = λ three t. whole_text g status a d e under same DeviceFault 3 s (omega arith) t;
      cut = λ four t. inr (rose, part_of_text g status a d e under same DeviceFault 3 s four t);
      volume = λ zero t. absurd (omega (arith, s.owes (omega arith)));
      lengths = lengths_end g status a d e under same DeviceFault 3 s;
    }

    -- it says that the volume was made
    pub says_made : Says (Made (made_of g)) 0 status d e → (IsTrue d.tells → HasVolume v g moment a.history d.history) → MakesAt image v g moment status a e
    says_made s made =
        let line = Made (made_of g) in
        let stays : IsTrue e.tells → HasVolume v g moment a.history e.history = λ t.
        spoke_made (options_of v moment) g (bytes_of a.history) d.history e.history (spoke g status a d e under same line 0 s t) (made (s.before t)) in
        record {
          before = λ t. under.before (s.before t);
          ends = elim (ended g status a d e under same line 0 s) [ inl zero ↦ inl zero | inr four ↦ inr (inr four) ];
          paths = paths_end g status a d e under same line 0 s;
          clock = clock_end g status a d e under same line 0 s;
          taken = taken_end g status a d e under same line 0 s;
          made = λ zero t. whole_text g status a d e under same line 0 s (omega arith) t;
          fault = λ three t. absurd (omega (arith, s.owes (omega arith)));
          cut = λ four t. inl (stays t, part_of_text g status a d e under same line 0 s four t);
          volume = λ zero t. stays t;
          lengths = lengths_end g status a d e under same line 0 s;
        }
