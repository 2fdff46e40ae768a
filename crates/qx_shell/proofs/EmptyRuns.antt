-- A run of nothing is a run of the shell: the statement can be met.
use Rattle.std.proofs.Common.{◌≡◌, ℕ, List, [], ◌∷◌, refl, sym, ◌∙◌, subst, arith}
use Rattle.std.specs.Prelude.{Some, true}
use Rattle.qx_geom.proofs.Members.{Contains-head}
use Rattle.qx_outside.specs.Images.{IsPending}
use Rattle.qx_outside.specs.Trail.{Deed, device_bytes, synced, told_moment, took}
use Rattle.qx_outside.proofs.Cuts.{image_settled}
use Rattle.qx_super.specs.Superblock.{Superblock}
use Rattle.qx_super.specs.Active.{active_super}
use Rattle.qx_model.specs.declared.reply.Reply.TheVariants as reply
use Rattle.qx_model.specs.declared.turn.Act.TheVariants as act
use Rattle.qx_model.specs.declared.turn.Turn.{Turn}
use Rattle.qx_model.specs.Tree.{Tree}
use Rattle.qx_model.specs.Machine.{Machine, Volume, start_of, without_holds}
use Rattle.qx_model.specs.Findable.{FoundTree}
use Rattle.qx_model.specs.Next.{Transition, Next}
use Rattle.qx_model.proofs.QuietTurns.{quiet_comes}
use Rattle.qx_view.specs.Sound.{IsSound}
use Rattle.qx_words.specs.Scripts.{event_by}
use Rattle.qx_words.specs.Texts.{last_text}
use Rattle.qx_shell.specs.MadeTurns.{Over, MadeTurn, end}
use Rattle.qx_shell.specs.Cuts.{CutsFind, FindsOne, places_in}
use Rattle.qx_shell.specs.Ends.{at_last}
use Rattle.qx_shell.specs.Headline.{IsMountedRun}
use Rattle.qx_shell.specs.Mounts.{IsSoundStart, IsStart, Writing, of_sound, volume_of}
use Rattle.qx_shell.specs.SmallRuns.{empty_run}
use Rattle.qx_shell.proofs.LastTurns.{settled_end}

-- what is said in the end
quiet_turn : Turn
quiet_turn = record { reply = reply.Done; notices = [] }

-- a machine that was just mounted ends so
start_ends : (v : Volume) (t : Tree) (serial moment last : ℕ) → (let s = start_of v t serial moment in Next s (event_by 0 act.End last) (record { reply = reply.Done; notices = [] }) (without_holds s))
start_ends v t serial moment last =
    let s = start_of v t serial moment in
    let e = event_by 0 act.End last in
    subst (λ (r : Transition). Next s e r.turn r.machine) (settled_end s 0 last (record { none = refl; unchanged = refl; kept = refl })) (quiet_comes s e)

-- a device with nothing pending and its starting bytes finds the tree of these
start_finds : (places : List ℕ) (img : List ℕ) (deeds : List Deed) (t : Tree) (z : Superblock) → active_super img ≡ Some z → IsSound img t → ((k : ℕ) → IsPending deeds k → ⊥) → device_bytes img deeds ≡ img
    → CutsFind places (record { tree = t; serial = z.serial } ∷ []) (record { starting = img; deeds = deeds })
start_finds places img deeds t z active sound quiet same = record {
  finds = λ image is chance. (
      let one : image ≡ img = image_settled (record { starting = img; deeds = deeds }) image (record { quiet = quiet }) is ∙ same in
      let found : List FoundTree = record { tree = t; serial = z.serial } ∷ [] in
      subst (λ x. FindsOne found x) (sym one) (record { tree = t; superblock = z; active = active; sound = sound; is_one = Contains-head (record { tree = t; serial = z.serial }) [] })
      );
}

-- from a mount of a sound image
empty_run_is : (img : List ℕ) (moment last : ℕ) (s : Machine) → IsSoundStart Writing img moment s → IsMountedRun Writing (empty_run img moment last) 0
unfolding last_text
empty_run_is img moment last s z =
    let t = z.tree in
    let s = start_of (volume_of Writing z.geometry) t z.superblock.serial moment in
    let m : MadeTurn = record { turn = record { reply = reply.Done; notices = [] }; text = []; machine = without_holds s } in
    let places = places_in img in
    let finds = λ (deeds : List Deed) (quiet : (k : ℕ) → IsPending deeds k → ⊥) (same : device_bytes img deeds ≡ img). start_finds places img deeds t z.superblock z.active z.sound quiet same in
    record {
      moment = moment;
      moments = last ∷ [];
      clock = refl;
      start = s;
      starts = of_sound Writing (record { tree = t; superblock = z.superblock; geometry = z.geometry; active = z.active; written = z.written; sound = z.sound; starts = refl });
      made = m ∷ [];
      reach = Over;
      turns = end s last [] m (start_ends (volume_of Writing z.geometry) t z.superblock.serial moment last) refl;
      few = omega arith;
      ends = at_last refl refl refl;
      cuts = record {
        since = told_moment last ∷ took [] ∷ synced true ∷ told_moment moment ∷ [];
        grew = refl;
        along = (
          finds (told_moment last ∷ took [] ∷ synced true ∷ told_moment moment ∷ []) (λ k h. h) refl,
          (
            finds (took [] ∷ synced true ∷ told_moment moment ∷ []) (λ k h. h) refl,
            (finds (synced true ∷ told_moment moment ∷ []) (λ k h. h) refl, (finds (told_moment moment ∷ []) (λ k h. h) refl, finds [] (λ k h. h) refl)),
          ),
        );
      };
    }

-- whatever the start is called
pub empty_run_mounts : (img : List ℕ) (moment last : ℕ) (s : Machine) → IsStart img moment s Writing → IsMountedRun Writing (empty_run img moment last) 0
empty_run_mounts img moment last s (of_sound how z) = empty_run_is img moment last s z
