-- What the console and the clock do leaves what cuts find.
use Rattle.std.proofs.Common.{ℕ, List}
use Rattle.qx_outside.specs.Calls.{IsOfConsole}
use Rattle.qx_outside.specs.Images.{IsImage}
use Rattle.qx_outside.specs.Trail.{Deed, History, after, gave, sized, synced, told_moment, took, wrote}
use Rattle.qx_outside.proofs.Throughout.{throughout_here, throughout_last, throughout_more, throughout_then}
use Rattle.qx_model.specs.Findable.{FoundTree}
use Rattle.qx_view.specs.FalseSuperblocks.{MayStand, asked, invalid, kept}
use Rattle.qx_shell.specs.Cuts.{CutsFind}
use Rattle.qx_shell.specs.Turns.{LeavesCuts}

-- an image after such a deed was one before
image_before : (h : History) (deed : Deed) (img : List ℕ) → IsOfConsole deed → IsImage (after deed h) img → IsImage h img
image_before h (took bytes) img c is = record { size = is.size; same = is.same }
image_before h (gave bytes) img c is = record { size = is.size; same = is.same }
image_before h (told_moment moment) img c is = record { size = is.size; same = is.same }
image_before h (wrote at wanted left ok) img c is = absurd c
image_before h (synced ok) img c is = absurd c
image_before h (sized len ok) img c is = absurd c

-- and what may stand at a superblock's place might have stood there
stood_before : (h : History) (deed : Deed) (len place : ℕ) (bytes : List ℕ) → IsOfConsole deed → MayStand (after deed h) len place bytes → MayStand h len place bytes
stood_before h (took taken) len place bytes c (kept is) = kept is
stood_before h (took taken) len place bytes c (asked is) = asked is
stood_before h (took taken) len place bytes c (invalid is) = invalid is
stood_before h (gave given) len place bytes c (kept is) = kept is
stood_before h (gave given) len place bytes c (asked is) = asked is
stood_before h (gave given) len place bytes c (invalid is) = invalid is
stood_before h (told_moment moment) len place bytes c (kept is) = kept is
stood_before h (told_moment moment) len place bytes c (asked is) = asked is
stood_before h (told_moment moment) len place bytes c (invalid is) = invalid is
stood_before h (wrote at wanted left ok) len place bytes c m = absurd c
stood_before h (synced ok) len place bytes c m = absurd c
stood_before h (sized size ok) len place bytes c m = absurd c

-- cuts find after it what they found before
pub finds_after : (places : List ℕ) (found : List FoundTree) (h : History) (deed : Deed) → IsOfConsole deed → CutsFind places found h → CutsFind places found (after deed h)
finds_after places found h deed c f = record {
  finds = λ img image chance. f.finds img (image_before h deed img c image) (record { stands = λ place one fits. stood_before h deed _ place _ c (chance.stands place one fits) });
}

-- one such deed
pub console_leaves : (places : List ℕ) (h : History) (deed : Deed) → IsOfConsole deed → LeavesCuts places h (after deed h)
console_leaves places h deed c = record {
  leaves = λ found f. throughout_more (CutsFind places found) h h deed (throughout_here (CutsFind places found) h f) (finds_after places found h deed c f);
}

-- none
pub nothing_leaves : (places : List ℕ) (h : History) → LeavesCuts places h h
nothing_leaves places h = record { leaves = λ found f. throughout_here (CutsFind places found) h f }

-- and one after another
pub leaves_then : (places : List ℕ) (a b c : History) → LeavesCuts places a b → LeavesCuts places b c → LeavesCuts places a c
leaves_then places a b c l k = record {
  leaves = λ found f. (
      let first = l.leaves found f in
      throughout_then (CutsFind places found) a b c first (k.leaves found (throughout_last (CutsFind places found) a b first))
      );
}
