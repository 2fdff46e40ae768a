-- Changes that leave all blocks but some as they were.
use Rattle.std.proofs.Common.{◌≡◌, ℕ, inl, inr, [], ◌∷◌, ◌++◌, List, refl, ◌∙◌}
use Rattle.std.specs.Prelude.{true, false, Contains, if◌then◌else◌}
use Rattle.qx_geom.specs.Lists.{is_in}
use Rattle.qx_geom.proofs.Members.{Contains-cons, Contains-head, in_append_cases, in_head, in_left, in_right, in_tail}
use Rattle.qx_geom.proofs.Truths.{not_so, true_or_false}
use Rattle.qx_blocks.specs.BlockState.{BlockState, with_bytes, with_free, with_shared, without}
use Rattle.qx_ptree.specs.Takings.{LeavesOthers}
use Rattle.qx_ptree.specs.WorkState.{EditState, WorkState, all_blocks, given_up, with_edits, without_all}
use Rattle.qx_ptree.proofs.ListedBlocks.{differs, out_within, put-other}

-- nothing changes
pub LeavesOthers-same : (bs : List ℕ) (m : BlockState) → LeavesOthers bs m m
LeavesOthers-same bs m = record {
  size = refl;
  count = refl;
  tells = refl;
  history = refl;
  held = λ q out. refl;
  works = λ q out. refl;
  private = λ q out. refl;
  ready = λ q out. refl;
  bytes = λ q out. refl;
}

-- two changes one after another
pub LeavesOthers-then : (bs : List ℕ) (m n o : BlockState) → LeavesOthers bs m n → LeavesOthers bs n o → LeavesOthers bs m o
LeavesOthers-then bs m n o f g = record {
  size = g.size ∙ f.size;
  count = g.count ∙ f.count;
  tells = g.tells ∙ f.tells;
  history = g.history ∙ f.history;
  held = λ q out. g.held q out ∙ f.held q out;
  works = λ q out. g.works q out ∙ f.works q out;
  private = λ q out. g.private q out ∙ f.private q out;
  ready = λ q out. g.ready q out ∙ f.ready q out;
  bytes = λ q out. g.bytes q out ∙ f.bytes q out;
}

-- what leaves all but some leaves all but more
pub LeavesOthers-within : (bs cs : List ℕ) (m n : BlockState) → ((b : ℕ) → is_in bs b ≡ true → is_in cs b ≡ true) → LeavesOthers bs m n → LeavesOthers cs m n
LeavesOthers-within bs cs m n within f = record {
  size = f.size;
  count = f.count;
  tells = f.tells;
  history = f.history;
  held = λ q out. f.held q (out_within bs cs q (within q) out);
  works = λ q out. f.works q (out_within bs cs q (within q) out);
  private = λ q out. f.private q (out_within bs cs q (within q) out);
  ready = λ q out. f.ready q (out_within bs cs q (within q) out);
  bytes = λ q out. f.bytes q (out_within bs cs q (within q) out);
}

-- a change of other blocks after a change
pub LeavesOthers-both : (bs cs : List ℕ) (m n o : BlockState) → LeavesOthers bs m n → LeavesOthers cs n o → LeavesOthers (bs ++ cs) m o
LeavesOthers-both bs cs m n o f g =
    LeavesOthers-then (bs ++ cs) m n o
    (LeavesOthers-within bs (bs ++ cs) m n (in_left bs cs) f)
    (LeavesOthers-within cs (bs ++ cs) n o (in_right bs cs) g)

-- what is in neither list isn't in both together
pub out_both : (bs cs : List ℕ) (q : ℕ) → is_in bs q ≡ false → is_in cs q ≡ false → is_in (bs ++ cs) q ≡ false
out_both bs cs q first second = not_so (is_in (bs ++ cs) q) (λ t. elim (in_append_cases bs cs q t) [ inl h ↦ true_or_false (is_in bs q) h first | inr h ↦ true_or_false (is_in cs q) h second ])

-- a block is written
pub LeavesOthers-with_bytes : (bs : List ℕ) (m : BlockState) (b : ℕ) (bytes : List ℕ) → is_in bs b ≡ true → LeavesOthers bs m (with_bytes m b bytes)
LeavesOthers-with_bytes bs m b bytes in' = record {
  size = refl;
  count = refl;
  tells = refl;
  history = refl;
  held = λ q out. refl;
  works = λ q out. refl;
  private = λ q out. refl;
  ready = λ q out. refl;
  bytes = λ q out. put-other m.bytes b q bytes (differs bs b q in' out);
}

-- a block is given up that no other tree holds
LeavesOthers-with_free : (bs : List ℕ) (m : BlockState) (b : ℕ) → is_in bs b ≡ true → LeavesOthers bs m (with_free m b)
LeavesOthers-with_free bs m b in' = record {
  size = refl;
  count = refl;
  tells = refl;
  history = refl;
  held = λ q out. put-other m.holdings.held b q false (differs bs b q in' out);
  works = λ q out. put-other m.holdings.works b q false (differs bs b q in' out);
  private = λ q out. put-other m.holdings.private b q false (differs bs b q in' out);
  ready = λ q out. put-other m.holdings.ready b q false (differs bs b q in' out);
  bytes = λ q out. put-other m.bytes b q [] (differs bs b q in' out);
}

-- a block is given up that other trees hold
LeavesOthers-with_shared : (bs : List ℕ) (m : BlockState) (b : ℕ) → is_in bs b ≡ true → LeavesOthers bs m (with_shared m b)
LeavesOthers-with_shared bs m b in' = record {
  size = refl;
  count = refl;
  tells = refl;
  history = refl;
  held = λ q out. refl;
  works = λ q out. put-other m.holdings.works b q false (differs bs b q in' out);
  private = λ q out. refl;
  ready = λ q out. refl;
  bytes = λ q out. refl;
}

-- a block is given up where the working tree holds it
pub LeavesOthers-given_up : (bs : List ℕ) (m : BlockState) (b : ℕ) → is_in bs b ≡ true → LeavesOthers bs m (given_up m b)
LeavesOthers-given_up bs m b in' =
    elim (m.holdings.works b) as (λ t. LeavesOthers bs m (if t then without m b else m)) [
      | true ↦ elim (m.holdings.private b) as (λ t. LeavesOthers bs m (if t then with_free m b else with_shared m b)) [
        | true ↦ LeavesOthers-with_free bs m b in'
        | false ↦ LeavesOthers-with_shared bs m b in'
      ]
      | false ↦ LeavesOthers-same bs m
    ]

-- these blocks are given up
pub LeavesOthers-without_all : (bs : List ℕ) (m : BlockState) (xs : List ℕ) → ((b : ℕ) → is_in xs b ≡ true → is_in bs b ≡ true) → LeavesOthers bs m (without_all m xs)
LeavesOthers-without_all bs m [] within = LeavesOthers-same bs m
LeavesOthers-without_all bs m (x ∷ xs) within =
    LeavesOthers-then bs m (given_up m x) (without_all (given_up m x) xs)
    (LeavesOthers-given_up bs m x (within x (in_head x xs)))
    (LeavesOthers-without_all bs (given_up m x) xs (λ b h. within b (in_tail x b xs h)))

-- these edits are written
pub LeavesOthers-with_edits : (bs : List ℕ) (m : BlockState) (es : List EditState) → ((e : EditState) → Contains es e → is_in bs e.block ≡ true) → LeavesOthers bs m (with_edits m es)
LeavesOthers-with_edits bs m [] within = LeavesOthers-same bs m
LeavesOthers-with_edits bs m (e ∷ es) within =
    LeavesOthers-then bs m (with_bytes m e.block e.bytes) (with_edits (with_bytes m e.block e.bytes) es)
    (LeavesOthers-with_bytes bs m e.block e.bytes (within e (Contains-head e es)))
    (LeavesOthers-with_edits bs (with_bytes m e.block e.bytes) es (λ d h. within d (Contains-cons e d es h)))

-- a block that stays is one of the work
pub kept_among : (work : WorkState) (b : ℕ) → is_in work.kept b ≡ true → is_in (all_blocks work) b ≡ true
kept_among work b h = in_right work.fresh (work.kept ++ work.released) b (in_left work.kept work.released b h)

-- and so is one that is to be given up
pub released_among : (work : WorkState) (b : ℕ) → is_in work.released b ≡ true → is_in (all_blocks work) b ≡ true
released_among work b h = in_right work.fresh (work.kept ++ work.released) b (in_right work.kept work.released b h)

-- what is done to the blocks that stay, and then to those that are given up, leaves all but those of the work
pub LeavesOthers-work : (work : WorkState) (m n o : BlockState) → LeavesOthers work.kept m n → LeavesOthers work.released n o → LeavesOthers (all_blocks work) m o
LeavesOthers-work work m n o f g =
    LeavesOthers-then (all_blocks work) m n o
    (LeavesOthers-within work.kept (all_blocks work) m n (kept_among work) f)
    (LeavesOthers-within work.released (all_blocks work) n o (released_among work) g)
