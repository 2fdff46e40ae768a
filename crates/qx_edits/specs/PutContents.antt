-- Contents of nodes over blocks, which were changed and into which bytes were put.
use Rattle.std.specs.Prelude.{◌≡◌, ℕ, ◌/◌, ◌%◌, ◌<◌, ◌≤◌, true, false, List, length, replicate, slice_index}
use Rattle.qx_geom.specs.Lists.{IsAscending, is_in}
use Rattle.qx_geom.specs.Pointer.{ceil_div}
use Rattle.qx_nodes.specs.NodeContents.{IsSameContent, NodeContent}
use Rattle.qx_ptree.specs.declared.change.Change.{Change}
use Rattle.qx_batch.specs.Changes.{changed_content}
use Rattle.qx_batch.specs.PutNodes.{put_content}

-- what holds of a node's content over blocks: each leaf is as long as a block, and 0 where it isn't present; the present ones ascend and lie below the end
pub record IsOverBlocks (blocksize : ℕ) (c : NodeContent) : Type 0 where
  pub long : (i : ℕ) → length (c.leaves i) ≡ blocksize
  pub holes : (i : ℕ) → is_in c.present i ≡ false → c.leaves i ≡ replicate blocksize 0
  pub below : (i : ℕ) → is_in c.present i ≡ true → i < ceil_div c.size blocksize
  pub ascends : IsAscending c.present

-- a change was made in a content, and bytes were put from a place on
abbrev pub IsPutInto : ℕ → Change → ℕ → List ℕ → NodeContent → NodeContent → Type 0
IsPutInto blocksize c at bytes a b = IsSameContent blocksize (put_content blocksize at bytes (changed_content blocksize c a)) b

-- a file's content has nothing but 0 past its end
abbrev pub HasZerosBehind : ℕ → NodeContent → Type 0
HasZerosBehind blocksize c = (k : ℕ) → c.size ≤ k → slice_index (c.leaves (k / blocksize)) (k % blocksize) ≡ 0
