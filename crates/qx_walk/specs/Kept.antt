-- What the records of a directory leave behind, one after another: names, inodes and long-name numbers.
use Rattle.std.specs.Prelude.{ℕ, List, [], ◌∷◌, ◌++◌, map, Option, option_to_list}
use Rattle.qx_geom.specs.declared.root.Root.{Root}
use Rattle.qx_nodes.specs.BlockMap.{BlockMap}
use Rattle.qx_records.specs.NameRecord.{RawRecord}
use Rattle.qx_view.specs.Images.{raw_of}
use Rattle.qx_view.specs.Reading.{slot_of}
use Rattle.qx_view.specs.Sound.{long_number}
use Rattle.qx_view.specs.Walk.{named_inode, new_ones, slot_name}

-- the names of a directory's rows, the inodes that are to be taken with the directories that list them, all that were listed, and the long-name numbers that were named
pub record Kept : Type 0 where
  pub names : List (List ℕ)
  pub queue : List (ℕ × ℕ)
  pub listed : List ℕ
  pub numbers : List ℕ

-- with what a record of directory d has of a name, an inode that it lists and a long-name number
abbrev pub with_row : ℕ → List (List ℕ) → Option ℕ → Option ℕ → Kept → Kept
with_row d names named number kept = record {
  names = names ++ kept.names;
  queue = kept.queue ++ map (λ n. (n, d)) (new_ones (option_to_list named) kept.listed);
  listed = option_to_list named ++ kept.listed;
  numbers = option_to_list number ++ kept.numbers;
}

-- with a record of it
abbrev pub with_record : BlockMap → Root → ℕ → RawRecord → Kept → Kept
with_record m longfile d raw kept = with_row d (slot_name (slot_of m longfile raw)) (named_inode m longfile raw) (long_number raw) kept

-- with these records of it, one after another
abbrev pub with_records : BlockMap → Root → ℕ → Root → List ℕ → Kept → Kept
with_records m longfile d node [] kept = kept
with_records m longfile d node (k ∷ ks) kept = with_records m longfile d node ks (with_record m longfile d (raw_of m node k) kept)
