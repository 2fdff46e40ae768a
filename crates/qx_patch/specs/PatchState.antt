-- Changed blocks, as the layers above see them.
use Rattle.std.specs.Prelude.{ℕ, ◌-◌, ◌+◌, ◌≤◌, List, [], IsTrue, if◌then◌else◌, refl, unwrap_or}
use Rattle.std.specs.Ordering.{nat_cmp}
use Rattle.std.specs.FinMap.{FinMap, get, contains_key, insert, remove, code}
use Rattle.std.specs.Coded.{Coded, code_by, coded×, coded_ℕ, coded_list}
use Rattle.qx_bytes.specs.SameLengths.{refit}

-- the size of a block, how many more blocks have room, and the bytes of each block that is there
pub record PatchState : Type 0 where
  pub size : ℕ
  pub spare : ℕ
  pub blocks : FinMap nat_cmp (List ℕ)

-- it is stored as the tuple of its fields
abbrev pub patch_code : Coded PatchState
patch_code =
    code_by (ℕ × (ℕ × FinMap nat_cmp (List ℕ))) (coded× coded_ℕ (coded× coded_ℕ (code coded_ℕ (coded_list coded_ℕ))))
    (λ p. (p.size, (p.spare, p.blocks))) (λ t. record { size = t.0; spare = t.1.0; blocks = t.1.1 }) (λ _. refl)

-- block b has these bytes, in its own room or in one that was spare
abbrev pub with_block : PatchState → ℕ → List ℕ → PatchState
with_block p b bytes = record p { spare = if contains_key p.blocks b then p.spare else p.spare - 1; blocks = insert p.blocks b bytes }

-- block b is gone, and its room is spare
abbrev pub without_block : PatchState → ℕ → PatchState
without_block p b = record p { spare = if contains_key p.blocks b then p.spare + 1 else p.spare; blocks = remove p.blocks b }

-- block b, which is there, got these bytes
abbrev pub edited_in : PatchState → ℕ → List ℕ → PatchState
edited_in p b bytes = record p { blocks = insert p.blocks b (refit (unwrap_or (get p.blocks b) []) bytes) }

-- b is the least block that is there
pub record IsLeast (blocks : FinMap nat_cmp (List ℕ)) (b : ℕ) : Type 0 where
  pub there : IsTrue (contains_key blocks b)
  pub least : (q : ℕ) → IsTrue (contains_key blocks q) → b ≤ q
