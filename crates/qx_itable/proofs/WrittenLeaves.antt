-- A leaf that is written record by record.
use Rattle.std.proofs.Common.{◌≡◌, ℕ, zero, suc, ◌+◌, ◌-◌, ◌*◌, ◌<◌, ◌≤◌, List, [], ◌∷◌, ◌++◌, length, take, drop, refl, sym, ◌∙◌, ap, arith, drop-drop, take-append-drop, length-drop, below_more}
use Rattle.std.specs.Prelude.{slice_range}
use Rattle.std.specs.List.{flat_map, range_with_len, replace_range}
use Rattle.qx_bytes.proofs.Puts.{range_put_same, range_put_before, part_put}
use Rattle.qx_records.specs.InodeRecord.{inode_in}
use Rattle.qx_itable.specs.TableState.{TableState, inode_of, if_live, record_bytes}

-- record k of these bytes is that of the number behind place first + k, and is read back as its inode
pub record IsWritten (t : TableState) (first : ℕ) (bytes : List ℕ) (k : ℕ) : Type 0 where
  pub record_is : slice_range bytes (k * 128) (k * 128 + 128) ≡ record_bytes t.order (inode_of t (first + k + 1))
  pub read_back : if_live (inode_in t.order (slice_range bytes (k * 128) (k * 128 + 128))) ≡ inode_of t (first + k + 1)

-- bytes whose records are these are the records one after another
pub joined-records : (f : ℕ → List ℕ) (a n : ℕ) (bytes : List ℕ) → length bytes ≡ n * 128
    → ((k : ℕ) → k < n → slice_range bytes (k * 128) (k * 128 + 128) ≡ f (a + k)) → bytes ≡ flat_map f (range_with_len a n)
joined-records f a zero [] long each = refl
joined-records f a zero (b ∷ bytes) long each = absurd (omega arith)
joined-records f a (suc n) bytes long each =
    sym (take-append-drop 128 bytes)
    ∙ (λ i. first i ++ joined-records f (a + 1) n (drop 128 bytes) (omega (arith, length-drop 128 bytes)) behind i) where
      first : take 128 bytes ≡ f a
      first = each 0 (omega arith) ∙ ap f (let e : a + 0 ≡ a = omega arith in e)

      behind : (k : ℕ) → k < n → slice_range (drop 128 bytes) (k * 128) (k * 128 + 128) ≡ f (a + 1 + k)
      behind k low =
          let further : 128 + k * 128 ≡ (k + 1) * 128 = omega arith in
          let wide : k * 128 + 128 - k * 128 ≡ (k + 1) * 128 + 128 - (k + 1) * 128 = omega arith in
          (λ i. take (wide i) ((drop-drop (k * 128) 128 bytes ∙ ap (λ (m : ℕ). drop m bytes) further) i))
          ∙ each (k + 1) (omega arith) ∙ ap f (let e : a + (k + 1) ≡ a + 1 + k = omega arith in e)

module _ (t : TableState) (first place : ℕ) (bytes part : List ℕ) (whole : length part ≡ 128) (room : place * 128 + 128 ≤ length bytes) where
  -- the bytes once this part was written at the place
  abbrev new : List ℕ
  new = take (place * 128) bytes ++ (part ++ drop (place * 128 + 128 - place * 128) (drop (place * 128) bytes))

  -- it is a put
  put_is : new ≡ replace_range bytes (place * 128) (place * 128 + 128) part
  put_is = part_put bytes part (place * 128) 128 whole ∙ ap (λ (n : ℕ). replace_range bytes (place * 128) (place * 128 + n) part) whole

  -- the records before stay
  before : (k : ℕ) → k < place → slice_range new (k * 128) (k * 128 + 128) ≡ slice_range bytes (k * 128) (k * 128 + 128)
  before k low =
      let ends : k * 128 + 128 ≤ place * 128 = grind arith in
      ap (λ (l : List ℕ). slice_range l (k * 128) (k * 128 + 128)) put_is
      ∙ range_put_before bytes part (place * 128) 128 (k * 128) 128 ends (omega arith)

  -- the one that was put stands there
  itself : slice_range new (place * 128) (place * 128 + 128) ≡ part
  itself =
      ap (λ (l : List ℕ). slice_range l (place * 128) (place * 128 + 128)) put_is
      ∙ range_put_same bytes part (place * 128) 128 whole (omega arith)

  -- so one record more is written
  pub written-more : ((k : ℕ) → k < place → IsWritten t first bytes k) → part ≡ record_bytes t.order (inode_of t (first + place + 1))
      → if_live (inode_in t.order part) ≡ inode_of t (first + place + 1) → (k : ℕ) → k < place + 1 → IsWritten t first new k
  written-more so_far record_is read_back = below_more _ _
      (λ k low. record {
        record_is = before k low ∙ (so_far k low).record_is;
        read_back = ap (λ (l : List ℕ). if_live (inode_in t.order l)) (before k low) ∙ (so_far k low).read_back;
      })
      (record {
        record_is = itself ∙ record_is;
        read_back = ap (λ (l : List ℕ). if_live (inode_in t.order l)) itself ∙ read_back;
      })

-- bytes with all records of a leaf are the leaf
pub written-all : (t : TableState) (first n : ℕ) (bytes : List ℕ) → length bytes ≡ n * 128 → ((k : ℕ) → k < n → IsWritten t first bytes k)
    → bytes ≡ flat_map (λ m. record_bytes t.order (inode_of t m)) (range_with_len (first + 1) n)
written-all t first n bytes long all =
    joined-records (λ m. record_bytes t.order (inode_of t m)) (first + 1) n bytes long
    (λ k low. (all k low).record_is ∙ ap (λ (m : ℕ). record_bytes t.order (inode_of t m)) (let e : first + k + 1 ≡ first + 1 + k = omega arith in e))
