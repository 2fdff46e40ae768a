-- The union of two sets, as it lies in words.
use Rattle.std.proofs.Common.{◌≡◌, ℕ, ◌+◌, ◌/◌, ◌^◌, ◌<◌, ◌≤◌, ◌||◌, false, List, ◌++◌, length, get_or, drop, take, sym, ◌∙◌, ap, subst, arith, bit_or, count_ones}
use Rattle.std.specs.Prelude.{sum_by}
use Rattle.std.specs.Vec.{with_items}
use Rattle.std.proofs.lemmas.List.Sums.{count_by-le-length}
use Rattle.std.proofs.Math.Seq.{take-append_seam}
use Rattle.qx_blockset.specs.Members.{Members, count_of, union_of}
use Rattle.qx_blockset.specs.Words.{IsCounted, in_words, members, members_in}
use Rattle.qx_blockset.specs.declared.set.BlockSet.TheInside.{Inside}
use Rattle.qx_blockset.proofs.CountedWords.{count-members}
use Rattle.qx_blockset.proofs.MembersInWords.{length-members, same-limit}
use Rattle.qx_blockset.proofs.UnitedWords.{AreUnited, in_words-united, members-united}

-- the fields of two sets with one limit, and words that have the bits of both
pub record Unites (a o : Inside) (seen other : Members) (new : List ℕ) : Type 0 where
  pub counted : IsCounted a
  pub also : IsCounted o
  pub view : members_in a ≡ seen
  pub other_view : members_in o ≡ other
  pub limit : a.limit ≡ o.limit
  pub united : AreUnited a.words.items o.words.items new
  pub fit : (k : ℕ) → get_or new k 0 < 2 ^ 64

-- the words, put in the place of as many
items-are : (a o : Inside) (seen other : Members) (new : List ℕ) → Unites a o seen other new → (with_items a.words new).items ≡ new
items-are a o seen other new u = (λ i. take (a.words.ok.0 i) (new ++ drop (length new) a.words.items)) ∙ rw (← u.united.long) (take-append_seam new (drop (length new) a.words.items))

-- no bit is set past the limit
clean-united : (a o : Inside) (seen other : Members) (new : List ℕ) → Unites a o seen other new → (b : ℕ) → a.limit ≤ b → in_words new b ≡ false
clean-united a o seen other new u b high =
    in_words-united a.words.items o.words.items new b u.united
    ∙ (λ i. u.counted.clean b high i || u.also.clean b (subst (λ n. n ≤ b) u.limit high) i)

-- the ones are the members of both
ones-united : (a o : Inside) (seen other : Members) (new : List ℕ) → Unites a o seen other new → sum_by count_ones new ≡ count_of (members new a.limit)
ones-united a o seen other new u =
    count-members new a.limit (omega (arith, u.united.long, u.counted.words)) (λ k _. u.fit k) (clean-united a o seen other new u)

-- they are no more than the limit
pub ones-within : (a o : Inside) (seen other : Members) (new : List ℕ) → Unites a o seen other new → sum_by count_ones new ≤ a.limit
ones-within a o seen other new u =
    omega (arith, ones-united a o seen other new u, count_by-le-length (λ x. x) (members new a.limit), length-members new a.limit)

-- what is known once the words were united
pub unites : (a o : Inside) (seen other : Members) (mine others new : List ℕ) → IsCounted a → IsCounted o → members_in a ≡ seen → members_in o ≡ other → length other ≡ length seen
    → mine ≡ a.words.items → others ≡ o.words.items → length new ≡ length mine
    → ((k : ℕ) → k < length mine → get_or new k 0 ≡ bit_or (get_or mine k 0) (get_or others k 0)) → ((k : ℕ) → get_or new k 0 < 2 ^ 64)
    → Unites a o seen other new
unites a o seen other mine others new counted also view other_view same mine_is others_is long each fit = record {
  counted = counted;
  also = also;
  view = view;
  other_view = other_view;
  limit = same-limit a o seen other view other_view same;
  united = record {
    long = long ∙ ap length mine_is;
    same = also.words ∙ ap (λ n. (n + 63) / 64) (sym (same-limit a o seen other view other_view same)) ∙ sym counted.words;
    each = λ k low. each k (subst (λ ws. k < length ws) (sym mine_is) low) ∙ (λ i. bit_or (get_or (mine_is i) k 0) (get_or (others_is i) k 0));
  };
  fit = fit;
}

-- the fields, with other words and another count
abbrev with_words : Inside → List ℕ → ℕ → Inside
with_words a new ones = record { limit = a.limit; count = ones; words = with_items a.words new }

-- the fields stay in order
pub counted-united : (a o : Inside) (seen other : Members) (new : List ℕ) (ones : ℕ) → Unites a o seen other new → ones ≡ sum_by count_ones new → IsCounted (with_words a new ones)
counted-united a o seen other new ones u counts =
    let items : (with_items a.words new).items ≡ new = items-are a o seen other new u in
    record {
      words = ap length items ∙ u.united.long ∙ u.counted.words;
      clean = λ b high. ap (λ ws. in_words ws b) items ∙ clean-united a o seen other new u b high;
      counted = counts ∙ ones-united a o seen other new u ∙ ap (λ ws. count_of (members ws a.limit)) (sym items);
    }

-- and the members are those of both
pub view-united : (a o : Inside) (seen other : Members) (new : List ℕ) (ones : ℕ) → Unites a o seen other new → members_in (with_words a new ones) ≡ union_of seen other
view-united a o seen other new ones u =
    ap (λ ws. members ws a.limit) (items-are a o seen other new u)
    ∙ members-united a.words.items o.words.items new a.limit u.united
    ∙ (λ i. union_of (u.view i) (members o.words.items (u.limit i)))
    ∙ ap (union_of seen) u.other_view
