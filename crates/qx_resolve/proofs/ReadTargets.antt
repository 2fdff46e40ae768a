-- A target that is read whole.
use Rattle.std.proofs.Common.{◌≡◌, ℕ, List, ◌++◌, length, take, drop, sym, ◌∙◌, ap}
use Rattle.std.proofs.lemmas.List.FromFn.{length-map-range_with_len}
use Rattle.std.proofs.Math.Seq.{take-append_seam, take-length}
use Rattle.qx_geom.specs.declared.root.Root.{Root}
use Rattle.qx_fields.specs.declared.order.Order.{Order}
use Rattle.qx_nodes.specs.Content.{byte_of}
use Rattle.qx_nodes.specs.NodeContents.{bytes_in, node_content}
use Rattle.qx_blocks.specs.BlockState.{BlockState}
use Rattle.qx_ptree.specs.Trees.{block_map}

-- bytes as many as the content's, of which all are the content's
pub read_whole : (order : Order) (m : BlockState) (node : Root) (n : ℕ) (into : List ℕ) → length into ≡ node.size → n ≡ node.size
    → take n into ≡ take n (drop 0 (bytes_in m.holdings.size (node_content (block_map order m) node))) → into ≡ bytes_in m.holdings.size (node_content (block_map order m) node)
read_whole order m node n into long all same =
    let content : List ℕ = bytes_in m.holdings.size (node_content (block_map order m) node) in
    let size : length content ≡ node.size = length-map-range_with_len (λ k. byte_of (block_map order m) node k) 0 node.size in
    sym (take-length into) ∙ ap (λ k. take k into) (long ∙ sym all) ∙ same ∙ ap (λ k. take k content) (all ∙ sym size) ∙ take-length content

-- a vector whose bytes were all written
pub written_whole : (len : ℕ) (into items : List ℕ) → len ≡ length into → take len (into ++ drop (length into) items) ≡ into
written_whole len into items is = ap (λ k. take k (into ++ drop (length into) items)) is ∙ take-append_seam into (drop (length into) items)
