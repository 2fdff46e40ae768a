use Rattle.std.proofs.Common.{◌≡◌, ◌∙◌, ap, refl, ℕ, List, [], ◌∷◌}
use Rattle.std.specs.Prelude.{◌&&◌, ◌==◌, bytes_eq, length, replicate, take}
use Rattle.std.proofs.lemmas.List.{take-replicate}
use Rattle.qx_view.specs.Sound.{are_zero}
use Rattle.qx_walk.proofs.own_nodes.is_zero.Goals as goal

-- bytes are 0 where they are as many bytes 0
as_zeros : (bytes : List ℕ) → bytes_eq bytes (replicate (length bytes) 0) ≡ are_zero bytes
as_zeros [] = refl
as_zeros (b ∷ bytes) = ap (λ r. (b == 0) && r) (as_zeros bytes)

pub returns : goal.returns
returns c =
    let same : c.eq.result ≡ bytes_eq c.args.bytes.now (take (length c.args.bytes.now) (replicate 4096 0)) = c.eq.ensures in
    same ∙ ap (bytes_eq c.args.bytes.now) (take-replicate (length c.args.bytes.now) 4096 0 c.requires) ∙ as_zeros c.args.bytes.now
