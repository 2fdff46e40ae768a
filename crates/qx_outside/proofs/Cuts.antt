-- What images have.
use Rattle.std.proofs.Common.{◌≡◌, ℕ, ◌+◌, ◌-◌, ◌≤◌, ◌<◌, List, length, take, drop, refl, sym, ◌∙◌, arith, length-drop, length-take}
use Rattle.std.specs.Prelude.{slice_range}
use Rattle.std.proofs.lemmas.List.{ext_get_or, get_or-take, get_or-drop}
use Rattle.qx_outside.specs.Trail.{History, bytes_of}
use Rattle.qx_outside.specs.Images.{IsPending, IsImage, IsSettled}

-- a range with no pending byte is the device's
pub image_range : (h : History) (image : List ℕ) (from n : ℕ) → IsImage h image → ((k : ℕ) → from ≤ k → k < from + n → IsPending h.deeds k → ⊥) → slice_range image from (from + n) ≡ slice_range (bytes_of h) from (from + n)
image_range h image from n is quiet =
    let m = from + n - from in
    let lengths : length (take m (drop from image)) ≡ length (take m (drop from (bytes_of h))) = omega (arith, is.size, length-take m (drop from image), length-take m (drop from (bytes_of h)), length-drop from image, length-drop from (bytes_of h)) in
    ext_get_or 0 (take m (drop from image)) (take m (drop from (bytes_of h))) lengths (λ i within.
    let below : i < m = omega (arith, length-take m (drop from image)) in
    get_or-take m (drop from image) i 0 below ∙ get_or-drop from image i 0
    ∙ is.same (from + i) (quiet (from + i) (omega arith) (omega arith))
    ∙ sym (get_or-drop from (bytes_of h) i 0) ∙ sym (get_or-take m (drop from (bytes_of h)) i 0 below))

-- with nothing pending the one image is the device's bytes
pub image_settled : (h : History) (image : List ℕ) → IsSettled h → IsImage h image → image ≡ bytes_of h
image_settled h image settled is = ext_get_or 0 image (bytes_of h) is.size (λ i within. is.same i (settled.quiet i))

-- a cut may lose nothing
pub image_whole : (h : History) → IsImage h (bytes_of h)
image_whole h = record { size = refl; same = λ k quiet. refl }
