-- What a program's words ask for.
use Rattle.std.specs.Prelude.{ℕ, List, [], ◌∷◌, String, string_bytes, map, codes, bytes_eq, ◌&&◌, if◌then◌else◌, Option, Some, None, option_map}
use Rattle.qx_top.specs.declared.sizes.VolumeOptions.{VolumeOptions}
use Rattle.qx_top.specs.declared.words.Asked.{Asked as Named}
use Rattle.qx_top.specs.declared.words.Asked.TheVariants as named
use Rattle.qx_top.specs.Sizes.{options_by_size, size_of}

-- the words as bytes
abbrev pub texts_of : {Z : Type 0} → List (String Z) → List (List ℕ)
texts_of words = map string_bytes words

-- what may be asked for, each of the image at a path: a line about its superblocks, the verdict on it, or a volume of these numbers on it
pub data Asked : Type 0 where
  supers : (image : List ℕ) → Asked
  verdict : (image : List ℕ) → Asked
  volume : (image : List ℕ) → VolumeOptions → Asked

-- what the code has of it, with the path's bytes
abbrev pub asked_in : Named → Asked
asked_in (named.Supers image) = supers image.now
asked_in (named.Verdict image) = verdict image.now
asked_in (named.Volume image options) = volume image.now options

-- what two words ask for
unfoldable pub asked_of_two : List ℕ → List ℕ → Option Asked
asked_of_two command image = if bytes_eq command (codes "chkqnx6fs") then Some (verdict image) else None

-- what three words ask for
unfoldable pub asked_of_three : List ℕ → List ℕ → List ℕ → Option Asked
asked_of_three command first second =
    if bytes_eq command (codes "chkqnx6fs") && bytes_eq first (codes "-s") then Some (supers second)
    else if bytes_eq command (codes "mkqnx6fs")
    then option_map (λ size. volume first (options_by_size size)) (size_of second)
    else None

-- what words ask for, if they are accepted
abbrev pub asked_of : List (List ℕ) → Option Asked
asked_of [] = None
asked_of (one ∷ []) = None
asked_of (command ∷ image ∷ []) = asked_of_two command image
asked_of (command ∷ first ∷ second ∷ []) = asked_of_three command first second
asked_of (one ∷ two ∷ three ∷ four ∷ more) = None
