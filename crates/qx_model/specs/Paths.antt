-- Where a path leads.
use Rattle.std.specs.Prelude.{ℕ, zero, suc, Bool, true, false, not, List, [], ◌∷◌, ◌++◌, length, take, ◌-◌, Option, Some, None, ok_or, Result, Ok, Err, if◌then◌else◌, bytes_eq}
use Rattle.qx_path.specs.declared.fault.PathFault.{PathFault}
use Rattle.qx_path.specs.declared.fault.PathFault.TheVariants as faults
use Rattle.qx_path.specs.PathParts.{PathParts, last_name, path_of}
use Rattle.qx_model.specs.declared.refusal.Refusal.{Refusal}
use Rattle.qx_model.specs.declared.refusal.Refusal.TheVariants.{NoEntry, NotDir, NameTooLong, BadPath, LinkLoop, Reserved}
use Rattle.qx_model.specs.Outcomes.{◌>>=◌, ◌>>◌, refuse_if}
use Rattle.qx_model.specs.Tree.{Body, Directory, File, Link, Special, Tree, dot_name, dots_name, entry_of, is_dots}
use Rattle.qx_model.specs.Directories.{inode_named, is_directory}

-- ---- bytes that are a path

-- how an act answers bytes that are no path
abbrev pub path_refusal : PathFault → Refusal
path_refusal faults.Empty = BadPath
path_refusal faults.TooLong = BadPath
path_refusal faults.ZeroByte = BadPath
path_refusal faults.NameTooLong = NameTooLong

-- the path, or that answer
abbrev pub path_or : Result PathParts PathFault → Result PathParts Refusal
path_or (Ok path) = Ok path
path_or (Err fault) = Err (path_refusal fault)

-- the path that the bytes are, or their refusal
abbrev pub parsed : List ℕ → Result PathParts Refusal
parsed bytes = path_or (path_of bytes)

-- ---- one name

-- what is done with a link at the end of a path
pub data LastLink : Type 0 where
  Followed : LastLink
  Itself : LastLink

-- a link is followed with these names behind it: one at the end where that is asked, any other always
abbrev pub is_followed : LastLink → List (List ℕ) → Bool
is_followed Followed rest = true
is_followed Itself [] = false
is_followed Itself (name ∷ rest) = true

-- where one name leads: to an inode, or through the target of a link
pub data Lead : Type 0 where
  To : ℕ → Lead
  Through : List ℕ → Lead

-- inode n, or through its target where it is a link that is followed
abbrev pub lead_by : Bool → ℕ → Body → Lead
lead_by true n (Link target) = Through target
lead_by false n (Link target) = To n
lead_by follow n (Directory slots parent) = To n
lead_by follow n (File content) = To n
lead_by follow n Special = To n

-- to inode n of a tree, or through its target, if it is live
abbrev pub lead_to : Tree → Bool → ℕ → Result Lead Refusal
lead_to t follow n = do
  e ← ok_or (entry_of t n) NoEntry
  Ok (lead_by follow n e.body)

-- from a directory with this parent: `.` stays, `..` goes up, any other name leads to its inode
abbrev pub lead_in : Tree → Bool → ℕ → ℕ → List ℕ → Result Lead Refusal
lead_in t follow d parent name =
    if bytes_eq name dot_name then Ok (To d)
    else if bytes_eq name dots_name then Ok (To parent)
    else (ok_or (inode_named t d name) NoEntry >>= lead_to t follow)

-- from what an inode is: names lead on from directories alone
abbrev pub lead_from : Tree → Bool → ℕ → List ℕ → Body → Result Lead Refusal
lead_from t follow at name (Directory slots parent) = lead_in t follow at parent name
lead_from t follow at name (File content) = Err NotDir
lead_from t follow at name (Link target) = Err NotDir
lead_from t follow at name Special = Err NotDir

-- where a name leads from an inode
abbrev pub lead : Tree → Bool → ℕ → List ℕ → Result Lead Refusal
lead t follow at name = do
  e ← ok_or (entry_of t at) NoEntry
  lead_from t follow at name e.body

-- ---- all the names

-- how a walk goes on at a link: from the directory in which it was met, through its target, then with the names behind it
abbrev pub Jump : Type 0
Jump = ℕ → List ℕ → List (List ℕ) → Result ℕ Refusal

-- the inode at which names end that begin at an inode; links are followed by the jump
abbrev pub walk_by : Tree → LastLink → Jump → ℕ → List (List ℕ) → Result ℕ Refusal
walk_by t last jump at [] = Ok at
walk_by t last jump at (name ∷ rest) =
    lead t (is_followed last rest) at name
    >>= λ end. elim end [ To n ↦ walk_by t last jump n rest | Through target ↦ jump at target rest ]

-- the root for an absolute path, else this directory
abbrev pub start_in : PathParts → ℕ → ℕ
start_in p at = if p.absolute then 1 else at

-- the inode at which names end that begin at an inode, where at most so many links are followed, each from the directory in which it stands
abbrev pub walk : ℕ → Tree → LastLink → ℕ → List (List ℕ) → Result ℕ Refusal
walk zero t last = walk_by t last (λ at target rest. Err LinkLoop)
walk (suc links) t last = walk_by t last (λ at target rest. parsed target >>= λ p. walk links t last (start_in p at) (p.names ++ rest))

-- the links that one walk may follow
abbrev pub links_allowed : ℕ
links_allowed = 16

-- where a walk begins: at the root, or in the session's directory, where it has one
abbrev pub start_of_walk : PathParts → Option ℕ → Result ℕ Refusal
start_of_walk p None = if p.absolute then Ok 1 else Err NoEntry
start_of_walk p (Some base) = Ok (start_in p base)

-- the inode to which a path leads
abbrev pub inode_at : Tree → Option ℕ → LastLink → List ℕ → Result ℕ Refusal
inode_at t base last bytes = do
  p ← parsed bytes
  from ← start_of_walk p base
  walk links_allowed t last from p.names

-- ---- a name at the end

-- a path that ends in a name: what stands before it, and the name
pub record Named : Type 0 where
  pub parents : PathParts
  pub name : List ℕ

-- the names before the last
abbrev pub parents_of : PathParts → PathParts
parents_of p = record { absolute = p.absolute; names = take (length p.names - 1) p.names }

-- the name at the end of a path, and what stands before it; `.`, `..` and a missing name are reserved
abbrev pub named : PathParts → Result Named Refusal
named p = do
  name ← ok_or (last_name p) Reserved
  refuse_if (is_dots name) Reserved
  Ok (record { parents = parents_of p; name = name })

-- the directory in which the name stands, all links before it followed
abbrev pub parent_at : Tree → Option ℕ → Named → Result ℕ Refusal
parent_at t base n = do
  from ← start_of_walk n.parents base
  d ← walk links_allowed t Followed from n.parents.names
  refuse_if (not (is_directory t d)) NotDir
  Ok d

-- a place for a name: its directory and the name
pub record Place : Type 0 where
  pub directory : ℕ
  pub name : List ℕ

-- the place that a path names
abbrev pub place_at : Tree → Option ℕ → List ℕ → Result Place Refusal
place_at t base bytes = do
  p ← parsed bytes
  n ← named p
  d ← parent_at t base n
  Ok (record { directory = d; name = n.name })
