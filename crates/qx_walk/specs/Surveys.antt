-- What a walk answers of an image.
use Rattle.std.specs.Prelude.{◌≡◌, ◌+◌, ◌-◌, ◌*◌, ◌≤◌, ℕ, IsTrue, List, length, Option, Some, None, Result, Ok, Err}
use Rattle.qx_geom.specs.declared.area.Which.{Which}
use Rattle.qx_geom.specs.declared.geometry.Geometry.{Geometry}
use Rattle.qx_geom.specs.Layout.{blocks_begin, geometry_of, is_block_size}
use Rattle.qx_super.specs.Active.{active_area, active_super}
use Rattle.qx_super.specs.Superblock.{Superblock}
use Rattle.qx_super.specs.declared.choice.Pick.TheVariants as picks
use Rattle.qx_view.specs.declared.reasons.Foreign.{Foreign as Why}
use Rattle.qx_view.specs.Images.{image_blocks, main_roots}
use Rattle.qx_view.specs.Sound.{Clean, Damaged, Disagree, Foreign, NoVolume, Verdict, verdict_of}
use Rattle.qx_view.specs.Usage.{foreign_usage, met_blocks}
use Rattle.qx_view.specs.Walk.{walked_inodes}
use Rattle.qx_walk.specs.declared.survey.Survey.{Survey}
use Rattle.qx_walk.specs.declared.survey.WalkFault.{WalkFault}
use Rattle.qx_walk.specs.declared.survey.WalkFault.TheVariants as faults
use Rattle.qx_pointers.specs.declared.halt.Halt.{Halt}
use Rattle.qx_pointers.specs.declared.halt.Halt.TheVariants as halts
use Rattle.qx_pointers.specs.Marks.{Marks}
use Rattle.qx_blockset.specs.Members.{count_of, limit_of}
use Rattle.qx_walk.specs.declared.state.Walked.{Walked}

-- the verdict on an image with a tree, of this active area and superblock
abbrev pub verdict_if : Which → Superblock → Option Why → Verdict
verdict_if which s None = Clean which s
verdict_if which s (Some f) = Foreign f

-- how many blocks are free: as the superblock says, or where the image is foreign all that weren't met
abbrev pub free_if : List ℕ → Superblock → Option Why → ℕ
free_if img s None = s.free_blocks
free_if img s (Some f) = (foreign_usage (image_blocks img s) (main_roots s) s).free

-- how many blocks are free of a tree that was walked
abbrev pub free_by : Superblock → Walked → Option Why → ℕ
free_by s w None = s.free_blocks
free_by s w (Some f) = s.num_blocks - count_of w.met

-- the survey of a tree that was walked
abbrev pub survey_by : Which → Superblock → Walked → Option Why → Survey
survey_by which s w foreign = record {
  which = which;
  serial = s.serial;
  order = s.order;
  ctime = s.ctime;
  blocksize = s.blocksize;
  num_blocks = s.num_blocks;
  num_inodes = s.num_inodes;
  held = w.met;
  live = w.live;
  free_blocks = free_by s w foreign;
  foreign = foreign;
}

-- a survey says what an image is
pub record IsSurvey (img : List ℕ) (survey : Survey) : Type 0 where
  pub superblock : Superblock
  pub active : active_area img ≡ picks.Active survey.which
  pub names : active_super img ≡ Some superblock
  pub verdict : verdict_of img ≡ verdict_if survey.which superblock survey.foreign
  pub serial : survey.serial ≡ superblock.serial
  pub order : survey.order ≡ superblock.order
  pub ctime : survey.ctime ≡ superblock.ctime
  pub blocksize : survey.blocksize ≡ superblock.blocksize
  pub num_blocks : survey.num_blocks ≡ superblock.num_blocks
  pub num_inodes : survey.num_inodes ≡ superblock.num_inodes
  pub limit : limit_of survey.held ≡ superblock.num_blocks
  pub held : Marks survey.held (met_blocks (image_blocks img superblock) (main_roots superblock))
  pub live : survey.live ≡ length (walked_inodes (image_blocks img superblock) (main_roots superblock))
  pub free : survey.free_blocks ≡ free_if img superblock survey.foreign

-- what holds of each survey of a device of this length, whether it tells or not: the set has the volume's blocks, these and the second area lie on the device, and a volume that isn't foreign has the numbers that this project writes
pub record HasSurveyBounds (len : ℕ) (survey : Survey) : Type 0 where
  pub size : IsTrue (is_block_size survey.blocksize)
  pub limit : limit_of survey.held ≡ survey.num_blocks
  pub room : blocks_begin + survey.num_blocks * survey.blocksize + 512 ≤ len
  pub numbers : survey.foreign ≡ None → (g : Geometry) × (geometry_of len survey.blocksize survey.num_inodes ≡ Ok g) × (g.num_blocks ≡ survey.num_blocks)

-- the fault of a walk that halted
abbrev pub fault_of : Halt → WalkFault
fault_of (halts.Finding found) = faults.Finding found
fault_of halts.Device = faults.Device
fault_of halts.NoMemory = faults.NoMemory

-- an answer without a survey says why there is none, want of memory and faults aside
abbrev pub IsFault : List ℕ → WalkFault → Type 0
IsFault img faults.NoVolume = verdict_of img ≡ NoVolume
IsFault img faults.Disagree = verdict_of img ≡ Disagree
IsFault img (faults.Finding found) = verdict_of img ≡ Damaged found
IsFault img faults.Device = Unit {0}
IsFault img faults.NoMemory = Unit {0}

-- what a walk answers
abbrev pub SaysOf : List ℕ → Result Survey WalkFault → Type 0
SaysOf img (Ok survey) = IsSurvey img survey
SaysOf img (Err fault) = IsFault img fault
