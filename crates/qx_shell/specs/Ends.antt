-- How a run of turns ends, by its status, and what it has put then.
use Rattle.std.specs.Prelude.{◌≡◌, ℕ, ◌+◌, ◌^◌, ◌≤◌, Bool, true, false, List, [], ◌∷◌, ◌++◌, length, take, count_by, sum_by, codes, if◌then◌else◌}
use Rattle.std.specs.List.{concat, list_any}
use Rattle.qx_outside.specs.Trail.{History, input, output}
use Rattle.qx_model.specs.declared.notices.Notice.{Notice}
use Rattle.qx_model.specs.declared.notices.Notice.TheVariants as notice
use Rattle.qx_model.specs.declared.refusal.Refusal.{Refusal}
use Rattle.qx_model.specs.declared.refusal.Refusal.TheVariants as refusal
use Rattle.qx_model.specs.declared.reply.Reply.{Reply}
use Rattle.qx_model.specs.declared.reply.Reply.TheVariants as reply
use Rattle.qx_model.specs.declared.turn.Turn.{Turn}
use Rattle.qx_model.specs.Faults.{tells_of_fault}
use Rattle.qx_shell.specs.Occasions.{but_last, is_input_over}
use Rattle.qx_shell.specs.MadeTurns.{Over, MadeTurn, Reach, Open, texts_of}

-- ---- the last turn

-- the status of a last turn that is refused, which only a fault does
abbrev pub IsRefusedStatus : Refusal → ℕ → Type 0
IsRefusedStatus refusal.Device status = status ≡ 3
IsRefusedStatus refusal.NoMemory status = status ≡ 5
IsRefusedStatus _ status = ⊥

-- the status of a last turn with this reply
abbrev pub IsStatusOf : Reply → ℕ → Type 0
IsStatusOf reply.Done status = status ≡ 0
IsStatusOf (reply.Refused r) status = IsRefusedStatus r status
IsStatusOf _ status = ⊥

-- the status that the last of these turns gives
abbrev pub IsLastStatus : List MadeTurn → ℕ → Type 0
IsLastStatus [] status = ⊥
IsLastStatus (m ∷ []) status = IsStatusOf m.turn.reply status
IsLastStatus (m ∷ n ∷ made) status = IsLastStatus (n ∷ made) status

-- ---- the limit of a script

-- the most bytes of input that a run takes (this project's own)
abbrev pub script_limit : ℕ
script_limit = 2 ^ 24

-- the line that says that there are more
abbrev pub limit_text : List ℕ
limit_text = codes "script limit\n"

-- so many bytes were taken and the end hadn't come; each whole line has its turn, and none was read as `quit`
pub record HasReachedLimit (h : History) (reach : Reach) : Type 0 where
  pub taken : length (input h) ≡ script_limit
  pub open_yet : is_input_over h.deeds ≡ false
  pub none_left : reach ≡ Open []

-- ---- the end of a run

-- the first stands at the front of the second
abbrev pub IsFront : List ℕ → List ℕ → Type 0
IsFront xs ys = (rest : List ℕ) × (xs ++ rest ≡ ys)

-- how a run of these turns ends with this status, and what it has put
pub data Ends (h : History) (made : List MadeTurn) (reach : Reach) (status : ℕ) : Type 0 where
  -- 0, 3 or 5: the last turn was made, and each text is put
  at_last : reach ≡ Over → IsLastStatus made status → output h ≡ concat (texts_of made) → Ends h made reach status
  -- 6: the script was too long, and behind the texts a line says so
  at_limit : status ≡ 6 → HasReachedLimit h reach → output h ≡ concat (texts_of made) ++ limit_text → Ends h made reach status
  -- 4: the console or the clock failed, with the last text put, or some of it
  in_text : status ≡ 4 → IsFront (concat (but_last (texts_of made))) (output h) → IsFront (output h) (concat (texts_of made)) → Ends h made reach status
  -- 4 as well: or with that line put in part
  in_limit : (n : ℕ) → status ≡ 4 → HasReachedLimit h reach → n ≤ length limit_text → output h ≡ concat (texts_of made) ++ take n limit_text → Ends h made reach status

-- ---- faults of the device

-- the reply tells that a device call failed
abbrev pub is_device_reply : Reply → Bool
is_device_reply (reply.Refused refusal.Device) = true
is_device_reply _ = false

-- a notice tells so
abbrev pub is_device_notice : Notice → Bool
is_device_notice (notice.Snapshot serial) = false
is_device_notice notice.Device = true
is_device_notice notice.Memory = false

-- how often a turn tells so
abbrev pub device_faults_in : Turn → ℕ
device_faults_in t = (if is_device_reply t.reply then 1 else 0) + count_by is_device_notice t.notices

-- how often turns do
abbrev pub device_faults_of : List MadeTurn → ℕ
device_faults_of made = sum_by (λ (m : MadeTurn). device_faults_in m.turn) made

-- ---- faults of any kind

-- some turn tells of a fault, or of want of memory
abbrev pub has_fault : List MadeTurn → Bool
has_fault made = list_any (λ (m : MadeTurn). tells_of_fault m.turn) made
