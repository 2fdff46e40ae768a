-- The lines that a run may say, and what is reported of an image's superblocks and of the checker's verdict on it.
use Rattle.std.specs.Prelude.{ℕ, List, ◌++◌, codes, decimal, Option, Some, None, Result, Ok, Err}
use Rattle.qx_fields.specs.declared.order.Order.{Order}
use Rattle.qx_fields.specs.declared.order.Order.TheVariants.{Little, Big}
use Rattle.qx_check.specs.declared.verdict.CheckFault.{CheckFault}
use Rattle.qx_check.specs.declared.verdict.CheckFault.TheVariants as faults
use Rattle.qx_check.specs.declared.verdict.Verdict.{Verdict as Answer}
use Rattle.qx_check.specs.declared.verdict.Verdict.TheVariants as answers
use Rattle.qx_geom.specs.declared.area.Which.{Which}
use Rattle.qx_geom.specs.declared.geometry.GeomFault.{GeomFault}
use Rattle.qx_geom.specs.declared.geometry.GeomFault.TheVariants.{BlockSize, TooShort, TooLarge, Inodes}
use Rattle.qx_geom.specs.Area.{area_number}
use Rattle.qx_super.specs.declared.choice.Choice.{Choice}
use Rattle.qx_super.specs.declared.choice.Choice.TheVariants as choices
use Rattle.qx_super.specs.Superblock.{Superblock}
use Rattle.qx_super.specs.Active.{choice_in}
use Rattle.qx_top.specs.declared.lines.Line.{Line}
use Rattle.qx_top.specs.declared.lines.Line.TheVariants as lines
use Rattle.qx_top.specs.declared.reports.Report.{Report}
use Rattle.qx_top.specs.declared.status.Status.TheVariants.{Done, BadImage, DeviceFault, NoMemory}
use Rattle.qx_view.specs.Numbers.{code_number, reason_number}
use Rattle.qx_view.specs.Sound.{Clean, Damaged, Disagree, Foreign, NoVolume, Verdict, verdict_of}

-- the name of an order
abbrev pub order_word : Order → List ℕ
order_word Little = codes "little"
order_word Big = codes "big"

-- the name of what is wrong with a volume's numbers
abbrev pub fault_word : GeomFault → List ℕ
fault_word BlockSize = codes "BlockSize"
fault_word TooShort = codes "TooShort"
fault_word TooLarge = codes "TooLarge"
fault_word Inodes = codes "Inodes"

-- the text of a line
unfoldable pub text_of : Line → List ℕ
text_of lines.Usage =
    codes "usage: mkqnx6fs [-b BLOCKSIZE] [-i INODES] [-e ORDER] IMAGE SIZE; chkqnx6fs [-s] IMAGE; shell [-r] [-g N] IMAGE\n"
text_of (lines.Area which serial blocksize blocks inodes order) =
    codes "area " ++ decimal (area_number which) ++ codes " serial " ++ decimal serial
    ++ codes " blocksize " ++ decimal blocksize ++ codes " blocks " ++ decimal blocks
    ++ codes " inodes " ++ decimal inodes ++ codes " order " ++ order_word order ++ codes "\n"
text_of lines.NoVolume = codes "no volume\n"
text_of lines.Disagree = codes "disagree\n"
text_of (lines.Clean which serial free_blocks free_inodes) =
    codes "clean area " ++ decimal (area_number which) ++ codes " serial " ++ decimal serial
    ++ codes " free blocks " ++ decimal free_blocks ++ codes " free inodes " ++ decimal free_inodes
    ++ codes "\n"
text_of (lines.Foreign why) =
    codes "foreign " ++ decimal (reason_number why.reason) ++ codes " at " ++ decimal why.at ++ codes "\n"
text_of (lines.Damaged found) =
    codes "damaged " ++ decimal (code_number found.code) ++ codes " inode " ++ decimal found.inode
    ++ codes " block " ++ decimal found.block ++ codes "\n"
text_of lines.DeviceFault = codes "device fault\n"
text_of lines.NoMemory = codes "out of memory\n"
text_of (lines.BadNumbers fault) = codes "bad " ++ fault_word fault ++ codes "\n"
text_of (lines.Made made) =
    codes "made blocks " ++ decimal made.blocks ++ codes " user " ++ decimal made.user
    ++ codes " free " ++ decimal made.free ++ codes " inodes " ++ decimal made.inodes ++ codes "\n"

-- ---- an image's superblocks

-- an image that can't be used, and why
abbrev pub refused : Line → Report
refused line = record { line = line; status = BadImage }

-- the line about the superblock of an area
abbrev pub area_line : Which → Superblock → Line
area_line which s = lines.Area which s.serial s.blocksize s.num_blocks s.num_inodes s.order

-- the report on the area that counts
abbrev pub report_of : Choice → Report
report_of (choices.Active which s) = record { line = area_line which s; status = Done }
report_of choices.None = refused lines.NoVolume
report_of choices.Disagree = refused lines.Disagree

-- what is said of an image
unfoldable pub supers_report : List ℕ → Report
supers_report img = report_of (choice_in img)

-- ---- the checker's verdict

-- what is said of a verdict
abbrev pub verdict_report : Verdict → Report
verdict_report NoVolume = refused lines.NoVolume
verdict_report Disagree = refused lines.Disagree
verdict_report (Damaged found) = refused (lines.Damaged found)
verdict_report (Foreign why) = record { line = lines.Foreign why; status = Done }
verdict_report (Clean which s) =
    record { line = lines.Clean which s.serial s.free_blocks s.free_inodes; status = Done }

-- what is said of an image that is checked
unfoldable pub check_report : List ℕ → Report
check_report img = verdict_report (verdict_of img)

-- what is said of a verdict that the checker answered
abbrev pub report_of_verdict : Answer → Report
report_of_verdict (answers.Clean which serial free_blocks free_inodes) =
    record { line = lines.Clean which serial free_blocks free_inodes; status = Done }
report_of_verdict (answers.Foreign why) = record { line = lines.Foreign why; status = Done }
report_of_verdict (answers.Damaged found) = refused (lines.Damaged found)

-- what is said of its answer
abbrev pub report_of_answer : Result Answer CheckFault → Report
report_of_answer (Ok verdict) = report_of_verdict verdict
report_of_answer (Err faults.NoVolume) = refused lines.NoVolume
report_of_answer (Err faults.Disagree) = refused lines.Disagree
report_of_answer (Err faults.Device) = record { line = lines.DeviceFault; status = DeviceFault }
report_of_answer (Err faults.NoMemory) = record { line = lines.NoMemory; status = NoMemory }
