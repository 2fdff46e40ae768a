-- What a run of the checker says, by its answer.
use Rattle.std.proofs.Common.{◌≡◌, ◌≢◌, inl, inr, ℕ, IsTrue, List, Result, Ok, Err, arith, refl, sym, ap, subst, ◌∙◌}
use Rattle.qx_check.specs.declared.verdict.CheckFault.{CheckFault}
use Rattle.qx_check.specs.declared.verdict.CheckFault.TheVariants as faults
use Rattle.qx_check.specs.declared.verdict.Verdict.{Verdict as Answer}
use Rattle.qx_check.specs.declared.verdict.Verdict.TheVariants as answers
use Rattle.qx_check.specs.Verdicts.{IsVerdict, SaysVerdict}
use Rattle.qx_outside.specs.Causes.{Rose}
use Rattle.qx_outside.specs.Outside.{Outside}
use Rattle.qx_outside.specs.Trail.{History, after, bytes_of, gave}
use Rattle.qx_top.specs.declared.lines.Line.{Line}
use Rattle.qx_top.specs.declared.lines.Line.TheVariants.{DeviceFault, NoMemory}
use Rattle.qx_top.specs.declared.reports.Report.{Report}
use Rattle.qx_top.specs.Lines.{check_report, report_of_answer, report_of_verdict, text_of, verdict_report}
use Rattle.qx_top.specs.Run.{ReportsVerdict}
use Rattle.qx_top.specs.Says.{Gives, GivesPartOf, Says, code_of}

-- a verdict of the definitions is reported as theirs
pub report_of_verdict-is : (img : List ℕ) (verdict : Answer) → IsVerdict img verdict → report_of_verdict verdict ≡ check_report img
unfolding check_report
report_of_verdict-is img (answers.Clean which serial free_blocks free_inodes) (s, is, same_serial, same_blocks, same_inodes) = rw (same_serial, same_blocks, same_inodes) (sym (ap verdict_report is))
report_of_verdict-is img (answers.Foreign why) is = sym (ap verdict_report is)
report_of_verdict-is img (answers.Damaged found) is = sym (ap verdict_report is)

module _ (status : ℕ) (old mid new : Outside)
    (before : IsTrue mid.tells → IsTrue old.tells) (same : IsTrue mid.tells → mid.history ≡ old.history) where
  -- a line that is said behind calls that do nothing is all that was done
  whole_line : (line : Line) (owed : ℕ) → Says line owed status mid new → status ≢ 4 → IsTrue new.tells → Gives line old.history new.history
  whole_line line owed s not_so t = s.whole not_so t ∙ ap (after (gave (text_of line))) (same (s.before t))

  -- so is a part of it
  part_of_line : (line : Line) (owed : ℕ) → Says line owed status mid new → status ≡ 4 → IsTrue new.tells → GivesPartOf line old.history new.history
  part_of_line line owed s so t = subst (λ (h : History). GivesPartOf line h new.history) (same (s.before t)) (s.cut so t)

  -- the report on the image, with its status
  says_report : (report : Report) → (IsTrue new.tells → report ≡ check_report (bytes_of old.history)) → code_of report.status ≢ 3 → code_of report.status ≢ 5
      → Says report.line (code_of report.status) status mid new → ReportsVerdict status old new
  says_report report is not_device not_memory s = record {
    before = λ t. before (s.before t);
    report = λ three four five t. (
      whole_line report.line _ s four t ∙ ap (λ (r : Report). after (gave (text_of r.line)) old.history) (is t),
      s.owes four ∙ ap (λ (r : Report). code_of r.status) (is t),
    );
    fault = λ three t. absurd (not_device (sym (s.owes (omega (arith, three))) ∙ three));
    memory = λ five t. absurd (not_memory (sym (s.owes (omega (arith, five))) ∙ five));
    cut = λ four t. inl (subst (λ (r : Report). GivesPartOf r.line old.history new.history) (is t) (part_of_line report.line _ s four t));
  }

  -- a device call failed
  pub says_fault : Rose old.dev_faults new.dev_faults → Says DeviceFault 3 status mid new → ReportsVerdict status old new
  says_fault rose s = record {
    before = λ t. before (s.before t);
    report = λ three four five t. absurd (three (s.owes four));
    fault = λ three t. whole_line DeviceFault 3 s (omega (arith, three)) t;
    memory = λ five t. absurd (omega (arith, five, s.owes (omega (arith, five))));
    cut = λ four t. inr (inl (rose, part_of_line DeviceFault 3 s four t));
  }

  -- there was no memory
  says_memory : Says NoMemory 5 status mid new → ReportsVerdict status old new
  says_memory s = record {
    before = λ t. before (s.before t);
    report = λ three four five t. absurd (five (s.owes four));
    fault = λ three t. absurd (omega (arith, three, s.owes (omega (arith, three))));
    memory = λ five t. whole_line NoMemory 5 s (omega (arith, five)) t;
    cut = λ four t. inr (inr (part_of_line NoMemory 5 s four t));
  }

  -- whatever the checker answered
  pub says_answer : (answer : Result Answer CheckFault) → (IsTrue new.tells → SaysVerdict (bytes_of old.history) answer) → (answer ≡ Err faults.Device → Rose old.dev_faults new.dev_faults)
      → Says (report_of_answer answer).line (code_of (report_of_answer answer).status) status mid new → ReportsVerdict status old new
  unfolding check_report
  says_answer (Ok (answers.Clean which serial free_blocks free_inodes)) is device s =
      says_report _ (λ t. report_of_verdict-is (bytes_of old.history) (answers.Clean which serial free_blocks free_inodes) (is t)) (omega arith) (omega arith) s
  says_answer (Ok (answers.Foreign why)) is device s = says_report _ (λ t. report_of_verdict-is (bytes_of old.history) (answers.Foreign why) (is t)) (omega arith) (omega arith) s
  says_answer (Ok (answers.Damaged found)) is device s =
      says_report _ (λ t. report_of_verdict-is (bytes_of old.history) (answers.Damaged found) (is t)) (omega arith) (omega arith) s
  says_answer (Err faults.NoVolume) is device s = says_report (report_of_answer (Err faults.NoVolume)) (λ t. sym (ap verdict_report (is t))) (omega arith) (omega arith) s
  says_answer (Err faults.Disagree) is device s = says_report (report_of_answer (Err faults.Disagree)) (λ t. sym (ap verdict_report (is t))) (omega arith) (omega arith) s
  says_answer (Err faults.Device) is device s = says_fault (device refl) s
  says_answer (Err faults.NoMemory) is device s = says_memory s
