use Rattle.std.proofs.Common.{◌≡◌, ◌+◌, ◌*◌, ◌≤◌, ◌++◌, take}
use Rattle.std.specs.Prelude.{flat_map}
use Rattle.arrayvec.specs.ArrayString.{array_string_len}
use Rattle.qx_words.specs.Texts.{notice_text}
use Rattle.qx_words.proofs.texts.push_notices.Given as goal

abbrev pub invariant-loop-notice : goal.invariant-loop-notice
invariant-loop-notice l = record {
  so_far : l.text.bytes ≡ l.fn.text.bytes ++ flat_map notice_text (take l.notice-index l.notices);
  room : array_string_len l.text ≤ 300 + 30 * l.notice-index;
}
