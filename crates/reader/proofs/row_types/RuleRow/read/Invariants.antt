use Rattle.std.proofs.Common.{◌≡◌, ◌-◌, length, take}
use Rattle.reader.specs.RuleScan.{texts_at}
use Rattle.reader.proofs.RuleCells.{behind_texts, contents}
use Rattle.reader.proofs.row_types.RuleRow.read.Given as goal

abbrev pub invariant-loop-i : goal.invariant-loop-i
invariant-loop-i l = (length l.text-items ≡ 6) × (texts_at 6 l.bytes ≡ behind_texts (contents (take l.i l.text-items)) (texts_at (6 - l.i) l.rest))
