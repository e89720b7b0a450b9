use Rattle.std.proofs.Common.{◌≡◌, length, take}
use Rattle.rules_file.specs.RuleRows.{words_from}
use Rattle.reader.specs.RuleScan.{cells}
use Rattle.reader.proofs.RuleLoops.{JudgedSoFar}
use Rattle.reader.proofs.rule_parts.read_words.Given as goal

abbrev pub invariant-loop-i : goal.invariant-loop-i
invariant-loop-i g l = (length l.word-items ≡ 3) × JudgedSoFar l.row.row l.first g.J.Judges.reads (g.J.Judges.verdict l.judge) (words_from l.first (cells l.row)) l.i (take l.i l.word-items)
