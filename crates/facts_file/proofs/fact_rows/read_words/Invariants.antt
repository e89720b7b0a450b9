use Rattle.std.proofs.Common.{◌≡◌, ◌+◌, ◌-◌, length, take}
use Rattle.facts_file.specs.FactScan.{words_at}
use Rattle.facts_file.proofs.FactRows.{prefixed}
use Rattle.facts_file.proofs.fact_rows.read_words.Given as goal

abbrev pub invariant-loop-i : goal.invariant-loop-i
invariant-loop-i g l =
    (length l.slot-items ≡ 3) × (words_at g.W.Words.system.valid l.row 2 3 l.bytes ≡ prefixed (take l.i l.slot-items) (words_at g.W.Words.system.valid l.row (l.i + 2) (3 - l.i) l.rest))
