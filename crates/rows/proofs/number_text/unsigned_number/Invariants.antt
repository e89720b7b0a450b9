use Rattle.rows.proofs.Numbers.{Scanned}
use Rattle.rows.proofs.number_text.unsigned_number.Given as goal

abbrev pub invariant-loop-byte : goal.invariant-loop-byte
invariant-loop-byte l = Scanned l.text l.value l.byte-index
