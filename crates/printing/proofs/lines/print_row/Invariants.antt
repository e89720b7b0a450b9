use Rattle.std.proofs.Common.{◌≡◌, ◌+◌, ◌*◌, ◌≤◌, ◌++◌, length, drop}
use Rattle.printing.specs.Print.{print_fields, print_row, line_text}
use Rattle.printing.proofs.lines.print_row.Given as goal

-- the fields that are left would make the line whole
abbrev pub invariant-loop-field : goal.invariant-loop-field
invariant-loop-field l = (line_text l.line ++ print_fields (drop l.field-index l.fields) ≡ print_row l.word l.fields) × (length (line_text l.line) ≤ 8 + 21 * l.field-index)
