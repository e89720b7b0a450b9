-- The rows that the program prints: a word and five fields, each a number or empty, with CRLF at the end.
use Rattle.std.specs.Prelude.{ℕ, List, [], ◌∷◌, ◌++◌, map, ℤ, pos, Some, None, codes, Option}
use Rattle.std.specs.Fmt.{signed_decimal}
use Rattle.facts.specs.declared.fact_types.Fact.{Fact}
use Rattle.machine.specs.declared.answer_types.Application.{Application}
use Rattle.machine.specs.declared.answer_types.End.{End}
use Rattle.machine.specs.declared.answer_types.End.TheVariants.{Quiet, Spent, Stopped}
use Rattle.machine.specs.Faults.{step_fault_number}
use Rattle.rows.specs.declared.refusal_types.Refusal.{Refusal}
use Rattle.printing.specs.declared.line_type.Line.{Line}

abbrev pub comma : ℕ
comma = 0x2C

abbrev pub crlf : List ℕ
crlf = 0x0D ∷ (0x0A ∷ [])

-- a number in base ten, or nothing
abbrev pub shown : Option ℤ → List ℕ
shown (Some z) = signed_decimal z
shown None = []

abbrev pub print_fields : List (Option ℤ) → List ℕ
print_fields [] = crlf
print_fields (f ∷ fs) = comma ∷ (shown f ++ print_fields fs)

abbrev pub print_row : List ℕ → List (Option ℤ) → List ℕ
print_row word fs = word ++ print_fields fs

-- refuse,NUMBER,ROW,FIELD,,
abbrev pub refuse_row : Refusal → List ℕ
refuse_row r = print_row (codes "refuse") (Some (pos r.number) ∷ (Some (pos r.row) ∷ (Some (pos r.field) ∷ (None ∷ (None ∷ [])))))

-- apply,RULE,LABEL,REMOVED,ADDED,
abbrev pub apply_row : Application → List ℕ
apply_row a = print_row (codes "apply") (Some (pos a.rule) ∷ (Some (pos a.active) ∷ (Some (pos a.removed) ∷ (Some (pos a.added) ∷ (None ∷ [])))))

-- fact,LABEL,KIND,WORD,WORD,WORD
abbrev pub fact_row : ℕ → Fact → List ℕ
fact_row l f = print_row (codes "fact") (Some (pos l) ∷ (Some (pos f.kind) ∷ map Some f.words))

-- quiet,STEPS,,,, or spent,STEPS,,,, or stop,STEPS,NUMBER,,,
abbrev pub end_row : End → ℕ → List ℕ
end_row Quiet n = print_row (codes "quiet") (Some (pos n) ∷ (None ∷ (None ∷ (None ∷ (None ∷ [])))))
end_row Spent n = print_row (codes "spent") (Some (pos n) ∷ (None ∷ (None ∷ (None ∷ (None ∷ [])))))
end_row (Stopped e) n = print_row (codes "stop") (Some (pos n) ∷ (Some (pos (step_fault_number e)) ∷ (None ∷ (None ∷ (None ∷ [])))))

-- the bytes of a line
abbrev pub line_text : Line → List ℕ
line_text l = l.text.bytes
