-- What the check of a file comes to, and what it prints.
use Rattle.std.specs.Prelude.{ℕ, List, [], Result, Ok, Err}
use Rattle.rows.specs.Refusals.{Outcome}
use Rattle.printing.specs.Print.{refuse_row, line_text}
use Rattle.printing.specs.declared.refused_type.Refused.{Refused}

-- nothing is printed of a file that is accepted, and the row of its refusal otherwise
abbrev pub check_print : {X : Type 0} → Outcome X → List ℕ
check_print (Ok x) = []
check_print (Err r) = refuse_row r

abbrev pub outcome_of : {X : Type 0} → Result X Refused → Outcome X
outcome_of (Ok x) = Ok x
outcome_of (Err e) = Err e.refusal

abbrev pub print_of : {X : Type 0} → Result X Refused → List ℕ
print_of (Ok x) = []
print_of (Err e) = line_text e.line
