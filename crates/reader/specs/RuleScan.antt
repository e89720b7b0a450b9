-- A row of rules as the loader holds it, and how far its set is written. What each step comes to is said by specs/RuleRows.
use Rattle.std.specs.Prelude.{◌≡◌, ℕ, zero, suc, ◌≤◌, Bool, List, [], ◌∷◌, ◌++◌, map, length, ℤ, Some, None, Ok, Err, Option, Result}
use Rattle.std.specs.Borrow.{Bor}
use Rattle.rules.specs.declared.rule_types.Argument.{Argument}
use Rattle.rules.specs.declared.rule_types.HeadSort.{HeadSort}
use Rattle.rules.specs.declared.rule_types.HeadSort.TheVariants.{Keep, Drop, KeepAll, DropAll, Only, When}
use Rattle.rules.specs.declared.rule_types.BodySort.{BodySort}
use Rattle.rules.specs.declared.rule_types.RuleFault.{RuleFault}
use Rattle.rules.specs.declared.closed_type.ClosedSet.{ClosedSet}
use Rattle.rules.specs.Rules.{Rule}
use Rattle.rules.specs.Writing.{stage, single_verdict, all_verdict, may_add, may_add_body}
use Rattle.rules.specs.Sets.{closed_rules, head_rules, head_draft, body_rules, body_draft}
use Rattle.rows.specs.Csv.{Part, content, Read, got, broken, read_separated, read_row}
use Rattle.rows.specs.Refusals.{Outcome, ◌>>=◌}
use Rattle.rules_file.specs.RuleRows.{ruled, head_part, body_part, with_head, with_body, State, no_rule, writing}
use Rattle.rows.specs.declared.field_types.Place.{Place}
use Rattle.rows.specs.declared.refusal_types.FieldFault.{FieldFault}
use Rattle.rules_file.specs.declared.fault_types.RowFault.{RowFault}
use Rattle.rules_file.specs.declared.fault_types.RowFault.TheVariants.{Malformed}
use Rattle.reader.specs.declared.row_types.RuleRow.{RuleRow}
use Rattle.reader.specs.declared.stage_type.Stage.{Stage}
use Rattle.reader.specs.declared.stage_type.Stage.TheVariants.{Before, Head, Body}

-- the fields of a row ---------------------------------------------------------------------------------------------

-- what stands in each of them
abbrev pub cells : RuleRow → List (List ℕ)
cells r = map (λ text. text.now) r.texts

abbrev pub place_at : ℕ → ℕ → Place
place_at row field = record { row = row; field = field }

abbrev pub with_text : List ℕ → Option (List (List ℕ)) → Option (List (List ℕ))
with_text bs (Some cs) = Some (bs ∷ cs)
with_text bs None = None

abbrev pub text_then : (List ℕ → Option (List (List ℕ))) → Read Part → Option (List (List ℕ))
text_then more (got f rest) = with_text (content f) (more rest)
text_then more broken = None

-- what stands in so many fields at the beginning of the bytes
unfoldable pub texts_at : ℕ → List ℕ → Option (List (List ℕ))
texts_at zero bs = Some []
texts_at (suc n) bs = text_then (texts_at n) (read_separated bs)

-- a field that is not used is empty
abbrev pub empty_field : Place → List ℕ → Result (Unit {0}) FieldFault
empty_field place [] = Ok tt
empty_field place (b ∷ bs) = Err (record { place = place })

-- a row of six fields was read from the beginning of the bytes, with what follows it
pub record SixFields (row : ℕ) (bs rest : List ℕ) (r : RuleRow) : Type 0 where
  pub parts : List Part
  pub was : read_row bs ≡ got parts rest
  pub six : length parts ≡ 6
  pub as_cells : cells r ≡ map content parts
  pub same_row : r.row ≡ row

-- no row of six fields begins there
abbrev pub NotSix : Read (List Part) → Type 0
NotSix (got fs rest) = length fs ≡ 6 → ⊥
NotSix broken = Unit {0}

abbrev pub RowRead : ℕ → List ℕ → Result (RuleRow × Bor (List ℕ)) RowFault → Type 0
RowRead row bs (Ok x) = SixFields row bs x.1.now x.0
RowRead row bs (Err e) = (e ≡ Malformed row) × NotSix (read_row bs)

-- which verdict an argument gets: that of a single head, or that of an all head
abbrev pub argument_verdict : (ℤ → Bool) → Rule → HeadSort → Argument → Result (Unit {0}) RuleFault
argument_verdict valid r Keep = single_verdict valid
argument_verdict valid r Drop = single_verdict valid
argument_verdict valid r KeepAll = all_verdict valid r
argument_verdict valid r DropAll = all_verdict valid r
argument_verdict valid r Only = all_verdict valid r
argument_verdict valid r When = all_verdict valid r

-- how far the set is written -----------------------------------------------------------------------------------------

abbrev pub stage_seen : {W : Type 0} → Stage W → State
stage_seen Before = no_rule
stage_seen (Head s row) = writing (head_rules s) row (head_draft s)
stage_seen (Body s row) = writing (body_rules s) row (body_draft s)

-- the rules of the set, and the one being written behind them, if there is one
abbrev pub all_rules : State → List Rule
all_rules no_rule = []
all_rules (writing done at_row r) = done ++ (r ∷ [])

-- a body that has begun has a part
abbrev pub Begun : {W : Type 0} → Stage W → Type 0
Begun Before = Unit {0}
Begun (Head s row) = Unit {0}
Begun (Body s row) = 5 ≤ stage (body_draft s)

-- no rule is being written whose body has not begun
abbrev pub NoHead : {W : Type 0} → Stage W → Type 0
NoHead Before = Unit {0}
NoHead (Head s row) = ⊥
NoHead (Body s row) = Unit {0}

-- the rule being written with the part of a row: 9, 4, and then its fields
abbrev pub with_head_row : (ℤ → Bool) → ℕ → List (List ℕ) → HeadSort → Rule → Outcome Rule
with_head_row valid row cs sort r = ruled row 0 (may_add sort r) >>= λ _. head_part valid row r sort cs >>= λ p. Ok (with_head p r)

abbrev pub with_body_row : (ℤ → Bool) → ℕ → List (List ℕ) → BodySort → Rule → Outcome Rule
with_body_row valid row cs sort r = ruled row 0 (may_add_body sort r) >>= λ _. body_part valid row r sort cs >>= λ p. Ok (with_body p r)

-- what was written into a rule: the rule then, or why it was not
abbrev pub written : {X E : Type 0} → Result (Unit {0}) E → X → Result X E
written (Ok u) x = Ok x
written (Err e) x = Err e

-- what was written into a body has begun it
abbrev pub BegunBy : {E : Type 0} → Result (Unit {0}) E → Rule → Type 0
BegunBy (Ok u) r = 5 ≤ stage r
BegunBy (Err e) r = Unit {0}

abbrev pub closed_result : {W E : Type 0} → Result (ClosedSet W) E → Result (List Rule) E
closed_result (Ok s) = Ok (closed_rules s)
closed_result (Err e) = Err e
