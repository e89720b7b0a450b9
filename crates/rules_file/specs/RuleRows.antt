-- rules.csv: from its bytes to the rules or the refusal. Each row is a step from one state to the next.
use Rattle.std.specs.Prelude.{ℕ, suc, ◌+◌, ◌-◌, Bool, true, false, cond, List, [], ◌∷◌, ◌++◌, map, length, take, drop, ℤ, Some, None, Ok, Err, codes, Option, Result, ◌==◌, nat_lt, slice_index_or}
use Rattle.std.specs.Str.{bytes_eq}
use Rattle.facts.specs.declared.fact_types.Relation.{Relation}
use Rattle.facts.specs.declared.fact_types.Relation.TheVariants.{Equal, Unequal, AtMost, Less}
use Rattle.rules.specs.declared.rule_types.Argument.{Argument}
use Rattle.rules.specs.declared.rule_types.Argument.TheVariants as argument
use Rattle.rules.specs.declared.rule_types.Operand.TheVariants.{Letter, Constant, Taken}
use Rattle.rules.specs.declared.rule_types.Term.{Term}
use Rattle.rules.specs.declared.rule_types.Comparison.{Comparison}
use Rattle.rules.specs.declared.rule_types.Pattern.{Pattern}
use Rattle.rules.specs.declared.rule_types.Template.{Template}
use Rattle.rules.specs.declared.rule_types.RuleFault.{RuleFault}
use Rattle.rules.specs.declared.rule_types.RuleFault.TheVariants as fault
use Rattle.rules.specs.declared.rule_types.HeadSort.{HeadSort}
use Rattle.rules.specs.declared.rule_types.HeadSort.TheVariants.{Keep, Drop, KeepAll, DropAll, Only, When}
use Rattle.rules.specs.declared.rule_types.BodySort.{BodySort}
use Rattle.rules.specs.declared.rule_types.BodySort.TheVariants.{Give, GiveAll}
use Rattle.rules.specs.declared.rule_types.HeadPart.{HeadPart}
use Rattle.rules.specs.declared.rule_types.HeadPart.TheVariants as in_head
use Rattle.rules.specs.declared.rule_types.BodyPart.{BodyPart}
use Rattle.rules.specs.declared.rule_types.BodyPart.TheVariants as in_Body
use Rattle.rules.specs.Rules.{Rule}
use Rattle.rules.specs.Writing.{fault_number, may_add, may_add_body, kind_verdict, over_verdict, single_verdict, all_verdict, term_verdict, no_parts, with_keep, with_drop, with_all, with_only, with_when, with_give, with_giveall}
use Rattle.rules.specs.Tables.{may_begin, may_end}
use Rattle.rows.specs.Csv.{content, Row, fields, malformed, rows}
use Rattle.rows.specs.Numbers.{number}
use Rattle.terms.specs.Terms.{term, argument as read-argument}
use Rattle.rows.specs.Refusals.{Outcome, refusal, refuse, refused_as, ◌>>=◌, most_bytes}
use Rattle.facts_file.specs.Facts.{words}
use Rattle.rules_file.specs.declared.word_type.RowWord.{RowWord}
use Rattle.rules_file.specs.declared.word_type.RowWord.TheVariants as row_word
use Rattle.terms.specs.declared.mark_type.Mark.{Mark}
use Rattle.terms.specs.declared.mark_type.Mark.TheVariants as mark
use Rattle.rows.specs.declared.refusal_types.Refusal.{Refusal}
use Rattle.rows.specs.declared.refusal_types.Layer.TheVariants.{Reader, RuleSet}

-- words and relations by their spelling --------------------------------------------------------------------

abbrev pub word_spelled : RowWord → List ℕ
word_spelled row_word.Rule = codes "rule"
word_spelled (row_word.Head Keep) = codes "keep"
word_spelled (row_word.Head Drop) = codes "drop"
word_spelled (row_word.Head KeepAll) = codes "keepall"
word_spelled (row_word.Head DropAll) = codes "dropall"
word_spelled (row_word.Head Only) = codes "only"
word_spelled (row_word.Head When) = codes "when"
word_spelled (row_word.Body Give) = codes "give"
word_spelled (row_word.Body GiveAll) = codes "giveall"

abbrev pub relation_spelled : Relation → List ℕ
relation_spelled Equal = codes "eq"
relation_spelled Unequal = codes "ne"
relation_spelled AtMost = codes "le"
relation_spelled Less = codes "lt"

-- the first that is spelled so
abbrev pub by_spelling : {X : Type 0} → (X → List ℕ) → List X → List ℕ → Option X
by_spelling spelled [] bs = None
by_spelling spelled (x ∷ xs) bs = let further = by_spelling spelled xs bs in cond (bytes_eq bs (spelled x)) (Some x) further

abbrev pub every_word : List RowWord
every_word = row_word.Rule ∷ (row_word.Head Keep ∷ (row_word.Head Drop ∷ (row_word.Head KeepAll ∷ (row_word.Head DropAll ∷ (row_word.Head Only ∷ (row_word.Head When ∷ (row_word.Body Give ∷ (row_word.Body GiveAll ∷ []))))))))

abbrev pub every_relation : List Relation
every_relation = Equal ∷ (Unequal ∷ (AtMost ∷ (Less ∷ [])))

unfoldable pub word : List ℕ → Option RowWord
word bs = by_spelling word_spelled every_word bs

unfoldable pub relation : List ℕ → Option Relation
relation bs = by_spelling relation_spelled every_relation bs

-- fields: 8, then what the rule set says of them ---------------------------------------------------------------

-- a fault of the rule set, as the refusal of a field, or of a row where the field is 0
abbrev pub fault_at : ℕ → ℕ → RuleFault → Refusal
fault_at row field e = refusal (fault_number e) row field RuleSet

abbrev pub ruled : {X : Type 0} → ℕ → ℕ → Result X RuleFault → Outcome X
ruled row field o = refused_as (fault_at row field) o

-- a field that can be read is then judged
abbrev pub judged : {X Y : Type 0} → ℕ → ℕ → (X → Result Y RuleFault) → Option X → Outcome Y
judged row field judge None = refuse 8 row field Reader
judged row field judge (Some x) = ruled row field (judge x)

-- fields from a number on, each judged alike
abbrev pub judged_each : {X Y : Type 0} → ℕ → ℕ → (List ℕ → Option X) → (X → Result Y RuleFault) → List (List ℕ) → Outcome (List Y)
judged_each row field read judge [] = Ok []
judged_each row field read judge (c ∷ cs) = do
  y ← judged row field judge (read c)
  ys ← judged_each row (suc field) read judge cs
  Ok (y ∷ ys)

-- fields that are not used are empty
abbrev pub unused : ℕ → ℕ → List (List ℕ) → Outcome (Unit {0})
unused row field [] = Ok tt
unused row field ([] ∷ cs) = unused row (suc field) cs
unused row field ((b ∷ bs) ∷ cs) = refuse 8 row field Reader

-- what passes stays as it is
abbrev pub passing : {X : Type 0} → (X → Result (Unit {0}) RuleFault) → X → Result X RuleFault
passing judge x = judge x >>= λ _. Ok x

-- a word of the fact taken is no argument of a head
abbrev pub argument_of : Mark → Result Argument RuleFault
argument_of mark.Star = Ok argument.Any
argument_of (mark.Operand (Letter v)) = Ok (argument.Letter v)
argument_of (mark.Operand (Constant z)) = Ok (argument.Constant z)
argument_of (mark.Operand (Taken i)) = Err fault.Letter

abbrev pub mark_verdict : (Argument → Result (Unit {0}) RuleFault) → Mark → Result Argument RuleFault
mark_verdict judge m = argument_of m >>= passing judge

-- parts, from the contents of a row's fields --------------------------------------------------------------------

-- how many fields a row has
abbrev pub row_width : ℕ
row_width = 6

-- the content of a field by its number, the fields from one on, and as many of them as a fact has words
abbrev pub at : ℕ → List (List ℕ) → List ℕ
at field cs = slice_index_or cs (field - 1) []

abbrev pub from : ℕ → List (List ℕ) → List (List ℕ)
from field cs = drop (field - 1) cs

abbrev pub words_from : ℕ → List (List ℕ) → List (List ℕ)
words_from field cs = take words (from field cs)

-- a head: its kind in field 2, its arguments in 3 to 5
abbrev pub head : ℕ → (Argument → Result (Unit {0}) RuleFault) → List (List ℕ) → Outcome Pattern
head row judge cs = do
  k ← judged row 2 kind_verdict (number (at 2 cs))
  args ← judged_each row 3 read-argument (mark_verdict judge) (words_from 3 cs)
  _ ← unused row 6 (from 6 cs)
  Ok (record { kind = k; args = args })

-- a comparison: its terms in fields 2 and 4, its relation in 3
abbrev pub comparison : ℕ → (Term → Result (Unit {0}) RuleFault) → List (List ℕ) → Outcome Comparison
comparison row judge cs = do
  left ← judged row 2 (passing judge) (term (at 2 cs))
  rel ← judged row 3 (λ p. Ok p) (relation (at 3 cs))
  right ← judged row 4 (passing judge) (term (at 4 cs))
  _ ← unused row 5 (from 5 cs)
  Ok (record { left = left; relation = rel; right = right })

-- a fact of the body: its kind in the given field, its terms in the three behind it
abbrev pub template : ℕ → ℕ → (Term → Result (Unit {0}) RuleFault) → List (List ℕ) → Outcome Template
template row field judge cs = do
  k ← judged row field kind_verdict (number (at field cs))
  terms ← judged_each row (field + 1) term (passing judge) (words_from (field + 1) cs)
  _ ← unused row (field + 4) (from (field + 4) cs)
  Ok (record { kind = k; terms = terms })

-- the part of a row before the body
abbrev pub head_part : (ℤ → Bool) → ℕ → Rule → HeadSort → List (List ℕ) → Outcome HeadPart
head_part valid row r Keep cs = head row (single_verdict valid) cs >>= λ p. Ok (in_head.Keep p)
head_part valid row r Drop cs = head row (single_verdict valid) cs >>= λ p. Ok (in_head.Drop p)
head_part valid row r KeepAll cs = head row (all_verdict valid r) cs >>= λ p. Ok (in_head.KeepAll p)
head_part valid row r DropAll cs = head row (all_verdict valid r) cs >>= λ p. Ok (in_head.DropAll p)
head_part valid row r Only cs = comparison row (term_verdict valid r true) cs >>= λ c. Ok (in_head.Only c)
head_part valid row r When cs = comparison row (term_verdict valid r false) cs >>= λ c. Ok (in_head.When c)

-- the part of a row of the body; a `giveall` names its all head in field 2
abbrev pub body_part : (ℤ → Bool) → ℕ → Rule → BodySort → List (List ℕ) → Outcome BodyPart
body_part valid row r Give cs = template row 2 (term_verdict valid r false) cs >>= λ t. Ok (in_Body.Give t)
body_part valid row r GiveAll cs = do
  n ← judged row 2 (over_verdict r) (number (at 2 cs))
  t ← template row 3 (term_verdict valid r true) cs
  Ok (in_Body.GiveAll (record { over = n; each = t }))

-- the rule with a part
abbrev pub with_head : HeadPart → Rule → Rule
with_head (in_head.Keep p) r = with_keep p r
with_head (in_head.Drop p) r = with_drop p r
with_head (in_head.KeepAll p) r = with_all false p r
with_head (in_head.DropAll p) r = with_all true p r
with_head (in_head.Only c) r = with_only c r
with_head (in_head.When c) r = with_when c r

abbrev pub with_body : BodyPart → Rule → Rule
with_body (in_Body.Give t) r = with_give t r
with_body (in_Body.GiveAll g) r = with_giveall g r

-- rows ------------------------------------------------------------------------------------------------------------

-- no `rule` row so far; or the finished rules, the number of the last `rule` row, and the rule being written
pub data State : Type 0 where
  no_rule : State
  writing : List Rule → ℕ → Rule → State

-- all rules, the one being written among them; it is refused (5) by its `rule` row
abbrev pub finished : State → Outcome (List Rule)
finished no_rule = Ok []
finished (writing done at_row r) = ruled at_row 0 (may_end r) >>= λ _. Ok (done ++ (r ∷ []))

abbrev pub new_rule : ℕ → List (List ℕ) → List Rule → Outcome State
new_rule row cs done = do
  _ ← ruled row 0 (may_begin done)
  _ ← unused row 2 (from 2 cs)
  Ok (writing done row no_parts)

-- a part before any `rule` row is out of order (9); else 9, 4, and then its fields
abbrev pub write_head : (ℤ → Bool) → ℕ → List (List ℕ) → HeadSort → State → Outcome State
write_head valid row cs sort no_rule = ruled row 0 (Err fault.OutOfOrder)
write_head valid row cs sort (writing done at_row r) = do
  _ ← ruled row 0 (may_add sort r)
  p ← head_part valid row r sort cs
  Ok (writing done at_row (with_head p r))

abbrev pub write_body : (ℤ → Bool) → ℕ → List (List ℕ) → BodySort → State → Outcome State
write_body valid row cs sort no_rule = ruled row 0 (Err fault.OutOfOrder)
write_body valid row cs sort (writing done at_row r) = do
  _ ← ruled row 0 (may_add_body sort r)
  p ← body_part valid row r sort cs
  Ok (writing done at_row (with_body p r))

abbrev pub write_word : (ℤ → Bool) → ℕ → List (List ℕ) → State → Option RowWord → Outcome State
write_word valid row cs st None = refuse 8 row 1 Reader
write_word valid row cs st (Some row_word.Rule) = finished st >>= new_rule row cs
write_word valid row cs st (Some (row_word.Head sort)) = write_head valid row cs sort st
write_word valid row cs st (Some (row_word.Body sort)) = write_body valid row cs sort st

-- a row of six fields: its word, and then what the word asks for
unfoldable pub write_row : (ℤ → Bool) → ℕ → State → Row → Outcome State
write_row valid row st malformed = refuse 7 row 0 Reader
write_row valid row st (fields fs) =
    let cs = map content fs in
    let written = write_word valid row cs st (word (at 1 cs)) in
    cond (length fs == row_width) written (refuse 7 row 0 Reader)

-- the file --------------------------------------------------------------------------------------------------------

abbrev pub write_rows : (ℤ → Bool) → ℕ → State → List Row → Outcome (List Rule)
write_rows valid row st [] = finished st
write_rows valid row st (r ∷ rs) = write_row valid row st r >>= λ next. write_rows valid (suc row) next rs

-- the rules of a file's bytes
abbrev pub rules_of : (ℤ → Bool) → List ℕ → Outcome (List Rule)
rules_of valid bs =
    let read = write_rows valid 1 no_rule (rows bs) in
    cond (nat_lt most_bytes (length bs)) (refuse 7 0 0 Reader) read

-- the same where there may be no file
abbrev pub rules_file : (ℤ → Bool) → Option (List ℕ) → Outcome (List Rule)
rules_file valid None = refuse 7 0 0 Reader
rules_file valid (Some bs) = rules_of valid bs
