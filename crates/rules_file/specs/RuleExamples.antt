-- Files of rules, and what they come to under Lengths: each is computed from the definitions.
use Rattle.std.specs.Prelude.{◌≡◌, ℕ, zero, suc, true, List, [], ◌∷◌, ◌++◌, pos, negsuc, Ok}
use Prim.Native.String.{String}
use Rattle.facts.specs.Lengths.{lengths}
use Rattle.facts.specs.declared.fact_types.Operator.TheVariants.{Plus, Minus, Meet}
use Rattle.facts.specs.declared.fact_types.Relation.TheVariants.{Equal, Unequal, AtMost, Less}
use Rattle.rules.specs.declared.rule_types.Argument.{Argument}
use Rattle.rules.specs.declared.rule_types.Argument.TheVariants as argument
use Rattle.rules.specs.declared.rule_types.Operand.TheVariants.{Letter, Constant, Taken}
use Rattle.rules.specs.declared.rule_types.Term.{Term}
use Rattle.rules.specs.declared.rule_types.Term.TheVariants.{One, Two}
use Rattle.rules.specs.declared.rule_types.Pattern.{Pattern}
use Rattle.rules.specs.declared.rule_types.Template.{Template}
use Rattle.rules.specs.Rules.{Rule}
use Rattle.rows.specs.Refusals.{Outcome, refuse}
use Rattle.rules_file.specs.RuleRows.{rules_of}
use Rattle.facts_file.specs.FactExamples.{lines}
use Rattle.rows.specs.declared.refusal_types.Layer.TheVariants.{Reader, RuleSet}

abbrev pub rules : List String → Outcome (List Rule)
rules ss = rules_of lengths.valid (lines ss)

abbrev pub pattern : ℕ → Argument → Argument → Argument → Pattern
pattern k a b c = record { kind = k; args = a ∷ (b ∷ (c ∷ [])) }

abbrev pub template : ℕ → Term → Term → Term → Template
template k a b c = record { kind = k; terms = a ∷ (b ∷ (c ∷ [])) }

-- the launcher rule and the rule that follows a segment
abbrev pub at_launcher : Pattern
at_launcher = pattern 1 (argument.Letter 0) (argument.Constant (pos 0)) (argument.Constant (pos 0))

abbrev pub follow : List Rule
follow =
    record { keeps = at_launcher ∷ []; drops = at_launcher ∷ []; alls = []; whens = []; gives = []; givealls = [] }
    ∷ (record {
      keeps = at_launcher ∷ [];
      drops = pattern 2 (argument.Letter 0) (argument.Letter 1) (argument.Letter 2) ∷ [];
      alls = [];
      whens = [];
      gives = template 1 (One (Letter 1)) (One (Constant (pos 0))) (One (Constant (pos 0))) ∷ [];
      givealls = [];
    } ∷ [])

abbrev pub follow_file : List ℕ
follow_file = lines ("rule,,,,," ∷ ("keep,1,A,0,0," ∷ ("drop,1,A,0,0," ∷ ("rule,,,,," ∷ ("keep,1,A,0,0," ∷ ("drop,2,A,B,C," ∷ ("give,1,B,0,0," ∷ [])))))))

-- a rule with a part of each kind, every relation and every operator
abbrev pub whole_rule : Rule
whole_rule =
    record {
      keeps = [];
      drops = pattern 4 (argument.Letter 0) (argument.Letter 1) (argument.Letter 2) ∷ [];
      alls = record {
        drops = true;
        pattern = pattern 3 (argument.Letter 0) argument.Any (argument.Constant (pos 0));
        only = record { left = One (Taken 1); relation = Less; right = One (Letter 2) } ∷ [];
      } ∷ [];
      whens =
          record { left = Two (Letter 0) Plus (Constant (pos 1)); relation = AtMost; right = Two (Letter 1) Minus (Constant (negsuc 2)) }
          ∷ (record { left = Two (Constant (negsuc 4)) Minus (Constant (pos 3)); relation = Unequal; right = Two (Letter 2) Meet (Letter 1) }
          ∷ (record { left = One (Letter 0); relation = Equal; right = One (Constant (pos 7)) } ∷ []));
      gives = template 63 (One (Letter 0)) (One (Constant (pos 0))) (Two (Letter 2) Minus (Letter 0)) ∷ [];
      givealls = record { over = 1; each = template 3 (One (Letter 1)) (One (Taken 1)) (One (Constant (pos 0))) } ∷ [];
    }

-- a rule with one head, and what follows it
abbrev pub begin : List String → List String
begin ss = "rule,,,,," ∷ ("drop,1,A,0,0," ∷ ss)

-- so many rules with one head
abbrev pub repeated : ℕ → List String
repeated zero = []
repeated (suc n) = begin (repeated n)

pub record FilesOfRules : Type 0 where
  -- read
  pub two_rules : rules_of lengths.valid follow_file ≡ Ok follow
  pub every_part : rules ("rule,,,,," ∷ ("drop,4,A,B,C," ∷ ("dropall,3,A,*,0," ∷ ("only,Y,lt,C,," ∷ ("when,A+1,le,B--3,," ∷ ("when,-5-3,ne,C&B,," ∷ ("when,\"A\",eq,007,," ∷ ("give,63,A,-0,C-A," ∷ ("giveall,1,3,B,Y,0" ∷ []))))))))) ≡ Ok (whole_rule ∷ [])
  pub no_rules : rules [] ≡ Ok []
  -- a kind (1), a word (2) and a letter (3); an earlier field's 2 comes before a later field's 8
  pub a_kind : rules ("rule,,,,," ∷ ("keep,64,A,0,0," ∷ [])) ≡ refuse 1 2 2 RuleSet
  pub a_word : rules ("rule,,,,," ∷ ("drop,1,2147483648,x,0," ∷ [])) ≡ refuse 2 2 3 RuleSet
  pub a_letter : rules (begin ("when,A+B,eq,1,," ∷ [])) ≡ refuse 3 3 2 RuleSet
  pub a_star : rules ("rule,,,,," ∷ ("drop,1,A,*,0," ∷ [])) ≡ refuse 3 2 4 RuleSet
  pub taken_in_head : rules ("rule,,,,," ∷ ("drop,1,X,0,0," ∷ [])) ≡ refuse 3 2 3 RuleSet
  pub taken_in_when : rules (begin ("when,X,eq,A,," ∷ [])) ≡ refuse 3 3 2 RuleSet
  pub left_operand : rules (begin ("when,9999999999+B,eq,1,," ∷ [])) ≡ refuse 2 3 2 RuleSet
  pub right_operand : rules (begin ("when,B+9999999999,eq,1,," ∷ [])) ≡ refuse 3 3 2 RuleSet
  pub left_field : rules (begin ("when,B,==,1,," ∷ [])) ≡ refuse 3 3 2 RuleSet
  -- one too many (4)
  pub a_fifth_head : rules ("rule,,,,," ∷ ("keep,1,A,0,0," ∷ ("keep,1,A,0,0," ∷ ("drop,1,A,0,0," ∷ ("drop,1,A,0,0," ∷ ("drop,64,A,0,0," ∷ [])))))) ≡ refuse 4 6 0 RuleSet
  pub third_only : rules (begin ("keepall,1,*,*,*," ∷ ("only,X,eq,A,," ∷ ("only,X,eq,A,," ∷ ("only,X,eq,A,," ∷ []))))) ≡ refuse 4 6 0 RuleSet
  pub a_rule_too_many : rules (repeated 33) ≡ refuse 4 65 0 RuleSet
  -- no `drop` head (5), which comes before what the next `rule` row has wrong; and no all head (6)
  pub no_drop : rules ("rule,,,,," ∷ ("keep,1,A,0,0," ∷ [])) ≡ refuse 5 1 0 RuleSet
  pub no_drop_next : rules (begin ("rule,,,,," ∷ ("keep,1,A,0,0," ∷ ("rule,x,,,," ∷ [])))) ≡ refuse 5 3 0 RuleSet
  pub five_before_four : rules (repeated 31 ++ ("rule,,,,," ∷ ("keep,1,A,0,0," ∷ ("rule,,,,," ∷ [])))) ≡ refuse 5 63 0 RuleSet
  pub no_all_head : rules (begin ("giveall,1,64,A,0,0" ∷ [])) ≡ refuse 6 3 2 RuleSet
  -- no row of six fields (7), and fields that cannot be read (8)
  pub five_fields : rules ("rule,,,," ∷ ("rule,,,,," ∷ [])) ≡ refuse 7 1 0 Reader
  pub no_field : rules ("rule,,,,," ∷ ("drop,1,\"A\"B,0,0," ∷ [])) ≡ refuse 7 2 0 Reader
  pub no_word : rules ("rule,,,,," ∷ ("Drop,1,A,0,0," ∷ [])) ≡ refuse 8 2 1 Reader
  pub no_term : rules (begin ("give,1,A--A,0,0," ∷ [])) ≡ refuse 8 3 3 Reader
  pub not_empty : rules ("rule,,,,," ∷ ("drop,1,A,0,0,x" ∷ [])) ≡ refuse 8 2 6 Reader
  -- out of order (9), which comes before 4
  pub out_of_order : rules (begin ("keep,1,A,0,0," ∷ [])) ≡ refuse 9 3 0 RuleSet
  pub before_any_rule : rules ("keep,1,A,0,0," ∷ []) ≡ refuse 9 1 0 RuleSet
  pub nine_before_four : rules ("rule,,,,," ∷ ("keep,1,A,0,0," ∷ ("keep,1,A,0,0," ∷ ("drop,1,A,0,0," ∷ ("drop,1,A,0,0," ∷ ("keep,1,A,0,0," ∷ [])))))) ≡ refuse 9 6 0 RuleSet
  pub only_late : rules (begin ("when,A,eq,A,," ∷ ("only,X,eq,A,," ∷ []))) ≡ refuse 9 4 0 RuleSet
  pub only_first : rules (begin ("only,X,eq,A,," ∷ [])) ≡ refuse 9 3 0 RuleSet
