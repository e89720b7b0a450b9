-- The files of rules of the examples come to what is said of them: by computing.
use Rattle.std.proofs.Common.{◌≡◌, ℕ, List, Some, Ok, refl, ap, ◌∙◌}
use Rattle.facts.specs.Lengths.{lengths}
use Rattle.rows.specs.Csv.{read_row, rows}
use Rattle.rules_file.specs.RuleRows.{word, relation, write_row, rules_file}
use Rattle.rules_file.specs.RuleExamples.{follow, follow_file, FilesOfRules}

pub files_of_rules : FilesOfRules
unfolding read_row rows word relation write_row
files_of_rules =
    record {
      two_rules = refl;
      every_part = refl;
      no_rules = refl;
      a_kind = refl;
      a_word = refl;
      a_letter = refl;
      a_star = refl;
      taken_in_head = refl;
      taken_in_when = refl;
      left_operand = refl;
      right_operand = refl;
      left_field = refl;
      a_fifth_head = refl;
      third_only = refl;
      a_rule_too_many = refl;
      no_drop = refl;
      no_drop_next = refl;
      five_before_four = refl;
      no_all_head = refl;
      five_fields = refl;
      no_field = refl;
      no_word = refl;
      no_term = refl;
      not_empty = refl;
      out_of_order = refl;
      before_any_rule = refl;
      nine_before_four = refl;
      only_late = refl;
      only_first = refl;
    }

-- the worked example's file, whichever bytes are equal to it
pub looped-rules : (bs : List ℕ) → bs ≡ follow_file → rules_file lengths.valid (Some bs) ≡ Ok follow
looped-rules bs e = ap (λ (x : List ℕ). rules_file lengths.valid (Some x)) e ∙ files_of_rules.two_rules
