-- The rules that were read from a file.
use Rattle.std.specs.Prelude.{List, [], Ok, Err}
use Rattle.rules.specs.Rules.{Rule}
use Rattle.rows.specs.Refusals.{Outcome}
use Rattle.reader.specs.RuleScan.{stage_seen, all_rules}
use Rattle.reader.specs.declared.file_rules_type.FileRules.{FileRules}

abbrev pub file_rules : {W : Type 0} → FileRules W → List Rule
file_rules f = all_rules (stage_seen f.stage)

-- the rules that a file leaves: its own where it is accepted, else none
abbrev pub rules_left : Outcome (List Rule) → List Rule
rules_left (Ok rules) = rules
rules_left (Err r) = []
