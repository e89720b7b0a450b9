-- The rules of a set at each of its stages, for those who use one.
use Rattle.std.specs.Prelude.{List}
use Rattle.rules.specs.declared.closed_type.ClosedSet.{ClosedSet}
use Rattle.rules.specs.declared.set_types.OpenSet.{OpenSet}
use Rattle.rules.specs.declared.set_types.RuleHead.{RuleHead}
use Rattle.rules.specs.declared.set_types.RuleBody.{RuleBody}
use Rattle.rules.specs.Rules.{Rule}
use Rattle.rules.specs.Tables.{finished, draft}

-- the rules of a closed set

abbrev pub closed_rules : {W : Type 0} → ClosedSet W → List Rule
closed_rules s = finished s.table

-- the rules of a set while it is written, and the rule being written
abbrev pub open_rules : {W : Type 0} → OpenSet W → List Rule
open_rules s = finished s.table

abbrev pub head_rules : {W : Type 0} → RuleHead W → List Rule
head_rules s = finished s.table

abbrev pub head_draft : {W : Type 0} → RuleHead W → Rule
head_draft s = draft s.table

abbrev pub body_rules : {W : Type 0} → RuleBody W → List Rule
body_rules s = finished s.table

abbrev pub body_draft : {W : Type 0} → RuleBody W → Rule
body_draft s = draft s.table
