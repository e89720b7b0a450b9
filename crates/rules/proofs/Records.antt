-- How many parts of each sort a record has.
use Rattle.std.proofs.Common.{◌≡◌, length, ap, ◌∙◌}
use Rattle.std.proofs.lemmas.List.{take-append-drop, length-map}
use Rattle.lists.specs.Held.{held}
use Rattle.lists.proofs.Held.{held-count}
use Rattle.rules.specs.declared.rule_types.RuleRecord.{RuleRecord}
use Rattle.rules.specs.Rules.{all_seen, rule_seen, singles}

-- the single heads of a record, in their order
pub singles-seen : (r : RuleRecord) → singles (rule_seen r) ≡ held r.singles
singles-seen r = take-append-drop r.keep_count (held r.singles)

pub singles-count : (r : RuleRecord) → length (singles (rule_seen r)) ≡ r.singles.count
singles-count r = ap length (singles-seen r) ∙ held-count r.singles

pub alls-count : (r : RuleRecord) → length (rule_seen r).alls ≡ r.alls.count
alls-count r = length-map (held r.alls) all_seen ∙ held-count r.alls
