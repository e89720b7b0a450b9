-- What a table of rules means, and what adding a part to the rule being written comes to.
use Rattle.std.specs.Prelude.{◌≡◌, ℕ, cond, List, map, length, Some, Ok, Err, Result, nat_lt, slice_get, slice_set}
use Rattle.lists.specs.Held.{held}
use Rattle.rules.specs.declared.rule_types.RuleFault.{RuleFault}
use Rattle.rules.specs.declared.rule_types.RuleFault.TheVariants.{TooMany, NoDrop}
use Rattle.rules.specs.declared.rule_types.RuleRecord.{RuleRecord}
use Rattle.rules.specs.declared.table_type.Table.{Table}
use Rattle.rules.specs.Rules.{Rule, rule_seen}
use Rattle.rules.specs.Writing.{rule_in, done, after, Wrote}

-- the rules of the set
abbrev pub finished : Table → List Rule
finished t = map rule_seen (held t.rules)

-- the rule being written: its record stands behind those of the rules
abbrev pub draft : Table → Rule
draft t = rule_in (slice_get t.rules.items t.rules.count)

-- one rule more may be begun: 4 where there are 32
abbrev pub may_begin : List Rule → Result (Unit {0}) RuleFault
may_begin rules = cond (nat_lt (length rules) 32) (Ok tt) (Err TooMany)

-- the rule being written may end: 5 where it has no `drop` head
abbrev pub may_end : Rule → Result (Unit {0}) RuleFault
may_end r = cond (nat_lt 0 (length r.drops)) (Ok tt) (Err NoDrop)

-- a part was written into the record at an index, or turned down; the other records stay
pub record WroteAt (i : ℕ) (o : Rule → Result Rule RuleFault) (old new : List RuleRecord) (r : Result (Unit {0}) RuleFault) : Type 0 where
  pub before : RuleRecord
  pub after : RuleRecord
  pub there : slice_get old i ≡ Some before
  pub others : new ≡ slice_set old i after
  pub wrote : Wrote (o (rule_seen before)) before after r

-- a part was added, or turned down: the answer, the rule being written, that the rules of the set stay, and that a
-- refused part leaves every record as found
pub record Added (o : Result Rule RuleFault) (old new : Table) (r : Result (Unit {0}) RuleFault) : Type 0 where
  pub answer : r ≡ done o
  pub written : draft new ≡ after o (draft old)
  pub before : finished new ≡ finished old
  pub same_len : new.rules.count ≡ old.rules.count
  pub as_found : (e : RuleFault) → r ≡ Err e → new.rules.items ≡ old.rules.items
