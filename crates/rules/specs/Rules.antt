-- A rule as lists: what the record of a rule means.
use Rattle.std.specs.Prelude.{ℕ, Bool, true, false, ◌&&◌, ◌||◌, List, [], ◌∷◌, ◌++◌, map, take, drop, ◌==◌}
use Rattle.lists.specs.Held.{held}
use Rattle.rules.specs.declared.rule_types.Argument.{Argument}
use Rattle.rules.specs.declared.rule_types.Argument.TheVariants.{Letter, Constant, Any}
use Rattle.rules.specs.declared.rule_types.Comparison.{Comparison}
use Rattle.rules.specs.declared.rule_types.Pattern.{Pattern}
use Rattle.rules.specs.declared.rule_types.Template.{Template}
use Rattle.rules.specs.declared.rule_types.AllRecord.{AllRecord}
use Rattle.rules.specs.declared.rule_types.GiveAll.{GiveAll}
use Rattle.rules.specs.declared.rule_types.RuleRecord.{RuleRecord}

pub record AllHead : Type 0 where
  pub drops : Bool
  pub pattern : Pattern
  pub only : List Comparison

pub record Rule : Type 0 where
  pub keeps : List Pattern
  pub drops : List Pattern
  pub alls : List AllHead
  pub whens : List Comparison
  pub gives : List Template
  pub givealls : List GiveAll

abbrev pub all_seen : AllRecord → AllHead
all_seen a = record { drops = a.drops; pattern = a.pattern; only = held a.only }

-- the lists of a record; of its single heads the first are the `keep` heads
abbrev pub rule_seen : RuleRecord → Rule
rule_seen r =
    record {
      keeps = take r.keep_count (held r.singles);
      drops = drop r.keep_count (held r.singles);
      alls = map all_seen (held r.alls);
      whens = held r.whens;
      gives = held r.gives;
      givealls = held r.givealls;
    }

-- the single heads in their order
abbrev pub singles : Rule → List Pattern
singles r = r.keeps ++ r.drops

-- a letter stands in a single head ---------------------------------------------------------------------------

abbrev pub any : {X : Type 0} → (X → Bool) → List X → Bool
any p [] = false
any p (x ∷ xs) = p x || any p xs

abbrev pub all : {X : Type 0} → (X → Bool) → List X → Bool
all p [] = true
all p (x ∷ xs) = p x && all p xs

abbrev pub is_letter : ℕ → Argument → Bool
is_letter v (Letter u) = u == v
is_letter v (Constant k) = false
is_letter v Any = false

abbrev pub bound : Rule → ℕ → Bool
bound r v = any (λ p. any (is_letter v) p.args) (singles r)
