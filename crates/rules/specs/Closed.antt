-- What is true of every rule of a set: its parts pass the writer's verdicts in the rule as it stands.
-- And what a closed set answers: how its heads are numbered, and which kinds are watched.
use Rattle.std.specs.Borrow.{Bor}
use Rattle.std.specs.Prelude.{◌≡◌, ℕ, suc, ◌+◌, ◌-◌, ◌<◌, ◌≤◌, Bool, true, false, cond, List, [], ◌∷◌, map, length, ℤ, Some, None, Ok, Err, Option, Result, nat_eq, nat_lt, slice_index_or}
use Rattle.std.specs.List.{range_with_len}
use Rattle.facts.specs.declared.fact_types.Fact.{Fact}
use Rattle.rules.specs.declared.rule_types.RuleFault.{RuleFault}
use Rattle.rules.specs.declared.rule_types.HeadPlace.{HeadPlace}
use Rattle.rules.specs.declared.rule_types.RuleRecord.{RuleRecord}
use Rattle.rules.specs.Rules.{AllHead, Rule, singles, any, rule_seen}
use Rattle.rules.specs.Writing.{◌>>=◌, each, pattern_verdict, single_verdict, all_verdict, comparison_verdict, term_verdict, template_verdict, giveall_verdict, no_parts}
use Rattle.rules.specs.Tables.{may_end}

-- rules that stand -------------------------------------------------------------------------------------------------

-- an all head: its kind and arguments, and its `only` comparisons
abbrev pub all_head_verdict : (ℤ → Bool) → Rule → AllHead → Result (Unit {0}) RuleFault
all_head_verdict valid r a = pattern_verdict (all_verdict valid r) a.pattern >>= λ _. each (comparison_verdict (term_verdict valid r true)) a.only

-- the parts of a rule, each judged in the rule as it stands: kinds are below 64, constants pass the test, every letter of
-- the conditions, all heads and body stands in a single head, and each `giveall` is over an all head that is there
abbrev pub parts_verdict : (ℤ → Bool) → Rule → Result (Unit {0}) RuleFault
parts_verdict valid r =
    each (pattern_verdict (single_verdict valid)) r.keeps
    >>= λ _. each (pattern_verdict (single_verdict valid)) r.drops
    >>= λ _. each (all_head_verdict valid r) r.alls
    >>= λ _. each (comparison_verdict (term_verdict valid r false)) r.whens
    >>= λ _. each (template_verdict (term_verdict valid r false)) r.gives
    >>= λ _. each (giveall_verdict valid r) r.givealls

-- a whole rule: it has a `drop` head, and its parts pass
abbrev pub rule_verdict : (ℤ → Bool) → Rule → Result (Unit {0}) RuleFault
rule_verdict valid r = may_end r >>= λ _. parts_verdict valid r

-- a verdict that is no fault
abbrev pub accepted : Result (Unit {0}) RuleFault → Bool
accepted (Ok u) = true
accepted (Err e) = false

-- every rule of a list is accepted
abbrev pub stand : (ℤ → Bool) → List Rule → Bool
stand valid rs = accepted (each (rule_verdict valid) rs)

-- the test that every word passes, for what is known of a set whatever its word system is
abbrev pub every_word : ℤ → Bool
every_word z = true

-- the numbering of heads ---------------------------------------------------------------------------------------------

-- how many heads of a rule have numbers
abbrev pub heads_of : Rule → ℕ
heads_of r = length (singles r)

-- how many numbered heads the rules have
abbrev pub head_count : List Rule → ℕ
head_count [] = 0
head_count (r ∷ rs) = heads_of r + head_count rs

-- where a head stands: its rule, the rule's number from 1, and its place in the rule from 0
pub record Place : Type 0 where
  pub rule : Rule
  pub number : ℕ
  pub place : ℕ

-- the head of number i, counted from 0 through the rules, of which the first has the number n
abbrev pub head_from : ℕ → List Rule → ℕ → Option Place
head_from n [] i = None
head_from n (r ∷ rs) i =
    cond (nat_lt i (heads_of r)) (Some (record { rule = r; number = n; place = i })) (head_from (suc n) rs (i - heads_of r))

-- heads are numbered from 1 through the set
abbrev pub head : List Rule → ℕ → Option Place
head rs i = head_from 1 rs (i - 1)

-- a place as the closed set names it: the index of the rule, and the head's place in it
abbrev pub place_seen : List Rule → Option HeadPlace → Option Place
place_seen rs None = None
place_seen rs (Some h) = Some (record { rule = slice_index_or rs h.rule no_parts; number = suc h.rule; place = h.place })

-- watched kinds -------------------------------------------------------------------------------------------------------

-- an all head of the rule names the kind
abbrev pub names : ℕ → Rule → Bool
names kind r = any (λ a. nat_eq a.pattern.kind kind) r.alls

-- a fact is watched if some all head names its kind
abbrev pub watched : List Rule → Fact → Bool
watched rs f = any (names f.kind) rs

-- of each kind from 0 to 63, whether some all head names it
abbrev pub watched_kinds : List Rule → List Bool
watched_kinds rs = map (λ k. any (names k) rs) (range_with_len 0 64)

-- records -----------------------------------------------------------------------------------------------------------------

-- the record of the rule at an index, or none where the list ends before it
abbrev pub IsRuleAt : List Rule → ℕ → Option (Bor RuleRecord) → Type 0
IsRuleAt rs i None = length rs ≤ i
IsRuleAt rs i (Some r) = (i < length rs) × (rule_seen r.now ≡ slice_index_or rs i no_parts)
