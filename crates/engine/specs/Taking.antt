-- What the inner functions of an application answer: what the all heads take, and what the body gives for it.
-- No contract of a public function cites this.
use Rattle.std.specs.Prelude.{◌≡◌, ℕ, ◌+◌, ◌-◌, Bool, true, false, cond, not, ◌&&◌, List, [], ◌∷◌, map, take, length, Some, None, Option, is_some, nat_lt, slice_index_or, slice_set, filter}
use Rattle.lists.specs.declared.fixed_list_type.FixedList.{FixedList}
use Rattle.lists.specs.Held.{held}
use Rattle.facts.specs.System.{System}
use Rattle.facts.specs.declared.fact_types.Fact.{Fact}
use Rattle.rules.specs.declared.rule_types.GiveAll.{GiveAll}
use Rattle.rules.specs.Rules.{AllHead, Rule, all, any}
use Rattle.stores.specs.Store.{Pair, fact, labels, facts, read, without}
use Rattle.stores.specs.Lists.{has}
use Rattle.engine.specs.declared.body_type.Body.{Body}
use Rattle.machine.specs.Fitting.{Setting, fits_all_head, given}
use Rattle.machine.specs.Machine.{taken_by, gone_alls}
use Rattle.engine.specs.Searching.{pairs_at}

-- an all head behind others takes a fact: the fact fits it and none of those before it
abbrev pub takes : System → Setting → List AllHead → AllHead → Fact → Bool
takes s σ earlier a f = not (any (λ b. fits_all_head s σ b f) earlier) && fits_all_head s σ a f

-- what it takes of stored pairs but those of some labels
abbrev pub taken_by_head : System → Setting → List AllHead → AllHead → List ℕ → List Pair → List Pair
taken_by_head s σ earlier a ls ps = filter (λ p. not (has p.0 ls) && takes s σ earlier a (fact p)) ps

-- whether it takes the fact under a label
abbrev pub takes_label : System → Setting → List AllHead → AllHead → List ℕ → List Pair → ℕ → Bool
takes_label s σ earlier a ls ps n = not (has n ls) && elim (read n ps) [ None ↦ false | Some f ↦ takes s σ earlier a f ]

-- what all heads of a rule take of stored pairs but those of some labels, in order
abbrev pub all_taken : System → Setting → Rule → List ℕ → List Pair → List (List Pair)
all_taken s σ r ls ps = taken_by s σ r.alls (without ls ps)

-- the labels that an all head took
abbrev pub Taken : Type 0
Taken = FixedList ℕ 1024

-- the first and the second of some lists, where one that is not there is empty
abbrev pub two : {X : Type 0} → List (List X) → List (List X)
two ts = slice_index_or ts 0 [] ∷ (slice_index_or ts 1 [] ∷ [])

-- the all heads took these pairs
abbrev pub Took : List (List Pair) → List Taken → Type 0
Took ts taken = map held taken ≡ map labels (two ts)

-- the labels that they took are held
abbrev pub Held : List Pair → List Taken → Type 0
Held ps taken = all (all (λ n. is_some (read n ps))) (map held taken) ≡ true

-- how many facts leave, where the all heads took these labels
abbrev pub gone_number : Rule → List (List ℕ) → ℕ
gone_number r lists = length r.drops + length (gone_alls r.alls lists)

-- the labels that the all head of a number from 1 took
abbrev pub labels_over : ℕ → List Taken → List ℕ
labels_over o taken = slice_index_or (map held taken) (o - 1) []

-- what a `giveall` gives for the facts under the labels that its all head took
abbrev pub given_over : System → Setting → List Pair → List Taken → GiveAll → List (Option Fact)
given_over s σ ps taken g = map (λ f. given s σ f.words g.each) (facts (pairs_at ps (labels_over g.over taken)))

-- a body with one fact more: the first 512 facts are kept, and all are counted
abbrev pub with_given : Body → Fact → Body
with_given b f = record { facts = cond (nat_lt b.count 512) (slice_set b.facts b.count f) b.facts; count = b.count + 1 }

abbrev pub with_all_given : Body → List Fact → Body
with_all_given b [] = b
with_all_given b (f ∷ fs) = with_all_given (with_given b f) fs

-- none where a term has no value, or else the body then
abbrev pub Gives : Option (List Fact) → Body → Body → Option (Unit {0}) → Type 0
Gives None old new answer = answer ≡ None
Gives (Some fs) old new answer = (answer ≡ Some tt) × (new ≡ with_all_given old fs)

-- a body counts these facts, and has the first 512 of them
pub record HasFacts (fs : List Fact) (b : Body) : Type 0 where
  pub count : b.count ≡ length fs
  pub facts : take b.count b.facts ≡ take 512 fs
  pub wide : length b.facts ≡ 512

-- none where a term has no value, or else the body of an application then
abbrev pub IsBody : Option (List Fact) → Body → Option (Unit {0}) → Type 0
IsBody None b answer = answer ≡ None
IsBody (Some fs) b answer = (answer ≡ Some tt) × HasFacts fs b
