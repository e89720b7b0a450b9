-- What the inner functions of an application cite. No contract of a public function cites this.
use Rattle.std.specs.Prelude.{◌≡◌, ℕ, suc, ◌+◌, ◌≤◌, Bool, true, cond, List, [], ◌++◌, map, flat_map, take, drop, length, Some, None, Ok, Err, Option, Result, slice_index_or, unwrap_or, option_map}
use Rattle.facts.specs.System.{System}
use Rattle.facts.specs.declared.fact_types.Fact.{Fact}
use Rattle.rules.specs.declared.rule_types.HeadPlace.{HeadPlace}
use Rattle.rules.specs.Rules.{Rule, all}
use Rattle.rules.specs.Writing.{no_parts}
use Rattle.rules.specs.Closed.{heads_of, Place}
use Rattle.stores.specs.Lists.{has}
use Rattle.stores.specs.Store.{Pair, labels, without}
use Rattle.machine.specs.declared.answer_types.StepFault.{StepFault}
use Rattle.machine.specs.declared.answer_types.StepFault.TheVariants as fault
use Rattle.machine.specs.Faults.{short_step}
use Rattle.machine.specs.Machine.{Frame, State, gone_alls, taken_of, gone_of, given_of, shortage}
use Rattle.engine.specs.declared.body_type.Body.{Body}
use Rattle.engine.specs.declared.search.Choice.{Choice}
use Rattle.lists.specs.Held.{held}
use Rattle.engine.specs.declared.applying.Weighed.{Weighed}
use Rattle.engine.specs.Bringing.{has_kind}
use Rattle.engine.specs.Goals.{below}
use Rattle.engine.specs.Taking.{Taken, Took}

-- the labels of the facts that leave, of those of the single heads and of what the all heads took
abbrev pub gone_labels : Rule → List ℕ → List (List ℕ) → List ℕ
gone_labels r ls lists = drop (length r.keeps) ls ++ gone_alls r.alls lists

-- the rule at an index of a set, and where a head of it stands
abbrev pub rule_at : List Rule → HeadPlace → Rule
rule_at rs h = slice_index_or rs h.rule no_parts

abbrev pub place_at : List Rule → HeadPlace → Place
place_at rs h = record { rule = rule_at rs h; number = suc h.rule; place = h.place }

-- the choice that there is
abbrev pub choice_in : Option (List Pair) → List Pair
choice_in o = unwrap_or o []

-- the labels of all facts that an application uses, and those of the facts that leave
abbrev pub used_labels : Choice → List Taken → List ℕ
used_labels x t = held x.labels ++ flat_map held t

abbrev pub leaving_labels : Rule → Choice → List Taken → List ℕ
leaving_labels r x t = gone_labels r (held x.labels) (map held t)

-- the facts that a body has, where it has all that it counts
abbrev pub facts_in : Body → List Fact
facts_in b = take b.count b.facts

-- a state without some labels, and without its top goal if that goes
abbrev pub left_by : List ℕ → Bool → State → State
left_by gone goes st = record { pairs = without gone st.pairs; next = st.next; goals = cond goes (below st.goals) st.goals }

-- what an application to a choice leaves where the top goal tries the active label
abbrev pub left_in : System → Place → ℕ → State → List Pair → State
left_in s h l st c = let gone = labels (gone_of s h.rule st.pairs c) in left_by gone (has l gone) st

-- why an application that gives these facts is refused, if it is
abbrev pub fault_of : Frame → State → Option (List Fact) → Option StepFault
fault_of fr left None = Some fault.Body
fault_of fr left (Some fs) = option_map short_step (shortage fr fs left)

-- an application with what is taken and given was weighed, and it is not refused
pub record IsReady (fr : Frame) (h : Place) (l : ℕ) (st : State) (c : List Pair) (t : List Taken) (b : Body) (w : Weighed) : Type 0 where
  pub took : Took (taken_of fr.system h.rule st.pairs c) t
  pub within : heads_of h.rule + length (flat_map held t) ≤ length st.pairs
  pub given : given_of fr.system h.rule st.pairs c ≡ Some (facts_in b)
  pub added : b.count ≡ length (facts_in b)
  pub kinds : all has_kind (facts_in b) ≡ true
  pub room : shortage fr (facts_in b) (left_in fr.system h l st c) ≡ None
  pub removed : w.removed ≡ length (gone_of fr.system h.rule st.pairs c)
  pub few : w.removed ≤ 1024
  pub alls : length h.rule.alls ≤ 2
  pub goes : w.goes ≡ has l (labels (gone_of fr.system h.rule st.pairs c))

-- an application was weighed: the record of one that is not refused, or the fault of one that is
abbrev pub IsWeighed : Frame → Place → ℕ → State → List Pair → List Taken → Body → Result Weighed StepFault → Type 0
IsWeighed fr h l st c t b (Ok w) = IsReady fr h l st c t b w
IsWeighed fr h l st c t b (Err e) = fault_of fr (left_in fr.system h l st c) (given_of fr.system h.rule st.pairs c) ≡ Some e
