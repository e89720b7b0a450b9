-- Worked examples, computed from the definitions: posts, steps and runs.
use Rattle.std.specs.Prelude.{◌≡◌, ℕ, zero, suc, true, List, [], ◌∷◌, replicate, pos, Ok, Err}
use Rattle.facts.specs.declared.fact_types.Fact.{Fact}
use Rattle.facts.specs.declared.fact_types.Operator.TheVariants.{Plus, Minus, Meet}
use Rattle.facts.specs.declared.fact_types.Relation.TheVariants.{Less}
use Rattle.facts.specs.Lengths.{lengths}
use Rattle.facts.specs.Tags.{tags}
use Rattle.rules.specs.declared.rule_types.Argument.TheVariants.{Letter, Constant, Any}
use Rattle.rules.specs.declared.rule_types.Operand.TheVariants as operand
use Rattle.rules.specs.declared.rule_types.Term.TheVariants.{One, Two}
use Rattle.stores.specs.Store.{facts, labels}
use Rattle.machine.specs.declared.answer_types.Answer.{Answer}
use Rattle.machine.specs.declared.answer_types.Answer.TheVariants.{Quiet, Stored, Dropped, Applied}
use Rattle.machine.specs.declared.answer_types.End.TheVariants as ends
use Rattle.machine.specs.declared.answer_types.PostFault.TheVariants.{Kind}
use Rattle.machine.specs.declared.answer_types.StepFault.TheVariants.{Facts}
use Rattle.machine.specs.Faults.{post_fault_number, named_fact, step_fault_number}
use Rattle.machine.specs.Ledger.{IsSound, HasValidConstants}
use Rattle.machine.specs.Machine.{Frame, State, empty_state, post_answer, after_post, step, Ran, run}

-- a kind and three words
abbrev pub fact_of : ℕ → ℕ → ℕ → ℕ → Fact
fact_of k a b c = record { kind = k; words = pos a ∷ (pos b ∷ (pos c ∷ [])) }

-- a new job to which facts were posted
abbrev pub posted : Frame → List Fact → State
posted fr fs = after_post fr fs empty_state (post_answer fr fs empty_state)

-- the answers of so many steps
abbrev pub answers : Frame → ℕ → List ℕ → State → List Answer
answers fr zero ns st = []
answers fr (suc n) ns st = let o = step fr ns st in o.answer ∷ answers fr n o.list o.state

-- of each application among answers the rule, the active label, and how many facts were removed and added
abbrev pub applied_in : List Answer → List (ℕ × ℕ × ℕ × ℕ)
applied_in [] = []
applied_in (Applied a ∷ ys) = (a.rule, a.active, a.removed, a.added) ∷ applied_in ys
applied_in (y ∷ ys) = applied_in ys

-- the looped line ----------------------------------------------------------------------------------------------------

-- of two equal points one is enough, and a segment from a reached point reaches its far end
abbrev pub line : Frame
line =
    record {
      system = lengths;
      capacity = 512;
      rules =
          record {
            keeps = record { kind = 1; args = Letter 0 ∷ (Constant (pos 0) ∷ (Constant (pos 0) ∷ [])) } ∷ [];
            drops = record { kind = 1; args = Letter 0 ∷ (Constant (pos 0) ∷ (Constant (pos 0) ∷ [])) } ∷ [];
            alls = [];
            whens = [];
            gives = [];
            givealls = [];
          }
          ∷ (record {
            keeps = record { kind = 1; args = Letter 0 ∷ (Constant (pos 0) ∷ (Constant (pos 0) ∷ [])) } ∷ [];
            drops = record { kind = 2; args = Letter 0 ∷ (Letter 1 ∷ (Letter 2 ∷ [])) } ∷ [];
            alls = [];
            whens = [];
            gives =
                record { kind = 1; terms = One (operand.Letter 1) ∷ (One (operand.Constant (pos 0)) ∷ (One (operand.Constant (pos 0)) ∷ [])) }
                ∷ [];
            givealls = [];
          } ∷ []);
    }

-- segments from point 10 to point 20 and back, and a launcher at point 10
abbrev pub line_posted : State
line_posted = posted line (fact_of 2 10 20 500 ∷ (fact_of 2 20 10 500 ∷ (fact_of 1 10 0 0 ∷ [])))

abbrev pub line_ran : Ran
line_ran = run line (replicate 512 0) 100000 line_posted

-- the run ends quiet after 31 steps and three applications, which have these rules, active labels, and counts removed and added;
-- points 20 and 10 are left under labels 4 and 5
pub record PrintedExampleEndsQuiet : Type 0 where
  pub end : line_ran.end ≡ ends.Quiet
  pub steps : line_ran.steps ≡ 31
  pub applications : line_ran.applications ≡ 3
  pub labels_left : labels line_ran.state.pairs ≡ 4 ∷ (5 ∷ [])
  pub facts_left : facts line_ran.state.pairs ≡ fact_of 1 20 0 0 ∷ (fact_of 1 10 0 0 ∷ [])
  pub in_order : applied_in (answers line 31 (replicate 512 0) line_posted) ≡ (2, 3, 1, 1) ∷ ((2, 4, 1, 1) ∷ ((1, 5, 1, 0) ∷ []))

-- the rules are as the laws ask: they stand, their constants are lengths, and each of their facts has three terms
pub record PrintedExampleIsSound : Type 0 where
  pub sound : IsSound line
  pub valid : HasValidConstants line

-- no rules -----------------------------------------------------------------------------------------------------------

-- a job with no rules, and room for one fact
abbrev pub bare : Frame
bare = record { system = lengths; rules = []; capacity = 1 }

abbrev pub one_posted : State
one_posted = posted bare (fact_of 1 0 0 0 ∷ [])

abbrev pub two_ran : Ran
two_ran = run bare (0 ∷ []) 9 (posted bare (fact_of 1 0 0 0 ∷ (fact_of 1 0 0 0 ∷ [])))

-- a fact of kind 63 is posted, and one of kind 64 is refused by 1, which names fact 1
pub record LastKindIsPosted : Type 0 where
  pub last : post_answer bare (fact_of 63 0 0 0 ∷ []) empty_state ≡ Ok tt
  pub beyond : post_answer bare (fact_of 64 0 0 0 ∷ []) empty_state ≡ Err (Kind 1)
  pub number : post_fault_number (Kind 1) ≡ 1
  pub named : named_fact (Kind 1) ≡ 1

-- one fact is stored, its goal is dropped behind the last head, and then all is quiet
abbrev pub LoneFactEndsQuiet : Type 0
LoneFactEndsQuiet = answers bare 3 (0 ∷ []) one_posted ≡ Stored ∷ (Dropped ∷ (Quiet ∷ []))

-- of two facts the first is stored, and the second finds the store full: its step is refused by 10
pub record SecondFactFindsStoreFull : Type 0 where
  pub end : two_ran.end ≡ ends.Stopped Facts
  pub number : step_fault_number Facts ≡ 10
  pub steps : two_ran.steps ≡ 2
  pub facts_left : facts two_ran.state.pairs ≡ fact_of 1 0 0 0 ∷ []

-- a run that is allowed no step is quiet where there is no goal, and spent where there is one
pub record RunOfNoStepsEnds : Type 0 where
  pub quiet : (run bare (0 ∷ []) 0 empty_state).end ≡ ends.Quiet
  pub spent : (run bare (0 ∷ []) 0 one_posted).end ≡ ends.Spent

-- all facts below a bound ---------------------------------------------------------------------------------------------

-- drop 4 (A, B, C), dropall 3 (A, *, 0) only Y lt C, giveall 1: 3 (B, Y, 0)
abbrev pub sweep : Frame
sweep =
    record {
      system = lengths;
      capacity = 8;
      rules =
          record {
            keeps = [];
            drops = record { kind = 4; args = Letter 0 ∷ (Letter 1 ∷ (Letter 2 ∷ [])) } ∷ [];
            alls =
                record {
                  drops = true;
                  pattern = record { kind = 3; args = Letter 0 ∷ (Any ∷ (Constant (pos 0) ∷ [])) };
                  only = record { left = One (operand.Taken 1); relation = Less; right = One (operand.Letter 2) } ∷ [];
                }
                ∷ [];
            whens = [];
            gives = [];
            givealls =
                record {
                  over = 1;
                  each = record { kind = 3; terms = One (operand.Letter 1) ∷ (One (operand.Taken 1) ∷ (One (operand.Constant (pos 0)) ∷ [])) };
                }
                ∷ [];
          }
          ∷ [];
    }

abbrev pub sweep_ran : Ran
sweep_ran =
    run sweep (replicate 8 9) 1000
    (posted sweep (fact_of 3 1 3 0 ∷ (fact_of 3 1 7 0 ∷ (fact_of 3 1 4 0 ∷ (fact_of 4 1 2 5 ∷ [])))))

-- the fact under label 4 drops those under labels 1 and 3: the list begins with these labels, and the rest of it stays; what is
-- given in their place gets labels 5 and 6
pub record DropallTakesBelowBound : Type 0 where
  pub end : sweep_ran.end ≡ ends.Quiet
  pub applications : sweep_ran.applications ≡ 1
  pub list_left : sweep_ran.list ≡ 4 ∷ (1 ∷ (3 ∷ (9 ∷ (9 ∷ (9 ∷ (9 ∷ (9 ∷ [])))))))
  pub labels_left : labels sweep_ran.state.pairs ≡ 2 ∷ (5 ∷ (6 ∷ []))
  pub facts_left : facts sweep_ran.state.pairs ≡ fact_of 3 1 7 0 ∷ (fact_of 3 2 3 0 ∷ (fact_of 3 2 4 0 ∷ []))

-- sets of tags ---------------------------------------------------------------------------------------------------------

-- drop 1 (A, B, 0), give 2 (A+B, A&B, A-B), where words are sets of tags
abbrev pub sets : Frame
sets =
    record {
      system = tags;
      capacity = 1;
      rules =
          record {
            keeps = [];
            drops = record { kind = 1; args = Letter 0 ∷ (Letter 1 ∷ (Constant (pos 0) ∷ [])) } ∷ [];
            alls = [];
            whens = [];
            gives =
                record {
                  kind = 2;
                  terms =
                      Two (operand.Letter 0) Plus (operand.Letter 1)
                      ∷ (Two (operand.Letter 0) Meet (operand.Letter 1) ∷ (Two (operand.Letter 0) Minus (operand.Letter 1) ∷ []));
                }
                ∷ [];
            givealls = [];
          }
          ∷ [];
    }

-- {0, 2} and {1, 2} are {0, 1, 2} together, have {2} in common, and the first without the second is {0}
abbrev pub SetsAreJoined : Type 0
SetsAreJoined = facts (run sets (0 ∷ []) 9 (posted sets (fact_of 1 5 6 0 ∷ []))).state.pairs ≡ fact_of 2 7 4 1 ∷ []
