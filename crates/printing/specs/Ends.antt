-- How a job ends that is made of a store, its rules and the facts that are posted.
use Rattle.std.specs.Prelude.{ℕ, List, replicate, Some, None, Ok, Err, Option, Result}
use Rattle.facts.specs.System.{System}
use Rattle.facts.specs.declared.fact_types.Fact.{Fact}
use Rattle.rules.specs.Rules.{Rule}
use Rattle.stores.specs.Piles.{Pile}
use Rattle.machine.specs.Machine.{Frame, empty_state, post_answer, after_post, run}
use Rattle.machine.specs.declared.answer_types.End.{End}
use Rattle.machine.specs.declared.answer_types.PostFault.{PostFault}
use Rattle.engine.specs.Jobs.{frame_on, create_answer}
use Rattle.engine.specs.declared.fault_types.CreateFault.{CreateFault}

-- a post that is answered so, and then a run of 100,000 steps with a list of 512: why it ended, and how many steps it took
abbrev pub posted_end : Frame → List Fact → Result (Unit {0}) PostFault → Option (End × ℕ)
posted_end fr fs (Ok u) =
    let ran = run fr (replicate 512 0) 100000 (after_post fr fs empty_state (Ok u)) in Some (ran.end, ran.steps)
posted_end fr fs (Err e) = None

-- a job that is created where the answer to that is so, and the post
abbrev pub created_end : Frame → List Fact → Result (Unit {0}) CreateFault → Option (End × ℕ)
created_end fr fs (Ok u) = posted_end fr fs (post_answer fr fs empty_state)
created_end fr fs (Err e) = None

-- the end of the job, or none where the store has facts or the post is refused
abbrev pub job_end : System → List Rule → Pile → List Fact → Option (End × ℕ)
job_end system rules pile fs = created_end (frame_on system rules pile) fs (create_answer pile.pairs)
