-- The number of each fault of a post and of a step, and the fact that a post's fault names.
use Rattle.std.specs.Prelude.{ℕ}
use Rattle.machine.specs.declared.answer_types.PostFault.{PostFault}
use Rattle.machine.specs.declared.answer_types.PostFault.TheVariants as post
use Rattle.machine.specs.declared.answer_types.Shortage.{Shortage}
use Rattle.machine.specs.declared.answer_types.Shortage.TheVariants.{Goals, Facts, Labels}
use Rattle.machine.specs.declared.answer_types.StepFault.{StepFault}
use Rattle.machine.specs.declared.answer_types.StepFault.TheVariants as step

abbrev pub post_fault_number : PostFault → ℕ
post_fault_number (post.Kind n) = 1
post_fault_number (post.Word n) = 2
post_fault_number post.Goals = 11
post_fault_number post.Facts = 10
post_fault_number post.Labels = 12

-- the fact that a fault names, from 1, or 0
abbrev pub named_fact : PostFault → ℕ
named_fact (post.Kind n) = n
named_fact (post.Word n) = n
named_fact post.Goals = 0
named_fact post.Facts = 0
named_fact post.Labels = 0

abbrev pub step_fault_number : StepFault → ℕ
step_fault_number step.List = 14
step_fault_number step.Body = 13
step_fault_number step.Goals = 11
step_fault_number step.Facts = 10
step_fault_number step.Labels = 12

-- a shortage as a fault of a post, and as a fault of a step
abbrev pub short_post : Shortage → PostFault
short_post Goals = post.Goals
short_post Facts = post.Facts
short_post Labels = post.Labels

abbrev pub short_step : Shortage → StepFault
short_step Goals = step.Goals
short_step Facts = step.Facts
short_step Labels = step.Labels
