use Rattle.machine.proofs.Transitions.{transitions_are_steps}
use Rattle.machine.proofs.laws.transitions_are_steps.Goals as goal

pub returns : goal.returns
returns c = transitions_are_steps
