use Rattle.machine.proofs.Transitions.{steps_are_transitions}
use Rattle.machine.proofs.laws.steps_are_transitions.Goals as goal

pub returns : goal.returns
returns c = steps_are_transitions
