use Rattle.machine.proofs.Walks.{runs_are_walks}
use Rattle.machine.proofs.laws.runs_are_walks.Goals as goal

pub returns : goal.returns
returns c = runs_are_walks
