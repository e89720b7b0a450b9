use Rattle.machine.proofs.Walks.{walks_are_bounded}
use Rattle.machine.proofs.laws.walks_are_bounded.Goals as goal

pub returns : goal.returns
returns c = walks_are_bounded
