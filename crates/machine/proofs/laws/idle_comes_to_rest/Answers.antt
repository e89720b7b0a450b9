use Rattle.machine.proofs.Rests.{idle-rests}
use Rattle.machine.proofs.laws.idle_comes_to_rest.Goals as goal

pub returns : goal.returns
returns c = idle-rests
