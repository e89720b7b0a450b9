use Rattle.machine.proofs.Upholds.{all_upheld}
use Rattle.machine.proofs.laws.all_is_upheld.Goals as goal

pub returns : goal.returns
returns c = all_upheld
