use Rattle.machine.proofs.Vouches.{quiet_vouched}
use Rattle.machine.proofs.laws.quiet_is_vouched.Goals as goal

pub returns : goal.returns
returns c = quiet_vouched
