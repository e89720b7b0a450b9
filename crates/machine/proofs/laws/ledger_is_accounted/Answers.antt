use Rattle.machine.proofs.Accounts.{ledger_accounted}
use Rattle.machine.proofs.laws.ledger_is_accounted.Goals as goal

pub returns : goal.returns
returns c = ledger_accounted
