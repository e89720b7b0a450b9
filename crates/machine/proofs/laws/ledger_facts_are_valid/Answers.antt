use Rattle.machine.proofs.Valids.{ledger-facts-valid}
use Rattle.machine.proofs.laws.ledger_facts_are_valid.Goals as goal

pub returns : goal.returns
returns c = ledger-facts-valid
