use Rattle.std.proofs.Common.{sym}
use Rattle.stores.specs.Table.{pile_of}
use Rattle.chains.specs.Rows.{rows_of}
use Rattle.chains.proofs.Named.{used-read}
use Rattle.chains.proofs.Putting.{take-missing}
use Rattle.chains.proofs.chains_store.ChainsStore.take.Goals as goal

pub returns-in_err-i-clause-after : goal.returns-in_err-i-clause-after
returns-in_err-i-clause-after c = take-missing c.args.label (pile_of (rows_of c.args.self.now.linked.table.now)) c.in_err-i.ensures

pub returns-clause-answer : goal.returns-clause-answer
returns-clause-answer c = sym (used-read (rows_of c.args.self.now.linked.table.now) c.in_ok-i.i c.args.label c.in_ok-i.fact c.args.self.now.chained.apart c.in_ok-i.ensures)
