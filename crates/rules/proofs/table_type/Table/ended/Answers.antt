use Rattle.std.proofs.Common.{arith}
use Rattle.rules.proofs.Tables.{finished-more}
use Rattle.rules.proofs.table_type.Table.ended.Goals as goal

pub returns-clause-rules : goal.returns-clause-rules
returns-clause-rules c = finished-more c.args.self.rules.items c.args.self.rules.count (omega (arith, c.args.self.rules.long))
