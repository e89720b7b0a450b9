use Rattle.std.proofs.Common.{refl}
use Rattle.rules.proofs.Tables.{added}
use Rattle.rules.proofs.table_type.Table.add.Goals as goal

pub returns : goal.returns
returns g c = added (g.P.Part.added g.W.Words.system.valid c.args.part) c.args.self.now _ c.write_at.result refl c.write_at.ensures
