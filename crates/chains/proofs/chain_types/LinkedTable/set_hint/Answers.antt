use Rattle.std.proofs.Common.{refl}
use Rattle.chains.proofs.Tables.{rows_stay, links_stay}
use Rattle.chains.proofs.chain_types.LinkedTable.set_hint.Goals as goal

pub returns-in-Some : goal.returns-in-Some
returns-in-Some c =
    let t = c.args.self.now.table.now in
    let i = c.in-Some.after in
    let d = c.index-self-after.result in
    record { rows = rows_stay t i _ d refl; links = λ w. links_stay w t i _ d refl; heads = λ w. refl; free = refl; count = refl }
