use Rattle.std.proofs.Common.{◌≡◌, length, refl, rules, arith}
use Rattle.chains.proofs.Tables.{few_ways}
use Rattle.chains.proofs.Pointing.{pointed_row, pointed_head}
use Rattle.chains.proofs.chain_types.LinkedTable.point.Goals as goal

pub returns-in-Some : goal.returns-in-Some
returns-in-Some c =
    rw c.in-Some.is (pointed_row c.args.chain.way c.args.chain.number c.in-Some.before c.args.i c.args.self.now.table.now c.args.self.now.heads _ c.index-self-before.result (record { row = refl; links = rw (c.number.ensures, c.to.ensures) refl; fits = c.requires.fits }))

pub returns-in-None : goal.returns-in-None
returns-in-None c =
    let h = c.args.self.now.heads in
    let n : length h.firsts ≡ 3 = search rules in
    let w = few_ways c.args.chain.way in
    rw c.in-None.is (pointed_head c.args.chain.way c.args.chain.number c.args.i c.args.self.now.table.now h _ c.requires.fits (omega arith) (rw (c.number-in-None.ensures, c.to-in-None.ensures) refl) refl refl)
