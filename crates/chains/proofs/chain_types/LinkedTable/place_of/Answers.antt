use Rattle.std.proofs.Common.{ℕ, Option, sym, subst, arith, ◌-◌, Some}
use Rattle.std.proofs.lemmas.Bool.Decides.{nat_tests}
use Rattle.chains.specs.Links.{Place}
use Rattle.chains.specs.Rows.{rows_of, links_of, heads_of, chain_at}
use Rattle.chains.specs.Acts.{LedFrom}
use Rattle.chains.proofs.Named.{used-sound}
use Rattle.chains.proofs.Walks.{led}
use Rattle.chains.proofs.chain_types.LinkedTable.place_of.Goals as goal

pub overflow_sub-pair : goal.overflow_sub-pair
overflow_sub-pair c =
    let s = used-sound (rows_of c.args.self.now.table.now) c.args.i c.args.pair.now.0 c.args.pair.now.1 c.requires.walkable.apart c.requires.walkable.kept c.requires.row in
    grind (arith, nat_tests)

pub returns-in-Some : goal.returns-in-Some
returns-in-Some c =
    let w = c.args.chain.way in
    let t = c.args.self.now.table.now in
    let h = c.args.self.now.heads in
    let l = c.args.pair.now.0 in
    let e = subst (λ (o : Option ℕ). LedFrom c.args.i (rows_of t) (links_of w t) o) c.in-Some.is c.led_from.ensures in
    let place = led w t h c.args.i l c.in-Some.before c.args.pair.now.1 e.0 c.requires.walkable c.requires.row e.1 e.2 in
    subst (λ (x : ℕ). Place (chain_at w) (rows_of t) (links_of w t) (heads_of w h) x (l - 1) (Some c.in-Some.before) (Some c.args.i)) (sym c.requires.chain) place
