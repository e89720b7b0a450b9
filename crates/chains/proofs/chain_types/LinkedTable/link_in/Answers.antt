use Rattle.std.proofs.Common.{subst, refl, get_or, set, Some, ◌∙◌}
use Rattle.chains.proofs.Pointing.{pointed_at, points_fits, points_here, linked_kept, leaves_kept, linked_in, leaves_in}
use Rattle.chains.specs.Rows.{rows_of, links_of, heads_of, chain_at}
use Rattle.chains.proofs.Tables.{Relink, rows_stay}
use Rattle.chains.specs.Links.{Place}
use Rattle.chains.specs.declared.chain_types.Way.{Way}
use Rattle.chains.proofs.chain_types.LinkedTable.link_in.Goals as goal

pub set_hint-requires-2 : goal.set_hint-requires-2
set_hint-requires-2 c =
    let t = c.args.self.now.table.now in
    points_here t c.set_hint.new.self.table.now c.place_by-spot.result.at _ (c.set_hint.ensures.rows ∙ c.point.ensures.rows ∙ rows_stay t c.args.i _ c.index-self-i.result refl) c.place_by-spot.ensures.next

pub returns : goal.returns
returns c =
    let t = c.args.self.now.table.now in
    let h = c.args.self.now.heads in
    let number = c.chain_at-chain.result.number in
    let spot = c.place_by-spot.result in
    let place = subst (λ (w : Way). Place (chain_at w) (rows_of t) (links_of w t) (heads_of w h) number c.args.pair.now.0 spot.before spot.at) c.chain_at-chain.ensures.way c.place_by-spot.ensures in
    let d = c.index-self-i.result in
    let point = pointed_at c.chain_at-chain.result.way c.args.way number spot.before c.args.i t c.point.new.self.table.now h c.point.new.self.heads _ c.chain_at-chain.ensures.way c.point.ensures in
    let k : Relink c.args.way spot.at (get_or t c.args.i d) _ = record { row = refl; links = rw (c.number.ensures, c.to.ensures) refl; fits = points_fits (rows_of t) spot.at _ c.requires.walkable.kept place.next } in
    let linked = linked_in c.args.way t c.point.new.self.table.now h c.point.new.self.heads c.args.i c.args.pair.now.0 number spot.before spot.at c.args.pair.now.1 c.requires.walkable c.requires.one c.chain_at-chain.ensures.number c.chain_at-chain.result.few c.requires.free c.requires.within c.requires.new place _ d k point in
    let leaves = leaves_in c.args.way t c.point.new.self.table.now h c.point.new.self.heads c.args.i c.args.pair.now.0 number spot.before spot.at c.args.pair.now.1 c.requires.walkable c.requires.one c.chain_at-chain.ensures.number c.chain_at-chain.result.few c.requires.free c.requires.within c.requires.new place _ d k point in
    let R = set (rows_of t) c.args.i (Some c.args.pair.now) in
    let u = c.set_hint.new.self in
    let v = c.set_hint-2.new.self in
    record {
      linked = linked_kept c.args.way R u.table.now v.table.now u.heads v.heads c.set_hint-2.ensures (linked_kept c.args.way R c.point.new.self.table.now u.table.now c.point.new.self.heads u.heads c.set_hint.ensures linked);
      leaves = leaves_kept c.args.way c.args.i t u.table.now v.table.now h u.heads v.heads c.set_hint-2.ensures (leaves_kept c.args.way c.args.i t c.point.new.self.table.now u.table.now h c.point.new.self.heads u.heads c.set_hint.ensures leaves);
    }
