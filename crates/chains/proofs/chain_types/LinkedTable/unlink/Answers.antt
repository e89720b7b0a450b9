use Rattle.std.proofs.Common.{None, set, ◌-◌, ℕ, Option, sym, subst, ◌∙◌, arith}
use Rattle.std.proofs.lemmas.Bool.Decides.{nat_tests}
use Rattle.chains.specs.Rows.{rows_of, links_of, heads_of, chain_at}
use Rattle.chains.specs.Acts.{Pointed}
use Rattle.chains.proofs.Named.{used-within, used-sound}
use Rattle.chains.proofs.Tables.{link-at, rows-length}
use Rattle.chains.proofs.Pointing.{leads_here, linked_out, leaves_out, linked_kept, leaves_kept}
use Rattle.chains.specs.Links.{Place}
use Rattle.chains.specs.declared.chain_types.Way.{Way}
use Rattle.chains.proofs.chain_types.LinkedTable.unlink.Goals as goal

pub set_hint-requires : goal.set_hint-requires
set_hint-requires c =
    let t = c.args.self.now.table.now in
    let w = used-within (rows_of t) c.args.i c.args.pair.now.0 c.args.pair.now.1 c.requires.row in
    let n = rows-length t in
    let e = c.next-after.ensures ∙ sym (link-at c.args.way t c.args.i c.index-self-i.result (omega arith)) in
    let later = c.requires.walkable.linked.later c.args.i c.args.pair.now.0 c.args.pair.now.1 c.requires.row in
    leads_here t c.point.new.self.table.now c.next-after.result _ _ c.point.ensures.rows e later

pub returns : goal.returns
returns c =
    let t = c.args.self.now.table.now in
    let h = c.args.self.now.heads in
    let number = c.chain_at-chain.result.number in
    let spot = c.place_of-before.result in
    let place = subst (λ (w : Way). Place (chain_at w) (rows_of t) (links_of w t) (heads_of w h) number (c.args.pair.now.0 - 1) spot.before spot.at) c.chain_at-chain.ensures.way c.place_of-before.ensures in
    let s = used-sound (rows_of t) c.args.i c.args.pair.now.0 c.args.pair.now.1 c.requires.walkable.apart c.requires.walkable.kept c.requires.row in
    let w = used-within (rows_of t) c.args.i c.args.pair.now.0 c.args.pair.now.1 c.requires.row in
    let n = rows-length t in
    let d = c.index-self-i.result in
    let e = c.next-after.ensures ∙ sym (link-at c.args.way t c.args.i d (omega arith)) in
    let q0 = subst (λ (w : Way). Pointed w number spot.before c.next-after.result t c.point.new.self.table.now h c.point.new.self.heads) c.chain_at-chain.ensures.way c.point.ensures in
    let q = subst (λ (x : Option ℕ). Pointed c.args.way number spot.before x t c.point.new.self.table.now h c.point.new.self.heads) e q0 in
    let linked = linked_out c.args.way t c.point.new.self.table.now h c.point.new.self.heads c.args.i c.args.pair.now.0 number spot.before spot.at c.args.pair.now.1 c.requires.walkable (grind (arith, nat_tests)) c.chain_at-chain.ensures.number c.chain_at-chain.result.few c.requires.row place q in
    let leaves = leaves_out c.args.way t c.point.new.self.table.now h c.point.new.self.heads c.args.i c.args.pair.now.0 number spot.before spot.at c.args.pair.now.1 c.requires.walkable (grind (arith, nat_tests)) c.chain_at-chain.ensures.number c.chain_at-chain.result.few c.requires.row place q in
    let R = set (rows_of t) c.args.i None in
    let u = c.point.new.self in
    let v = c.set_hint.new.self in
    record {
      linked = linked_kept c.args.way R u.table.now v.table.now u.heads v.heads c.set_hint.ensures linked;
      leaves = leaves_kept c.args.way c.args.i t u.table.now v.table.now h u.heads v.heads c.set_hint.ensures leaves;
    }
