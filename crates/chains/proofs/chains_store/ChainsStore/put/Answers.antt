use Rattle.std.proofs.Common.{◌≡◌, Err, rules, length, List, ap, subst, arith}
use Rattle.std.proofs.lemmas.Bool.Decides.{nat_tests}
use Rattle.stores.specs.Piles.{after_take}
use Rattle.stores.specs.Table.{Row, pile_of, pairs_of}
use Rattle.stores.specs.declared.fault_types.StoreFault.TheVariants.{Full}
use Rattle.chains.specs.Rows.{rows_of}
use Rattle.chains.proofs.Tables.{rows-length}
use Rattle.chains.proofs.Changes.{some-room, no-room}
use Rattle.chains.proofs.Replacing.{was-replaced, not-replaced}
use Rattle.chains.proofs.Putting.{pair-fits, none-first, some-first, read-gone, held-answer, full-answer, full-after, put-answers, put-leaves}
use Rattle.chains.proofs.chains_store.ChainsStore.put.Goals as goal

pub returns-then-is_some : goal.returns-then-is_some
returns-then-is_some c =
    let R = rows_of c.args.self.now.linked.table.now in
    let p = pair-fits c.args.label c.args.fact c.check_pair.result c.in_ok-check_pair.field-0 c.check_pair.ensures c.in_ok-check_pair.was in
    let r = was-replaced c.replaced.result c.args.label c.args.fact R (rows_of c.replaced.new.self.linked.table.now) c.replaced.ensures (search rules) in
    record { answer = held-answer c.args.label c.args.fact (pile_of R) p.0 p.1 p.2 r.0; after = r.1 }

pub returns-in_err-i : goal.returns-in_err-i
returns-in_err-i c =
    let m = pile_of (rows_of c.args.self.now.linked.table.now) in
    let u = c.cleared.new.self in
    let p = pair-fits c.args.label c.args.fact c.check_pair.result c.in_ok-check_pair.field-0 c.check_pair.ensures c.in_ok-check_pair.was in
    let q = not-replaced c.replaced.result c.args.label c.args.fact (rows_of c.args.self.now.linked.table.now) (rows_of c.replaced.new.self.linked.table.now) c.replaced.ensures (search rules) in
    let e = subst (λ (r : List Row). pile_of (rows_of u.linked.table.now) ≡ after_take c.args.label (pile_of r)) q c.cleared.ensures in
    let f : c.from_residual-in_err-i.result ≡ Err Full = search rules in
    let n = rows-length u.linked.table.now in
    let k = u.chained.counted in
    let o = no-room u.linked.table.now u.linked.heads u.chained (none-first u.linked.heads.free c.ok_or.result Full c.in_err-i.field-0.0 c.ok_or.ensures.value c.in_err-i.was) in
    let s = u.chained.kept in
    let w : length (pairs_of (rows_of u.linked.table.now)) ≡ length (rows_of u.linked.table.now) = grind (arith, nat_tests) in
    rw f (record {
      answer = full-answer c.args.label c.args.fact m (pile_of (rows_of u.linked.table.now)) c.args.self.now.chained.kept e p.0 p.1 p.2 w;
      after = full-after c.args.label c.args.fact m (pile_of (rows_of u.linked.table.now)) c.args.self.now.chained.kept e p.0 p.1 p.2 w;
    })

pub add-requires-clause-new : goal.add-requires-clause-new
add-requires-clause-new c =
    let e = ap (λ m. m.pairs) c.cleared.ensures in
    rw e (read-gone c.args.label (pairs_of (rows_of c.replaced.new.self.linked.table.now)))

pub returns : goal.returns
returns c =
    let m = pile_of (rows_of c.args.self.now.linked.table.now) in
    let u = c.cleared.new.self in
    let p = pair-fits c.args.label c.args.fact c.check_pair.result c.in_ok-check_pair.field-0 c.check_pair.ensures c.in_ok-check_pair.was in
    let q = not-replaced c.replaced.result c.args.label c.args.fact (rows_of c.args.self.now.linked.table.now) (rows_of c.replaced.new.self.linked.table.now) c.replaced.ensures (search rules) in
    let e = subst (λ (r : List Row). pile_of (rows_of u.linked.table.now) ≡ after_take c.args.label (pile_of r)) q c.cleared.ensures in
    let n = rows-length u.linked.table.now in
    let k = u.chained.counted in
    let o = some-room u.linked.table.now u.linked.heads c.in_ok-i.i u.chained (some-first u.linked.heads.free c.ok_or.result Full c.in_ok-i.i c.ok_or.ensures.value c.in_ok-i.was) in
    record {
      answer = put-answers c.args.label c.args.fact m (pile_of (rows_of u.linked.table.now)) c.args.self.now.chained.kept e p.0 p.1 p.2 (omega arith);
      after = put-leaves c.args.label c.args.fact m (pile_of (rows_of u.linked.table.now)) c.args.self.now.chained.kept e p.0 p.1 p.2 (pile_of (rows_of c.add.new.self.table.now)) c.add.ensures.after;
    }
