use Rattle.std.proofs.Common.{◌++◌, ◌∙◌, map, sym, ap}
use Rattle.std.proofs.lemmas.Slice.Zip.{Zip-more, either_empty_from_Zip}
use Rattle.lists.specs.Held.{held}
use Rattle.rules.specs.Rules.{rule_seen, all_seen}
use Rattle.stores.specs.Piles.{with_pairs}
use Rattle.stores.specs.Store.{without}
use Rattle.machine.specs.Machine.{gone_alls}
use Rattle.engine.proofs.ApplyGone.{two-rows, no-row, drops_of}
use Rattle.engine.proofs.Takings.{gone-cons, gone-none}
use Rattle.engine.proofs.found.Found.remove_gone.Goals as goal

pub loop-all-preserved-then-all : goal.loop-all-preserved-then-all
loop-all-preserved-then-all g c =
    let s = c.loop-all.all-iterator in
    let t = c.next.new.self in
    let now = g.S.Store.meaning c.loop-all.store in
    let z = Zip-more s t c.next.result (c.in-Some.all, c.in-Some.labels) c.in-Some.is c.next.ensures.steps in
    let left = gone_alls (map all_seen t.a.rest.now) (map held t.b.rest.now) in
    c.loop-all.invariant
    ∙ (ap (λ xs. with_pairs now (without xs now.pairs)) (gone-cons s.a.rest.now t.a.rest.now s.b.rest.now t.b.rest.now c.in-Some.all.now c.in-Some.labels.now z.0 z.1 c.if-all.true)
    ∙ two-rows now (g.S.Store.meaning c.remove_all-then-all.new.store) (held c.in-Some.labels.now) left
    (c.remove_all-then-all.ensures ∙ ap (λ xs. with_pairs now (without xs now.pairs)) c.as_slice.ensures.items))

pub returns : goal.returns
returns g c =
    let r = c.args.self.rule.now in
    let ls = held c.args.self.choice.now.labels in
    let s = c.loop-all.all-iterator in
    let was = g.S.Store.meaning c.args.store.now in
    let now = g.S.Store.meaning c.loop-all.store in
    let z = either_empty_from_Zip s c.next.new.self c.next.result c.in-None.is c.next.ensures.steps in
    let left = gone_alls (rule_seen r).alls (map held c.args.taken.now) in
    no-row now (gone_alls (map all_seen s.a.rest.now) (map held s.b.rest.now)) (gone-none s.a.rest.now s.b.rest.now z)
    ∙ (sym c.loop-all.invariant
    ∙ (sym (two-rows was (g.S.Store.meaning c.remove_all.new.store) c.dropped.result.now left c.remove_all.ensures)
    ∙ ap (λ xs. with_pairs was (without (xs ++ left) was.pairs)) (c.dropped.ensures.labels ∙ drops_of r ls)))
