use Rattle.std.proofs.Common.{◌≡◌, drop}
use Rattle.stores.specs.Piles.{with_pairs}
use Rattle.stores.specs.Store.{without}
use Rattle.engine.proofs.removing.remove_all.Given as goal

abbrev pub invariant-loop-label : goal.invariant-loop-label
invariant-loop-label g l =
    let was = g.S.Store.meaning l.initial.store in
    let now = g.S.Store.meaning l.store in
    with_pairs was (without l.labels was.pairs) ≡ with_pairs now (without (drop l.label-index l.labels) now.pairs)
