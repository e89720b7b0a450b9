use Rattle.std.proofs.Common.{◌≡◌, ◌+◌, ◌*◌, ◌≤◌, drop, flat_map}
use Rattle.engine.specs.Letters.{setting_in}
use Rattle.engine.specs.Taking.{given_over}
use Rattle.engine.proofs.Bodies.{with_values}
use Rattle.engine.proofs.body.give_all.Given as goal

abbrev pub invariant-loop-giveall : goal.invariant-loop-giveall
invariant-loop-giveall g l =
    let give = given_over g.W.Words.system (setting_in l.letters) (g.S.Store.meaning l.store).pairs l.taken in
    (l.body.count ≤ l.initial.body.count + 1024 * l.giveall-index) × (with_values l.initial.body (flat_map give l.givealls) ≡ with_values l.body (flat_map give (drop l.giveall-index l.givealls)))
