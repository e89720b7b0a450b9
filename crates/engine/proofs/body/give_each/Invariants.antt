use Rattle.std.proofs.Common.{◌≡◌, ◌+◌, drop, map, []}
use Rattle.machine.specs.Fitting.{given}
use Rattle.engine.specs.Letters.{setting_in}
use Rattle.engine.proofs.Bodies.{with_values}
use Rattle.engine.proofs.body.give_each.Given as goal

abbrev pub invariant-loop-template : goal.invariant-loop-template
invariant-loop-template g l =
    let value = given g.W.Words.system (setting_in l.letters) [] in
    (l.body.count ≡ l.initial.body.count + l.template-index) × (with_values l.initial.body (map value l.templates) ≡ with_values l.body (map value (drop l.template-index l.templates)))
