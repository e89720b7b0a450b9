use Rattle.std.proofs.Common.{◌≡◌, ◌++◌, length, take, flat_map}
use Rattle.lists.specs.Held.{held}
use Rattle.machine.specs.Machine.{listed}
use Rattle.engine.proofs.found.Found.list_labels.Given as goal

abbrev pub invariant-loop-labels : goal.invariant-loop-labels
invariant-loop-labels l =
    let written = held l.self.choice.now.labels ++ flat_map held (take l.labels-index l.taken) in
    record { end : l.end ≡ length written; list : l.list ≡ listed written l.fn.list }
