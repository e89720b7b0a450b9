use Rattle.lists.specs.Held.{held}
use Rattle.engine.specs.Goals.{fits_store}
use Rattle.engine.proofs.Stacks.{all-reverse}
use Rattle.engine.proofs.stack.Stack.len.Goals as goal

pub returns-clause-sound : goal.returns-clause-sound
returns-clause-sound c = rw (← c.self.view_is) (all-reverse fits_store (held c.self.inside.goals) c.self.invariant)
