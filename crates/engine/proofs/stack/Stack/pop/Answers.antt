use Rattle.std.proofs.Common.{reverse, ◌∙◌, ap}
use Rattle.lists.specs.Held.{held}
use Rattle.engine.specs.Goals.{below}
use Rattle.engine.proofs.Stacks.{below-last}
use Rattle.engine.proofs.stack.Stack.pop.Goals as goal

pub returns-clause-rest : goal.returns-clause-rest
returns-clause-rest c = ap reverse c.pop-goal.ensures.rest ∙ (below-last (held c.self.inside.goals) ∙ ap below c.self.view_is)
