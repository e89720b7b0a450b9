use Rattle.std.proofs.Common.{refl}
use Rattle.rules.specs.Closed.{every_word}
use Rattle.rules.proofs.Stands.{head-accepted}
use Rattle.rules.proofs.set_types.RuleHead.add.Goals as goal

pub invariant_of-self-clause-parts : goal.invariant_of-self-clause-parts
invariant_of-self-clause-parts g c = head-accepted _ every_word (λ z h. refl) _ _ c.args.part c.add.ensures.written c.args.self.now.parts

pub returns-clause-stands : goal.returns-clause-stands
returns-clause-stands g c = head-accepted _ _ (λ z h. h) _ _ c.args.part c.add.ensures.written
