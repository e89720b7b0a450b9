use Rattle.std.proofs.Common.{refl}
use Rattle.rules.specs.Closed.{every_word}
use Rattle.rules.proofs.Stands.{body-accepted}
use Rattle.rules.proofs.set_types.RuleBody.add.Goals as goal

pub invariant_of-self-clause-parts : goal.invariant_of-self-clause-parts
invariant_of-self-clause-parts g c = body-accepted _ every_word (λ z h. refl) _ _ c.args.part c.add.ensures.written c.args.self.now.parts

pub returns-clause-stands : goal.returns-clause-stands
returns-clause-stands g c = body-accepted _ _ (λ z h. h) _ _ c.args.part c.add.ensures.written
