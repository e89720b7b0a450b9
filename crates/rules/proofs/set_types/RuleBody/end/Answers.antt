use Rattle.std.proofs.Common.{rules}
use Rattle.rules.proofs.Stands.{stands-end}
use Rattle.rules.proofs.set_types.RuleBody.end.Goals as goal

pub invariant_of-result : goal.invariant_of-result
invariant_of-result g c = search (rules, stands-end)

pub returns : goal.returns
returns g c = search (rules, stands-end)
