use Rattle.std.proofs.Common.{ℕ, Option, subst}
use Rattle.facts.specs.declared.fact_types.Fact.{Fact}
use Rattle.stores.specs.Table.{pile_of}
use Rattle.chains.specs.Rows.{rows_of}
use Rattle.chains.specs.Acts.{Finds}
use Rattle.chains.proofs.Putting.{take-missing}
use Rattle.chains.proofs.chains_type.Chains.cleared.Goals as goal

pub returns-in_default : goal.returns-in_default
returns-in_default c =
    take-missing c.args.label (pile_of (rows_of c.args.self.now.linked.table.now)) (subst (λ (o : Option (ℕ × Fact)). Finds c.args.label (rows_of c.args.self.now.linked.table.now) o) c.in_default.is c.requires)
