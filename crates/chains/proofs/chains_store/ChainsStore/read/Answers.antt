use Rattle.std.proofs.Common.{ℕ, Option, is_some, sym, ap, subst, ◌∙◌}
use Rattle.facts.specs.declared.fact_types.Fact.{Fact}
use Rattle.chains.specs.Rows.{rows_of}
use Rattle.chains.specs.Acts.{Finds}
use Rattle.chains.proofs.Answered.{having-some}
use Rattle.chains.proofs.Named.{used-read}
use Rattle.chains.proofs.chains_store.ChainsStore.read.Goals as goal

pub returns-in-Some : goal.returns-in-Some
returns-in-Some c =
    let rows = rows_of c.args.self.now.linked.table.now in
    let was = sym c.found.ensures ∙ c.in-Some.is in
    sym (used-read rows c.in-Some.field-0-0 c.args.label c.in-Some.fact c.args.self.now.chained.apart (subst (λ (o : Option (ℕ × Fact)). Finds c.args.label rows o) was (having-some c.args.label rows c.last-last.result (ap is_some was))))

pub returns : goal.returns
returns c = sym (used-read (rows_of c.args.self.now.linked.table.now) c.in_ok-fact.field-0-0 c.args.label c.in_ok-fact.fact c.args.self.now.chained.apart c.in_ok-fact.ensures)
