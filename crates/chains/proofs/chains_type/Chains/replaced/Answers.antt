use Rattle.std.proofs.Common.{ℕ, Option, sym, refl, subst, ◌∙◌}
use Rattle.facts.specs.declared.fact_types.Fact.{Fact}
use Rattle.chains.specs.Rows.{rows_of}
use Rattle.chains.specs.Acts.{Finds}
use Rattle.chains.proofs.Replacing.{replaced_chained, replaced_rows}
use Rattle.chains.proofs.chains_type.Chains.replaced.Goals as goal

pub invariant_of-self-2 : goal.invariant_of-self-2
invariant_of-self-2 c =
    record { chained = replaced_chained c.args.self.now.linked.table.now c.args.self.now.linked.heads c.in_ok-i.i c.args.label c.args.fact c.in_ok-i.held c.args.self.now.chained (subst (λ (o : Option (ℕ × Fact)). Finds c.args.label (rows_of c.args.self.now.linked.table.now) o) c.in_ok-i.was c.requires.held) c.requires.pair (sym c.same_chains.ensures ∙ c.if-not-same_chains.false) _ c.index-self-i.result refl refl }

pub returns : goal.returns
returns c =
    replaced_rows c.args.self.now.linked.table.now c.args.self.now.linked.heads c.in_ok-i.i c.args.label c.args.fact c.in_ok-i.held c.args.self.now.chained (subst (λ (o : Option (ℕ × Fact)). Finds c.args.label (rows_of c.args.self.now.linked.table.now) o) c.in_ok-i.was c.requires.held) c.requires.pair (sym c.same_chains.ensures ∙ c.if-not-same_chains.false) _ c.index-self-i.result refl refl
