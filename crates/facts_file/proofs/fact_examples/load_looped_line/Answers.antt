use Rattle.std.proofs.Common.{List, ℕ, Some, sym, ap, ◌∙◌}
use Rattle.facts.specs.Lengths.{lengths}
use Rattle.lists.specs.Held.{held}
use Rattle.facts.specs.declared.fact_types.Fact.{Fact}
use Rattle.facts_file.specs.Facts.{facts_file, over}
use Rattle.facts_file.specs.FactExamples.{looped_line}
use Rattle.facts_file.proofs.FactExamples.{files_of_facts}
use Rattle.facts_file.proofs.FactLoads.{accepted}
use Rattle.facts_file.proofs.fact_examples.load_looped_line.Goals as goal

pub returns : goal.returns
returns c =
    let read = c.load_facts.ensures.answer ∙ ap (λ (bs : List ℕ). facts_file lengths.valid (Some bs)) c.looped_line_file.ensures ∙ files_of_facts.looped in
    let is = accepted c.load_facts.result (held c.load_facts.new.facts) looped_line read in
    record { answer = is.0; facts = is.1; items = c.load_facts.ensures.items ∙ ap (λ (fs : List Fact). over fs c.args.facts.now.items) (sym c.load_facts.ensures.facts ∙ is.1); computed = files_of_facts }
