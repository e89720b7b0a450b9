use Rattle.std.proofs.Common.{length}
use Rattle.std.specs.Option.{option_map}
use Rattle.lists.specs.Held.{held}
use Rattle.facts_file.proofs.FactLoads.{Loading}
use Rattle.facts_file.proofs.fact_rows.load_facts.Given as goal

abbrev pub invariant-loop-rest : goal.invariant-loop-rest
invariant-loop-rest g l = Loading g.W.Words.system.valid (option_map (λ x. x.now) l.file) (held l.facts) l.facts.items l.fn.facts.items l.rest

abbrev pub decreases-loop-rest : goal.decreases-loop-rest
decreases-loop-rest g l = length l.rest
