use Rattle.std.proofs.Common.{rules}
use Rattle.facts.specs.System.{Lawful}
use Rattle.facts.proofs.words_trait.laws_hold.Given as given
use Rattle.facts.proofs.words_trait.laws_hold.Goals as goal

lawful : (g : given.Over) → Lawful g.W.Words.system
lawful g = record { closed = g.met.W.Words.closed; valueless = g.met.W.Words.valueless; unrelated = g.met.W.Words.unrelated }

pub returns-then-both_valid : goal.returns-then-both_valid
returns-then-both_valid g c = record { tried = let h = g.met.W.Words.closed c.args.operator c.args.left c.args.right c.in-Some.value in search rules; lawful = lawful g }
