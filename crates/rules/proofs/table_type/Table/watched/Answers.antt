use Rattle.std.proofs.Common.{false, rules}
use borrow.Author.Tests.{tests}
use Rattle.rules.specs.Rules.{any}
use Rattle.rules.specs.Tables.{finished}
use Rattle.rules.specs.Closed.{names}
use Rattle.rules.proofs.Arrays.{made_by}
use Rattle.rules.proofs.table_type.Table.watched.Goals as goal

pub returns : goal.returns
returns c = made_by false (λ k. any (names k) (finished c.args.self.now)) c.from_fn.ensures.items (λ i y q h k. search (rules, tests))
