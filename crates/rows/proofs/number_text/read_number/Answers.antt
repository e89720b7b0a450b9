use Rattle.std.proofs.Common.{arith, rules}
use Rattle.std.proofs.lemmas.Grind.{common_steps}
use Rattle.rows.proofs.Numbers.{number_read_so}
use Rattle.rows.proofs.number_text.read_number.Goals as goal

pub returns-in_ok-plain_number-in-45-clause-grammar :
    goal.returns-in_ok-plain_number-in-45-clause-grammar
returns-in_ok-plain_number-in-45-clause-grammar c = number_read_so c.args.text.now _ (grind (arith, common_steps))

pub returns-in_default-clause-grammar : goal.returns-in_default-clause-grammar
returns-in_default-clause-grammar c = number_read_so c.args.text.now _ (search rules)
