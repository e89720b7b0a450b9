use Rattle.terms.proofs.Terms.{leads}
use Rattle.terms.proofs.term_text.leading_length.Goals as goal

pub returns-in-len1-up : goal.returns-in-len1-up
returns-in-len1-up c = leads c.args.text.now c.before_operator.result c.in-len1-up.len_at_least c.before_operator.ensures.counted
