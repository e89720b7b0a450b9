use Rattle.terms.proofs.Terms.{argument_read_so}
use Rattle.terms.proofs.term_text.read_argument.Goals as goal

pub returns : goal.returns
returns c =
    record {
      reads = c.argument-written.ensures;
      grammar = argument_read_so c.args.text.now _ c.argument-written.ensures;
    }
