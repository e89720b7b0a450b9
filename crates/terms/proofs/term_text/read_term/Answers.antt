use Rattle.terms.proofs.Terms.{term_read_so}
use Rattle.terms.proofs.term_text.read_term.Goals as goal

pub returns : goal.returns
returns c =
    record {
      reads = c.term-written.ensures;
      grammar = term_read_so c.args.text.now _ c.term-written.ensures;
    }
