use Rattle.terms.proofs.Terms.{operand_read_so}
use Rattle.terms.proofs.term_text.read_operand.Goals as goal

pub returns : goal.returns
returns c =
    record {
      reads = c.operand-written.ensures;
      grammar = operand_read_so c.args.text.now _ c.operand-written.ensures;
    }
