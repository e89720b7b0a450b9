use Rattle.reader.proofs.RuleLoads.{six-none, six-made}
use Rattle.reader.proofs.rule_rows.next_row.Goals as goal

pub returns-in_err-cells : goal.returns-in_err-cells
returns-in_err-cells c = absurd (six-none c.args.row c.args.bytes.now c.in_ok-rest.rest.now (rw c.in_ok-rest.ensures.ok_part at c.row_of_width.ensures) (rw c.in_err-cells.ensures.ok_part at c.read.ensures.cells))

pub returns : goal.returns
returns c = six-made c.args.row c.args.bytes.now c.in_ok-rest.rest.now (rw c.in_ok-rest.ensures.ok_part at c.row_of_width.ensures) c.in_ok-cells.cells (rw c.in_ok-cells.ensures.ok_part at c.read.ensures.cells) (rw c.in_ok-cells.ensures.ok_part at c.read.ensures.row)
