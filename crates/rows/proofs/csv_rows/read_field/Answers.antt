use Rattle.rows.proofs.Rows.{field_read_so}
use Rattle.rows.proofs.csv_rows.read_field.Goals as goal

pub returns : goal.returns
returns c =
    record {
      reads = c.field-and-rest.ensures;
      grammar = field_read_so c.args.place c.args.bytes.now _ c.field-and-rest.ensures;
    }
