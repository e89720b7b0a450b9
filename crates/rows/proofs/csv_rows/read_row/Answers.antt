use Rattle.std.proofs.Common.{arith}
use Rattle.rows.specs.Csv.{counted, read_row}
use Rattle.rows.specs.Fields.{part_seen}
use Rattle.rows.proofs.Rows.{count-more, count-row, count-file, count-neither, count-broken, field_shorter, row_read_so}
use Rattle.rows.proofs.csv_rows.read_row.Goals as goal

pub returns-in_err-after : goal.returns-in_err-after
returns-in_err-after c =
    let e = count-broken (counted (read_row c.args.bytes.now)) c.loop-after.fields c.loop-after.rest.now c.in_err-after.ensures c.loop-after.invariant.1 in
    rw c.from_residual.ensures (record { reads = e; grammar = row_read_so c.args.bytes.now _ e })

pub loop-after-smaller : goal.loop-after-smaller
loop-after-smaller c =
    field_shorter c.loop-after.rest.now (part_seen c.in_ok-after.field-0-0) c.in_ok-after.after.now c.in-Field.more.now c.in_ok-after.ensures (rw c.in-Field.is at c.in_ok-more.ensures)

pub loop-after-preserved : goal.loop-after-preserved
loop-after-preserved c =
    let f = part_seen c.in_ok-after.field-0-0 in
    let t = c.in_ok-after.after.now in
    let h = c.in_ok-after.ensures in
    let shorter = field_shorter c.loop-after.rest.now f t c.in-Field.more.now h (rw c.in-Field.is at c.in_ok-more.ensures) in
    (omega arith, count-more (counted (read_row c.args.bytes.now)) c.loop-after.fields c.loop-after.rest.now f t h c.loop-after.invariant.1 c.in-Field.more.now (rw c.in-Field.is at c.in_ok-more.ensures))

pub returns-in-Row : goal.returns-in-Row
returns-in-Row c =
    let e = count-row (counted (read_row c.args.bytes.now)) c.loop-after.fields c.loop-after.rest.now (part_seen c.in_ok-after.field-0-0) c.in_ok-after.after.now c.in_ok-after.ensures c.loop-after.invariant.1 c.in-Row.more.now (rw c.in-Row.is at c.in_ok-more.ensures) in
    record { reads = e; grammar = row_read_so c.args.bytes.now _ e }

pub returns-in-FileEnd : goal.returns-in-FileEnd
returns-in-FileEnd c =
    let e = count-file (counted (read_row c.args.bytes.now)) c.loop-after.fields c.loop-after.rest.now (part_seen c.in_ok-after.field-0-0) c.in_ok-after.after.now c.in_ok-after.ensures c.loop-after.invariant.1 (rw c.in-FileEnd.is at c.in_ok-more.ensures) in
    record { reads = e; grammar = row_read_so c.args.bytes.now _ e }

pub returns-in_err-more : goal.returns-in_err-more
returns-in_err-more c =
    let e = count-neither (counted (read_row c.args.bytes.now)) c.loop-after.fields c.loop-after.rest.now (part_seen c.in_ok-after.field-0-0) c.in_ok-after.after.now c.in_ok-after.ensures c.loop-after.invariant.1 c.in_err-more.ensures in
    rw c.from_residual-in_err-more.ensures (record { reads = e; grammar = row_read_so c.args.bytes.now _ e })
