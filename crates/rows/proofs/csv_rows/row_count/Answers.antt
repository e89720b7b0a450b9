use Rattle.std.proofs.lemmas.Result.{err_from_is_err_and}
use Rattle.std.proofs.Common.{◌≡◌, ◌+◌, ◌≤◌, length, arith}
use Rattle.std.proofs.lemmas.Bool.Decides.{nat_tests}
use Rattle.rows.specs.Csv.{rows, row_count}
use Rattle.rows.proofs.Rows.{row_shorter, rows_more, rows_fault, rows_all, file_read_so}
use Rattle.rows.proofs.Outcomes.{same_err}
use Rattle.rows.proofs.csv_rows.row_count.Goals as goal

pub loop-rest-preserved : goal.loop-rest-preserved
loop-rest-preserved c =
    let some : 1 ≤ length c.loop-rest.rest.now = let e = c.loop-rest-test.ensures in grind (arith, nat_tests) in
    let rest = c.loop-rest.rest.now in
    let more = c.in_ok-more.more.now in
    let shorter = row_shorter rest c.in_ok-more.field-0-0 more some (rw c.in_ok-more.ensures.ok_part at c.read_row.ensures.reads) in
    (omega arith, rows_more (row_count (rows c.args.bytes.now)) c.loop-rest.rows rest some c.loop-rest.invariant.1 c.in_ok-more.field-0-0 more (rw c.in_ok-more.ensures.ok_part at c.read_row.ensures.reads))

pub returns-in_err-more : goal.returns-in_err-more
returns-in_err-more c =
    let p = err_from_is_err_and c.from_residual.result c.from_residual.ensures.1 in
    let some : 1 ≤ length c.loop-rest.rest.now = let e = c.loop-rest-test.ensures in grind (arith, nat_tests) in
    let named : c.in_err-more.field-0.0 ≡ c.loop-rest.rows + 1 = same_err _ _ (rw c.in_err-more.ensures.ok_part at c.in_err-more.ensures.value) in
    let e = rows_fault (row_count (rows c.args.bytes.now)) c.loop-rest.rows c.loop-rest.rest.now some c.loop-rest.invariant.1 (rw c.in_err-more.ensures.ok_part at c.read_row.ensures.reads) in
    rw (p.1, p.2, named) (record { reads = e; grammar = file_read_so c.args.bytes.now _ e })

pub returns : goal.returns
returns c =
    let none : length c.loop-rest.rest.now ≤ 0 = let e = c.loop-rest-test.ensures in grind (arith, nat_tests) in
    let e = rows_all (row_count (rows c.args.bytes.now)) c.loop-rest.rows c.loop-rest.rest.now none c.loop-rest.invariant.1 in
    record { reads = e; grammar = file_read_so c.args.bytes.now _ e }
