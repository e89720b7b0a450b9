use Rattle.std.proofs.Common.{◌≤◌, length, Err, sym, ap, ◌∙◌, arith}
use Rattle.std.proofs.lemmas.Result.{err_from_is_err_and}
use Rattle.std.proofs.lemmas.Bool.Decides.{nat_tests}
use Rattle.rules_file.specs.RuleRefusals.{row_refusal}
use Rattle.reader.specs.RuleScan.{stage_seen}
use Rattle.rules_file.specs.declared.fault_types.RowFault.{RowFault}
use Rattle.reader.proofs.RuleLoads.{row-refused, word-refused, word-written, row-less, rules-end}
use Rattle.reader.proofs.rule_rows.load_rows.Given as given
use Rattle.reader.proofs.rule_rows.load_rows.Goals as goal

pub returns-in_err-cells-clause-rules : goal.returns-in_err-cells-clause-rules
returns-in_err-cells-clause-rules g c =
    let p = err_from_is_err_and c.from_residual.result c.from_residual.ensures.1 in
    let some : 1 ≤ length c.loop-rest.rest.now = let e = c.loop-rest-test.ensures in grind (arith, nat_tests) in
    let six = c.in_err-cells.ensures in
    rw (p.1, p.2) (ap (λ (x : RowFault). Err (row_refusal x)) six.0 ∙ row-refused g.W.Words.system.valid c.args.bytes.now (stage_seen c.loop-rest.stage) c.loop-rest.row c.loop-rest.rest.now c.loop-rest.invariant.0 some six.1)

pub returns-in_err-write_row-clause-rules : goal.returns-in_err-write_row-clause-rules
returns-in_err-write_row-clause-rules g c =
    let p = err_from_is_err_and c.from_residual-in_err-write_row.result c.from_residual-in_err-write_row.ensures.1 in
    let some : 1 ≤ length c.loop-rest.rest.now = let e = c.loop-rest-test.ensures in grind (arith, nat_tests) in
    rw (p.1, p.2) (word-refused g.W.Words.system.valid c.args.bytes.now (stage_seen c.loop-rest.stage) c.loop-rest.row c.loop-rest.rest.now c.loop-rest.invariant.0 some c.in_ok-cells.cells c.in_ok-cells.more.now c.in_ok-cells.ensures (row_refusal c.in_err-write_row.field-0.0) c.in_err-write_row.ensures.step)

some_left : (g : given.Over) (c : goal.In_ok-write_row g) → 1 ≤ length c.loop-rest.rest.now
some_left g c = let e = c.loop-rest-test.ensures in grind (arith, nat_tests)

pub loop-rest-smaller : goal.loop-rest-smaller
loop-rest-smaller g c = row-less g.W.Words.system.valid c.args.bytes.now (stage_seen c.loop-rest.stage) c.loop-rest.row c.loop-rest.rest.now c.loop-rest.invariant.0 (some_left g c) c.in_ok-cells.cells c.in_ok-cells.more.now c.in_ok-cells.ensures

pub loop-rest-preserved : goal.loop-rest-preserved
loop-rest-preserved g c =
    (word-written g.W.Words.system.valid c.args.bytes.now (stage_seen c.loop-rest.stage) c.loop-rest.row c.loop-rest.rest.now c.loop-rest.invariant.0 (some_left g c) c.in_ok-cells.cells c.in_ok-cells.more.now c.in_ok-cells.ensures (stage_seen c.write_row.new.self) c.in_ok-write_row.ensures.step, c.in_ok-write_row.ensures.begun)

pub returns-clause-rules : goal.returns-clause-rules
returns-clause-rules g c =
    let none : length c.loop-rest.rest.now ≤ 0 = let e = c.loop-rest-test.ensures in grind (arith, nat_tests) in
    c.may_end.ensures ∙ sym (rules-end g.W.Words.system.valid c.args.bytes.now (stage_seen c.loop-rest.stage) c.loop-rest.row c.loop-rest.rest.now c.loop-rest.invariant.0 none)
