use Rattle.std.proofs.Common.{◌<◌, length, take, ◌∙◌, arith, length-set}
use Rattle.rows.specs.Fields.{field_seen}
use Rattle.reader.proofs.RuleCells.{contents, texts-broken, texts-more, texts-all, contents_more}
use Rattle.reader.proofs.row_types.RuleRow.read.Goals as goal

pub returns-in_err-field : goal.returns-in_err-field
returns-in_err-field c =
    rw c.from_residual.ensures
    (record {
      cells = texts-broken _ (contents (take c.loop-i.i c.loop-i.text-items)) c.loop-i.i (omega arith) c.loop-i.rest.now c.loop-i.invariant.1 _ c.in_err-field.ensures.reads;
      row = tt;
    })

pub loop-i-preserved : goal.loop-i-preserved
loop-i-preserved c =
    let here : c.loop-i.i < length c.loop-i.text-items = omega (arith, c.loop-i.invariant.0) in (
      length-set c.loop-i.text-items c.loop-i.i c.text.result ∙ c.loop-i.invariant.0,
      rw (contents_more c.loop-i.text-items c.loop-i.i c.text.result here)
          (texts-more _ (contents (take c.loop-i.i c.loop-i.text-items)) c.loop-i.i (omega arith) c.loop-i.rest.now c.loop-i.invariant.1 _ (field_seen c.in_ok-field.field) c.in_ok-field.more.now c.text.result.now c.in_ok-field.ensures.reads c.text.ensures),
    )

pub returns-clause-cells : goal.returns-clause-cells
returns-clause-cells c = texts-all _ c.loop-i.text-items c.loop-i.i c.loop-i.rest.now c.loop-i.invariant.0 (omega arith) (omega arith) c.loop-i.invariant.1
