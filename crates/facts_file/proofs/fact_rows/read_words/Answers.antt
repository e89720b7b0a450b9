use Rattle.std.proofs.Common.{◌≡◌, ◌<◌, length, take, ℤ, Ok, ap, ◌∙◌, arith, length-set, w64, to_z, of_z, rules}
use Rattle.std.proofs.lemmas.List.{take_more_set}
use Rattle.std.proofs.lemmas.Result.{err_from_is_err_and}
use Rattle.rows.specs.Fields.{field_seen}
use Rattle.facts_file.proofs.FactRows.{words-broken, words-refused, words_more, words-all}
use Rattle.rows.proofs.Outcomes.{or_err}
use Rattle.facts_file.proofs.fact_rows.read_words.Goals as goal

pub returns-in_err-field : goal.returns-in_err-field
returns-in_err-field g c =
    let p = err_from_is_err_and c.from_residual.result c.from_residual.ensures.1 in
    rw (p.1, p.2, or_err _ _ _ c.in_err-field.ensures.value)
    (words-broken g.W.Words.system.valid c.args.row _ (take c.loop-i.i c.loop-i.slot-items) c.loop-i.i (omega arith) c.loop-i.rest.now c.loop-i.invariant.1 _ (rw c.in_err-field.ensures.ok_part at c.read_field-read.ensures.reads))

pub returns-in_err-slot : goal.returns-in_err-slot
returns-in_err-slot g c =
    let p = err_from_is_err_and c.from_residual-in_err-slot.result c.from_residual-in_err-slot.ensures.1 in
    rw (p.1, p.2) (words-refused g.W.Words.system.valid c.args.row _ (take c.loop-i.i c.loop-i.slot-items) c.loop-i.i (omega arith) c.loop-i.rest.now c.loop-i.invariant.1 (field_seen c.in_ok-field.field) c.in_ok-field.more.now _ (rw c.in_ok-field.ensures.ok_part at c.read_field-read.ensures.reads) c.in_err-slot.ensures)

pub loop-i-preserved : goal.loop-i-preserved
loop-i-preserved g c =
    let w = to_z w64 (of_z w64 c.in_ok-slot.field-0) in
    let same : w ≡ c.in_ok-slot.field-0 = search rules in
    let here : c.loop-i.i < length c.loop-i.slot-items = omega arith in (
      length-set c.loop-i.slot-items c.loop-i.i w ∙ c.loop-i.invariant.0,
      rw (take_more_set c.loop-i.slot-items c.loop-i.i w here) (words_more g.W.Words.system.valid c.args.row _ (take c.loop-i.i c.loop-i.slot-items) c.loop-i.i (omega arith) c.loop-i.rest.now c.loop-i.invariant.1 (field_seen c.in_ok-field.field) c.in_ok-field.more.now w (rw c.in_ok-field.ensures.ok_part at c.read_field-read.ensures.reads) (ap (λ (x : ℤ). Ok x) same ∙ c.in_ok-slot.ensures)),
    )

pub returns : goal.returns
returns g c =
    words-all g.W.Words.system.valid c.args.row _ c.loop-i.slot-items c.loop-i.i c.loop-i.rest.now c.loop-i.invariant.0 (omega arith) (omega arith) c.loop-i.invariant.1
