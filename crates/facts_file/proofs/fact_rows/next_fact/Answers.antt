use Rattle.std.proofs.Common.{◌+◌, sym, refl}
use Rattle.std.proofs.lemmas.Bool.{ltb-false}
use Rattle.facts_file.specs.Facts.{words, most_facts}
use Rattle.rows.proofs.Outcomes.{or_err}
use Rattle.rows.proofs.Rows.{wide-got}
use Rattle.std.proofs.lemmas.Result.{err_from_is_err_and}
use Rattle.facts_file.proofs.FactRows.{step-other, step-late, step-refused, step-made}
use Rattle.facts_file.proofs.fact_rows.next_fact.Goals as goal

pub returns-in_err-rest : goal.returns-in_err-rest
returns-in_err-rest g c =
    let p = err_from_is_err_and c.from_residual.result c.from_residual.ensures.1 in
    rw (p.1, p.2, or_err _ _ _ c.in_err-rest.ensures.value)
    (record { step = step-other g.W.Words.system.valid c.args.row c.args.bytes.now (rw c.in_err-rest.ensures.ok_part at c.row_of_width.ensures); bound = tt })

pub returns-then-one_too_many : goal.returns-then-one_too_many
returns-then-one_too_many g c =
    record {
      step = step-late g.W.Words.system.valid c.args.row c.args.bytes.now (words + 1) c.in_ok-rest.rest.now (wide-got (words + 1) _ c.in_ok-rest.rest.now (rw c.in_ok-rest.ensures.ok_part at c.row_of_width.ensures)) refl (sym c.if-one_too_many.ensures);
      bound = tt;
    }

pub returns-in_err-fact : goal.returns-in_err-fact
returns-in_err-fact g c =
    let p = err_from_is_err_and c.from_residual-in_err-fact.result c.from_residual-in_err-fact.ensures.1 in
    rw (p.1, p.2)
    (record {
      step = step-refused g.W.Words.system.valid c.args.row c.args.bytes.now (words + 1) c.in_ok-rest.rest.now (wide-got (words + 1) _ c.in_ok-rest.rest.now (rw c.in_ok-rest.ensures.ok_part at c.row_of_width.ensures)) refl (sym c.if-one_too_many.ensures) _ c.in_err-fact.ensures;
      bound = tt;
    })

pub returns : goal.returns
returns g c =
    record {
      step = step-made g.W.Words.system.valid c.args.row c.args.bytes.now (words + 1) c.in_ok-rest.rest.now (wide-got (words + 1) _ c.in_ok-rest.rest.now (rw c.in_ok-rest.ensures.ok_part at c.row_of_width.ensures)) refl (sym c.if-one_too_many.ensures) c.in_ok-fact.fact c.in_ok-fact.ensures;
      bound = ltb-false most_facts c.args.row (sym c.if-one_too_many.ensures);
    }
