use Rattle.std.proofs.lemmas.Result.{err_from_is_err_and}
use Rattle.rows.specs.Fields.{field_seen}
use Rattle.facts_file.proofs.FactRows.{fact-broken, kind-refused, words_of_refused, fact-made}
use Rattle.rows.proofs.Outcomes.{or_err}
use Rattle.facts_file.proofs.fact_rows.read_fact.Goals as goal

pub returns-in_err-field : goal.returns-in_err-field
returns-in_err-field g c =
    let p = err_from_is_err_and c.from_residual.result c.from_residual.ensures.1 in
    rw (p.1, p.2, or_err _ _ _ c.in_err-field.ensures.value) (fact-broken g.W.Words.system.valid c.args.row c.args.bytes.now _ (rw c.in_err-field.ensures.ok_part at c.read_field-read.ensures.reads))

pub returns-in_err-kind : goal.returns-in_err-kind
returns-in_err-kind g c =
    let p = err_from_is_err_and c.from_residual-in_err-kind.result c.from_residual-in_err-kind.ensures.1 in
    rw (p.1, p.2) (kind-refused g.W.Words.system.valid c.args.row c.args.bytes.now (field_seen c.in_ok-field.field) c.in_ok-field.rest.now (rw c.in_ok-field.ensures.ok_part at c.read_field-read.ensures.reads) _ c.in_err-kind.ensures)

pub returns-in_err-words : goal.returns-in_err-words
returns-in_err-words g c =
    let p = err_from_is_err_and c.from_residual-in_err-words.result c.from_residual-in_err-words.ensures.1 in
    rw (p.1, p.2) (words_of_refused g.W.Words.system.valid c.args.row c.args.bytes.now (field_seen c.in_ok-field.field) c.in_ok-field.rest.now (rw c.in_ok-field.ensures.ok_part at c.read_field-read.ensures.reads) c.in_ok-kind.kind _ c.in_ok-kind.ensures c.in_err-words.ensures)

pub returns : goal.returns
returns g c =
    fact-made g.W.Words.system.valid c.args.row c.args.bytes.now (field_seen c.in_ok-field.field) c.in_ok-field.rest.now (rw c.in_ok-field.ensures.ok_part at c.read_field-read.ensures.reads) c.in_ok-kind.kind c.in_ok-words.words c.in_ok-kind.ensures c.in_ok-words.ensures
