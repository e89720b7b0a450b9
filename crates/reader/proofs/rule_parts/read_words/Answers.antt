use Rattle.std.proofs.Common.{◌+◌, [], get_or, take, sym, ◌∙◌, subst, arith}
use Rattle.std.proofs.lemmas.List.{length-set, take_more_set}
use Rattle.std.proofs.lemmas.Result.{err_from_is_err_and}
use Rattle.rules_file.specs.RuleRefusals.{row_refusal}
use Rattle.rules_file.specs.RuleRows.{words_from}
use Rattle.reader.specs.RuleScan.{cells}
use Rattle.reader.proofs.RuleCells.{cells_six}
use Rattle.reader.proofs.RuleLoops.{JudgedSoFar, judged-more, judged_stops, word_at, words_count, judged-here}
use Rattle.reader.proofs.rule_parts.read_words.Goals as goal

pub returns-in_err-word : goal.returns-in_err-word
returns-in_err-word g c =
    let p = err_from_is_err_and c.from_residual.result c.from_residual.ensures.1 in
    rw (p.1, p.2) (judged_stops c.args.row.now.row c.args.first g.J.Judges.reads (g.J.Judges.verdict c.args.judge.now) (words_from c.args.first (cells c.args.row.now)) c.loop-i.i (take c.loop-i.i c.loop-i.word-items) (omega (arith, words_count c.args.first (cells c.args.row.now) (omega arith) (omega (arith, cells_six c.args.row.now)))) c.loop-i.invariant.1 (row_refusal c.in_err-word.field-0.0) (judged-here g.J.Judges.reads (g.J.Judges.verdict c.args.judge.now) _ c.cell.result.place c.cell.result.text.now (get_or (words_from c.args.first (cells c.args.row.now)) c.loop-i.i []) c.args.row.now.row (c.args.first + c.loop-i.i) c.cell.ensures.place (c.cell.ensures.text ∙ word_at c.args.first c.loop-i.i (cells c.args.row.now) (omega arith) (omega arith)) c.in_err-word.ensures))

pub loop-i-preserved : goal.loop-i-preserved
loop-i-preserved g c =
    let more = judged-more c.args.row.now.row c.args.first g.J.Judges.reads (g.J.Judges.verdict c.args.judge.now) (words_from c.args.first (cells c.args.row.now)) c.loop-i.i (take c.loop-i.i c.loop-i.word-items) (omega (arith, words_count c.args.first (cells c.args.row.now) (omega arith) (omega (arith, cells_six c.args.row.now)))) c.loop-i.invariant.1 c.in_ok-word.field-0 (judged-here g.J.Judges.reads (g.J.Judges.verdict c.args.judge.now) _ c.cell.result.place c.cell.result.text.now (get_or (words_from c.args.first (cells c.args.row.now)) c.loop-i.i []) c.args.row.now.row (c.args.first + c.loop-i.i) c.cell.ensures.place (c.cell.ensures.text ∙ word_at c.args.first c.loop-i.i (cells c.args.row.now) (omega arith) (omega arith)) c.in_ok-word.ensures) in
    let front = take_more_set c.loop-i.word-items c.loop-i.i c.in_ok-word.field-0 (omega (arith, c.loop-i.invariant.0)) in
    (length-set c.loop-i.word-items c.loop-i.i c.in_ok-word.field-0 ∙ c.loop-i.invariant.0, subst (JudgedSoFar c.args.row.now.row c.args.first g.J.Judges.reads (g.J.Judges.verdict c.args.judge.now) (words_from c.args.first (cells c.args.row.now)) (c.loop-i.i + 1)) (sym front) more)
