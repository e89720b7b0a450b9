use Rattle.std.proofs.Common.{◌+◌, get_or, sym, arith}
use Rattle.std.proofs.lemmas.Bool.{eqb-true}
use Rattle.rows.specs.Csv.{quote}
use Rattle.rows.proofs.Scans.{escaped-more, escaped_bad, escaped-doubled, escaped-closed, quote-within}
use Rattle.rows.proofs.csv_rows.closing_quote.Goals as goal

pub returns-then-not-is_loose : goal.returns-then-not-is_loose
returns-then-not-is_loose c =
    escaped_bad c.args.bytes.now c.loop-at.at c.loop-at-test.true (sym c.if-not-quote_at.ensures) (sym c.if-not-is_loose.ensures) c.loop-at.invariant.1

pub loop-at-preserved-then-not-quote_at : goal.loop-at-preserved-then-not-quote_at
loop-at-preserved-then-not-quote_at c = (
  omega arith,
  escaped-more c.args.bytes.now c.loop-at.at c.loop-at-test.true (sym c.if-not-quote_at.ensures) (sym c.if-not-is_loose.ensures) c.loop-at.invariant.1,
)

pub loop-at-preserved : goal.loop-at-preserved
loop-at-preserved c =
    let bs = c.args.bytes.now in
    let first = eqb-true (get_or bs c.loop-at.at 0) quote (sym c.if-not-quote_at.ensures) in
    let second = eqb-true (get_or bs (c.loop-at.at + 1) 0) quote (sym c.if-quote_at.ensures) in
    let both = quote-within bs (c.loop-at.at + 1) second in
    (omega arith, escaped-doubled bs c.loop-at.at both first second c.loop-at.invariant.1)

pub returns-else-quote_at : goal.returns-else-quote_at
returns-else-quote_at c =
    let bs = c.args.bytes.now in
    let first = eqb-true (get_or bs c.loop-at.at 0) quote (sym c.if-not-quote_at.ensures) in
    (c.loop-at-test.true, escaped-closed bs c.loop-at.at c.loop-at-test.true first (sym c.if-quote_at.ensures) c.loop-at.invariant.1)
