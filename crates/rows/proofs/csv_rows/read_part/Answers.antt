use Rattle.std.proofs.Common.{◌≡◌, false, eqb, get_or, arith}
use Rattle.std.proofs.lemmas.List.{get_or_past}
use Rattle.std.proofs.lemmas.Bool.Decides.{nat_tests}
use Rattle.rows.specs.Csv.{quote, read_bare}
use Rattle.rows.proofs.Scans.{bare-got, as_cut, bare_prefix}
use Rattle.rows.proofs.csv_rows.read_part.Goals as goal

pub returns-in_default : goal.returns-in_default
returns-in_default c =
    let bs = c.args.bytes.now in
    let past = get_or_past bs 0 0 in
    let plain : eqb (get_or bs 0 0) quote ≡ false = grind (arith, nat_tests, past) in
    bare-got bs _ _ plain (as_cut (read_bare bs) bs c.bare_length-end.result c.bare_length-end.result (rw c.bare_length-end.ensures.front (bare_prefix bs)))
