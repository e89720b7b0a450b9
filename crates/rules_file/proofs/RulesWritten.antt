-- rules.csv: exactly the writings of rules that may stand in a set are accepted.
use Rattle.std.proofs.Common.{◌≡◌, ℕ, Bool, ltb, List, [], length, ℤ, Some, None, Ok, Option, sym, refl, ◌∙◌, subst, arith}
use Rattle.std.proofs.lemmas.Bool.{ltb-false, le-ltb}
use Rattle.rules.specs.Rules.{Rule}
use Rattle.rows.specs.Csv.{rows}
use Rattle.rows.specs.Refusals.{Outcome, most_bytes}
use Rattle.rules_file.specs.RuleRows.{no_rule, write_rows, rules_of, rules_file}
use Rattle.rules_file.specs.RulesWritten.{Line, FileWritten, RulesLoaded}
use Rattle.rows.proofs.Csv.{reads-written, written_read}
use Rattle.rows.proofs.Outcomes.{let_by}
use Rattle.rules_file.proofs.RuleLines.{AsLines, rows-read, rows_were}
use Rattle.rules_file.proofs.RulesBuilt.{rules-taken}
use Rattle.rules_file.proofs.RulesWere.{rules_were}

file-reads : (valid : ℤ → Bool) (rules : List Rule) (bs : List ℕ) → FileWritten valid rules bs → rules_of valid bs ≡ Ok rules
file-reads valid rules bs w =
    rw (le-ltb most_bytes (length bs) w.short, reads-written w.the_rows bs w.as_rows)
    (rows-read valid 1 no_rule rules w.as_rules (rules-taken valid rules no_rule [] refl (omega (arith, w.stand.few)) w.stand.each_rule 1))

file-was : (valid : ℤ → Bool) (rules : List Rule) (bs : List ℕ) → rules_of valid bs ≡ Ok rules → FileWritten valid rules bs
file-was valid rules bs e =
    let a = let_by (ltb most_bytes (length bs)) _ (write_rows valid 1 no_rule (rows bs)) rules e in
    let w = rows_were valid 1 no_rule rules (rows bs) a.1 in
    let s = rules_were valid w.4 in
    record {
      the_rows = w.0;
      as_rows = written_read w.0 bs w.2;
      as_rules = subst (λ (ls : List Line). AsLines ls w.0) s.0 w.3;
      stand = s.1;
      short = ltb-false most_bytes (length bs) a.0;
    }

pub rules_loaded : (valid : ℤ → Bool) (file : Option (List ℕ)) (r : Outcome (List Rule)) → r ≡ rules_file valid file → RulesLoaded valid file r
rules_loaded valid None r e = e
rules_loaded valid (Some bs) r e =
    record {
      reads = λ rules w. e ∙ file-reads valid rules bs w;
      was = λ rules h. file-was valid rules bs (sym e ∙ h);
    }
