-- A job of two files: what is read from them, and how the job ends.
use Rattle.std.specs.Prelude.{ℕ, Bool, List, ℤ, None, Ok, Err, Option, Result}
use Rattle.facts.specs.System.{System}
use Rattle.facts.specs.declared.fact_types.Fact.{Fact}
use Rattle.rules.specs.Rules.{Rule}
use Rattle.stores.specs.Piles.{Pile}
use Rattle.machine.specs.declared.answer_types.End.{End}
use Rattle.rows.specs.Refusals.{Outcome, ◌>>=◌}
use Rattle.facts_file.specs.Facts.{facts_file}
use Rattle.rules_file.specs.RuleRows.{rules_file}
use Rattle.printing.specs.declared.refused_type.Refused.{Refused}
use Rattle.printing.specs.Ends.{job_end}

-- the rules and the facts of a job's files, or the refusal of the first that is refused; the rules are read first
abbrev pub job_files : (ℤ → Bool) → Option (List ℕ) → Option (List ℕ) → Outcome (List Rule × List Fact)
job_files valid rules facts = do
  rs ← rules_file valid rules
  fs ← facts_file valid facts
  Ok (rs, fs)

-- what was read: rules and facts, where neither file was refused
abbrev pub job_read : Result (Unit {0}) Refused → List Rule → List Fact → Outcome (List Rule × List Fact)
job_read (Ok u) rs fs = Ok (rs, fs)
job_read (Err e) rs fs = Err e.refusal

-- the end of the job that was read, or none where a file is refused
abbrev pub read_end : System → Pile → Outcome (List Rule × List Fact) → Option (End × ℕ)
read_end system pile (Ok job) = job_end system job.0 pile job.1
read_end system pile (Err e) = None
