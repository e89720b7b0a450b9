-- Files of facts, and what they come to under Lengths: each is computed from the definitions.
use Rattle.std.specs.Prelude.{◌≡◌, ℕ, List, [], ◌∷◌, ◌++◌, replicate, pos, Ok, codes}
use Prim.Native.String.{String}
use Rattle.facts.specs.Lengths.{lengths}
use Rattle.facts.specs.declared.fact_types.Fact.{Fact}
use Rattle.rows.specs.Refusals.{Outcome, refuse}
use Rattle.facts_file.specs.Facts.{facts_of}
use Rattle.rows.specs.declared.refusal_types.Layer.TheVariants.{Reader, Job}

-- lines, each ended by CRLF
abbrev pub lines : List String → List ℕ
lines [] = []
lines (s ∷ ss) = codes s ++ (13 ∷ (10 ∷ lines ss))

abbrev pub facts : List ℕ → Outcome (List Fact)
facts bs = facts_of lengths.valid bs

abbrev pub fact : ℕ → ℕ → ℕ → ℕ → Fact
fact k a b c = record { kind = k; words = pos a ∷ (pos b ∷ (pos c ∷ [])) }

-- the looped line: two segments, one there and one back, and a launcher
abbrev pub looped_line : List Fact
looped_line = fact 2 10 20 500 ∷ (fact 2 20 10 500 ∷ (fact 1 10 0 0 ∷ []))

abbrev pub looped_line_file : List ℕ
looped_line_file = lines ("2,10,20,500" ∷ ("2,20,10,500" ∷ ("1,10,0,0" ∷ [])))

pub record FilesOfFacts : Type 0 where
  pub looped : facts looped_line_file ≡ Ok looped_line
  -- the last CRLF may be missing, and an empty file has no rows
  pub open_ended : facts (codes "1,10,0,0") ≡ Ok (fact 1 10 0 0 ∷ [])
  pub none : facts [] ≡ Ok []
  -- one CRLF is a row of one empty field
  pub blank : facts (lines ("" ∷ [])) ≡ refuse 7 1 0 Reader
  -- an earlier field's 1 or 2 comes before a later field's 8
  pub a_kind : facts (lines ("64,x,0,0" ∷ [])) ≡ refuse 1 1 1 Job
  pub a_word : facts (lines ("63,1,-2147483649,x" ∷ [])) ≡ refuse 2 1 3 Job
  pub three_fields : facts (lines ("1,2,3" ∷ [])) ≡ refuse 7 1 0 Reader
  pub no_number : facts (lines ("1,2,3,+4" ∷ [])) ≡ refuse 8 1 4 Reader
  pub eleven_digits : facts (lines ("1,2,3,12345678901" ∷ [])) ≡ refuse 8 1 4 Reader
  -- row 513: 7 comes before 11, and 11 before what its fields say
  pub one_too_many : facts (lines (replicate 512 "1,1,1,1" ++ ("x,1,1,1" ∷ []))) ≡ refuse 11 513 0 Job
  pub seven_before_eleven : facts (lines (replicate 512 "1,1,1,1" ++ ("1,1,1" ∷ []))) ≡ refuse 7 513 0 Reader
  pub too_long : facts (replicate 65537 48) ≡ refuse 7 0 0 Reader
  pub a_tab : facts (codes "1,1,1,1" ++ (9 ∷ [])) ≡ refuse 7 1 0 Reader
  pub a_delete : facts (codes "1,1,1,1" ++ (127 ∷ [])) ≡ refuse 7 1 0 Reader
  pub a_byte_order_mark : facts (239 ∷ (187 ∷ (191 ∷ codes "1,1,1,1"))) ≡ refuse 7 1 0 Reader
  pub a_lone_lf : facts (codes "1,1,1,1" ++ (10 ∷ lines ("1,1,1,1" ∷ []))) ≡ refuse 7 1 0 Reader
  -- an unclosed quote faults the row in which it begins
  pub an_open_quote : facts (lines ("1,1,1,1" ∷ ("1,1,\"1,1" ∷ ("1,1,1,1" ∷ [])))) ≡ refuse 7 2 0 Reader
  -- a row goes on behind a CRLF between quotes, and such a field is no number
  pub a_quoted_crlf : facts (lines ("1,1,\"1" ∷ ("\",1" ∷ []))) ≡ refuse 8 1 3 Reader
  -- a fault of row 1 comes before a malformed row 2
  pub row_by_row : facts (lines ("64,1,1,1" ∷ ("\"" ∷ []))) ≡ refuse 1 1 1 Job
