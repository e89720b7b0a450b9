-- facts.csv: from its bytes to the facts or the refusal. Each row is checked for 7, then 11, then its fields from left to right.
use Rattle.std.specs.Prelude.{◌≡◌, ℕ, suc, ◌+◌, ◌<◌, ◌≤◌, Bool, true, cond, List, [], ◌∷◌, ◌++◌, length, drop, ℤ, pos, negsuc, Some, None, Ok, Err, Option, ◌==◌, nat_lt}
use Rattle.facts.specs.declared.fact_types.Fact.{Fact}
use Rattle.rows.specs.Csv.{Part, content, Row, fields, malformed, rows, Written}
use Rattle.rows.specs.Numbers.{number, Decimal}
use Rattle.rows.specs.Refusals.{Outcome, refuse, ◌>>=◌, most_bytes}
use Rattle.rows.specs.declared.refusal_types.Layer.TheVariants.{Reader, Job}

-- how many words a fact has, how many kinds there are, and how many facts a file may have
abbrev pub words : ℕ
words = 3

abbrev pub kinds : ℕ
kinds = 64

abbrev pub most_facts : ℕ
most_facts = 512

abbrev pub fact_kind : ℕ → ℕ → Option ℤ → Outcome ℕ
fact_kind row field None = refuse 8 row field Reader
fact_kind row field (Some (pos n)) = cond (nat_lt n kinds) (Ok n) (refuse 1 row field Job)
fact_kind row field (Some (negsuc n)) = refuse 1 row field Job

abbrev pub fact_word : (ℤ → Bool) → ℕ → ℕ → Option ℤ → Outcome ℤ
fact_word valid row field None = refuse 8 row field Reader
fact_word valid row field (Some w) = cond (valid w) (Ok w) (refuse 2 row field Job)

abbrev pub fact_words : (ℤ → Bool) → ℕ → ℕ → List Part → Outcome (List ℤ)
fact_words valid row field [] = Ok []
fact_words valid row field (f ∷ fs) = do
  w ← fact_word valid row field (number (content f))
  ws ← fact_words valid row (suc field) fs
  Ok (w ∷ ws)

abbrev pub fact_of : (ℤ → Bool) → ℕ → List Part → Outcome Fact
fact_of valid row [] = refuse 7 row 0 Reader
fact_of valid row (f ∷ fs) = do
  k ← fact_kind row 1 (number (content f))
  ws ← fact_words valid row 2 fs
  Ok (record { kind = k; words = ws })

abbrev pub fact_row : (ℤ → Bool) → ℕ → Row → Outcome Fact
fact_row valid row malformed = refuse 7 row 0 Reader
fact_row valid row (fields fs) =
    let judged = cond (nat_lt most_facts row) (refuse 11 row 0 Job) (fact_of valid row fs) in
    cond (length fs == words + 1) judged (refuse 7 row 0 Reader)

abbrev pub fact_rows : (ℤ → Bool) → ℕ → List Row → Outcome (List Fact)
fact_rows valid row [] = Ok []
fact_rows valid row (r ∷ rs) = do
  f ← fact_row valid row r
  fs ← fact_rows valid (suc row) rs
  Ok (f ∷ fs)

-- the facts of a file's bytes
abbrev pub facts_of : (ℤ → Bool) → List ℕ → Outcome (List Fact)
facts_of valid bs =
    let read = fact_rows valid 1 (rows bs) in
    cond (nat_lt most_bytes (length bs)) (refuse 7 0 0 Reader) read

-- the same where there may be no file
abbrev pub facts_file : (ℤ → Bool) → Option (List ℕ) → Outcome (List Fact)
facts_file valid None = refuse 7 0 0 Reader
facts_file valid (Some bs) = facts_of valid bs

-- a fact that was read, before those of the rows that follow; none where the row is refused
abbrev pub kept : Outcome Fact → List Fact → List Fact
kept (Ok f) fs = f ∷ fs
kept (Err e) fs = []

-- the facts of the rows before the first that is refused
abbrev pub fact_front : (ℤ → Bool) → ℕ → List Row → List Fact
fact_front valid row [] = []
fact_front valid row (r ∷ rs) = kept (fact_row valid row r) (fact_front valid (suc row) rs)

abbrev pub front_of : (ℤ → Bool) → List ℕ → List Fact
front_of valid bs = let read = fact_front valid 1 (rows bs) in cond (nat_lt most_bytes (length bs)) [] read

-- the facts that a file gives before a refusal, or all where there is none
abbrev pub facts_before : (ℤ → Bool) → Option (List ℕ) → List Fact
facts_before valid None = []
facts_before valid (Some bs) = front_of valid bs

-- the new entries over the beginning of the old ones
abbrev pub over : List Fact → List Fact → List Fact
over new old = new ++ drop (length new) old

-- what it means: which rows are the writing of which facts ------------------------------------------------

pub data WordsWritten (valid : ℤ → Bool) : List ℤ → List Part → Type 0 where
  none : WordsWritten valid [] []
  more : {w : ℤ} {f : Part} {ws : List ℤ} {fs : List Part} → Decimal w (content f) → valid w ≡ true → WordsWritten valid ws fs → WordsWritten valid (w ∷ ws) (f ∷ fs)

pub record FactWritten (valid : ℤ → Bool) (fact : Fact) (k : Part) (fs : List Part) : Type 0 where
  pub kind : Decimal (pos fact.kind) (content k)
  pub small : fact.kind < kinds
  pub the_words : WordsWritten valid fact.words fs
  pub three : length fs ≡ words

pub data FactsWritten (valid : ℤ → Bool) : List Fact → List (List Part) → Type 0 where
  none : FactsWritten valid [] []
  more : {fact : Fact} {k : Part} {fs : List Part} {facts : List Fact} {rs : List (List Part)} → FactWritten valid fact k fs → FactsWritten valid facts rs → FactsWritten valid (fact ∷ facts) ((k ∷ fs) ∷ rs)

-- a file's bytes are the writing of these facts
pub record FileWritten (valid : ℤ → Bool) (facts : List Fact) (bs : List ℕ) : Type 0 where
  pub the_rows : List (List Part)
  pub as_rows : Written the_rows bs
  pub as_facts : FactsWritten valid facts the_rows
  pub few : length facts ≤ most_facts
  pub short : length bs ≤ most_bytes

-- a file was loaded into a list: exactly the writings of facts are accepted, and the list then has those facts
pub record FileLoaded (valid : ℤ → Bool) (bs : List ℕ) (r : Outcome (Unit {0})) (loaded : List Fact) : Type 0 where
  pub reads : (facts : List Fact) → FileWritten valid facts bs → (r ≡ Ok tt) × (loaded ≡ facts)
  pub was : r ≡ Ok tt → FileWritten valid loaded bs

-- the same where there may be no file, which is then refused
abbrev pub FactsLoaded : (ℤ → Bool) → Option (List ℕ) → Outcome (Unit {0}) → List Fact → Type 0
FactsLoaded valid None r loaded = r ≡ refuse 7 0 0 Reader
FactsLoaded valid (Some bs) r loaded = FileLoaded valid bs r loaded
