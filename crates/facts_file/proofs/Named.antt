-- What a refusal of facts names.
use Rattle.std.proofs.Common.{◌≡◌, ℕ, suc, ◌+◌, ◌≤◌, Bool, true, false, cond, eqb, ltb, List, [], ◌∷◌, length, ℤ, pos, negsuc, Some, None, Ok, Err, Option, sym, refl, subst, arith}
use Rattle.std.specs.Result.{result_and}
use Rattle.std.proofs.lemmas.Bool.{or_left, eqb-true}
use Rattle.facts.specs.declared.fact_types.Fact.{Fact}
use Rattle.rows.specs.Csv.{Part, content, Row, fields, malformed, rows}
use Rattle.rows.specs.Numbers.{number}
use Rattle.rows.specs.Refusals.{Outcome, refuse, most_bytes, names_field}
use Rattle.facts_file.specs.FactRefusals.{facts_refusal, Named}
use Rattle.rows.proofs.Refused.{refused_bind, refused_cond, within}
use Rattle.facts_file.specs.Facts.{words, kinds, most_facts, fact_kind, fact_word, fact_words, fact_of, fact_row, fact_rows, facts_file}
use Rattle.rows.specs.declared.refusal_types.Layer.TheVariants.{Reader, Job}

word-named : (valid : ℤ → Bool) (row field : ℕ) (o : Option ℤ) → 1 ≤ field → field ≤ 4 → Named (fact_word valid row field o)
word-named valid row field None low high = within 4 field low high
word-named valid row field (Some w) low high = refused_cond facts_refusal (valid w) (Ok w) (refuse 2 row field Job) tt (or_left (names_field 4 field) false (within 4 field low high))

kind-named : (row : ℕ) (o : Option ℤ) → Named (fact_kind row 1 o)
kind-named row None = refl
kind-named row (Some (pos n)) = refused_cond facts_refusal (ltb n kinds) (Ok n) (refuse 1 row 1 Job) tt refl
kind-named row (Some (negsuc n)) = refl

words-named : (valid : ℤ → Bool) (row field : ℕ) (fs : List Part) → 1 ≤ field → field + length fs ≤ 5 → Named (fact_words valid row field fs)
words-named valid row field [] low high = tt
words-named valid row field (f ∷ fs) low high =
    refused_bind facts_refusal (fact_word valid row field (number (content f))) _ (word-named valid row field (number (content f)) low (omega arith))
    (λ w. refused_bind facts_refusal (fact_words valid row (suc field) fs) (λ (ws : List ℤ). Ok (w ∷ ws)) (words-named valid row (suc field) fs (omega arith) (omega arith)) (λ ws. tt))

fact-named : (valid : ℤ → Bool) (row : ℕ) (l : Row) → Named (fact_row valid row l)
fact-named valid row malformed = refl
fact-named valid row (fields []) = refl
fact-named valid row (fields (k ∷ fs)) = go (eqb (length (k ∷ fs)) (words + 1)) refl
  where
    go : (b : Bool) → eqb (length (k ∷ fs)) (words + 1) ≡ b → Named (cond b (cond (ltb most_facts row) (refuse 11 row 0 Job) (fact_of valid row (k ∷ fs))) (refuse 7 row 0 Reader))
    go false h = refl
    go true h =
        refused_cond facts_refusal (ltb most_facts row) (refuse 11 row 0 Job) (fact_of valid row (k ∷ fs)) refl
        (refused_bind facts_refusal (fact_kind row 1 (number (content k))) _ (kind-named row (number (content k)))
        (λ n. refused_bind facts_refusal (fact_words valid row 2 fs) _ (words-named valid row 2 fs (omega arith) (omega (arith, eqb-true (length (k ∷ fs)) (words + 1) h))) (λ ws. tt)))

facts-named : (valid : ℤ → Bool) (row : ℕ) (ls : List Row) → Named (fact_rows valid row ls)
facts-named valid row [] = tt
facts-named valid row (l ∷ ls) =
    refused_bind facts_refusal (fact_row valid row l) _ (fact-named valid row l)
    (λ f. refused_bind facts_refusal (fact_rows valid (suc row) ls) _ (facts-named valid (suc row) ls) (λ fs. tt))

file-named : (valid : ℤ → Bool) (file : Option (List ℕ)) → Named (facts_file valid file)
file-named valid None = refl
file-named valid (Some bs) = refused_cond facts_refusal (ltb most_bytes (length bs)) (refuse 7 0 0 Reader) (fact_rows valid 1 (rows bs)) refl (facts-named valid 1 (rows bs))

pub answer-named : (valid : ℤ → Bool) (file : Option (List ℕ)) (r : Outcome (Unit {0})) (facts : List Fact) → result_and r (Ok facts) ≡ facts_file valid file → Named r
answer-named valid file (Ok u) facts h = tt
answer-named valid file (Err e) facts h = subst (λ (x : Outcome (List Fact)). Named x) (sym h) (file-named valid file)
