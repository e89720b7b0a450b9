-- The fields of a row of rules in turn, each judged alike.
use Rattle.std.proofs.Common.{◌≡◌, ℕ, suc, ◌+◌, ◌-◌, ◌<◌, ◌≤◌, List, [], ◌∷◌, ◌++◌, length, get_or, drop, Ok, Err, Option, Result, sym, refl, ap, ◌∙◌, append_assoc, arith}
use Rattle.std.proofs.lemmas.List.{at_drop_more, get_or-take, get_or-drop, length-take-le, length-drop}
use Rattle.rules.specs.declared.rule_types.RuleFault.{RuleFault}
use Rattle.rows.specs.Refusals.{Outcome, ◌>>=◌}
use Rattle.rules_file.specs.RuleRows.{judged, judged_each, at, words_from}
use Rattle.reader.specs.RuleScan.{place_at}
use Rattle.rows.specs.declared.field_types.Place.{Place}
use Rattle.rows.specs.declared.refusal_types.Refusal.{Refusal}

-- fields that are judged alike ------------------------------------------------------------------------------------------

module _ {X Y : Type 0} (row first : ℕ) (read : List ℕ → Option X) (judge : X → Result Y RuleFault) (xs : List (List ℕ)) where
  -- the first i gave these
  abbrev pub JudgedSoFar : ℕ → List Y → Type 0
  JudgedSoFar i ys = judged_each row first read judge xs ≡ (judged_each row (first + i) read judge (drop i xs) >>= λ more. Ok (ys ++ more))

  module _ (i : ℕ) (ys : List Y) (inside : i < length xs) (so_far : JudgedSoFar i ys) where
    at_field : judged_each row first read judge xs ≡ (judged row (first + i) judge (read (get_or xs i [])) >>= λ y. judged_each row (suc (first + i)) read judge (drop (i + 1) xs) >>= λ more. Ok (y ∷ more)) >>= λ more. Ok (ys ++ more)
    at_field = so_far ∙ at_drop_more (λ zs. judged_each row (first + i) read judge zs >>= λ more. Ok (ys ++ more)) xs i [] inside

    pub judged-more : (y : Y) → Ok y ≡ judged row (first + i) judge (read (get_or xs i [])) → JudgedSoFar (i + 1) (ys ++ (y ∷ []))
    judged-more y h =
        let next : suc (first + i) ≡ first + (i + 1) = omega arith in
        at_field ∙ rw (← h) (push (judged_each row (suc (first + i)) read judge (drop (i + 1) xs))) ∙ ap (λ (n : ℕ). judged_each row n read judge (drop (i + 1) xs) >>= λ more. Ok ((ys ++ (y ∷ [])) ++ more)) next
      where
        push : (o : Outcome (List Y)) → ((o >>= λ more. Ok (y ∷ more)) >>= λ more. Ok (ys ++ more)) ≡ (o >>= λ more. Ok ((ys ++ (y ∷ [])) ++ more))
        push (Ok zs) = ap (λ (l : List Y). Ok l) (sym (append_assoc ys (y ∷ []) zs))
        push (Err e) = refl

    pub judged_stops : (e : Refusal) → Err e ≡ judged row (first + i) judge (read (get_or xs i [])) → Err e ≡ judged_each row first read judge xs
    judged_stops e h = sym (at_field ∙ rw (← h) refl)

-- the field of a word
pub word_at : (first i : ℕ) (cs : List (List ℕ)) → 1 ≤ first → i < 3 → at (first + i) cs ≡ get_or (words_from first cs) i []
word_at first i cs some h =
    let same : first - 1 + i ≡ first + i - 1 = omega arith in
    sym (get_or-take 3 (drop (first - 1) cs) i [] h ∙ get_or-drop (first - 1) cs i [] ∙ ap (λ (k : ℕ). get_or cs k []) same)

-- a field that is judged by its own place and text
pub judged-here : {X Y : Type 0} (read : List ℕ → Option X) (judge : X → Result Y RuleFault) (o : Outcome Y) (place : Place) (t u : List ℕ) (row n : ℕ) → place ≡ place_at row n → t ≡ u → o ≡ judged place.row place.field judge (read t) → o ≡ judged row n judge (read u)
judged-here read judge o place t u row n p e h = h ∙ ap (λ (q : Place). judged q.row q.field judge (read t)) p ∙ ap (λ (s : List ℕ). judged row n judge (read s)) e

-- as many fields as a fact has words
pub words_count : (first : ℕ) (cs : List (List ℕ)) → 1 ≤ first → first + 2 ≤ length cs → length (words_from first cs) ≡ 3
words_count first cs some few = length-take-le 3 (drop (first - 1) cs) (omega (arith, length-drop (first - 1) cs))
