-- A row of facts read field by field comes to what its fields come to.
use Rattle.std.proofs.Common.{◌≡◌, ℕ, suc, ◌+◌, ◌-◌, ◌<◌, ◌≤◌, Bool, true, false, cond, ltb, List, [], ◌∷◌, ◌++◌, length, take, ℤ, None, Ok, Err, sym, refl, ap, ◌∙◌, append_assoc, append-nil, arith}
use Rattle.std.proofs.lemmas.Bool.{eq-eqb, ne_eqb}
use Rattle.std.proofs.lemmas.List.{take_all}
use Rattle.rows.specs.Csv.{Part, content, Read, got, broken, read_separated, read_row, counted, of_width, fields}
use Rattle.rows.specs.Numbers.{number}
use Rattle.rows.specs.Fields.{Shape, place_of, placed, number_in}
use Rattle.rows.specs.Refusals.{Outcome, refuse, ◌>>=◌}
use Rattle.facts.specs.declared.fact_types.Fact.{Fact}
use Rattle.facts_file.specs.Facts.{words, most_facts, fact_kind, fact_word, fact_words, fact_of, fact_row}
use Rattle.facts_file.specs.FactScan.{word_then, words_at, kind_then, fact_at, row_then, fact_step}
use Rattle.rows.specs.declared.field_types.Place.{Place}
use Rattle.rows.specs.declared.refusal_types.Refusal.{Refusal}
use Rattle.rows.specs.declared.refusal_types.Layer.TheVariants.{Reader, Job}
use Rattle.rows.proofs.Sorted.{placed-got, GoesOn, first_field}
use Rattle.rows.proofs.Rows.{counted-got, counted-broken, placed-broken, wide-none}

-- the words of a row, one after the other -----------------------------------------------------------------------

-- these words, and then those that follow
abbrev pub prefixed : List ℤ → Outcome (List ℤ) → Outcome (List ℤ)
prefixed ws (Ok xs) = Ok (ws ++ xs)
prefixed ws (Err e) = Err e

prefixed-one : (ws : List ℤ) (w : ℤ) (r : Outcome (List ℤ)) → prefixed ws (r >>= λ xs. Ok (w ∷ xs)) ≡ prefixed (ws ++ (w ∷ [])) r
prefixed-one ws w (Ok xs) = ap (λ (x : List ℤ). Ok x) (sym (append_assoc ws (w ∷ []) xs))
prefixed-one ws w (Err e) = refl

module _ (valid : ℤ → Bool) (row : ℕ) (whole : Outcome (List ℤ)) (ws : List ℤ) (i : ℕ) (few : i < 3) (bs : List ℕ) (inv : whole ≡ prefixed ws (words_at valid row (i + 2) (3 - i) bs)) where
  next_word : whole ≡ prefixed ws (word_then valid row (i + 2) (words_at valid row (suc (i + 2)) (3 - (i + 1))) (read_separated bs))
  unfolding words_at
  next_word = let e : 3 - i ≡ suc (3 - (i + 1)) = omega arith in inv ∙ ap (λ (n : ℕ). prefixed ws (words_at valid row (i + 2) n bs)) e

  pub words-broken : (place : Place) → broken ≡ placed place (read_separated bs) → refuse 7 row 0 Reader ≡ whole
  words-broken place e = sym (next_word ∙ ap (λ (r : Read Part). prefixed ws (word_then valid row (i + 2) (words_at valid row (suc (i + 2)) (3 - (i + 1))) r)) (placed-broken place (read_separated bs) e))

  at-word : (s : Shape) (more : List ℕ) → got s more ≡ placed (record { row = row; field = i + 2 }) (read_separated bs) → whole ≡ prefixed ws (fact_word valid (place_of s).row (place_of s).field (number_in s) >>= λ w. words_at valid row (suc (i + 2)) (3 - (i + 1)) more >>= λ xs. Ok (w ∷ xs))
  at-word s more e =
      let p = placed-got (record { row = row; field = i + 2 }) s more (read_separated bs) e in
      next_word
      ∙ ap (λ (r : Read Part). prefixed ws (word_then valid row (i + 2) (words_at valid row (suc (i + 2)) (3 - (i + 1))) r)) p.was
      ∙ rw (p.the_number, p.the_place) refl

  pub words-refused : (s : Shape) (more : List ℕ) (e : Refusal) → got s more ≡ placed (record { row = row; field = i + 2 }) (read_separated bs) → Err e ≡ fact_word valid (place_of s).row (place_of s).field (number_in s) → Err e ≡ whole
  words-refused s more e h k = sym (at-word s more h ∙ rw (← k) refl)

  pub words_more : (s : Shape) (more : List ℕ) (w : ℤ) → got s more ≡ placed (record { row = row; field = i + 2 }) (read_separated bs) → Ok w ≡ fact_word valid (place_of s).row (place_of s).field (number_in s) → whole ≡ prefixed (ws ++ (w ∷ [])) (words_at valid row (i + 1 + 2) (3 - (i + 1)) more)
  words_more s more w h k =
      let next : suc (i + 2) ≡ i + 1 + 2 = omega arith in
      at-word s more h
      ∙ rw (← k) (prefixed-one ws w (words_at valid row (suc (i + 2)) (3 - (i + 1)) more))
      ∙ ap (λ (f : ℕ). prefixed (ws ++ (w ∷ [])) (words_at valid row f (3 - (i + 1)) more)) next

pub words-all : (valid : ℤ → Bool) (row : ℕ) (whole : Outcome (List ℤ)) (words : List ℤ) (i : ℕ) (bs : List ℕ) → length words ≡ 3 → i ≤ 3 → 3 ≤ i → whole ≡ prefixed (take i words) (words_at valid row (i + 2) (3 - i) bs) → Ok words ≡ whole
unfolding words_at
words-all valid row whole words i bs l few all inv =
    let e : i ≡ 3 = omega arith in
    let none : 3 - i ≡ 0 = omega arith in
    let front : take i words ≡ words = take_all i words (omega arith) in
    sym (inv ∙ rw (none, front) (ap (λ (x : List ℤ). Ok x) (append-nil words)))

-- a row's fact --------------------------------------------------------------------------------------------------

module _ (valid : ℤ → Bool) (row : ℕ) (bs : List ℕ) where
  pub fact-broken : (place : Place) → broken ≡ placed place (read_separated bs) → refuse 7 row 0 Reader ≡ fact_at valid row bs
  unfolding fact_at
  fact-broken place e = sym (ap (kind_then valid row) (placed-broken place (read_separated bs) e))

  at-kind : (s : Shape) (rest : List ℕ) → got s rest ≡ placed (record { row = row; field = 1 }) (read_separated bs) → fact_at valid row bs ≡ (fact_kind (place_of s).row (place_of s).field (number_in s) >>= λ k. words_at valid row 2 words rest >>= λ ws. Ok (record { kind = k; words = ws }))
  unfolding fact_at
  at-kind s rest e =
      let p = placed-got (record { row = row; field = 1 }) s rest (read_separated bs) e in
      ap (kind_then valid row) p.was ∙ rw (p.the_number, p.the_place) refl

  module _ (s : Shape) (rest : List ℕ) (h : got s rest ≡ placed (record { row = row; field = 1 }) (read_separated bs)) where
    pub kind-refused : (e : Refusal) → Err e ≡ fact_kind (place_of s).row (place_of s).field (number_in s) → Err e ≡ fact_at valid row bs
    kind-refused e k = sym (at-kind s rest h ∙ rw (← k) refl)

    pub words_of_refused : (n : ℕ) (e : Refusal) → Ok n ≡ fact_kind (place_of s).row (place_of s).field (number_in s) → Err e ≡ words_at valid row 2 words rest → Err e ≡ fact_at valid row bs
    words_of_refused n e k l = sym (at-kind s rest h ∙ rw (← k, ← l) refl)

    pub fact-made : (n : ℕ) (ws : List ℤ) → Ok n ≡ fact_kind (place_of s).row (place_of s).field (number_in s) → Ok ws ≡ words_at valid row 2 words rest → Ok (record { kind = n; words = ws }) ≡ fact_at valid row bs
    fact-made n ws k l = sym (at-kind s rest h ∙ rw (← k, ← l) refl)

words_of_row : (valid : ℤ → Bool) (row field : ℕ) (fs : List Part) (bs end : List ℕ) → GoesOn fs bs end → words_at valid row field (length fs) bs ≡ fact_words valid row field fs
unfolding words_at
words_of_row valid row field [] bs end g = refl
words_of_row valid row field (f ∷ fs) bs end g =
    let w = first_field f fs bs end g in
    let below = words_of_row valid row (suc field) fs w.0 end w.2 in
    ap (word_then valid row field (words_at valid row (suc field) (length fs))) w.1
    ∙ ap (λ (r : Outcome (List ℤ)). fact_word valid row field (number (content f)) >>= λ x. r >>= λ xs. Ok (x ∷ xs)) below

fact_of-row : (valid : ℤ → Bool) (row : ℕ) (f : Part) (fs : List Part) (bs end : List ℕ) → length fs ≡ words → read_row bs ≡ got (f ∷ fs) end → fact_at valid row bs ≡ fact_of valid row (f ∷ fs)
unfolding fact_at
fact_of-row valid row f fs bs end l e =
    let w = first_field f fs bs end e in
    let ws : words_at valid row 2 words w.0 ≡ fact_words valid row 2 fs = ap (λ (n : ℕ). words_at valid row 2 n w.0) (sym l) ∙ words_of_row valid row 2 fs w.0 end w.2 in
    ap (kind_then valid row) w.1
    ∙ ap (λ (r : Outcome (List ℤ)). fact_kind row 1 (number (content f)) >>= λ k. r >>= λ xs. Ok (record { kind = k; words = xs })) ws

-- a row ---------------------------------------------------------------------------------------------------------

module _ (valid : ℤ → Bool) (row : ℕ) (bs : List ℕ) where
  step-broken : broken ≡ counted (read_row bs) → refuse 7 row 0 Reader ≡ fact_step valid row bs
  unfolding fact_step
  step-broken e = sym (ap (row_then valid row) (counted-broken (read_row bs) (sym e)))

  at_row : (n : ℕ) (rest : List ℕ) → got n rest ≡ counted (read_row bs) → (fs : List Part) × (length fs ≡ n) × (read_row bs ≡ got fs rest) × (fact_step valid row bs ≡ (fact_row valid row (fields fs) >>= λ f. Ok (f, rest)))
  unfolding fact_step
  at_row n rest e = let c = counted-got (read_row bs) n rest (sym e) in (c.0, c.2, c.1, ap (row_then valid row) c.1)

  module _ (n : ℕ) (rest : List ℕ) (h : got n rest ≡ counted (read_row bs)) where
    step_uneven : (n ≡ words + 1 → ⊥) → refuse 7 row 0 Reader ≡ fact_step valid row bs
    step_uneven other =
        let a = at_row n rest h in
        sym (a.3 ∙ rw (ne_eqb (length a.0) (words + 1) (λ e. other (sym a.1 ∙ e))) refl)

    even : n ≡ words + 1 → (f : Part) × (fs : List Part) × (length fs ≡ words) × (read_row bs ≡ got (f ∷ fs) rest) × (fact_step valid row bs ≡ (cond (ltb most_facts row) (refuse 11 row 0 Job) (fact_of valid row (f ∷ fs)) >>= λ x. Ok (x, rest)))
    even all = let a = at_row n rest h in go a.0 (a.1 ∙ all) a.2 a.3
      where
        go : (fs : List Part) → length fs ≡ words + 1 → read_row bs ≡ got fs rest → fact_step valid row bs ≡ (fact_row valid row (fields fs) >>= λ f. Ok (f, rest)) → (f : Part) × (fs : List Part) × (length fs ≡ words) × (read_row bs ≡ got (f ∷ fs) rest) × (fact_step valid row bs ≡ (cond (ltb most_facts row) (refuse 11 row 0 Job) (fact_of valid row (f ∷ fs)) >>= λ x. Ok (x, rest)))
        go [] l r e = absurd (omega arith)
        go (f ∷ fs) l r e = (f, fs, omega arith, r, e ∙ rw (eq-eqb (suc (length fs)) (words + 1) l) refl)

    pub step-late : n ≡ words + 1 → ltb most_facts row ≡ true → refuse 11 row 0 Job ≡ fact_step valid row bs
    step-late all late = let a = even all in sym (a.4 ∙ rw late refl)

    judged : n ≡ words + 1 → ltb most_facts row ≡ false → fact_step valid row bs ≡ (fact_at valid row bs >>= λ x. Ok (x, rest))
    judged all few =
        let a = even all in
        a.4 ∙ rw few (ap (λ (r : Outcome Fact). r >>= λ x. Ok (x, rest)) (sym (fact_of-row valid row a.0 a.1 bs rest a.2 a.3)))

    pub step-refused : n ≡ words + 1 → ltb most_facts row ≡ false → (e : Refusal) → Err e ≡ fact_at valid row bs → Err e ≡ fact_step valid row bs
    step-refused all few e k = sym (judged all few ∙ rw (← k) refl)

    pub step-made : n ≡ words + 1 → ltb most_facts row ≡ false → (f : Fact) → Ok f ≡ fact_at valid row bs → Ok (f, rest) ≡ fact_step valid row bs
    step-made all few f k = sym (judged all few ∙ rw (← k) refl)

  pub step-other : None ≡ of_width (words + 1) (counted (read_row bs)) → refuse 7 row 0 Reader ≡ fact_step valid row bs
  step-other h = go (read_row bs) refl h
    where
      go : (r : Read (List Part)) → read_row bs ≡ r → None ≡ of_width (words + 1) (counted r) → refuse 7 row 0 Reader ≡ fact_step valid row bs
      go broken e k = step-broken (sym (ap counted e))
      go (got fs rest) e k = step_uneven (length fs) rest (sym (ap counted e)) (wide-none (words + 1) (length fs) (got (length fs) rest) rest k refl)
