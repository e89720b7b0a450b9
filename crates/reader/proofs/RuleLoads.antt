-- The loader of rules: a row's six fields, and its loop over the rows.
use Rattle.std.proofs.Common.{◌≡◌, ℕ, suc, ◌+◌, ◌<◌, ◌≤◌, Bool, List, [], ◌∷◌, map, length, ℤ, Some, None, Ok, Err, Option, sym, refl, ap, ◌∙◌, arith}
use Rattle.std.specs.Result.{result_and}
use Rattle.std.proofs.lemmas.Bool.{eq-eqb, ne_eqb}
use Rattle.rules.specs.Rules.{Rule}
use Rattle.rows.specs.Csv.{Part, content, Read, got, broken, read_row, counted, of_width, behind_row, rows}
use Rattle.rows.specs.Refusals.{Outcome, refuse, ◌>>=◌}
use Rattle.rules_file.specs.RuleRefusals.{NamedRules}
use Rattle.rules_file.specs.RuleRows.{State, no_rule, word, at, write_word, write_row, write_rows, rules_file}
use Rattle.reader.specs.RuleScan.{cells, with_text, text_then, texts_at, SixFields, NotSix}
use Rattle.reader.specs.declared.row_types.RuleRow.{RuleRow}
use Rattle.rows.specs.declared.refusal_types.Layer.TheVariants.{Reader}
use Rattle.rows.specs.declared.refusal_types.Refusal.{Refusal}
use Rattle.rules_file.proofs.NamedRules.{rules-named}
use Rattle.rows.proofs.Sorted.{GoesOn, goes, first_field}
use Rattle.rows.proofs.Rows.{counted-got, rows_step, rows_end, row_shorter, wide-got}

-- the six fields of a row ------------------------------------------------------------------------------------------------

texts_of_row : (fs : List Part) (bs end : List ℕ) → GoesOn fs bs end → texts_at (length fs) bs ≡ Some (map content fs)
unfolding texts_at
texts_of_row [] bs end g = refl
texts_of_row (f ∷ fs) bs end g =
    let w = first_field f fs bs end g in
    ap (text_then (texts_at (length fs))) w.1 ∙ ap (with_text (content f)) (texts_of_row fs w.0 end w.2)

six_texts : (fs : List Part) (bs end : List ℕ) → read_row bs ≡ got fs end → length fs ≡ 6 → texts_at 6 bs ≡ Some (map content fs)
six_texts fs bs end e l = ap (λ (n : ℕ). texts_at n bs) (sym l) ∙ texts_of_row fs bs end (goes fs bs end e)

module _ (row : ℕ) (bs : List ℕ) where
  module _ (rest : List ℕ) (wide : Some rest ≡ of_width 6 (counted (read_row bs))) where
    six_parts : (fs : List Part) × (read_row bs ≡ got fs rest) × (length fs ≡ 6)
    six_parts = counted-got (read_row bs) 6 rest (sym (wide-got 6 (counted (read_row bs)) rest wide))

    pub six-none : None ≡ texts_at 6 bs → ⊥
    six-none t =
        let c = six_parts in
        let z : None ≡ Some (map content c.0) = t ∙ six_texts c.0 bs rest c.1 c.2 in
        let y : ◌≡◌ {A = ℕ} 0 1 = cc in omega arith

    pub six-made : (r : RuleRow) → Some (cells r) ≡ texts_at 6 bs → r.row ≡ row → SixFields row bs rest r
    six-made r t q =
        let c = six_parts in
        let z : Some (cells r) ≡ Some (map content c.0) = t ∙ six_texts c.0 bs rest c.1 c.2 in
        record { parts = c.0; was = c.1; six = c.2; as_cells = (cc); same_row = q }

-- the loop ----------------------------------------------------------------------------------------------------------------

-- what is left gives the outcome of the whole
pub record LoadingRules (valid : ℤ → Bool) (bs : List ℕ) (st : State) (row : ℕ) (rest : List ℕ) : Type 0 where
  pub outcome : write_rows valid 1 no_rule (rows bs) ≡ write_rows valid row st (rows rest)
  pub few : row + length rest ≤ length bs + 1

module _ (valid : ℤ → Bool) (bs : List ℕ) (st : State) (row : ℕ) (rest : List ℕ) (inv : LoadingRules valid bs st row rest) (some : 1 ≤ length rest) where
  pub row-refused : NotSix (read_row rest) → refuse 7 row 0 Reader ≡ write_rows valid 1 no_rule (rows bs)
  unfolding write_row
  row-refused n = sym (inv.outcome ∙ ap (write_rows valid row st) (rows_step rest some) ∙ go (read_row rest) n)
    where
      go : (r : Read (List Part)) → NotSix r → write_rows valid row st (behind_row rows r) ≡ refuse 7 row 0 Reader
      go (got fs more) other = rw (ne_eqb (length fs) 6 other)
      go broken u = refl

  module _ (r : RuleRow) (more : List ℕ) (s : SixFields row rest more r) where
    at_row : write_rows valid 1 no_rule (rows bs) ≡ (write_word valid (r.row) (cells r) st (word (at 1 (cells r))) >>= λ next. write_rows valid (suc row) next (rows more))
    unfolding write_row
    at_row =
        inv.outcome
        ∙ ap (write_rows valid row st) (rows_step rest some ∙ ap (behind_row rows) s.was)
        ∙ rw (eq-eqb (length s.parts) 6 s.six) refl
        ∙ ap (λ (cs : List (List ℕ)). write_word valid row cs st (word (at 1 cs)) >>= λ next. write_rows valid (suc row) next (rows more)) (sym s.as_cells)
        ∙ ap (λ (n : ℕ). write_word valid n (cells r) st (word (at 1 (cells r))) >>= λ next. write_rows valid (suc row) next (rows more)) (sym s.same_row)

    pub word-refused : (e : Refusal) → Err e ≡ write_word valid (r.row) (cells r) st (word (at 1 (cells r))) → Err e ≡ write_rows valid 1 no_rule (rows bs)
    word-refused e h = sym (at_row ∙ rw (← h) refl)

    pub word-written : (new : State) → Ok new ≡ write_word valid (r.row) (cells r) st (word (at 1 (cells r))) → LoadingRules valid bs new (row + 1) more
    word-written new h =
        let next : suc row ≡ row + 1 = omega arith in
        let less : length more < length rest = row_shorter rest (length s.parts) more some (sym (ap counted s.was)) in
        record {
          outcome = at_row ∙ rw (← h) (ap (λ (n : ℕ). write_rows valid n new (rows more)) next);
          few = omega (arith, inv.few);
        }

    pub row-less : length more < length rest
    row-less = row_shorter rest (length s.parts) more some (sym (ap counted s.was))

pub rules-end : (valid : ℤ → Bool) (bs : List ℕ) (st : State) (row : ℕ) (rest : List ℕ) → LoadingRules valid bs st row rest → length rest ≤ 0 → write_rows valid 1 no_rule (rows bs) ≡ write_rows valid row st []
rules-end valid bs st row rest inv none = inv.outcome ∙ ap (write_rows valid row st) (rows_end rest none)

-- a whole file ---------------------------------------------------------------------------------------------------------------

pub load-named : (valid : ℤ → Bool) (file : Option (List ℕ)) (r : Outcome (Unit {0})) (rules : List Rule) → result_and r (Ok rules) ≡ rules_file valid file → NamedRules r
load-named valid file (Ok u) rules h = tt
load-named valid file (Err e) rules h = rules-named valid file (Err e) h
