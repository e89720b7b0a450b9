-- The loader's loop: the list has the facts of the rows so far, and what is left gives the rest.
use Rattle.std.proofs.Common.{◌≡◌, ℕ, suc, ◌+◌, ◌<◌, ◌≤◌, Bool, List, [], ◌∷◌, ◌++◌, length, ℤ, Some, None, Ok, Err, Option, sym, refl, ap, ◌∙◌, append_assoc, append-nil, length-append, set, arith}
use Rattle.facts.specs.declared.fact_types.Fact.{Fact}
use Rattle.std.specs.Result.{result_and}
use Rattle.facts_file.proofs.Facts.{file-read, file-was}
use Rattle.rows.proofs.Outcomes.{no_ok, same_ok, bind_ok}
use Rattle.rows.proofs.Rows.{rows_step, rows_end, row_shorter}
use Rattle.rows.specs.Csv.{Part, Read, got, broken, read_row, counted, Row, fields, malformed, behind_row, rows}
use Rattle.rows.specs.Refusals.{Outcome, refusal, ◌>>=◌}
use Rattle.facts_file.specs.Facts.{fact_row, fact_rows, fact_front, kept, facts_file, facts_before, over, FactsLoaded}
use Rattle.facts_file.specs.FactScan.{row_then, fact_step}
use Rattle.rows.specs.declared.refusal_types.Refusal.{Refusal}
use Rattle.rows.specs.declared.refusal_types.Layer.TheVariants.{Reader}

-- these facts, and then those that follow
abbrev pub facts_then : List Fact → Outcome (List Fact) → Outcome (List Fact)
facts_then fs (Ok gs) = Ok (fs ++ gs)
facts_then fs (Err e) = Err e

pub record Loading (valid : ℤ → Bool) (file : Option (List ℕ)) (facts items old : List Fact) (rest : List ℕ) : Type 0 where
  pub kept : items ≡ over facts old
  pub outcome : facts_file valid file ≡ facts_then facts (fact_rows valid (length facts + 1) (rows rest))
  pub front : facts_before valid file ≡ facts ++ fact_front valid (length facts + 1) (rows rest)

-- one fact more over the old entries
pub over_one : (fs old : List Fact) (f : Fact) → length fs < length (over fs old) → set (over fs old) (length fs) f ≡ over (fs ++ (f ∷ [])) old
over_one [] [] f few = absurd (omega (arith, few))
over_one [] (o ∷ os) f few = refl
over_one (g ∷ fs) [] f few = absurd (omega (arith, few, length-append fs []))
over_one (g ∷ fs) (o ∷ os) f few = ap (λ (x : List Fact). g ∷ x) (over_one fs os f (omega (arith, few)))

-- what one row does ---------------------------------------------------------------------------------------------

-- a fact was read: the row that it was read of
step-was : (valid : ℤ → Bool) (row : ℕ) (bs : List ℕ) (f : Fact) (more : List ℕ) → Ok (f, more) ≡ fact_step valid row bs → (fs : List Part) × (read_row bs ≡ got fs more) × (fact_row valid row (fields fs) ≡ Ok f)
unfolding fact_step
step-was valid row bs f more h = go (read_row bs) refl (sym h)
  where
    go : (r : Read (List Part)) → read_row bs ≡ r → row_then valid row r ≡ Ok (f, more) → (fs : List Part) × (read_row bs ≡ got fs more) × (fact_row valid row (fields fs) ≡ Ok f)
    go broken e k = absurd (no_ok _ (f, more) k)
    go (got fs rest) e k =
        let b = bind_ok (fact_row valid row (fields fs)) (λ x. Ok (x, rest)) (f, more) k in
        let pair : ◌≡◌ {A = Fact × List ℕ} (b.0, rest) (f, more) = same_ok (b.0, rest) (f, more) b.2 in
        (fs, e ∙ ap (got fs) (ap (λ (x : Fact × List ℕ). x.1) pair), b.1 ∙ ap (λ (x : Fact × List ℕ). Ok x.0) pair)

-- the rest of the rows, behind one that was read
rows_made : (valid : ℤ → Bool) (row : ℕ) (bs : List ℕ) (f : Fact) (more : List ℕ) → 1 ≤ length bs → Ok (f, more) ≡ fact_step valid row bs → (fact_rows valid row (rows bs) ≡ (fact_rows valid (suc row) (rows more) >>= λ gs. Ok (f ∷ gs))) × (fact_front valid row (rows bs) ≡ f ∷ fact_front valid (suc row) (rows more))
rows_made valid row bs f more some h =
    let w = step-was valid row bs f more h in
    let all : rows bs ≡ fields w.0 ∷ rows more = rows_step bs some ∙ ap (behind_row rows) w.1 in (
      ap (fact_rows valid row) all ∙ ap (λ (r : Outcome Fact). r >>= λ x. fact_rows valid (suc row) (rows more) >>= λ gs. Ok (x ∷ gs)) w.2,
      ap (fact_front valid row) all ∙ ap (λ (r : Outcome Fact). kept r (fact_front valid (suc row) (rows more))) w.2,
    )

pub made_shorter : (valid : ℤ → Bool) (row : ℕ) (bs : List ℕ) (f : Fact) (more : List ℕ) → 1 ≤ length bs → Ok (f, more) ≡ fact_step valid row bs → length more < length bs
made_shorter valid row bs f more some h = let w = step-was valid row bs f more h in row_shorter bs (length w.0) more some (sym (ap counted w.1))

err_at : {X Y : Type 0} (d e : Refusal) → ◌≡◌ {A = Outcome X} (Err d) (Err e) → ◌≡◌ {A = Outcome Y} (Err d) (Err e)
err_at d e h = let same : d ≡ e = cc in ap (λ (x : Refusal). Err x) same

-- the rest of the rows, where the first is refused
rows-refused : (valid : ℤ → Bool) (row : ℕ) (bs : List ℕ) (e : Refusal) → 1 ≤ length bs → Err e ≡ fact_step valid row bs → (fact_rows valid row (rows bs) ≡ Err e) × (fact_front valid row (rows bs) ≡ [])
unfolding fact_step
rows-refused valid row bs e some h = go (read_row bs) refl (sym h)
  where
    first : (fs : List Part) (rest : List ℕ) (r : Outcome Fact) → fact_row valid row (fields fs) ≡ r → ◌>>=◌ {Y = Fact × List ℕ} r (λ x. Ok (x, rest)) ≡ Err e → rows bs ≡ fields fs ∷ rows rest → (fact_rows valid row (rows bs) ≡ Err e) × (fact_front valid row (rows bs) ≡ [])
    first fs rest (Ok x) l k all = absurd (no_ok e (x, rest) (sym k))
    first fs rest (Err e') l k all =
        let same : e' ≡ e = cc in (
          ap (fact_rows valid row) all ∙ ap (λ (r : Outcome Fact). r >>= λ x. fact_rows valid (suc row) (rows rest) >>= λ gs. Ok (x ∷ gs)) l ∙ ap (λ (x : Refusal). Err x) same,
          ap (fact_front valid row) all ∙ ap (λ (r : Outcome Fact). kept r (fact_front valid (suc row) (rows rest))) l,
        )

    go : (r : Read (List Part)) → read_row bs ≡ r → row_then valid row r ≡ Err e → (fact_rows valid row (rows bs) ≡ Err e) × (fact_front valid row (rows bs) ≡ [])
    go broken l k =
        let all : rows bs ≡ malformed ∷ [] = rows_step bs some ∙ ap (behind_row rows) l in
        (ap (fact_rows valid row) all ∙ err_at (refusal 7 row 0 Reader) e k, ap (fact_front valid row) all)
    go (got fs rest) l k = first fs rest (fact_row valid row (fields fs)) refl k (rows_step bs some ∙ ap (behind_row rows) l)

-- the loop ------------------------------------------------------------------------------------------------------

then_one : (fs : List Fact) (f : Fact) (r : Outcome (List Fact)) → facts_then fs (r >>= λ gs. Ok (f ∷ gs)) ≡ facts_then (fs ++ (f ∷ [])) r
then_one fs f (Ok gs) = ap (λ (x : List Fact). Ok x) (sym (append_assoc fs (f ∷ []) gs))
then_one fs f (Err e) = refl

module _ (valid : ℤ → Bool) (file : Option (List ℕ)) (facts items old : List Fact) (rest : List ℕ) (inv : Loading valid file facts items old rest) where
  pub loading_more : (f : Fact) (more : List ℕ) → length facts < length items → 1 ≤ length rest → Ok (f, more) ≡ fact_step valid (length facts + 1) rest → Loading valid file (facts ++ (f ∷ [])) (set items (length facts) f) old more
  loading_more f more room some h =
      let made = rows_made valid (length facts + 1) rest f more some h in
      let next : suc (length facts + 1) ≡ length (facts ++ (f ∷ [])) + 1 = omega (arith, length-append facts (f ∷ [])) in
      record {
        kept = rw inv.kept (over_one facts old f (rw inv.kept at room));
        outcome =
            inv.outcome
            ∙ ap (facts_then facts) made.0
            ∙ then_one facts f (fact_rows valid (suc (length facts + 1)) (rows more))
            ∙ ap (λ (n : ℕ). facts_then (facts ++ (f ∷ [])) (fact_rows valid n (rows more))) next;
        front =
            inv.front
            ∙ ap (λ (x : List Fact). facts ++ x) made.1
            ∙ sym (append_assoc facts (f ∷ []) (fact_front valid (suc (length facts + 1)) (rows more)))
            ∙ ap (λ (n : ℕ). facts ++ (f ∷ []) ++ fact_front valid n (rows more)) next;
      }

  pub loading_refused : (e : Refusal) → 1 ≤ length rest → Err e ≡ fact_step valid (length facts + 1) rest → (Err e ≡ facts_file valid file) × (facts ≡ facts_before valid file) × (items ≡ over (facts_before valid file) old)
  loading_refused e some h =
      let r = rows-refused valid (length facts + 1) rest e some h in
      let front = sym (inv.front ∙ ap (λ (x : List Fact). facts ++ x) r.1 ∙ append-nil facts) in
      (sym (inv.outcome ∙ ap (facts_then facts) r.0), front, inv.kept ∙ ap (λ (x : List Fact). over x old) front)

  pub loading_all : length rest ≤ 0 → (Ok facts ≡ facts_file valid file) × (facts ≡ facts_before valid file) × (items ≡ over (facts_before valid file) old)
  loading_all none =
      let end : rows rest ≡ [] = rows_end rest none in
      let front = sym (inv.front ∙ ap (λ (x : List Row). facts ++ fact_front valid (length facts + 1) x) end ∙ append-nil facts) in (
        sym (inv.outcome ∙ ap (λ (x : List Row). facts_then facts (fact_rows valid (length facts + 1) x)) end ∙ ap (λ (x : List Fact). Ok x) (append-nil facts)),
        front,
        inv.kept ∙ ap (λ (x : List Fact). over x old) front,
      )

-- the whole file --------------------------------------------------------------------------------------------------

-- what is accepted, and with which facts
pub accepted : (r : Outcome (Unit {0})) (fs gs : List Fact) → result_and r (Ok fs) ≡ Ok gs → (r ≡ Ok tt) × (fs ≡ gs)
accepted (Ok u) fs gs h = (refl, same_ok fs gs h)
accepted (Err e) fs gs h = absurd (no_ok e gs h)

pub loaded_so : (valid : ℤ → Bool) (file : Option (List ℕ)) (r : Outcome (Unit {0})) (facts : List Fact) → result_and r (Ok facts) ≡ facts_file valid file → FactsLoaded valid file r facts
loaded_so valid None (Ok u) facts h = absurd (no_ok _ facts (sym h))
loaded_so valid None (Err e) facts h = err_at e (refusal 7 0 0 Reader) h
loaded_so valid (Some bs) r facts h =
    record {
      reads = λ fs w. accepted r facts fs (h ∙ file-read valid fs bs w);
      was = λ e. file-was valid facts bs (sym h ∙ ap (λ (x : Outcome (Unit {0})). result_and x (Ok facts)) e);
    }
