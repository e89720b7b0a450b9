-- Rows, field by field and row by row: what is left of the bytes gives the answer, behind what was counted.
use Rattle.std.proofs.lemmas.Bool.{eq-eqb, eqb-true}
use Rattle.std.proofs.Common.{◌≡◌, ℕ, suc, ◌+◌, ◌<◌, ◌≤◌, ◌⊎◌, Bool, true, false, cond, eqb, Some, None, List, [], ◌∷◌, ◌++◌, map, length, Ok, Err, Result, sym, refl, ap, ◌∙◌, subst, inl, inr, arith, length-append}
use Rattle.rows.specs.Csv.{comma, cr, lf, Part, FieldWritten, Ends, Separates, BeginsField, behind, separated, read_separated, Read, got, broken, read_field, Next, file_ends, next_field, next_row, neither, next, with_field, go_on, behind_field, read_row, counted, of_width, RowGrammar, Row, fields, malformed, behind_row, rows, one_more, row_count, Written, Faulty, FileGrammar}
use Rattle.rows.specs.Fields.{Shape, sorted_as, placed, FieldGrammar}
use Rattle.rows.specs.declared.field_types.Place.{Place}
use Rattle.rows.proofs.Csv.{field-read, field-was, next-comma, Follows, next-was, row_unbounded, rows_unbounded, tail_shorter, no-got, reads-written, written_read}
use Rattle.rows.proofs.Malformed.{begins-got, row-parts, row-begins, read_either_way, malformed-reads, malformed-was}

-- so many fields before those counted
abbrev pub ahead : ℕ → Read ℕ → Read ℕ
ahead n (got m rest) = got (n + m) rest
ahead n broken = broken

ahead_with : (n : ℕ) (f : Part) (r : Read (List Part)) → ahead n (counted (with_field f r)) ≡ ahead (n + 1) (counted r)
ahead_with n f (got fs rest) = ap (λ (x : ℕ). got x rest) (omega arith)
ahead_with n f broken = refl

-- what a row's first field makes of the count, by what follows it
abbrev Counts : ℕ → Part → List ℕ → Next → Type 0
Counts n f bs x = ahead n (counted (read_row bs)) ≡ ahead n (counted (go_on read_row f x))

counts : (n : ℕ) (bs : List ℕ) (f : Part) (t : List ℕ) → read_field bs ≡ got f t → Counts n f bs (next t)
counts n bs f t h = ap (λ (r : Read (List Part)). ahead n (counted r)) (row_unbounded bs ∙ ap (behind_field read_row) h)

-- where the file ends nothing is left
pub file-end : (t : List ℕ) → file_ends ≡ next t → t ≡ []
file-end t e = subst (Follows t) (sym e) (next-was t)

module _ (whole : Read ℕ) (n : ℕ) (bs : List ℕ) (f : Part) (t : List ℕ) (h : read_field bs ≡ got f t) (inv : whole ≡ ahead n (counted (read_row bs))) where
  pub count-more : (more : List ℕ) → next_field more ≡ next t → whole ≡ ahead (n + 1) (counted (read_row more))
  count-more more e = inv ∙ counts n bs f t h ∙ ap (λ (x : Next). ahead n (counted (go_on read_row f x))) (sym e) ∙ ahead_with n f (read_row more)

  pub count-row : (more : List ℕ) → next_row more ≡ next t → got (n + 1) more ≡ whole
  count-row more e = sym (inv ∙ counts n bs f t h ∙ ap (λ (x : Next). ahead n (counted (go_on read_row f x))) (sym e))

  pub count-file : file_ends ≡ next t → got (n + 1) t ≡ whole
  count-file e = rw (file-end t e) (sym (inv ∙ counts n bs f t h ∙ ap (λ (x : Next). ahead n (counted (go_on read_row f x))) (sym e)))

  pub count-neither : neither ≡ next t → broken ≡ whole
  count-neither e = sym (inv ∙ counts n bs f t h ∙ ap (λ (x : Next). ahead n (counted (go_on read_row f x))) (sym e))

pub count-broken : (whole : Read ℕ) (n : ℕ) (bs : List ℕ) → read_field bs ≡ broken → whole ≡ ahead n (counted (read_row bs)) → broken ≡ whole
count-broken whole n bs h inv = sym (inv ∙ ap (λ (r : Read (List Part)). ahead n (counted r)) (row_unbounded bs ∙ ap (behind_field read_row) h))

-- a field and the comma behind it leave fewer bytes
pub field_shorter : (bs : List ℕ) (f : Part) (t more : List ℕ) → read_field bs ≡ got f t → next_field more ≡ next t → length more < length bs
field_shorter bs f t more h e =
    let w = field-was bs f t h in
    let a = subst (Follows t) (sym e) (next-was t) in
    omega (arith, ap length a, ap length w.2, length-append w.0 t)

-- the grammar of a counted row --------------------------------------------------------------------------------

pub counted-got : (r : Read (List Part)) (n : ℕ) (rest : List ℕ) → counted r ≡ got n rest → (fs : List Part) × (r ≡ got fs rest) × (length fs ≡ n)
counted-got (got fs rest') n rest e =
    let same : rest' ≡ rest = cc in
    let long : length fs ≡ n = cc in
    (fs, ap (got fs) same, long)
counted-got broken n rest e = absurd (no-got n rest e)

pub counted-broken : (r : Read (List Part)) → counted r ≡ broken → r ≡ broken
counted-broken (got fs rest) e = absurd (no-got (length fs) rest (sym e))
counted-broken broken e = refl

row_grammar : (bs : List ℕ) → RowGrammar bs (counted (read_row bs))
row_grammar bs =
    record {
      reads = λ fs rest b. let g = begins-got b in (g, ap counted g);
      was = λ n rest e. let c = counted-got (read_row bs) n rest e in (c.0, row-begins bs c.0 rest c.1, c.2);
      none = λ e fs rest b. no-got (length fs) rest (sym e ∙ ap counted (begins-got b));
    }

pub row_read_so : (bs : List ℕ) (r : Read ℕ) → r ≡ counted (read_row bs) → RowGrammar bs r
row_read_so bs r e = subst (RowGrammar bs) (sym e) (row_grammar bs)

-- the rows of a file ------------------------------------------------------------------------------------------

-- so many rows before those counted
abbrev pub past : ℕ → Result ℕ ℕ → Result ℕ ℕ
past n (Ok m) = Ok (n + m)
past n (Err m) = Err (n + m)

past_one : (n : ℕ) (r : Result ℕ ℕ) → past n (one_more r) ≡ past (n + 1) r
past_one n (Ok m) = ap (λ (x : ℕ). Ok x) (omega arith)
past_one n (Err m) = ap (λ (x : ℕ). Err x) (omega arith)

pub rows_step : (bs : List ℕ) → 1 ≤ length bs → rows bs ≡ behind_row rows (read_row bs)
rows_step [] l = absurd (omega arith)
rows_step (b ∷ bs) l = rows_unbounded b bs

-- a row leaves fewer bytes
pub row_shorter : (bs : List ℕ) (n : ℕ) (more : List ℕ) → 1 ≤ length bs → got n more ≡ counted (read_row bs) → length more < length bs
row_shorter [] n more l e = absurd (omega arith)
row_shorter (b ∷ bs) n more l e =
    let c = counted-got (read_row (b ∷ bs)) n more (sym e) in
    let w = row-parts (b ∷ bs) c.0 more c.1 in
    omega (arith, tail_shorter b bs w.0 w.3 w.4)

module _ (whole : Result ℕ ℕ) (n : ℕ) (bs : List ℕ) (some : 1 ≤ length bs) (inv : whole ≡ past n (row_count (rows bs))) where
  pub rows_more : (m : ℕ) (more : List ℕ) → got m more ≡ counted (read_row bs) → whole ≡ past (n + 1) (row_count (rows more))
  rows_more m more e =
      let c = counted-got (read_row bs) m more (sym e) in
      inv
      ∙ ap (λ (x : List Row). past n (row_count x)) (rows_step bs some ∙ ap (behind_row rows) c.1)
      ∙ past_one n (row_count (rows more))

  pub rows_fault : broken ≡ counted (read_row bs) → Err (n + 1) ≡ whole
  rows_fault e = sym (inv ∙ ap (λ (x : List Row). past n (row_count x)) (rows_step bs some ∙ ap (behind_row rows) (counted-broken (read_row bs) (sym e))))

pub rows_end : (bs : List ℕ) → length bs ≤ 0 → rows bs ≡ []
unfolding rows
rows_end [] l = refl
rows_end (b ∷ bs) l = absurd (omega arith)

pub rows_all : (whole : Result ℕ ℕ) (n : ℕ) (bs : List ℕ) → length bs ≤ 0 → whole ≡ past n (row_count (rows bs)) → Ok n ≡ whole
rows_all whole n bs l inv = sym (inv ∙ ap (λ (x : List Row). past n (row_count x)) (rows_end bs l) ∙ ap (λ (x : ℕ). Ok x) (omega arith))

-- the grammar of counted rows ---------------------------------------------------------------------------------

count_of : (rs : List (List Part)) → row_count (map fields rs) ≡ Ok (length rs)
count_of [] = refl
count_of (fs ∷ rs) = ap one_more (count_of rs)

fault_of_lem : (rs : List (List Part)) → row_count (map fields rs ++ (malformed ∷ [])) ≡ Err (suc (length rs))
fault_of_lem [] = refl
fault_of_lem (fs ∷ rs) = ap one_more (fault_of_lem rs)

ok_err : (m n : ℕ) → ◌≡◌ {A = Result ℕ ℕ} (Ok m) (Err n) → ⊥
ok_err m n e = let z : ◌≡◌ {A = ℕ} 0 1 = cc in omega arith

same_ok : (m n : ℕ) → ◌≡◌ {A = Result ℕ ℕ} (Ok m) (Ok n) → m ≡ n
same_ok m n e = cc

same_err : (m n : ℕ) → ◌≡◌ {A = Result ℕ ℕ} (Err m) (Err n) → m ≡ n
same_err m n e = cc

file_grammar : (bs : List ℕ) → FileGrammar bs (row_count (rows bs))
file_grammar bs =
    record {
      reads = λ rs w. let e = reads-written rs bs w in (e, ap row_count e ∙ count_of rs);
      was = λ n e. ok_was n e (read_either_way bs);
      reads_fault = λ rs f. let e = malformed-reads rs bs f in (e, ap row_count e ∙ fault_of_lem rs);
      fault_was = λ n e. err_was n e (read_either_way bs);
    }
  where
    ok_was : (n : ℕ) → row_count (rows bs) ≡ Ok n → ((rs : List (List Part)) × (rows bs ≡ map fields rs)) ⊎ ((rs : List (List Part)) × (rows bs ≡ map fields rs ++ (malformed ∷ []))) → (rs : List (List Part)) × Written rs bs × (rows bs ≡ map fields rs) × (length rs ≡ n)
    ok_was n e (inl x) = (x.0, written_read x.0 bs x.1, x.1, same_ok (length x.0) n (sym (ap row_count x.1 ∙ count_of x.0) ∙ e))
    ok_was n e (inr x) = absurd (ok_err n (suc (length x.0)) (sym e ∙ ap row_count x.1 ∙ fault_of_lem x.0))

    err_was : (n : ℕ) → row_count (rows bs) ≡ Err n → ((rs : List (List Part)) × (rows bs ≡ map fields rs)) ⊎ ((rs : List (List Part)) × (rows bs ≡ map fields rs ++ (malformed ∷ []))) → (rs : List (List Part)) × Faulty rs bs × (rows bs ≡ map fields rs ++ (malformed ∷ [])) × (suc (length rs) ≡ n)
    err_was n e (inl x) = absurd (ok_err (length x.0) n (sym (ap row_count x.1 ∙ count_of x.0) ∙ e))
    err_was n e (inr x) = (x.0, malformed-was x.0 bs x.1, x.1, same_err (suc (length x.0)) n (sym (ap row_count x.1 ∙ fault_of_lem x.0) ∙ e))

pub file_read_so : (bs : List ℕ) (r : Result ℕ ℕ) → r ≡ row_count (rows bs) → FileGrammar bs r
file_read_so bs r e = subst (FileGrammar bs) (sym e) (file_grammar bs)

-- a field and what separates it ---------------------------------------------------------------------------------

separated-reads : (f : Part) (rest bs : List ℕ) → BeginsField f rest bs → read_separated bs ≡ got f rest
separated-reads f rest bs b = ap read_separated b.whole ∙ by b.separates
  where
    by : {end rest : List ℕ} → Separates end rest → read_separated (b.front ++ end) ≡ got f rest
    by (Separates.row (Ends.file)) = ap separated (field-read [] b.written tt)
    by (Separates.row (Ends.line {bs = more})) = ap separated (field-read (cr ∷ (lf ∷ more)) b.written (refl, refl))
    by (Separates.field {bs = more}) = ap separated (field-read (comma ∷ more) b.written (refl, refl)) ∙ ap (behind f) (next-comma more)

separated-was : (f : Part) (rest bs : List ℕ) → read_separated bs ≡ got f rest → BeginsField f rest bs
separated-was f rest bs e = start (read_field bs) refl e
  where
    begins : (p : Part) (t more : List ℕ) → read_field bs ≡ got p t → Separates t more → got p more ≡ got f rest → BeginsField f rest bs
    begins p t more h s k =
        let w = field-was bs p t h in
        let part : p ≡ f = cc in
        let behind : more ≡ rest = cc in
        record { front = w.0; end = t; written = subst (λ (x : Part). FieldWritten x w.0) part w.1; separates = subst (Separates t) behind s; whole = w.2 }

    by : (p : Part) (t : List ℕ) (x : Next) → read_field bs ≡ got p t → Follows t x → behind p x ≡ got f rest → BeginsField f rest bs
    by p t file_ends h a k = begins p t [] h (subst (λ (y : List ℕ). Separates y []) (sym a) (Separates.row Ends.file)) k
    by p t (next_field more) h a k = begins p t more h (subst (λ (y : List ℕ). Separates y more) (sym a) Separates.field) k
    by p t (next_row more) h a k = begins p t more h (subst (λ (y : List ℕ). Separates y more) (sym a) (Separates.row Ends.line)) k
    by p t neither h a k = absurd (no-got f rest k)

    start : (r : Read Part) → read_field bs ≡ r → separated r ≡ got f rest → BeginsField f rest bs
    start (got p t) h k = by p t (next t) h (next-was t) k
    start broken h k = absurd (no-got f rest k)

pub placed-was : (place : Place) (s : Shape) (rest : List ℕ) (r : Read Part) → placed place r ≡ got s rest → (f : Part) × (r ≡ got f rest) × (s ≡ sorted_as place f)
placed-was place s rest (got f rest') e =
    let same : rest' ≡ rest = cc in
    let sorted : s ≡ sorted_as place f = cc in
    (f, ap (got f) same, sorted)
placed-was place s rest broken e = absurd (no-got s rest e)

pub placed-broken : (place : Place) (r : Read Part) → broken ≡ placed place r → r ≡ broken
placed-broken place (got f rest) e = absurd (no-got (sorted_as place f) rest e)
placed-broken place broken e = refl

pub field_read_so : (place : Place) (bs : List ℕ) (r : Read Shape) → r ≡ placed place (read_separated bs) → FieldGrammar place bs r
field_read_so place bs r e =
    record {
      reads = λ f rest b. e ∙ ap (placed place) (separated-reads f rest bs b);
      was = λ s rest h. let w = placed-was place s rest (read_separated bs) (sym e ∙ h) in (w.0, separated-was w.0 rest bs w.1, w.2);
      none = λ h f rest b. no-got (sorted_as place f) rest (sym h ∙ e ∙ ap (placed place) (separated-reads f rest bs b));
    }

-- a row of so many fields -------------------------------------------------------------------------------------------

pub wide-got : (n : ℕ) (r : Read ℕ) (rest : List ℕ) → Some rest ≡ of_width n r → got n rest ≡ r
wide-got n (got m more) rest h = go (eqb m n) refl h
  where
    go : (t : Bool) → eqb m n ≡ t → Some rest ≡ cond t (Some more) None → got n rest ≡ got m more
    go true e h = let same : m ≡ n = eqb-true m n e in let left : rest ≡ more = cc in cc
    go false e h = let z : ◌≡◌ {A = ℕ} 0 1 = cc in absurd (omega arith)
wide-got n broken rest h = let z : ◌≡◌ {A = ℕ} 0 1 = cc in absurd (omega arith)

pub wide-none : (n m : ℕ) (r : Read ℕ) (rest : List ℕ) → None ≡ of_width n r → r ≡ got m rest → m ≡ n → ⊥
wide-none n m r rest h e same =
    let met : of_width n r ≡ Some rest = rw (e, eq-eqb m n same) refl in
    let apart : None ≡ Some rest = h ∙ met in
    let z : ◌≡◌ {A = ℕ} 0 1 = cc in omega arith
