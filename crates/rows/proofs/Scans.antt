-- The scans of a field, step by step: what is left of the bytes gives the answer, behind what was passed.
use Rattle.std.proofs.Common.{◌≡◌, ℕ, zero, suc, ◌+◌, ◌-◌, ◌<◌, Bool, true, false, eqb, List, [], ◌∷◌, ◌++◌, length, get_or, take, drop, sym, refl, ap, ◌∙◌, append_assoc, append-nil, arith}
use Rattle.std.proofs.lemmas.List.{take_more, drop_more, get_or-drop, take_rest}
use Rattle.std.specs.List.{prefix_len}
use Rattle.rows.specs.Csv.{quote, text, loose, bare, Read, got, broken, before, read_bare, read_escaped, made, read_field}

before-none : (r : Read (List ℕ)) → before [] r ≡ r
before-none (got cs rest) = refl
before-none broken = refl

before_more : (xs ys : List ℕ) (r : Read (List ℕ)) → before xs (before ys r) ≡ before (xs ++ ys) r
before_more xs ys (got cs rest) = ap (λ (x : List ℕ). got x rest) (sym (append_assoc xs ys cs))
before_more xs ys broken = refl

-- the reading of the bytes is that of what is left behind the first i
abbrev pub Passed : (List ℕ → Read (List ℕ)) → List ℕ → ℕ → Type 0
Passed read bs i = read bs ≡ before (take i bs) (read (drop i bs))

pub passed_none : (read : List ℕ → Read (List ℕ)) (bs : List ℕ) → Passed read bs 0
passed_none read bs = sym (before-none (read bs))

-- one byte more
passed-more : (read : List ℕ → Read (List ℕ)) (bs : List ℕ) (i : ℕ) → i < length bs → read (get_or bs i 0 ∷ drop (i + 1) bs) ≡ before (get_or bs i 0 ∷ []) (read (drop (i + 1) bs)) → Passed read bs i → Passed read bs (i + 1)
passed-more read bs i h step p =
    p
    ∙ ap (λ (x : List ℕ). before (take i bs) (read x)) (drop_more bs i 0 h)
    ∙ ap (before (take i bs)) step
    ∙ before_more (take i bs) (get_or bs i 0 ∷ []) (read (drop (i + 1) bs))
    ∙ ap (λ (x : List ℕ). before x (read (drop (i + 1) bs))) (sym (take_more bs i 0 h))

-- text as it stands ---------------------------------------------------------------------------------------

bare_step : (t : Bool) (b : ℕ) (bs : List ℕ) → text b ≡ t → read_bare bs ≡ got (take (prefix_len text bs) bs) (drop (prefix_len text bs) bs) → read_bare (b ∷ bs) ≡ got (take (prefix_len text (b ∷ bs)) (b ∷ bs)) (drop (prefix_len text (b ∷ bs)) (b ∷ bs))
bare_step true b bs h e = let one : 1 + prefix_len text bs ≡ suc (prefix_len text bs) = omega arith in rw (h, e, one) refl
bare_step false b bs h e = rw h refl

-- the longest front of text is read
pub bare_prefix : (bs : List ℕ) → read_bare bs ≡ got (take (prefix_len text bs) bs) (drop (prefix_len text bs) bs)
bare_prefix [] = refl
bare_prefix (b ∷ bs) = bare_step (text b) b bs refl (bare_prefix bs)

-- between quotes --------------------------------------------------------------------------------------------

escaped-byte : (b : ℕ) (bs : List ℕ) → eqb b quote ≡ false → loose b ≡ true → read_escaped (b ∷ bs) ≡ before (b ∷ []) (read_escaped bs)
escaped-byte b [] q h = rw q
escaped-byte b (c ∷ bs) q h = rw (q, h)

escaped-other : (b : ℕ) (bs : List ℕ) → eqb b quote ≡ false → loose b ≡ false → read_escaped (b ∷ bs) ≡ broken
escaped-other b [] q h = rw q
escaped-other b (c ∷ bs) q h = rw (q, h)

lost : (bs : List ℕ) (i : ℕ) → read_escaped (drop i bs) ≡ broken → Passed read_escaped bs i → read_escaped bs ≡ broken
lost bs i e p = p ∙ ap (before (take i bs)) e

pub escaped-more : (bs : List ℕ) (i : ℕ) → i < length bs → eqb (get_or bs i 0) quote ≡ false → loose (get_or bs i 0) ≡ true → Passed read_escaped bs i → Passed read_escaped bs (i + 1)
escaped-more bs i h q t p = passed-more read_escaped bs i h (escaped-byte (get_or bs i 0) (drop (i + 1) bs) q t) p

pub escaped_bad : (bs : List ℕ) (i : ℕ) → i < length bs → eqb (get_or bs i 0) quote ≡ false → loose (get_or bs i 0) ≡ false → Passed read_escaped bs i → read_escaped bs ≡ broken
escaped_bad bs i h q t p = lost bs i (rw (drop_more bs i 0 h) (escaped-other (get_or bs i 0) (drop (i + 1) bs) q t)) p

two-more : (bs : List ℕ) (i : ℕ) → i + 1 < length bs → drop i bs ≡ get_or bs i 0 ∷ (get_or bs (i + 1) 0 ∷ drop (i + 2) bs)
two-more bs i h =
    let next : i + 1 + 1 ≡ i + 2 = omega arith in
    drop_more bs i 0 (omega arith) ∙ ap (λ (x : List ℕ). get_or bs i 0 ∷ x) (drop_more bs (i + 1) 0 h ∙ ap (λ (n : ℕ). get_or bs (i + 1) 0 ∷ drop n bs) next)

two-taken : (bs : List ℕ) (i : ℕ) → i + 1 < length bs → take (i + 2) bs ≡ take i bs ++ (get_or bs i 0 ∷ (get_or bs (i + 1) 0 ∷ []))
two-taken bs i h =
    let next : i + 2 ≡ i + 1 + 1 = omega arith in
    ap (λ (n : ℕ). take n bs) next
    ∙ take_more bs (i + 1) 0 h
    ∙ ap (λ (x : List ℕ). x ++ (get_or bs (i + 1) 0 ∷ [])) (take_more bs i 0 (omega arith))
    ∙ append_assoc (take i bs) (get_or bs i 0 ∷ []) (get_or bs (i + 1) 0 ∷ [])

-- past the end there is no quote
pub quote-within : (bs : List ℕ) (i : ℕ) → get_or bs i 0 ≡ quote → i < length bs
quote-within [] i q = absurd (omega arith)
quote-within (b ∷ bs) zero q = omega arith
quote-within (b ∷ bs) (suc i) q = omega (arith, quote-within bs i q)

pub escaped-doubled : (bs : List ℕ) (i : ℕ) → i + 1 < length bs → get_or bs i 0 ≡ quote → get_or bs (i + 1) 0 ≡ quote → Passed read_escaped bs i → Passed read_escaped bs (i + 2)
escaped-doubled bs i h q r p =
    let pair : get_or bs i 0 ∷ (get_or bs (i + 1) 0 ∷ drop (i + 2) bs) ≡ quote ∷ (quote ∷ drop (i + 2) bs) = rw (q, r) in
    let taken : take (i + 2) bs ≡ take i bs ++ (quote ∷ (quote ∷ [])) = two-taken bs i h ∙ rw (q, r) in
    p
    ∙ ap (λ (x : List ℕ). before (take i bs) (read_escaped x)) (two-more bs i h ∙ pair)
    ∙ before_more (take i bs) (quote ∷ (quote ∷ [])) (read_escaped (drop (i + 2) bs))
    ∙ ap (λ (x : List ℕ). before x (read_escaped (drop (i + 2) bs))) (sym taken)

shut : (bs : List ℕ) (i : ℕ) (rest : List ℕ) → read_escaped (drop i bs) ≡ got [] rest → Passed read_escaped bs i → read_escaped bs ≡ got (take i bs) rest
shut bs i rest e p = p ∙ ap (before (take i bs)) e ∙ ap (λ (x : List ℕ). got x rest) (append-nil (take i bs))

closed-by : (rest : List ℕ) → eqb (get_or rest 0 0) quote ≡ false → read_escaped (quote ∷ rest) ≡ got [] rest
closed-by [] q = refl
closed-by (c ∷ rest) q = rw q

pub escaped-closed : (bs : List ℕ) (i : ℕ) → i < length bs → get_or bs i 0 ≡ quote → eqb (get_or bs (i + 1) 0) quote ≡ false → Passed read_escaped bs i → read_escaped bs ≡ got (take i bs) (drop (i + 1) bs)
escaped-closed bs i h q r p =
    let behind : get_or (drop (i + 1) bs) 0 0 ≡ get_or bs (i + 1) 0 = get_or-drop (i + 1) bs 0 0 ∙ ap (λ (n : ℕ). get_or bs n 0) (omega arith) in
    shut bs i (drop (i + 1) bs) (rw (drop_more bs i 0 h, q) (closed-by (drop (i + 1) bs) (rw behind r))) p

-- what a slice pattern binds --------------------------------------------------------------------------------

pub bare-got : (bs part rest : List ℕ) → eqb (get_or bs 0 0) quote ≡ false → read_bare bs ≡ got part rest → read_field bs ≡ got (bare part) rest
bare-got [] part rest q e = ap (made bare) e
bare-got (b ∷ bs) part rest q e = rw q (ap (made bare) e)

-- two parts of a slice, as the code cuts them
pub as_cut : (r : Read (List ℕ)) (s : List ℕ) (i k : ℕ) → r ≡ got (take i s) (drop k s) → r ≡ got (take (i - 0) s) (take (length s - k) (drop k s))
as_cut r s i k e = let same : i - 0 ≡ i = omega arith in e ∙ rw (take_rest s k, same)
