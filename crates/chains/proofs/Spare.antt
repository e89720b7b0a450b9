-- The free rows, each of which names the next.
use Rattle.std.proofs.Common.{Option, ◌≡◌, ℕ, zero, suc, ◌<◌, ◌≤◌, true, ◌&&◌, ltb, List, length, get_or, set, refl, sym, ap, ◌∙◌, arith, length-set, get_or-set_other, get_or-set_same, Some, None}
use Rattle.std.proofs.lemmas.Bool.{and_parts, and_from, ltb-true, lt-ltb, false≢true}
use Rattle.facts.specs.declared.fact_types.Fact.{Fact}
use Rattle.stores.specs.Table.{Row}
use Rattle.chains.specs.Links.{is_free, frees}
use Rattle.chains.specs.Acts.{Within}

-- the first of some free rows
pub record First (R : List Row) (L : List (Option ℕ)) (i n : ℕ) : Type 0 where
  pub within : i < length R
  pub free : get_or R i None ≡ None
  pub rest : frees R L (get_or L i None) n ≡ true

free-row : (r : Row) → is_free r ≡ true → r ≡ None
free-row None e = refl
free-row (Some (l, f)) e = absurd (false≢true e)

pub first-free : (R : List Row) (L : List (Option ℕ)) (i n : ℕ) → frees R L (Some i) (suc n) ≡ true → First R L i n
first-free R L i n e =
    let p = and_parts (ltb i (length R) && is_free (get_or R i None)) (frees R L (get_or L i None) n) e in
    let q = and_parts (ltb i (length R)) (is_free (get_or R i None)) p.0 in
    record { within = ltb-true i (length R) q.0; free = free-row (get_or R i None) q.1; rest = p.1 }

-- where there is no first row, there is none
pub none-free : (R : List Row) (L : List (Option ℕ)) (o : Option ℕ) (n : ℕ) → o ≡ None → frees R L o n ≡ true → n ≡ 0
none-free R L None zero q e = refl
none-free R L None (suc n) q e = absurd (false≢true e)
none-free R L (Some i) n q e = let z : ◌≡◌ {A = ℕ} 0 1 = cc in absurd (omega arith)

pub frees_fits : (R : List Row) (L : List (Option ℕ)) (o : Option ℕ) (n m : ℕ) → length R ≤ m → frees R L o n ≡ true → Within o m
frees_fits R L None n m h e = tt
frees_fits R L (Some i) zero m h e = absurd (false≢true e)
frees_fits R L (Some i) (suc n) m h e = let w = (first-free R L i n e).within in omega arith

-- from one row there are always as many
pub frees_once : (R : List Row) (L : List (Option ℕ)) (o : Option ℕ) (n m : ℕ) → frees R L o n ≡ true → frees R L o m ≡ true → n ≡ m
frees_once R L None zero zero e h = refl
frees_once R L None zero (suc m) e h = absurd (false≢true h)
frees_once R L None (suc n) m e h = absurd (false≢true e)
frees_once R L (Some i) zero m e h = absurd (false≢true e)
frees_once R L (Some i) (suc n) zero e h = absurd (false≢true h)
frees_once R L (Some i) (suc n) (suc m) e h = ap suc (frees_once R L (get_or L i None) n m (first-free R L i n e).rest (first-free R L i m h).rest)

pub frees-more : (R : List Row) (L : List (Option ℕ)) (i n : ℕ) → i < length R → get_or R i None ≡ None → frees R L (get_or L i None) n ≡ true → frees R L (Some i) (suc n) ≡ true
frees-more R L i n h e f =
    and_from (ltb i (length R) && is_free (get_or R i None)) (frees R L (get_or L i None) n)
    (and_from (ltb i (length R)) (is_free (get_or R i None)) (lt-ltb i (length R) h) (ap is_free e)) f

-- the first row gets a pair: it does not stand among the rest, from which there are fewer
pub frees_fill : (R : List Row) (L M : List (Option ℕ)) (i : ℕ) (o : Option ℕ) (n m l : ℕ) (f : Fact) → ((j : ℕ) → (j ≡ i → ⊥) → j < length R → get_or R j None ≡ None → get_or M j None ≡ get_or L j None) → frees R L (Some i) (suc n) ≡ true → frees R L o m ≡ true → m ≤ n → frees (set R i (Some (l, f))) M o m ≡ true
frees_fill R L M i None n zero l f s e h b = refl
frees_fill R L M i None n (suc m) l f s e h b = h
frees_fill R L M i (Some k) n zero l f s e h b = h
frees_fill R L M i (Some k) n (suc m) l f s e h b =
    let q = first-free R L k m h in
    let ne : k ≡ i → ⊥ = (λ x. let y = frees_once R L (Some i) (suc n) (suc m) e (ap (λ (z : ℕ). frees R L (Some z) (suc m)) (sym x) ∙ h) in absurd (omega arith)) in
    let z = length-set R i (Some (l, f)) in
    let w = q.within in
    frees-more (set R i (Some (l, f))) M k m (omega arith) (get_or-set_other R i k (Some (l, f)) None ne ∙ q.free)
    (ap (λ (x : Option ℕ). frees (set R i (Some (l, f))) M x m) (s k ne w q.free) ∙ frees_fill R L M i (get_or L k None) n m l f s e q.rest (omega arith))

-- a row that is freed stands before the others
frees-other : (R : List Row) (L M : List (Option ℕ)) (i : ℕ) (o : Option ℕ) (n l : ℕ) (f : Fact) → ((j : ℕ) → (j ≡ i → ⊥) → j < length R → get_or R j None ≡ None → get_or M j None ≡ get_or L j None) → get_or R i None ≡ Some (l, f) → frees R L o n ≡ true → frees (set R i None) M o n ≡ true
frees-other R L M i None zero l f s e h = refl
frees-other R L M i None (suc n) l f s e h = h
frees-other R L M i (Some k) zero l f s e h = h
frees-other R L M i (Some k) (suc n) l f s e h =
    let q = first-free R L k n h in
    let ne : k ≡ i → ⊥ = (λ x. let y : ◌≡◌ {A = Row} None (Some (l, f)) = sym q.free ∙ ap (λ (z : ℕ). get_or R z None) x ∙ e in let v : ◌≡◌ {A = ℕ} 0 1 = cc in absurd (omega arith)) in
    let z = length-set R i None in
    let w = q.within in
    frees-more (set R i None) M k n (omega arith) (get_or-set_other R i k None None ne ∙ q.free)
    (ap (λ (x : Option ℕ). frees (set R i None) M x n) (s k ne w q.free) ∙ frees-other R L M i (get_or L k None) n l f s e q.rest)

pub frees-free : (R : List Row) (L M : List (Option ℕ)) (i : ℕ) (o : Option ℕ) (n l : ℕ) (f : Fact) → ((j : ℕ) → (j ≡ i → ⊥) → j < length R → get_or R j None ≡ None → get_or M j None ≡ get_or L j None) → get_or R i None ≡ Some (l, f) → i < length R → get_or M i None ≡ o → frees R L o n ≡ true → frees (set R i None) M (Some i) (suc n) ≡ true
frees-free R L M i o n l f s e w m h =
    let z = length-set R i None in
    frees-more (set R i None) M i n (omega arith) (get_or-set_same R i None None w) (ap (λ (x : Option ℕ). frees (set R i None) M x n) m ∙ frees-other R L M i o n l f s e h)

-- a row that has a pair gets another
pub frees-used : (R : List Row) (L : List (Option ℕ)) (i : ℕ) (o : Option ℕ) (n l m : ℕ) (f g : Fact) → get_or R i None ≡ Some (m, g) → frees R L o n ≡ true → frees (set R i (Some (l, f))) L o n ≡ true
frees-used R L i None zero l m f g e h = refl
frees-used R L i None (suc n) l m f g e h = h
frees-used R L i (Some k) zero l m f g e h = h
frees-used R L i (Some k) (suc n) l m f g e h =
    let q = first-free R L k n h in
    let ne : k ≡ i → ⊥ = (λ x. let y : ◌≡◌ {A = Row} None (Some (m, g)) = sym q.free ∙ ap (λ (z : ℕ). get_or R z None) x ∙ e in let v : ◌≡◌ {A = ℕ} 0 1 = cc in absurd (omega arith)) in
    let z = length-set R i (Some (l, f)) in
    let w = q.within in
    frees-more (set R i (Some (l, f))) L k n (omega arith) (get_or-set_other R i k (Some (l, f)) None ne ∙ q.free) (frees-used R L i (get_or L k None) n l m f g e q.rest)
