-- Rows that numbers name, and the place of a label on a chain.
use Rattle.std.proofs.Common.{◌≡◌, ℕ, zero, suc, ◌<◌, Bool, true, false, ◌||◌, eqb, List, [], ◌∷◌, length, get_or, set, Some, None, Option, sym, refl, ap, ◌∙◌, ◌⊎◌, inl, inr, ⊎_elim, arith, get_or-set_other}
use Rattle.std.proofs.lemmas.Bool.{cases_eq, and_parts, false≢true}
use Rattle.std.proofs.lemmas.Bool.Decides.{nat_tests}
use Rattle.facts.specs.declared.fact_types.Fact.{Fact}
use Rattle.stores.specs.Lists.{all, rises}
use Rattle.stores.specs.Store.{Pair, label, fact, labels, read}
use Rattle.stores.specs.Piles.{sound_pair, sound}
use Rattle.stores.specs.Table.{Row, pairs_of, pile_of, absent, distinct}
use Rattle.stores.proofs.Pairs.{read-placed}
use Rattle.chains.specs.Links.{next_in, has_label, points}
use Rattle.chains.proofs.Nexts.{passes_at, beyond, at_most, is_it, next-passes, next-member}

-- equal rows have equal pairs
abbrev or_blank : Pair → Row → Pair
or_blank p None = p
or_blank p (Some q) = q

pub one_pair : (l m : ℕ) (f g : Fact) → ◌≡◌ {A = Row} (Some (l, f)) (Some (m, g)) → (l ≡ m) × (f ≡ g)
one_pair l m f g e = (ap (λ r. label (or_blank (l, f) r)) e, ap (λ r. fact (or_blank (l, f) r)) e)

-- a row that has a pair is within the table
pub used-within : (t : List Row) (i l : ℕ) (f : Fact) → get_or t i None ≡ Some (l, f) → i < length t
used-within [] zero l f e = let z : ◌≡◌ {A = ℕ} 0 1 = cc in absurd (omega arith)
used-within [] (suc i) l f e = let z : ◌≡◌ {A = ℕ} 0 1 = cc in absurd (omega arith)
used-within (r ∷ t) zero l f e = omega arith
used-within (r ∷ t) (suc i) l f e = let ih = used-within t i l f e in omega arith

used-absent : (t : List Row) (i l : ℕ) (f : Fact) → get_or t i None ≡ Some (l, f) → absent l t ≡ false
used-absent [] zero l f e = let z : ◌≡◌ {A = ℕ} 0 1 = cc in absurd (omega arith)
used-absent [] (suc i) l f e = let z : ◌≡◌ {A = ℕ} 0 1 = cc in absurd (omega arith)
used-absent (None ∷ t) zero l f e = grind (arith, nat_tests)
used-absent (Some (m, g) ∷ t) zero l f e = grind (arith, nat_tests)
used-absent (None ∷ t) (suc i) l f e = used-absent t i l f e
used-absent (Some (m, g) ∷ t) (suc i) l f e = let ih = used-absent t i l f e in grind (arith, nat_tests)

pub used-read : (t : List Row) (i l : ℕ) (f : Fact) → distinct t ≡ true → get_or t i None ≡ Some (l, f) → read l (pairs_of t) ≡ Some f
used-read [] i l f d e = let w = used-within [] i l f e in absurd (omega arith)
used-read (None ∷ t) zero l f d e = let z : ◌≡◌ {A = ℕ} 0 1 = cc in absurd (omega arith)
used-read (Some (m, g) ∷ t) zero l f d e = let r = read-placed l m g (pairs_of t) in grind (arith, nat_tests)
used-read (None ∷ t) (suc i) l f d e = used-read t i l f d e
used-read (Some (m, g) ∷ t) (suc i) l f d e =
    let ih = used-read t i l f (and_parts (absent m t) (distinct t) d).1 e in
    let a = used-absent t i l f e in
    let r = read-placed l m g (pairs_of t) in
    grind (arith, nat_tests)

-- a label has one row
pub one-row : (t : List Row) (i j l : ℕ) (f g : Fact) → distinct t ≡ true → get_or t i None ≡ Some (l, f) → get_or t j None ≡ Some (l, g) → i ≡ j
one-row [] i j l f g d e h = let w = used-within [] i l f e in absurd (omega arith)
one-row (r ∷ t) zero zero l f g d e h = refl
one-row (None ∷ t) zero (suc j) l f g d e h = let z : ◌≡◌ {A = ℕ} 0 1 = cc in absurd (omega arith)
one-row (Some (m, k) ∷ t) zero (suc j) l f g d e h = let a = used-absent t j l g h in grind (arith, nat_tests)
one-row (None ∷ t) (suc i) zero l f g d e h = let z : ◌≡◌ {A = ℕ} 0 1 = cc in absurd (omega arith)
one-row (Some (m, k) ∷ t) (suc i) zero l f g d e h = let a = used-absent t i l f e in grind (arith, nat_tests)
one-row (None ∷ t) (suc i) (suc j) l f g d e h = ap suc (one-row t i j l f g d e h)
one-row (Some (m, k) ∷ t) (suc i) (suc j) l f g d e h = ap suc (one-row t i j l f g (and_parts (absent m t) (distinct t) d).1 e h)

-- what a number names -----------------------------------------------------------------------------------------

-- a link to a row, or to none
pub named_or_none : (o : Option ℕ) → ((i : ℕ) × (o ≡ Some i)) ⊎ (o ≡ None)
named_or_none None = inr refl
named_or_none (Some i) = inl (i, refl)

pub names_or_not : (o : Option ℕ) (i : ℕ) → (o ≡ Some i) ⊎ (o ≡ Some i → ⊥)
names_or_not None i = inr (λ e. let z : ◌≡◌ {A = ℕ} 0 1 = cc in absurd (omega arith))
names_or_not (Some k) i = ⊎_elim (λ q. inl (ap (λ (n : ℕ). Some n) q)) (λ q. inr (λ e. q (ap (or_number k) e))) (cases_eq k i)
  where
    or_number : ℕ → Option ℕ → ℕ
    or_number n None = n
    or_number n (Some m) = m

pub named_as : (o : Option ℕ) (i j : ℕ) → o ≡ Some i → i ≡ j → o ≡ Some j
named_as o i j e q = rw (← q) e

pub points-within : (t : List Row) (i : ℕ) (o : Option ℕ) → points t (Some i) o ≡ true → i < length t
points-within t i None p = absurd (false≢true p)
points-within t i (Some n) p = go (get_or t i None) refl
  where
    go : (r : Row) → get_or t i None ≡ r → i < length t
    go None e = let z : has_label n (get_or t i None) ≡ false = ap (has_label n) e in absurd (false≢true (sym z ∙ p))
    go (Some (m, f)) e = used-within t i m f e

pub points-one : (t : List Row) (i o q : Option ℕ) → points t i o ≡ true → points t i q ≡ true → o ≡ q
points-one t i None None h k = refl
points-one t None None (Some n) h k = absurd (false≢true k)
points-one t (Some i) None (Some n) h k = absurd (false≢true h)
points-one t None (Some m) None h k = absurd (false≢true h)
points-one t (Some i) (Some m) None h k = absurd (false≢true k)
points-one t None (Some m) (Some n) h k = absurd (false≢true h)
points-one t (Some i) (Some m) (Some n) h k = go (get_or t i None) refl
  where
    go : (r : Row) → get_or t i None ≡ r → Some m ≡ Some n
    go None e = let z : has_label m (get_or t i None) ≡ false = rw e refl in absurd (false≢true (sym z ∙ h))
    go (Some (l, f)) e = grind (arith, nat_tests)

-- after a free row has got a pair
pub points_fill : (t : List Row) (i l : ℕ) (k : Option ℕ) (f : Fact) (o : Option ℕ) → get_or t i None ≡ None → points t k o ≡ true → points (set t i (Some (l, f))) k o ≡ true
points_fill t i l None f None e h = h
points_fill t i l None f (Some m) e h = h
points_fill t i l (Some k) f None e h = h
points_fill t i l (Some k) f (Some m) e h =
    ⊎_elim
    (λ q. let z : has_label m (get_or t k None) ≡ false = ap (λ x. has_label m (get_or t x None)) q ∙ ap (has_label m) e in absurd (false≢true (sym z ∙ h)))
    (λ q. rw (get_or-set_other t i k (Some (l, f)) None q) h)
    (cases_eq k i)

-- after a row is freed whose label is not the one that is named
pub points-free : (t : List Row) (i l : ℕ) (k : Option ℕ) (f : Fact) (o : Option ℕ) → get_or t i None ≡ Some (l, f) → is_it l o ≡ false → points t k o ≡ true → points (set t i None) k o ≡ true
points-free t i l None f None e n h = h
points-free t i l None f (Some m) e n h = h
points-free t i l (Some k) f None e n h = h
points-free t i l (Some k) f (Some m) e n h =
    ⊎_elim
    (λ q. let z : has_label m (get_or t k None) ≡ eqb l m = ap (λ x. has_label m (get_or t x None)) q ∙ ap (has_label m) e in grind (arith, nat_tests))
    (λ q. rw (get_or-set_other t i k None None q) h)
    (cases_eq k i)

-- a label of a chain, or 0, from which a chain begins
abbrev pub holds : (Pair → Bool) → ℕ → List Pair → Bool
holds t m ps = eqb m 0 || passes_at t m (read m ps)

pub all-read : (t : Pair → Bool) (m : ℕ) (g : Fact) (ps : List Pair) → all t ps ≡ true → read m ps ≡ Some g → t (m, g) ≡ true
all-read t m g [] a e = grind (arith, nat_tests)
all-read t m g (p ∷ ps) a e = let ih = all-read t m g ps in grind (arith, nat_tests)

pub owed-pairs : (t : List Row) → sound (pile_of t) ≡ true → all sound_pair (pairs_of t) ≡ true
owed-pairs t o = grind (arith, nat_tests)

-- labels begin at 1
pub used-sound : (t : List Row) (i l : ℕ) (f : Fact) → distinct t ≡ true → sound (pile_of t) ≡ true → get_or t i None ≡ Some (l, f) → sound_pair (l, f) ≡ true
used-sound t i l f d o e = all-read sound_pair l f (pairs_of t) (owed-pairs t o) (used-read t i l f d e)

-- two labels before a third: nothing of the chain stands between one of them and the third, so the other is the first of the two
pub not-place : (t : Pair → Bool) (l m n : ℕ) (ps : List Pair) → rises (labels ps) ≡ true → holds t m ps ≡ true → holds t n ps ≡ true → m < l → n < l → beyond l (next_in t n ps) ≡ true → (m ≡ n → ⊥) → at_most n (next_in t m ps) ≡ true
not-place t l m n ps r h k a b s e =
    let x = next-member t m n ps r in let y = next-member t n m ps r in grind (arith, nat_tests)

-- two labels with the same next one are the same
pub same-place : (t : Pair → Bool) (l m n : ℕ) (ps : List Pair) → rises (labels ps) ≡ true → holds t m ps ≡ true → holds t n ps ≡ true → next_in t m ps ≡ Some l → next_in t n ps ≡ Some l → m ≡ n
same-place t l m n ps r h k a b =
    let x = next-member t m n ps r in
    let y = next-member t n m ps r in
    let p = next-passes t m l ps r a in
    let q = next-passes t n l ps r b in
    grind (arith, nat_tests)
