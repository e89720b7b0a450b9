-- The first label above another whose pair passes a test: after a placing and a taking out, and beside other bounds and tests.
use Rattle.std.proofs.Common.{◌≡◌, ℕ, ◌<◌, ◌≤◌, Bool, true, false, cond, ◌&&◌, eqb, ltb, leb, List, [], ◌∷◌, Some, None, Option, refl, arith}
use Rattle.std.proofs.lemmas.Bool.Decides.{nat_tests}
use Rattle.facts.specs.declared.fact_types.Fact.{Fact}
use Rattle.stores.specs.Lists.{all, rises}
use Rattle.stores.specs.Store.{Pair, label, fact, labels, read, next_that, placed, taken_out}
use Rattle.stores.proofs.Pairs.{above, all_above, read_above, least, taken-missing}
use Rattle.chains.specs.Links.{next_in}

pub next_in_that : (t : Fact → Bool) (a : ℕ) (ps : List Pair) → next_that t a ps ≡ next_in (λ p. t (fact p)) a ps
next_in_that t a [] = refl
next_in_that t a (p ∷ ps) = let ih = next_in_that t a ps in grind (arith, nat_tests)

pub next-above : (t : Pair → Bool) (a n : ℕ) (ps : List Pair) (l : ℕ) → all (above n) ps ≡ true → next_in t a ps ≡ Some l → n < l
next-above t a n [] l h e = grind (arith, nat_tests)
next-above t a n (p ∷ ps) l h e = let ih = next-above t a n ps l in grind (arith, nat_tests)

-- a label that is on the list, and whose pair passes
abbrev pub passes_at : (Pair → Bool) → ℕ → Option Fact → Bool
passes_at t n None = false
passes_at t n (Some g) = t (n, g)

-- what is found, by a bound
abbrev pub beyond : ℕ → Option ℕ → Bool
beyond b None = true
beyond b (Some n) = ltb b n

abbrev pub at_most : ℕ → Option ℕ → Bool
at_most b None = false
at_most b (Some n) = leb n b

abbrev pub is_it : ℕ → Option ℕ → Bool
is_it l None = false
is_it l (Some n) = eqb n l

-- what is found is on the list ------------------------------------------------------------------------------

pub next-passes : (t : Pair → Bool) (a n : ℕ) (ps : List Pair) → rises (labels ps) ≡ true → next_in t a ps ≡ Some n → (a < n) × (passes_at t n (read n ps) ≡ true)
next-passes t a n [] r e = (grind (arith, nat_tests), grind (arith, nat_tests))
next-passes t a n (p ∷ ps) r e =
    let ih = next-passes t a n ps in
    let u = all_above (label p) ps in
    let ab = next-above t a (label p) ps n in
    (grind (arith, nat_tests), grind (arith, nat_tests))

-- what is on the list is not passed over
pub next-member : (t : Pair → Bool) (a m : ℕ) (ps : List Pair) → rises (labels ps) ≡ true → passes_at t m (read m ps) ≡ true → a < m → at_most m (next_in t a ps) ≡ true
next-member t a m [] r e h = grind (arith, nat_tests)
next-member t a m (p ∷ ps) r e h =
    let ih = next-member t a m ps in
    let u = all_above (label p) ps in
    let n = read_above m (label p) ps in
    grind (arith, nat_tests)

-- another bound, another test -------------------------------------------------------------------------------

pub next_gap : (t : Pair → Bool) (a b : ℕ) (ps : List Pair) → a ≤ b → beyond b (next_in t a ps) ≡ true → next_in t b ps ≡ next_in t a ps
next_gap t a b [] h e = refl
next_gap t a b (p ∷ ps) h e = let ih = next_gap t a b ps h in grind (arith, nat_tests)

-- below all labels a bound does not matter
pub next-lower : (t : Pair → Bool) (a n : ℕ) (ps : List Pair) → a ≤ n → all (above n) ps ≡ true → next_in t a ps ≡ next_in t n ps
next-lower t a n [] h e = refl
next-lower t a n (p ∷ ps) h e = let ih = next-lower t a n ps h in grind (arith, nat_tests)

pub next-none : (t u : Pair → Bool) (a : ℕ) (ps : List Pair) → ((p : Pair) → u p ≡ true → t p ≡ true) → next_in t a ps ≡ None → next_in u a ps ≡ None
next-none t u a [] s e = refl
next-none t u a (p ∷ ps) s e = let ih = next-none t u a ps s in let k = s p in grind (arith, nat_tests)

-- where a test passes less, what the other finds is either found too or passed over
pub next-less : (t u : Pair → Bool) (a n : ℕ) (ps : List Pair) → ((p : Pair) → u p ≡ true → t p ≡ true) → rises (labels ps) ≡ true → next_in t a ps ≡ Some n → next_in u a ps ≡ cond (passes_at u n (read n ps)) (Some n) (next_in u n ps)
next-less t u a n [] s r e = grind (arith, nat_tests)
next-less t u a n (p ∷ ps) s r e =
    let ih = next-less t u a n ps s in
    let k = s p in
    let q = all_above (label p) ps in
    let ab = next-above t a (label p) ps n in
    let lo = next-lower u a (label p) ps in
    grind (arith, nat_tests)

-- tests that agree on all pairs
pub next-same : (t u w : Pair → Bool) (a : ℕ) (ps : List Pair) → ((p : Pair) → w p ≡ true → t p ≡ u p) → all w ps ≡ true → next_in t a ps ≡ next_in u a ps
next-same t u w a [] s h = refl
next-same t u w a (p ∷ ps) s h = let ih = next-same t u w a ps s in let k = s p in grind (arith, nat_tests)

-- placing and taking out ------------------------------------------------------------------------------------

pub next-placed : (t : Pair → Bool) (a m : ℕ) (f : Fact) (ps : List Pair) → rises (labels ps) ≡ true → read m ps ≡ None → next_in t a (placed m f ps) ≡ cond (ltb a m && t (m, f)) (least (Some m) (next_in t a ps)) (next_in t a ps)
next-placed t a m f [] r e = grind (arith, nat_tests)
next-placed t a m f (p ∷ ps) r e =
    let ih = next-placed t a m f ps in
    let u = all_above (label p) ps in
    let ab = next-above t a (label p) ps in
    grind (arith, nat_tests)

-- another fact in the place of one that passes the same tests
pub next_replaced : (t : Pair → Bool) (a l : ℕ) (f g : Fact) (ps : List Pair) → rises (labels ps) ≡ true → read l ps ≡ Some g → t (l, f) ≡ t (l, g) → next_in t a (placed l f ps) ≡ next_in t a ps
next_replaced t a l f g [] r e h = grind (arith, nat_tests)
next_replaced t a l f g (p ∷ ps) r e h =
    let ih = next_replaced t a l f g ps in
    let u = all_above (label p) ps in
    let n = read_above l (label p) ps in
    grind (arith, nat_tests)

pub next-taken : (t : Pair → Bool) (a l : ℕ) (ps : List Pair) → rises (labels ps) ≡ true → next_in t a (taken_out l ps) ≡ cond (is_it l (next_in t a ps)) (next_in t l ps) (next_in t a ps)
next-taken t a l [] r = refl
next-taken t a l (p ∷ ps) r =
    let ih = next-taken t a l ps in
    let u = all_above (label p) ps in
    let n = read_above l (label p) ps in
    let m = taken-missing l ps in
    let lo = next-lower t a (label p) ps in
    let ab = next-above t a (label p) ps l in
    grind (arith, nat_tests)
