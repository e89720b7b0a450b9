-- Pairs under labels: how often a label stands in a list, and what is left when labels are taken out.
use Rattle.std.proofs.Common.{◌≡◌, ℕ, suc, ◌+◌, ◌≤◌, Bool, true, false, not, ◌&&◌, ◌||◌, eqb, List, [], ◌∷◌, ◌++◌, sym, refl, ap, inl, inr, arith}
use mathlib.Core.Bool.{and-true}
use mathlib.Core.List.{Memᴰ}
use Rattle.std.proofs.lemmas.Bool.{and_from, eq-eqb, and_parts, or_from, or_left, or_right, cases_Bool}
use Rattle.std.proofs.lemmas.Bool.Decides.{nat_tests}
use Rattle.machine.proofs.Counts.{one, tally-append, tally-alike, tally-kept, tally_out, one-and, one-yes, one_with, one-zero}
use Rattle.machine.proofs.Lists.{Each}
use Rattle.stores.specs.Store.{Pair, label, fact, labels, facts, without}
use Rattle.stores.specs.Lists.{has}
use Rattle.machine.specs.Lists.{tally, distinct}
use Rattle.machine.specs.Machine.{numbered}
use Rattle.facts.specs.declared.fact_types.Fact.{Fact}

abbrev pub under : ℕ → Pair → Bool
under n x = eqb n (label x)

-- how often a label stands in a list
abbrev pub often : ℕ → List Pair → ℕ
often n xs = tally (under n) xs

-- no label twice
abbrev pub Apart : List Pair → Type 0
Apart xs = (n : ℕ) → often n xs ≤ 1

-- the same pairs, each as often, in any order
abbrev pub Alike : List Pair → List Pair → Type 0
Alike xs ys = (p : Pair → Bool) → tally p xs ≡ tally p ys

-- the facts of pairs
pub tally-facts : (p : Fact → Bool) (xs : List Pair) → tally p (facts xs) ≡ tally (λ x. p (fact x)) xs
tally-facts p [] = refl
tally-facts p (x ∷ xs) = omega (arith, tally-facts p xs)

-- a label that stands nowhere
pub has-none : (n : ℕ) (xs : List Pair) → often n xs ≡ 0 → has n (labels xs) ≡ false
has-none n [] e = refl
has-none n (x ∷ xs) e =
    or_from (eqb n (label x)) (has n (labels xs)) (one-zero (eqb n (label x)) (omega arith)) (has-none n xs (omega arith))

pub has_some : (n : ℕ) (xs : List Pair) → 1 ≤ often n xs → has n (labels xs) ≡ true
has_some n [] h = absurd (omega arith)
has_some n (x ∷ xs) h =
    elim (cases_Bool (eqb n (label x))) [
      | inl e ↦ or_left (eqb n (label x)) (has n (labels xs)) e
      | inr e ↦ or_right (eqb n (label x)) (has n (labels xs)) (has_some n xs (omega (arith, ap one e)))
    ]

pub apart_distinct : (xs : List Pair) → Apart xs → distinct (labels xs) ≡ true
apart_distinct [] a = refl
apart_distinct (x ∷ xs) a =
    let e = one-yes (eqb (label x) (label x)) (eq-eqb (label x) (label x) refl) in
    and_from (not (has (label x) (labels xs))) (distinct (labels xs)) (ap not (has-none (label x) xs (omega (arith, a (label x), e))))
    (apart_distinct xs (λ n. omega (arith, a n)))

-- the tests for `labels G` fail on `K`, if both are apart
pub tally_beside : (G K : List Pair) → ((n : ℕ) → often n G + often n K ≤ 1) → (p : Pair → Bool) →
    tally (λ x. p x && not (has (label x) (labels G))) K ≡ tally p K
tally_beside G [] h p = refl
tally_beside G (x ∷ K) h p =
    let e = eq-eqb (label x) (label x) refl in
    let z : often (label x) G ≡ 0 = omega (arith, h (label x), one-yes (eqb (label x) (label x)) e) in
    let w = one_with (p x) (not (has (label x) (labels G))) (ap not (has-none (label x) G z)) in
    omega (arith, w, tally_beside G K (λ n. omega (arith, h n)) p)

-- what stands in `G` does not pass
pub tally-within : (G xs : List Pair) → ((n : ℕ) → often n xs ≤ often n G) → (p : Pair → Bool) →
    tally (λ x. p x && not (has (label x) (labels G))) xs ≡ 0
tally-within G [] h p = refl
tally-within G (x ∷ xs) h p =
    let e = eq-eqb (label x) (label x) refl in
    let l : 1 ≤ often (label x) G = omega (arith, h (label x), one-yes (eqb (label x) (label x)) e) in
    let w = ap (λ b. one (not b)) (has_some (label x) G l) in
    omega (arith, one-and (p x) (not (has (label x) (labels G))), w, tally-within G xs (λ n. omega (arith, h n)) p)

-- what is left when some of the pairs are taken out by their labels
pub removed : (ps G K : List Pair) → Apart ps → Alike ps (G ++ K) → Alike (without (labels G) ps) K
removed ps G K a h p =
    let t : Pair → Bool = λ x. not (has (label x) (labels G)) in
    let u : Pair → Bool = λ x. p x && t x in
    omega (
      arith,
      tally-kept p t ps,
      h u,
      tally-append u G K,
      tally-within G G (λ n. omega arith) p,
      tally_beside G K (λ n. omega (arith, a n, h (under n), tally-append (under n) G K)) p,
    )

-- choices ---------------------------------------------------------------------------------------------

eqb_sym : (a b : ℕ) → eqb a b ≡ eqb b a
eqb_sym a b = grind (arith, nat_tests)

shuffle : (a h e e' : Bool) → e ≡ e' → ((a && not h) && not e) ≡ (a && not (e' || h))
shuffle true true true e' q = ap (λ b. not (b || true)) q
shuffle true true false e' q = ap (λ b. not (b || true)) q
shuffle true false true e' q = ap (λ b. not (b || false)) q
shuffle true false false e' q = ap (λ b. not (b || false)) q
shuffle false h e e' q = refl

-- pairs of a list, no label twice, and the others make up the list
pub picked : (ps c : List Pair) → Apart ps → Each (λ x. Memᴰ x ps) c → distinct (labels c) ≡ true →
    (p : Pair → Bool) → tally p ps ≡ tally p c + tally (λ x. p x && not (has (label x) (labels c))) ps
picked ps [] a m d p = omega (arith, tally-alike p (λ x. p x && true) (λ x. sym (and-true (p x))) ps)
picked ps (x ∷ c) a m d p =
    let ls : List ℕ = labels c in
    let t : Pair → Bool = λ y. p y && not (has (label y) ls) in
    let d' = and_parts (not (has (label x) ls)) (distinct ls) d in
    let o = tally_out t (under (label x)) x ps (eq-eqb (label x) (label x) refl) m.0 (a (label x)) in
    let s = tally-alike (λ y. t y && not (under (label x) y)) (λ y. p y && not (has (label y) (label x ∷ ls)))
    (λ y. shuffle (p y) (has (label y) ls) (under (label x) y) (eqb (label y) (label x)) (eqb_sym (label x) (label y))) ps in
    omega (arith, picked ps c a m.1 d'.1 p, o, s, one_with (p x) (not (has (label x) ls)) d'.0)

pub chosen-parts : (ps c : List Pair) → Apart ps → Each (λ x. Memᴰ x ps) c → distinct (labels c) ≡ true →
    Alike ps (c ++ without (labels c) ps)
chosen-parts ps c a m d p =
    omega (arith, picked ps c a m d p, tally-append p c (without (labels c) ps), tally-kept p (λ x. not (has (label x) (labels c))) ps)

-- new labels ------------------------------------------------------------------------------------------

pub facts-numbered : (m : ℕ) (fs : List Fact) → facts (numbered m fs) ≡ fs
facts-numbered m [] = refl
facts-numbered m (f ∷ fs) = ap (λ r. f ∷ r) (facts-numbered (suc m) fs)
