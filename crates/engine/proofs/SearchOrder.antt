-- Choices that are searched through pair by pair, the pairs by rising label.
use Rattle.std.proofs.Common.{◌≡◌, ℕ, zero, suc, ◌<◌, ◌≤◌, Bool, true, false, cond, ◌&&◌, eqb, ltb, List, [], ◌∷◌, ◌++◌, map, Some, None, Option, is_some, sym, refl, ap, subst, ◌∙◌, arith, append_assoc, append-nil}
use Rattle.std.specs.Prelude.{find, flat_map, option_map, unwrap_or}
use Rattle.std.proofs.lemmas.Bool.{and_parts, and_from, and_right, eqb-true, eq-eqb, ne_eqb, eqb-false, ltb-true, lt-ltb, le-ltb, cond-true, cond-false}
use Rattle.std.proofs.lemmas.Bool.Decides.{nat_tests}
use Rattle.facts.specs.declared.fact_types.Fact.{Fact}
use Rattle.stores.specs.Lists.{all, rises}
use Rattle.stores.specs.Store.{Pair, label, fact, labels, read, next_that}
use Rattle.stores.specs.Piles.{Pile, Owed, sound_pair}
use Rattle.machine.specs.Lists.{choices}
use Rattle.machine.proofs.Lists.{Each}
use Rattle.engine.specs.Searching.{no_fact, fact_at, or_next, first_of, begun, after}

-- pairs of a store ------------------------------------------------------------------------------------------------------

-- labels rise from above a
abbrev pub Rising : ℕ → List Pair → Type 0
Rising a [] = Unit {0}
Rising a (p ∷ ps) = (a < label p) × Rising (label p) ps

-- a pair stands in a store under its label
abbrev pub Stands : List Pair → Pair → Type 0
Stands ps x = read (label x) ps ≡ Some (fact x)

Each-both : {X : Type 0} (P Q R : X → Type 0) → ((x : X) → P x → Q x → R x) → (xs : List X) → Each P xs → Each Q xs → Each R xs
Each-both P Q R f [] h k = tt
Each-both P Q R f (x ∷ xs) h k = (f x h.0 k.0, Each-both P Q R f xs h.1 k.1)

rising-each : (a b : ℕ) (ps : List Pair) → a ≤ b → Rising b ps → Each (λ x. a < label x) ps
rising-each a b [] h r = tt
rising-each a b (p ∷ ps) h r = (omega (arith, r.0), rising-each a (label p) ps (omega (arith, r.0)) r.1)

stands-behind : (p : Pair) (ps : List Pair) (x : Pair) → label p < label x → Stands ps x → Stands (p ∷ ps) x
stands-behind p ps x h s = cond-false (eqb (label p) (label x)) (Some (fact p)) (read (label x) ps) (ne_eqb (label p) (label x) (λ e. omega arith)) ∙ s

pub rising-stands : (a : ℕ) (ps : List Pair) → Rising a ps → Each (Stands ps) ps
rising-stands a [] r = tt
rising-stands a (p ∷ ps) r = (
  cond-true (eqb (label p) (label p)) (Some (fact p)) (read (label p) ps) (eq-eqb (label p) (label p) refl),
  Each-both (λ x. label p < label x) (Stands ps) (Stands (p ∷ ps)) (stands-behind p ps) ps (rising-each (label p) (label p) ps (omega arith) r.1) (rising-stands (label p) ps r.1),
)

pub fact-at : (ps : List Pair) (x : Pair) → Stands ps x → fact_at ps (label x) ≡ fact x
fact-at ps x s = ap (λ (o : Option Fact). unwrap_or o no_fact) s

rising-from : (a : ℕ) (ps : List Pair) → all (ltb a) (labels ps) ≡ true → rises (labels ps) ≡ true → Rising a ps
rising-from a [] h r = tt
rising-from a (p ∷ ps) h r =
    let q = and_parts (all (ltb (label p)) (labels ps)) (rises (labels ps)) r in
    (ltb-true a (label p) (and_parts (ltb a (label p)) (all (ltb a) (labels ps)) h).0, rising-from (label p) ps q.0 q.1)

sound-above : (ps : List Pair) → all sound_pair ps ≡ true → all (ltb 0) (labels ps) ≡ true
sound-above [] h = refl
sound-above (p ∷ ps) h =
    let q = and_parts (sound_pair p) (all sound_pair ps) h in
    let s : ltb 0 (label p) ≡ true = grind (arith, nat_tests, q.0) in
    and_from (ltb 0 (label p)) (all (ltb 0) (labels ps)) s (sound-above ps q.1)

-- the pairs of every store
pub owed-rising : (m : Pile) → Owed m → Rising 0 m.pairs
owed-rising m o =
    let s : (rises (labels m.pairs) ≡ true) × (all sound_pair m.pairs ≡ true) = grind (arith, nat_tests, o) in
    rising-from 0 m.pairs (sound-above m.pairs s.1) s.0

-- the first value over a list -------------------------------------------------------------------------------------------

pub first_of-none : {X Y : Type 0} (f : X → Option Y) (P : X → Type 0) → ((x : X) → P x → f x ≡ None) → (xs : List X) → Each P xs → first_of f xs ≡ None
first_of-none f P h [] e = refl
first_of-none f P h (x ∷ xs) e = ap (λ o. or_next o (first_of f xs)) (h x e.0) ∙ first_of-none f P h xs e.1

or_next-none : {Y : Type 0} (o : Option Y) → or_next o None ≡ o
or_next-none None = refl
or_next-none (Some y) = refl

-- only one pair may have a value
pub first_of-only : {Y : Type 0} (f : Pair → Option Y) (P : Pair → Type 0) (n a : ℕ) → ((x : Pair) → P x → (label x ≡ n → ⊥) → f x ≡ None) → (ps : List Pair) → Rising a ps → Each P ps → (g : Fact) → read n ps ≡ Some g → first_of f ps ≡ f (n, g)
first_of-only f P n a h [] r e g s = cc
first_of-only f P n a h (p ∷ ps) r e g s = go (first_of-only f P n (label p) h ps r.1 e.1 g) (eqb (label p) n) refl s
  where
    go : (read n ps ≡ Some g → first_of f ps ≡ f (n, g)) → (b : Bool) → eqb (label p) n ≡ b → cond b (Some (fact p)) (read n ps) ≡ Some g → or_next (f p) (first_of f ps) ≡ f (n, g)
    go below true b q =
        let l = eqb-true (label p) n b in
        let k : fact p ≡ g = cc in
        let rest = first_of-none f (λ x. P x × (n < label x)) (λ x w. h x w.0 (λ z. omega (arith, w.1, z))) ps
        (Each-both P (λ x. n < label x) (λ x. P x × (n < label x)) (λ x u v. (u, v)) ps e.1 (rising-each n (label p) ps (omega arith) r.1)) in
        ap (or_next (f p)) rest ∙ (or_next-none (f p) ∙ (λ i. f (l i, k i)))
    go below false b q = ap (λ o. or_next o (first_of f ps)) (h p e.0 (eqb-false (label p) n b)) ∙ below q

-- searches by candidates ------------------------------------------------------------------------------------------------

pub after-rising : (a b : ℕ) (ps : List Pair) → a ≤ b → Rising b ps → after a ps ≡ ps
after-rising a b [] h r = refl
after-rising a b (p ∷ ps) h r = cond-true (ltb a (label p)) (p ∷ ps) (after a ps) (lt-ltb a (label p) (omega (arith, r.0)))

-- what follows where no pair is left, and where one is
pub above-none : {Y : Type 0} (f : Pair → Option Y) (t : Fact → Bool) (P : Pair → Type 0) → ((x : Pair) → P x → t (fact x) ≡ false → f x ≡ None) → (a b : ℕ) (ps : List Pair) → Rising b ps → Each P ps → next_that t a ps ≡ None → first_of f (after a ps) ≡ None
above-none f t P h a b [] r e n = refl
above-none f t P h a b (p ∷ ps) r e n = go (above-none f t P h a (label p) ps r.1 e.1) (ltb a (label p)) (t (fact p)) refl refl n
  where
    go : (next_that t a ps ≡ None → first_of f (after a ps) ≡ None) → (u v : Bool) → ltb a (label p) ≡ u → t (fact p) ≡ v → cond (u && v) (Some (label p)) (next_that t a ps) ≡ None → first_of f (cond u (p ∷ ps) (after a ps)) ≡ None
    go below true true u v q = let z : ◌≡◌ {A = ℕ} 0 1 = cc in absurd (omega arith)
    go below true false u v q =
        let l = ltb-true a (label p) u in
        ap (λ o. or_next o (first_of f ps)) (h p e.0 v) ∙ (ap (first_of f) (sym (after-rising a (label p) ps (omega arith) r.1)) ∙ below q)
    go below false true u v q = below q
    go below false false u v q = below q

-- the pair that is next, what is known of it, and that those before it have no value
pub record Next {Y : Type 0} (f : Pair → Option Y) (t : Fact → Bool) (P : Pair → Type 0) (a n : ℕ) (ps : List Pair) : Type 0 where
  pub given : Fact
  pub there : P (n, given)
  pub fits : t given ≡ true
  pub larger : a < n
  pub value : first_of f (after a ps) ≡ or_next (f (n, given)) (first_of f (after n ps))

next-behind : (t : Fact → Bool) (a c n : ℕ) (qs : List Pair) → Rising c qs → next_that t a qs ≡ Some n → c < n
next-behind t a c n [] w q = let z : ◌≡◌ {A = ℕ} 0 1 = cc in absurd (omega arith)
next-behind t a c n (x ∷ qs) w q = end (next-behind t a (label x) n qs w.1) (ltb a (label x) && t (fact x)) q
  where
    end : (next_that t a qs ≡ Some n → label x < n) → (u : Bool) → cond u (Some (label x)) (next_that t a qs) ≡ Some n → c < n
    end below true q = let z : label x ≡ n = cc in omega (arith, w.0)
    end below false q = omega (arith, w.0, below q)

module _ {Y : Type 0} (f : Pair → Option Y) (t : Fact → Bool) (P : Pair → Type 0) (a n : ℕ) where
  next-more : (p : Pair) (ps : List Pair) → Next f t P a n ps → label p < n → first_of f (after a (p ∷ ps)) ≡ first_of f (after a ps) → Next f t P a n (p ∷ ps)
  next-more p ps k l v = record {
    given = k.given;
    there = k.there;
    fits = k.fits;
    larger = k.larger;
    value = v ∙ (k.value ∙ ap (λ z. or_next (f (n, k.given)) (first_of f z)) (sym (cond-false (ltb n (label p)) (p ∷ ps) (after n ps) (le-ltb n (label p) (omega arith)))));
  }

pub above-some : {Y : Type 0} (f : Pair → Option Y) (t : Fact → Bool) (P : Pair → Type 0) → ((x : Pair) → P x → t (fact x) ≡ false → f x ≡ None) → (a b n : ℕ) (ps : List Pair) → Rising b ps → Each P ps → next_that t a ps ≡ Some n → Next f t P a n ps
above-some f t P h a b n [] r e s = let z : ◌≡◌ {A = ℕ} 0 1 = cc in absurd (omega arith)
above-some f t P h a b n (p ∷ ps) r e s = go (above-some f t P h a (label p) n ps r.1 e.1) (ltb a (label p)) (t (fact p)) refl refl s
  where
    go : (next_that t a ps ≡ Some n → Next f t P a n ps) → (u v : Bool) → ltb a (label p) ≡ u → t (fact p) ≡ v → cond (u && v) (Some (label p)) (next_that t a ps) ≡ Some n → Next f t P a n (p ∷ ps)
    go below true true u v q =
        let z : label p ≡ n = cc in
        let same : ◌≡◌ {A = Pair} (label p, fact p) (n, fact p) = λ i. (z i, fact p) in
        let l = ltb-true a (label p) u in
        record {
          given = fact p;
          there = subst P same e.0;
          fits = v;
          larger = omega arith;
          value =
              ap (first_of f) (cond-true (ltb a (label p)) (p ∷ ps) (after a ps) u)
              ∙ ((λ i. or_next (f (same i)) (first_of f ps))
              ∙ ap (λ x. or_next (f (n, fact p)) (first_of f x)) (sym (cond-false (ltb n (label p)) (p ∷ ps) (after n ps) (le-ltb n (label p) (omega arith)) ∙ after-rising n (label p) ps (omega arith) r.1)));
        }
    go below true false u v q =
        let l = ltb-true a (label p) u in
        next-more f t P a n p ps (below q) (next-behind t a (label p) n ps r.1 q)
        (ap (first_of f) (cond-true (ltb a (label p)) (p ∷ ps) (after a ps) u)
        ∙ (ap (λ o. or_next o (first_of f ps)) (h p e.0 v) ∙ ap (first_of f) (sym (after-rising a (label p) ps (omega arith) r.1))))
    go below false true u v q = next-more f t P a n p ps (below q) (next-behind t a (label p) n ps r.1 q) (ap (first_of f) (cond-false (ltb a (label p)) (p ∷ ps) (after a ps) u))
    go below false false u v q = next-more f t P a n p ps (below q) (next-behind t a (label p) n ps r.1 q) (ap (first_of f) (cond-false (ltb a (label p)) (p ∷ ps) (after a ps) u))

-- a stored pair that passes is found
pub next-found : (t : Fact → Bool) (a b n : ℕ) (g : Fact) (ps : List Pair) → Rising b ps → a ≤ b → read n ps ≡ Some g → t g ≡ true → is_some (next_that t a ps) ≡ true
next-found t a b n g [] r h s k = cc
next-found t a b n g (p ∷ ps) r h s k = go (next-found t a (label p) n g ps r.1) (t (fact p)) (eqb (label p) n) refl refl s
  where
    u : ltb a (label p) ≡ true
    u = lt-ltb a (label p) (omega (arith, r.0))

    go : (a ≤ label p → read n ps ≡ Some g → t g ≡ true → is_some (next_that t a ps) ≡ true) → (v w : Bool) → t (fact p) ≡ v → eqb (label p) n ≡ w → cond w (Some (fact p)) (read n ps) ≡ Some g → is_some (cond (ltb a (label p) && t (fact p)) (Some (label p)) (next_that t a ps)) ≡ true
    go below true w v e q = ap (λ b. is_some (cond b (Some (label p)) (next_that t a ps))) (and_from (ltb a (label p)) (t (fact p)) u v)
    go below false true v e q = let z : fact p ≡ g = cc in let y = ap t z in cc
    go below false false v e q =
        ap (λ b. is_some (cond b (Some (label p)) (next_that t a ps))) (and_right (ltb a (label p)) (t (fact p)) v)
        ∙ below (omega (arith, r.0)) q k

-- choices ---------------------------------------------------------------------------------------------------------------

pub begun-none : (test : List Pair → Bool) (ps : List Pair) → Each (Stands ps) ps → (n : ℕ) (c : List Pair) → ((d : List Pair) → Each (Stands ps) d → test (c ++ d) ≡ false) → begun test ps n c ≡ None
begun-none test ps e zero c h = cond-false (test c) (Some c) None (ap test (sym (append-nil c)) ∙ h [] tt)
begun-none test ps e (suc n) c h =
    first_of-none (λ x. begun test ps n (c ++ (x ∷ []))) (Stands ps)
    (λ x s. begun-none test ps e n (c ++ (x ∷ [])) (λ d k. ap test (append_assoc c (x ∷ []) d) ∙ h (x ∷ d) (s, k))) ps e

find_append : {X : Type 0} (p : X → Bool) (xs ys : List X) → find p (xs ++ ys) ≡ or_next (find p xs) (find p ys)
find_append p [] ys = refl
find_append p (x ∷ xs) ys = go (p x) (find_append p xs ys)
  where
    go : (b : Bool) → find p (xs ++ ys) ≡ or_next (find p xs) (find p ys) → cond b (Some x) (find p (xs ++ ys)) ≡ or_next (cond b (Some x) (find p xs)) (find p ys)
    go true e = refl
    go false e = e

find_flat_map : {X Y : Type 0} (p : Y → Bool) (f : X → List Y) (xs : List X) → find p (flat_map f xs) ≡ first_of (λ x. find p (f x)) xs
find_flat_map p f [] = refl
find_flat_map p f (x ∷ xs) = find_append p (f x) (flat_map f xs) ∙ ap (or_next (find p (f x))) (find_flat_map p f xs)

find_map : {X Y : Type 0} (p : Y → Bool) (f : X → Y) (xs : List X) → find p (map f xs) ≡ option_map f (find (λ x. p (f x)) xs)
find_map p f [] = refl
find_map {X} p f (x ∷ xs) = go (p (f x)) (find_map p f xs)
  where
    go : (b : Bool) → find p (map f xs) ≡ option_map f (find (λ x. p (f x)) xs) → cond b (Some (f x)) (find p (map f xs)) ≡ option_map f (cond b (Some x) (find (λ x. p (f x)) xs))
    go true e = refl
    go false e = e

first_of-map : {X Y Z : Type 0} (g : Y → Z) (f : X → Option Y) (xs : List X) → option_map g (first_of f xs) ≡ first_of (λ x. option_map g (f x)) xs
first_of-map g f [] = refl
first_of-map {Y = Y} g f (x ∷ xs) = go (f x) (first_of-map g f xs)
  where
    go : (o : Option Y) → option_map g (first_of f xs) ≡ first_of (λ x. option_map g (f x)) xs → option_map g (or_next o (first_of f xs)) ≡ or_next (option_map g o) (first_of (λ x. option_map g (f x)) xs)
    go None e = e
    go (Some y) e = refl

option_map_map : {X Y Z : Type 0} (g : Y → Z) (f : X → Y) (o : Option X) → option_map g (option_map f o) ≡ option_map (λ x. g (f x)) o
option_map_map g f None = refl
option_map_map g f (Some x) = refl

option_map_id : {X : Type 0} (f : X → X) → ((x : X) → f x ≡ x) → (o : Option X) → option_map f o ≡ o
option_map_id f h None = refl
option_map_id f h (Some x) = ap Some (h x)

begun_find : (test : List Pair → Bool) (ps : List Pair) (n : ℕ) (c : List Pair) → begun test ps n c ≡ option_map (λ d. c ++ d) (find (λ d. test (c ++ d)) (choices n ps))
begun_find test ps zero c = go (test c) (test (c ++ [])) (ap test (sym (append-nil c)))
  where
    go : (a b : Bool) → a ≡ b → cond a (Some c) None ≡ option_map (λ d. c ++ d) (cond b (Some []) None)
    go true true e = ap Some (sym (append-nil c))
    go true false e = let z : ◌≡◌ {A = ℕ} 0 1 = cc in absurd (omega arith)
    go false true e = let z : ◌≡◌ {A = ℕ} 0 1 = cc in absurd (omega arith)
    go false false e = refl
begun_find test ps (suc n) c =
    let P : List Pair → Bool = λ d. test (c ++ d) in
    let one : (x : Pair) → begun test ps n (c ++ (x ∷ [])) ≡ option_map (λ d. c ++ d) (find P (map (λ d. x ∷ d) (choices n ps))) = λ x.
    begun_find test ps n (c ++ (x ∷ []))
    ∙ ((λ i. option_map (λ d. append_assoc c (x ∷ []) d i) (find (λ d. test (append_assoc c (x ∷ []) d i)) (choices n ps)))
    ∙ (sym (option_map_map (λ d. c ++ d) (λ d. x ∷ d) (find (λ d. P (x ∷ d)) (choices n ps)))
    ∙ ap (option_map (λ d. c ++ d)) (sym (find_map P (λ d. x ∷ d) (choices n ps))))) in
    (λ i. first_of (λ x. one x i) ps)
    ∙ (sym (first_of-map (λ d. c ++ d) (λ x. find P (map (λ d. x ∷ d) (choices n ps))) ps)
    ∙ ap (option_map (λ d. c ++ d)) (sym (find_flat_map P (λ x. map (λ d. x ∷ d) (choices n ps)) ps)))

-- all choices together
pub begun-all : (test : List Pair → Bool) (ps : List Pair) (n : ℕ) → begun test ps n [] ≡ find test (choices n ps)
begun-all test ps n = begun_find test ps n [] ∙ option_map_id (λ d. [] ++ d) (λ d. refl) (find test (choices n ps))
