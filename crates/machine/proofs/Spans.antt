-- Stored pairs by rising label, and one pair taken out of a list.
use Rattle.std.proofs.Common.{◌≡◌, ℕ, suc, ◌+◌, ◌<◌, ◌≤◌, Bool, true, false, cond, not, eqb, ltb, List, [], ◌∷◌, ◌++◌, map, length, Some, filter, sym, refl, ap, ◌∙◌, subst, inl, inr, ⊎_elim, append_assoc, append-nil, arith}
use mathlib.Core.List.Memᴰ
use mathlib.Core.List.{Memᴰ}
use Rattle.std.proofs.lemmas.Bool.{cond-true, eq-eqb, cond_both, and_from, cases_Bool, not_from_false, cond-false, le-ltb, ne_eqb, cases_eq}
use Rattle.machine.proofs.Counts.{one-yes, one-no}
use Rattle.machine.proofs.Labels.{often}
use Rattle.machine.proofs.Lists.{mem-has, Each}
use Rattle.stores.specs.Store.{Pair, label, fact, labels, facts, read, placed, placed_all}
use Rattle.stores.specs.Lists.{has}
use Rattle.machine.specs.Lists.{tally, distinct}
use Rattle.machine.specs.Machine.{numbered}
use Rattle.facts.specs.declared.fact_types.Fact.{Fact}

-- labels rise from a to below b
abbrev pub Span : ℕ → List Pair → ℕ → Type 0
Span a [] b = a ≤ b
Span a (p ∷ ps) b = (a ≤ label p) × Span (suc (label p)) ps b

pub span-lower : (a c : ℕ) (ps : List Pair) (b : ℕ) → c ≤ a → Span a ps b → Span c ps b
span-lower a c [] b h s = omega arith
span-lower a c (p ∷ ps) b h s = (omega arith, s.1)

pub span-append : (a : ℕ) (ps : List Pair) (m : ℕ) (qs : List Pair) (b : ℕ) → Span a ps m → Span m qs b → Span a (ps ++ qs) b
span-append a [] m qs b s t = span-lower m a qs b s t
span-append a (p ∷ ps) m qs b s t = (s.0, span-append (suc (label p)) ps m qs b s.1 t)

pub span-kept : (t : Pair → Bool) (a : ℕ) (ps : List Pair) (b : ℕ) → Span a ps b → Span a (filter t ps) b
span-kept t a [] b s = s
span-kept t a (p ∷ ps) b s =
    let below = span-kept t (suc (label p)) ps b s.1 in
    cond_both (t p) (p ∷ filter t ps) (filter t ps) (λ qs. Span a qs b) (λ e. (s.0, below)) (λ e. span-lower (suc (label p)) a (filter t ps) b (omega arith) below)

pub span-numbered : (n : ℕ) (fs : List Fact) → Span n (numbered n fs) (n + length (numbered n fs))
span-numbered n [] = omega arith
span-numbered n (f ∷ fs) = (omega arith, subst (Span (suc n) (numbered (suc n) fs)) (omega arith) (span-numbered (suc n) fs))

-- a member's label lies in the span
pub span-le : (a : ℕ) (ps : List Pair) (b : ℕ) → Span a ps b → a ≤ b
span-le a [] b s = s
span-le a (p ∷ ps) b s = omega (arith, span-le (suc (label p)) ps b s.1)

pub span-mem : {p : Pair} {ps : List Pair} → Memᴰ p ps → (a b : ℕ) → Span a ps b → (a ≤ label p) × (label p < b)
span-mem (Memᴰ.head {x = x} {xs = xs} e) a b s = omega (arith, ap label e, span-le (suc (label x)) xs b s.1)
span-mem (Memᴰ.tail {x = x} {xs = xs} m) a b s = omega (arith, span-mem m (suc (label x)) b s.1)

pub span-apart : (n a : ℕ) (ps : List Pair) (b : ℕ) → Span a ps b → (often n ps ≤ 1) × (n < a → often n ps ≡ 0)
span-apart n a [] b s = (omega arith, λ h. refl)
span-apart n a (p ∷ ps) b s =
    let r = span-apart n (suc (label p)) ps b s.1 in
    elim (cases_eq n (label p)) [
      | inl e ↦ (omega (arith, one-yes (eqb n (label p)) (eq-eqb n (label p) e), r.1 (omega arith)), λ h. absurd (omega arith))
      | inr e ↦ (omega (arith, one-no (eqb n (label p)) (ne_eqb n (label p) e), r.0), λ h. omega (arith, one-no (eqb n (label p)) (ne_eqb n (label p) e), r.1 (omega arith)))
    ]

pub span-under : (a : ℕ) (ps : List Pair) (b : ℕ) → Span a ps b → Each (λ p. label p < b) ps
span-under a [] b s = tt
span-under a (p ∷ ps) b s = (span-le (suc (label p)) ps b s.1, span-under (suc (label p)) ps b s.1)

-- a fact under a label above all others goes behind them
pub placed-last : (n : ℕ) (f : Fact) (ps : List Pair) → Each (λ p. label p < n) ps → placed n f ps ≡ ps ++ ((n, f) ∷ [])
placed-last n f [] h = refl
placed-last n f (p ∷ ps) h =
    cond-false (ltb n (label p)) ((n, f) ∷ (p ∷ ps)) (cond (eqb n (label p)) ((n, f) ∷ ps) (p ∷ placed n f ps)) (le-ltb n (label p) (omega (arith, h.0)))
    ∙ (cond-false (eqb n (label p)) ((n, f) ∷ ps) (p ∷ placed n f ps) (ne_eqb n (label p) (λ e. omega (arith, h.0)))
    ∙ ap (λ (l : List Pair). p ∷ l) (placed-last n f ps h.1))

pub placed-all-last : (a n : ℕ) (fs : List Fact) (ps : List Pair) → Span a ps n → placed_all (numbered n fs) ps ≡ ps ++ numbered n fs
placed-all-last a n [] ps s = sym (append-nil ps)
placed-all-last a n (f ∷ fs) ps s =
    let e = placed-last n f ps (span-under a ps n s) in
    let t : Span a (ps ++ ((n, f) ∷ [])) (suc n) = span-append a ps n ((n, f) ∷ []) (suc n) s (omega arith, omega arith) in
    ap (placed_all (numbered (suc n) fs)) e ∙ (placed-all-last a (suc n) fs (ps ++ ((n, f) ∷ [])) t ∙ append_assoc ps ((n, f) ∷ []) (numbered (suc n) fs))

-- a Stored pair is what a store reads under its label
pub read_mem : {p : Pair} {ps : List Pair} → Memᴰ p ps → (a b : ℕ) → Span a ps b → read (label p) ps ≡ Some (fact p)
read_mem {p} (Memᴰ.head {x = x} {xs = xs} e) a b s =
    cond-true (eqb (label x) (label p)) (Some (fact x)) (read (label p) xs) (eq-eqb (label x) (label p) (ap label (sym e))) ∙ ap (λ (q : Pair). Some (fact q)) (sym e)
read_mem {p} (Memᴰ.tail {x = x} {xs = xs} m) a b s =
    cond-false (eqb (label x) (label p)) (Some (fact x)) (read (label p) xs) (ne_eqb (label x) (label p) (λ e. omega (arith, span-mem m (suc (label x)) b s.1)))
    ∙ read_mem m (suc (label x)) b s.1

pub reads : (ps : List Pair) (a b : ℕ) → Span a ps b → (qs : List Pair) → Each (λ q. Memᴰ q ps) qs → map (λ n. read n ps) (labels qs) ≡ map Some (facts qs)
reads ps a b s [] h = refl
reads ps a b s (q ∷ qs) h = λ i. read_mem h.0 a b s i ∷ reads ps a b s qs h.1 i

-- a list is another with one more element somewhere
pub data Pick {X : Type 0} (p : X) : List X → List X → Type 0 where
  here : {ps : List X} → Pick p (p ∷ ps) ps
  there : {x : X} {ps qs : List X} → Pick p ps qs → Pick p (x ∷ ps) (x ∷ qs)

pub pick-mem : {X : Type 0} {p : X} {ps qs : List X} → Pick p ps qs → Memᴰ p ps
pick-mem here = Memᴰ.head refl
pick-mem (there k) = Memᴰ.tail (pick-mem k)

pub pick_more : {X : Type 0} {p : X} {ps qs : List X} → Pick p ps qs → {x : X} → Memᴰ x qs → Memᴰ x ps
pick_more here m = Memᴰ.tail m
pick_more (there {x = y} {ps = ps} {qs = qs} k) {x} m = ⊎_elim {B = Memᴰ x qs} (λ e. Memᴰ.head e) (λ n. Memᴰ.tail (pick_more k n)) (Memᴰ.cases_cons m)

pub pick-span : {p : Pair} {ps qs : List Pair} → Pick p ps qs → (a b : ℕ) → Span a ps b → Span a qs b
pick-span {p = p} (here {ps = ps}) a b s = span-lower (suc (label p)) a ps b (omega arith) s.1
pick-span (there {x = x} k) a b s = (s.0, pick-span k (suc (label x)) b s.1)

pub pick-apart : {p : Pair} {ps qs : List Pair} → Pick p ps qs → (a b : ℕ) → Span a ps b → {x : Pair} → Memᴰ x qs → label p ≡ label x → ⊥
pick-apart {p = p} (here {ps = ps}) a b s m e = omega (arith, span-mem m (suc (label p)) b s.1)
pick-apart {p = p} (there {x = y} {ps = ps} {qs = qs} k) a b s {x} m e =
    ⊎_elim {A = x ≡ y} {B = Memᴰ x qs}
    (λ h. omega (arith, span-mem (pick-mem k) (suc (label y)) b s.1, ap label h))
    (λ n. pick-apart k (suc (label y)) b s.1 n e) (Memᴰ.cases_cons m)

pub pick-tally : (t : Fact → Bool) {p : Pair} {ps qs : List Pair} → Pick p ps qs → tally t (facts ps) ≡ cond (t (fact p)) 1 0 + tally t (facts qs)
pick-tally t here = refl
pick-tally t (there {x = x} k) = omega (arith, pick-tally t k)

-- a test that counts something finds a pair
pub pick-found : (t : Fact → Bool) (ps : List Pair) → 1 ≤ tally t (facts ps) → (p : Pair) × (qs : List Pair) × Pick p ps qs × (t (fact p) ≡ true)
pick-found t [] h = absurd (omega arith)
pick-found t (p ∷ ps) h = go (t (fact p)) refl h (pick-found t ps)
  where
    go : (b : Bool) → t (fact p) ≡ b → 1 ≤ cond b 1 0 + tally t (facts ps) → (1 ≤ tally t (facts ps) → (q : Pair) × (qs : List Pair) × Pick q ps qs × (t (fact q) ≡ true)) →
        (q : Pair) × (qs : List Pair) × Pick q (p ∷ ps) qs × (t (fact q) ≡ true)
    go true e k below = (p, ps, here, e)
    go false e k below = let r = below (omega arith) in (r.0, p ∷ r.1, there r.2, r.3)

-- distinct labels, as a type
pub distinct_more : (p : Pair) (c : List Pair) → ((x : Pair) → Memᴰ x c → label p ≡ label x → ⊥) → distinct (labels c) ≡ true → distinct (labels (p ∷ c)) ≡ true
distinct_more p c f d = and_from (not (has (label p) (labels c))) (distinct (labels c)) (⊎_elim (λ (e : has (label p) (labels c) ≡ true). absurd (let r = Memᴰ.of_map label c (mem-has (label p) (labels c) e) in f r.0 r.1 (sym r.2))) (λ (e : has (label p) (labels c) ≡ false). not_from_false (has (label p) (labels c)) e) (cases_Bool (has (label p) (labels c)))) d
