-- What is found by a place on a chain, in the language of the pairs.
use Rattle.std.proofs.Common.{◌≡◌, ℕ, suc, ◌-◌, ◌<◌, ◌≤◌, ◌%◌, Bool, true, false, cond, eqb, List, [], ◌∷◌, get_or, ℤ, pos, negsuc, is_some, Some, None, Option, refl, sym, ap, subst, ◌∙◌, arith}
use Rattle.std.proofs.lemmas.Bool.{and_parts, eqb-true, eq-eqb, false≢true}
use Rattle.std.proofs.lemmas.Bool.Decides.{nat_tests}
use Rattle.facts.specs.declared.fact_types.Fact.{Fact}
use Rattle.stores.specs.Lists.{all}
use Rattle.stores.specs.Store.{Pair, fact, sameℤ, read, of_kind, of_kind_with, next_of, next_with}
use Rattle.stores.specs.Piles.{sound_pair, sound}
use Rattle.stores.specs.Table.{Row, pairs_of, pile_of, distinct}
use Rattle.stores.proofs.Tables.{rises-pairs}
use Rattle.chains.specs.Links.{next_in, on_chain, has_label, points, Linked}
use Rattle.chains.specs.Rows.{magnitude, chain_of, chain_at}
use Rattle.chains.specs.Acts.{label_in, asked_label, with_label, having, Finds}
use Rattle.chains.specs.declared.chain_types.Way.TheVariants.{ByLabel, ByKind, ByWord}
use Rattle.chains.proofs.Nexts.{passes_at, next_in_that, next-none, next-less, next-same, next-passes}
use Rattle.chains.proofs.Named.{used-read, all-read, owed-pairs}
use Rattle.chains.proofs.Relinked.{freed-found}
use Rattle.chains.proofs.Walks.{meets, meets-used, meets-none}

-- a label's fact ---------------------------------------------------------------------------------------------

-- a label below 1 is not held
pub none_at_0 : (R : List Row) → sound (pile_of R) ≡ true → read 0 (pairs_of R) ≡ None
none_at_0 R o = go (read 0 (pairs_of R)) refl
  where
    go : (q : Option Fact) → read 0 (pairs_of R) ≡ q → read 0 (pairs_of R) ≡ None
    go None e = e
    go (Some f) e = let z = all-read sound_pair 0 f (pairs_of R) (owed-pairs R o) e in absurd (grind (arith, nat_tests))

held-chain : (l : ℕ) (ps : List Pair) (q : Option Fact) (f : Fact) → q ≡ Some f → passes_at (on_chain (chain_at ByLabel) (l % 64)) l q ≡ true
held-chain l ps q f e = rw (e, eq-eqb (l % 64) (l % 64) refl) refl

-- the row of a link, or a free one
abbrev pub row_of : List Row → Option ℕ → Row
row_of R None = None
row_of R (Some i) = get_or R i None

-- a label that is held stands at its place
pub found-at : (R : List Row) (at : Option ℕ) (l : ℕ) (f : Fact) → 1 ≤ l → read l (pairs_of R) ≡ Some f → points R at (next_in (on_chain (chain_at ByLabel) (l % 64)) (l - 1) (pairs_of R)) ≡ true → has_label l (row_of R at) ≡ true
found-at R None l f h e p =
    let q = freed-found (on_chain (chain_at ByLabel) (l % 64)) (pairs_of R) l (rises-pairs R) (held-chain l (pairs_of R) (read l (pairs_of R)) f e) h in
    rw q at p
found-at R (Some i) l f h e p =
    let q = freed-found (on_chain (chain_at ByLabel) (l % 64)) (pairs_of R) l (rises-pairs R) (held-chain l (pairs_of R) (read l (pairs_of R)) f e) h in
    rw q at p

pub found-not : (R : List Row) (at : Option ℕ) (l : ℕ) → 1 ≤ l → points R at (next_in (on_chain (chain_at ByLabel) (l % 64)) (l - 1) (pairs_of R)) ≡ true → has_label l (row_of R at) ≡ false → read l (pairs_of R) ≡ None
found-not R at l h p n = go (read l (pairs_of R)) refl
  where
    go : (q : Option Fact) → read l (pairs_of R) ≡ q → read l (pairs_of R) ≡ None
    go None e = e
    go (Some f) e = let z = found-at R at l f h e p in absurd (false≢true (sym n ∙ z))

-- what is found in a row that is named: the label's fact
pub having-some : (l : ℕ) (R : List Row) (at : Option ℕ) → is_some (having l R at) ≡ true → Finds l R (having l R at)
having-some l R None e = absurd (false≢true e)
having-some l R (Some i) e = go (get_or R i None) refl e
  where
    go : (r : Row) → get_or R i None ≡ r → is_some (with_label l i r) ≡ true → Finds l R (with_label l i r)
    go None y e = absurd (false≢true e)
    go (Some (m, f)) y e = pick (eqb m l) refl e
      where
        pick : (b : Bool) → eqb m l ≡ b → is_some {T = ℕ × Fact} (cond b (Some (i, f)) None) ≡ true → Finds l R (cond b (Some (i, f)) None)
        pick true q e = y ∙ ap (λ (n : ℕ). Some (n, f)) (eqb-true m l q)
        pick false q e = absurd (false≢true e)

-- what is found at its place: the label's fact, or none where no row has the label
pub having-placed : (l : ℕ) (R : List Row) (at : Option ℕ) → 1 ≤ l → points R at (next_in (on_chain (chain_at ByLabel) (l % 64)) (l - 1) (pairs_of R)) ≡ true → Finds l R (having l R at)
having-placed l R None h p = found-not R None l h p refl
having-placed l R (Some i) h p = go (get_or R i None) refl
  where
    go : (r : Row) → get_or R i None ≡ r → Finds l R (with_label l i r)
    go None y = found-not R (Some i) l h p (ap (has_label l) y)
    go (Some (m, f)) y = pick (eqb m l) refl
      where
        pick : (b : Bool) → eqb m l ≡ b → Finds l R (cond b (Some (i, f)) None)
        pick true q = y ∙ ap (λ (n : ℕ). Some (n, f)) (eqb-true m l q)
        pick false q = found-not R (Some i) l h p (ap (has_label l) y ∙ q)

-- the first label of a kind ------------------------------------------------------------------------------------

pub kind-chain : (kind a : ℕ) (R : List Row) → kind < 64 → sound (pile_of R) ≡ true → next_of kind a (pairs_of R) ≡ next_in (on_chain (chain_at ByKind) kind) a (pairs_of R)
kind-chain kind a R h o =
    next_in_that (of_kind kind) a (pairs_of R)
    ∙ next-same (λ p. of_kind kind (fact p)) (on_chain (chain_at ByKind) kind) sound_pair a (pairs_of R) (λ p s. let m : (fact p).kind ≤ 63 = grind (arith, nat_tests) in let e : (fact p).kind % 64 ≡ (fact p).kind = omega arith in rw e refl) (owed-pairs R o)

pub kind-none : (kind a : ℕ) (R : List Row) → 64 ≤ kind → sound (pile_of R) ≡ true → next_of kind a (pairs_of R) ≡ None
kind-none kind a R h o = go (pairs_of R) (owed-pairs R o)
  where
    go : (ps : List Pair) → all sound_pair ps ≡ true → next_of kind a ps ≡ None
    go [] s = refl
    go (p ∷ ps) s = let ih = go ps in grind (arith, nat_tests)

-- what a link names is what it is found as
pub named : (R : List Row) (i l : ℕ) (f : Fact) (o : Option ℕ) → points R (Some i) o ≡ true → get_or R i None ≡ Some (l, f) → Some l ≡ o
named R i l f None p e = absurd (false≢true p)
named R i l f (Some n) p e = let z : has_label n (get_or R i None) ≡ eqb l n = ap (has_label n) e in ap (λ (x : ℕ). Some x) (eqb-true l n (sym z ∙ p))

-- the first label of a kind and a first word ----------------------------------------------------------------------

pub same-magnitude : (a b : ℤ) → sameℤ a b ≡ true → magnitude a ≡ magnitude b
same-magnitude (pos a) (pos b) e = eqb-true a b e
same-magnitude (pos a) (negsuc b) e = absurd (false≢true e)
same-magnitude (negsuc a) (pos b) e = absurd (false≢true e)
same-magnitude (negsuc a) (negsuc b) e = ap suc (eqb-true a b e)

-- what is asked for stands on its chain
asked_chain : (kind : ℕ) (word : ℤ) (p : Pair) → of_kind_with kind word (fact p) ≡ true → on_chain (chain_at ByWord) (chain_of ByWord 0 kind word) p ≡ true
asked_chain kind word p e =
    let q = and_parts (eqb (fact p).kind kind) (sameℤ (get_or (fact p).words 0 (pos 0)) word) e in
    let k = eqb-true (fact p).kind kind q.0 in
    let m = same-magnitude (get_or (fact p).words 0 (pos 0)) word q.1 in
    eq-eqb (chain_at ByWord p) (chain_of ByWord 0 kind word) (rw (k, m) refl)

-- a walk along the chain: what is still to be found is the answer
pub record Asking (kind : ℕ) (word : ℤ) (above : ℕ) (at : Option ℕ) (R : List Row) (a : ℕ) : Type 0 where
  pub next : points R at (next_in (on_chain (chain_at ByWord) (chain_of ByWord 0 kind word)) a (pairs_of R)) ≡ true
  pub same : next_in (λ p. of_kind_with kind word (fact p)) a (pairs_of R) ≡ next_with kind word above (pairs_of R)

pub asking_at : (kind : ℕ) (word : ℤ) (above : ℕ) (at : Option ℕ) (i : ℕ) (R : List Row) (a : ℕ) → at ≡ Some i → Asking kind word above at R a → Asking kind word above (Some i) R a
asking_at kind word above at i R a e q = rw (← e) q

pub asking_end : (kind : ℕ) (word : ℤ) (above : ℕ) (R : List Row) (a : ℕ) → Asking kind word above None R a → next_with kind word above (pairs_of R) ≡ None
asking_end kind word above R a q =
    let t = on_chain (chain_at ByWord) (chain_of ByWord 0 kind word) in
    sym q.same ∙ next-none t (λ p. of_kind_with kind word (fact p)) a (pairs_of R) (asked_chain kind word) (meets-none R (next_in t a (pairs_of R)) q.next)

-- a row that is met: it is the answer, or the walk goes on behind its label
pub asking_met : (kind : ℕ) (word : ℤ) (above i : ℕ) (R : List Row) (a l : ℕ) (f : Fact) → distinct R ≡ true → sound (pile_of R) ≡ true → Asking kind word above (Some i) R a → get_or R i None ≡ Some (l, f) → next_with kind word above (pairs_of R) ≡ cond (of_kind_with kind word f) (Some l) (next_in (λ p. of_kind_with kind word (fact p)) l (pairs_of R))
asking_met kind word above i R a l f d o q e =
    let t = on_chain (chain_at ByWord) (chain_of ByWord 0 kind word) in
    let u = λ (p : Pair). of_kind_with kind word (fact p) in
    let m = meets (chain_at ByWord) R (chain_of ByWord 0 kind word) a i l f d o e q.next in
    let n = next-less t u a l (pairs_of R) (asked_chain kind word) (rises-pairs R) m.found in
    let r = used-read R i l f d e in
    sym q.same ∙ n ∙ rw r refl

-- behind a row that is not the answer
pub asking_more : (kind : ℕ) (word : ℤ) (above i : ℕ) (R : List Row) (L H : List (Option ℕ)) (a l : ℕ) (f : Fact) → distinct R ≡ true → sound (pile_of R) ≡ true → Linked (chain_at ByWord) R L H → Asking kind word above (Some i) R a → get_or R i None ≡ Some (l, f) → of_kind_with kind word f ≡ false → Asking kind word above (get_or L i None) R l
asking_more kind word above i R L H a l f d o k q e n =
    let t = on_chain (chain_at ByWord) (chain_of ByWord 0 kind word) in
    let m = meets (chain_at ByWord) R (chain_of ByWord 0 kind word) a i l f d o e q.next in
    let y = asking_met kind word above i R a l f d o q e in
    record {
      next = subst (λ (c : ℕ). points R (get_or L i None) (next_in (on_chain (chain_at ByWord) c) l (pairs_of R)) ≡ true) m.chain (k.later i l f e);
      same = sym (y ∙ rw n refl);
    }

-- the label at a row of the walk, from which the measure falls
pub rank : List Row → Option ℕ → ℕ
rank R None = 0
rank R (Some i) = 1000001 - label_in (get_or R i None)

pub rank-falls : (R : List Row) (o : Option ℕ) (i l : ℕ) (f : Fact) (key : Pair → ℕ) (b : ℕ) → get_or R i None ≡ Some (l, f) → l ≤ 1000000 → points R o (next_in (on_chain key b) l (pairs_of R)) ≡ true → rank R o < rank R (Some i)
unfolding rank
rank-falls R None i l f key b e few p = let z : label_in (get_or R i None) ≡ l = ap label_in e in omega arith
rank-falls R (Some k) i l f key b e few p = go (get_or R k None) refl (next_in (on_chain key b) l (pairs_of R)) refl p
  where
    here : label_in (get_or R i None) ≡ l
    here = ap label_in e

    go : (r : Row) → get_or R k None ≡ r → (q : Option ℕ) → next_in (on_chain key b) l (pairs_of R) ≡ q → points R (Some k) q ≡ true → 1000001 - label_in (get_or R k None) < 1000001 - label_in (get_or R i None)
    go r y None z w = absurd (false≢true w)
    go None y (Some n) z w = let x : has_label n (get_or R k None) ≡ false = ap (has_label n) y in absurd (false≢true (sym x ∙ w))
    go (Some (m, g)) y (Some n) z w =
        let x : has_label n (get_or R k None) ≡ eqb m n = ap (has_label n) y in
        let t : m ≡ n = eqb-true m n (sym x ∙ w) in
        let v = (next-passes (on_chain key b) l n (pairs_of R) (rises-pairs R) z).0 in
        let u = here in
        let j : label_in (get_or R k None) ≡ m = ap label_in y in
        omega arith

pub asked_answer : (kind : ℕ) (word : ℤ) (above i : ℕ) (R : List Row) (a l : ℕ) → distinct R ≡ true → sound (pile_of R) ≡ true → Asking kind word above (Some i) R a → asked_label kind word (get_or R i None) ≡ Some l → next_with kind word above (pairs_of R) ≡ Some l
asked_answer kind word above i R a l d o q e = go (get_or R i None) refl
  where
    go : (r : Row) → get_or R i None ≡ r → next_with kind word above (pairs_of R) ≡ Some l
    go None y = let x : None ≡ Some l = sym (ap (asked_label kind word) y) ∙ e in let v : ◌≡◌ {A = ℕ} 0 1 = cc in absurd (omega arith)
    go (Some (m, f)) y =
        let x : cond (of_kind_with kind word f) (Some m) None ≡ Some l = sym (ap (asked_label kind word) y) ∙ e in
        let z = asking_met kind word above i R a m f d o q y in
        pick (of_kind_with kind word f) (next_in (λ p. of_kind_with kind word (fact p)) m (pairs_of R)) x z
      where
        pick : (b : Bool) (n : Option ℕ) → cond b (Some m) None ≡ Some l → next_with kind word above (pairs_of R) ≡ cond b (Some m) n → next_with kind word above (pairs_of R) ≡ Some l
        pick true n x z = z ∙ x
        pick false n x z = let v : ◌≡◌ {A = ℕ} 0 1 = cc in absurd (omega arith)

pub asked_on : (kind : ℕ) (word : ℤ) (above i : ℕ) (R : List Row) (L H : List (Option ℕ)) (a : ℕ) → distinct R ≡ true → sound (pile_of R) ≡ true → Linked (chain_at ByWord) R L H → Asking kind word above (Some i) R a → asked_label kind word (get_or R i None) ≡ None → ((b : ℕ) × Asking kind word above (get_or L i None) R b) × (rank R (get_or L i None) < rank R (Some i))
asked_on kind word above i R L H a d o k q e = go (get_or R i None) refl
  where
    go : (r : Row) → get_or R i None ≡ r → ((b : ℕ) × Asking kind word above (get_or L i None) R b) × (rank R (get_or L i None) < rank R (Some i))
    go None y = absurd (meets-used R i (next_in (on_chain (chain_at ByWord) (chain_of ByWord 0 kind word)) a (pairs_of R)) y q.next)
    go (Some (m, f)) y =
        let x : cond (of_kind_with kind word f) (Some m) None ≡ None = sym (ap (asked_label kind word) y) ∙ e in
        let w = no (of_kind_with kind word f) x in
        let u = asking_more kind word above i R L H a m f d o k q y w in
        let v = meets (chain_at ByWord) R (chain_of ByWord 0 kind word) a i m f d o y q.next in
        ((m, u), rank-falls R (get_or L i None) i m f (chain_at ByWord) (chain_of ByWord 0 kind word) y v.few u.next)
      where
        no : (b : Bool) → cond b (Some m) None ≡ None → b ≡ false
        no true x = let v : ◌≡◌ {A = ℕ} 0 1 = cc in absurd (omega arith)
        no false x = refl
