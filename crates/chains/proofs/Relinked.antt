-- A row put on its chain, and one taken off: what the links of the others are afterwards.
use Rattle.std.proofs.Common.{◌≡◌, ℕ, ◌-◌, ◌<◌, ◌≤◌, Bool, true, false, cond, ◌&&◌, eqb, ltb, leb, List, length, get_or, set, Some, None, Option, sym, refl, ap, subst, ◌∙◌, ⊎_elim, arith, length-set, get_or-set_other, get_or-set_same}
use Rattle.std.proofs.lemmas.Bool.{cases_lt, cases_eq, eqb-true, eq-eqb, leb-true, lt-ltb, le-ltb, false≢true}
use Rattle.std.proofs.lemmas.Bool.Decides.{nat_tests}
use Rattle.facts.specs.declared.fact_types.Fact.{Fact}
use Rattle.stores.specs.Lists.{rises}
use Rattle.stores.specs.Store.{Pair, labels, read, placed, taken_out}
use Rattle.stores.specs.Piles.{sound}
use Rattle.stores.specs.Table.{Row, pairs_of, pile_of, absent, distinct}
use Rattle.stores.proofs.Pairs.{least}
use Rattle.stores.proofs.Tables.{rises-pairs, absent-read, pairs-put, pairs-take}
use Rattle.chains.specs.Links.{next_in, on_chain, points, Linked, up_to, Place}
use Rattle.chains.specs.Acts.{label_in, label_at, relinked, headed}
use Rattle.chains.proofs.Nexts.{passes_at, beyond, at_most, is_it, next-passes, next-member, next-placed, next-taken}
use Rattle.chains.proofs.Named.{named_as, named_or_none, names_or_not, one_pair, used-within, used-read, one-row, points-one, points_fill, points-free, holds, used-sound, not-place, same-place}

-- where a place comes from: a row of the chain, or its head
pub record Source (key : Pair → ℕ) (R : List Row) (L H : List (Option ℕ)) (b a : ℕ) (before at : Option ℕ) (m : ℕ) : Type 0 where
  pub holder : holds (on_chain key b) m (pairs_of R) ≡ true
  pub below : m ≤ a
  pub same : next_in (on_chain key b) m (pairs_of R) ≡ next_in (on_chain key b) a (pairs_of R)
  pub row : (i : ℕ) → before ≡ Some i → (g : Fact) × (get_or R i None ≡ Some (m, g)) × (key (m, g) ≡ b) × (get_or L i None ≡ at) × (1 ≤ m)
  pub head : before ≡ None → (m ≡ 0) × (get_or H b None ≡ at)

one_number : (i j : ℕ) → ◌≡◌ {A = Option ℕ} (Some i) (Some j) → i ≡ j
one_number i j e = cc

source-row : (key : Pair → ℕ) (R : List Row) (L H : List (Option ℕ)) (b a i : ℕ) (at : Option ℕ) → distinct R ≡ true → sound (pile_of R) ≡ true → Linked key R L H → Place key R L H b a (Some i) at → (r : Row) → get_or R i None ≡ r → Source key R L H b a (Some i) at (label_in r)
source-row key R L H b a i at d o k p None e =
    let y : up_to key b a (get_or R i None) ≡ false = ap (up_to key b a) e in
    absurd (false≢true (sym y ∙ p.from.0))
source-row key R L H b a i at d o k p (Some (m, g)) e =
    let z = p.from.0 in
    let y : up_to key b a (get_or R i None) ≡ (eqb (key (m, g)) b && leb m a) = ap (up_to key b a) e in
    let q : key (m, g) ≡ b = grind (arith, nat_tests) in
    let w : m ≤ a = grind (arith, nat_tests) in
    let v = p.from.1 in
    let s = used-sound R i m g d o e in
    let r = used-read R i m g d e in
    let l = k.later i m g e in
    let one : 1 ≤ m = grind (arith, nat_tests) in
    record {
      holder = grind (arith, nat_tests);
      below = w;
      same = points-one R at (next_in (on_chain key b) m (pairs_of R)) (next_in (on_chain key b) a (pairs_of R)) (subst (λ (n : Option ℕ). points R n (next_in (on_chain key b) m (pairs_of R)) ≡ true) v (subst (λ (c : ℕ). points R (get_or L i None) (next_in (on_chain key c) m (pairs_of R)) ≡ true) q l)) p.next;
      row = λ j n. let x = one_number i j n in (g, rw (← x) e, q, rw (← x) v, one);
      head = λ n. let x : ◌≡◌ {A = ℕ} 0 1 = cc in absurd (omega arith);
    }

pub source : (key : Pair → ℕ) (R : List Row) (L H : List (Option ℕ)) (b a : ℕ) (before at : Option ℕ) → distinct R ≡ true → sound (pile_of R) ≡ true → Linked key R L H → Place key R L H b a before at → b < 64 → Source key R L H b a before at (label_at R before)
source key R L H b a (Some i) at d o k p s = source-row key R L H b a i at d o k p (get_or R i None) refl
source key R L H b a None at d o k p s =
    record {
      holder = refl;
      below = omega arith;
      same = points-one R at (next_in (on_chain key b) 0 (pairs_of R)) (next_in (on_chain key b) a (pairs_of R)) (subst (λ (n : Option ℕ). points R n (next_in (on_chain key b) 0 (pairs_of R)) ≡ true) p.from (k.first b s)) p.next;
      row = λ j n. let x : ◌≡◌ {A = ℕ} 0 1 = cc in absurd (omega arith);
      head = λ _. (refl, p.from);
    }

-- a row put on its chain -----------------------------------------------------------------------------------------

-- the label at whose holder the new one stands
fill_here : (key : Pair → ℕ) (ps : List Pair) (l m : ℕ) (f : Fact) → rises (labels ps) ≡ true → read l ps ≡ None → 1 ≤ l → holds (on_chain key (key (l, f))) m ps ≡ true → m ≤ l → next_in (on_chain key (key (l, f))) m ps ≡ next_in (on_chain key (key (l, f))) l ps → next_in (on_chain key (key (l, f))) m (placed l f ps) ≡ Some l
fill_here key ps l m f r n i h b e =
    let t = on_chain key (key (l, f)) in
    let p = next-placed t m l f ps r n in
    let q = go (next_in t l ps) refl in
    let s : eqb (key (l, f)) (key (l, f)) ≡ true = eq-eqb (key (l, f)) (key (l, f)) refl in
    let k : m < l = ⊎_elim (λ x. grind (arith, nat_tests)) (λ x. omega arith) (cases_eq m l) in
    let c : ltb m l ≡ true = lt-ltb m l k in
    p ∙ rw (c, s, e) q
  where
    go : (o : Option ℕ) → next_in (on_chain key (key (l, f))) l ps ≡ o → least (Some l) (next_in (on_chain key (key (l, f))) l ps) ≡ Some l
    go None e = rw e refl
    go (Some x) e = let z = next-passes (on_chain key (key (l, f))) l x ps r e in rw e (grind (arith, nat_tests))

-- the label of any other holder
fill_other : (key : Pair → ℕ) (ps : List Pair) (l m n c : ℕ) (f : Fact) → rises (labels ps) ≡ true → read l ps ≡ None → 1 ≤ l → holds (on_chain key (key (l, f))) n ps ≡ true → n ≤ l → next_in (on_chain key (key (l, f))) n ps ≡ next_in (on_chain key (key (l, f))) l ps → holds (on_chain key c) m ps ≡ true → (c ≡ key (l, f) → m ≡ n → ⊥) → next_in (on_chain key c) m (placed l f ps) ≡ next_in (on_chain key c) m ps
fill_other key ps l m n c f r a i h b e k s =
    let p = next-placed (on_chain key c) m l f ps r a in
    ⊎_elim
    (λ q. p ∙ same q)
    (λ q. let z = eqb (key (l, f)) c in let w : eqb (key (l, f)) c ≡ false = grind (arith, nat_tests) in grind (arith, nat_tests))
    (cases_eq c (key (l, f)))
  where
    below : n < l
    below = ⊎_elim (λ x. grind (arith, nat_tests)) (λ x. omega arith) (cases_eq n l)

    far : (o : Option ℕ) → next_in (on_chain key (key (l, f))) l ps ≡ o → beyond l o ≡ true
    far None e = refl
    far (Some x) e = lt-ltb l x (next-passes (on_chain key (key (l, f))) l x ps r e).0

    near : c ≡ key (l, f) → m < l → at_most n (next_in (on_chain key c) m ps) ≡ true
    near q h' =
        let t = on_chain key (key (l, f)) in
        let v : beyond l (next_in t n ps) ≡ true = ap (beyond l) e ∙ far (next_in t l ps) refl in
        let u : holds t m ps ≡ true = subst (λ (x : ℕ). holds (on_chain key x) m ps ≡ true) q k in
        subst (λ (x : ℕ). at_most n (next_in (on_chain key x) m ps) ≡ true) (sym q) (not-place t l m n ps r u h h' below v (s q))

    same : c ≡ key (l, f) → cond (ltb m l && eqb (key (l, f)) c) (least (Some l) (next_in (on_chain key c) m ps)) (next_in (on_chain key c) m ps) ≡ next_in (on_chain key c) m ps
    same q =
        ⊎_elim
        (λ x. let y = near q x in let z = below in grind (arith, nat_tests))
        (λ x. let y = le-ltb m l x in grind (arith, nat_tests))
        (cases_lt m l)

-- a row taken off its chain --------------------------------------------------------------------------------------

-- what is first above one less than a label that is on the chain is the label itself
pub freed-found : (t : Pair → Bool) (ps : List Pair) (l : ℕ) → rises (labels ps) ≡ true → passes_at t l (read l ps) ≡ true → 1 ≤ l → next_in t (l - 1) ps ≡ Some l
freed-found t ps l r e h = go (next_in t (l - 1) ps) refl (next-member t (l - 1) l ps r e (omega arith))
  where
    go : (q : Option ℕ) → next_in t (l - 1) ps ≡ q → at_most l (next_in t (l - 1) ps) ≡ true → next_in t (l - 1) ps ≡ Some l
    go None q a = let z : at_most l (next_in t (l - 1) ps) ≡ false = ap (at_most l) q in absurd (false≢true (sym z ∙ a))
    go (Some n) q a =
        let z : at_most l (next_in t (l - 1) ps) ≡ leb n l = ap (at_most l) q in
        let b = (next-passes t (l - 1) n ps r q).0 in
        let c : n ≤ l = leb-true n l (sym z ∙ a) in
        let m : n ≡ l = omega arith in
        q ∙ ap (λ (x : ℕ). Some x) m

freed-here : (t : Pair → Bool) (ps : List Pair) (l m : ℕ) → rises (labels ps) ≡ true → next_in t m ps ≡ Some l → next_in t m (taken_out l ps) ≡ next_in t l ps
freed-here t ps l m r e = next-taken t m l ps r ∙ rw (e, eq-eqb l l refl) refl

freed-past : (t : Pair → Bool) (ps : List Pair) (l : ℕ) → rises (labels ps) ≡ true → is_it l (next_in t l ps) ≡ false
freed-past t ps l r = go (next_in t l ps) refl
  where
    go : (q : Option ℕ) → next_in t l ps ≡ q → is_it l (next_in t l ps) ≡ false
    go None q = ap (is_it l) q
    go (Some n) q = let a = (next-passes t l n ps r q).0 in ap (is_it l) q ∙ grind (arith, nat_tests)

-- no other holder of a chain has the label next
freed-other : (key : Pair → ℕ) (ps : List Pair) (l m n c : ℕ) (f : Fact) → rises (labels ps) ≡ true → read l ps ≡ Some f → holds (on_chain key (key (l, f))) n ps ≡ true → next_in (on_chain key (key (l, f))) n ps ≡ Some l → holds (on_chain key c) m ps ≡ true → (c ≡ key (l, f) → m ≡ n → ⊥) → is_it l (next_in (on_chain key c) m ps) ≡ false
freed-other key ps l m n c f r a h e k s = go (next_in (on_chain key c) m ps) refl
  where
    go : (q : Option ℕ) → next_in (on_chain key c) m ps ≡ q → is_it l (next_in (on_chain key c) m ps) ≡ false
    go None q = ap (is_it l) q
    go (Some x) q = ⊎_elim (λ y. absurd (clash y)) (λ y. ap (is_it l) q ∙ grind (arith, nat_tests)) (cases_eq x l)
      where
        clash : x ≡ l → ⊥
        clash y =
            let p : next_in (on_chain key c) m ps ≡ Some l = q ∙ ap (λ (z : ℕ). Some z) y in
            let w = (next-passes (on_chain key c) m l ps r p).1 in
            let v : eqb (key (l, f)) c ≡ true = rw a at w in
            let u : c ≡ key (l, f) = sym (eqb-true (key (l, f)) c v) in
            s u (same-place (on_chain key (key (l, f))) l m n ps r (subst (λ (z : ℕ). holds (on_chain key z) m ps ≡ true) u k) h (subst (λ (z : ℕ). next_in (on_chain key z) m ps ≡ Some l) u p) e)

-- the heads and the links afterwards
headed-same : (H : List (Option ℕ)) (b i : ℕ) (before x : Option ℕ) → before ≡ Some i → headed before b x H ≡ H
headed-same H b i before x e = rw e refl

headed-new : (H : List (Option ℕ)) (b : ℕ) (before x : Option ℕ) → before ≡ None → headed before b x H ≡ set H b x
headed-new H b before x e = rw e refl

headed-other : (H : List (Option ℕ)) (b : ℕ) (before x : Option ℕ) (c : ℕ) → (c ≡ b → ⊥) → get_or (headed before b x H) c None ≡ get_or H c None
headed-other H b None x c n = get_or-set_other H b c x None n
headed-other H b (Some i) x c n = refl

headed-length : (H : List (Option ℕ)) (b : ℕ) (before x : Option ℕ) → length (headed before b x H) ≡ length H
headed-length H b None x = length-set H b x
headed-length H b (Some i) x = refl

relinked-same : (L : List (Option ℕ)) (i : ℕ) (before x : Option ℕ) → before ≡ Some i → i < length L → get_or (relinked before x L) i None ≡ x
relinked-same L i before x e h = rw e (get_or-set_same L i x None h)

pub relinked-other : (L : List (Option ℕ)) (j : ℕ) (before x : Option ℕ) → (before ≡ Some j → ⊥) → get_or (relinked before x L) j None ≡ get_or L j None
relinked-other L j None x n = refl
relinked-other L j (Some i) x n = get_or-set_other L i j x None (λ e. n (ap (λ (m : ℕ). Some m) (sym e)))

module _ (key : Pair → ℕ) (R : List Row) (L H : List (Option ℕ)) (d : distinct R ≡ true) (o : sound (pile_of R) ≡ true) (k : Linked key R L H) (links : length L ≡ length R) (before at : Option ℕ) (l i : ℕ) (f : Fact) (small : key (l, f) < 64) (one : 1 ≤ l) where
  -- a free row gets the pair
  module _ (p : Place key R L H (key (l, f)) l before at) (e : get_or R i None ≡ None) (h : i < length R) (a : absent l R ≡ true) where
    missing : read l (pairs_of R) ≡ None
    missing = absent-read l R a

    from : Source key R L H (key (l, f)) l before at (label_at R before)
    from = source key R L H (key (l, f)) l before at d o k p small

    pairs : pairs_of (set R i (Some (l, f))) ≡ placed l f (pairs_of R)
    pairs = pairs-put R i l f d h (rw e a)

    -- the label of the row before, or 0
    abbrev prior : ℕ
    prior = label_at R before

    apart-rows : before ≡ Some i → ⊥
    apart-rows q = let r = from.row i q in let z : ◌≡◌ {A = Row} (Some (prior, r.0)) None = sym r.1 ∙ e in let y : ◌≡◌ {A = ℕ} 0 1 = cc in absurd (omega arith)

    itself : points (set R i (Some (l, f))) (Some i) (Some l) ≡ true
    itself = rw (get_or-set_same R i (Some (l, f)) None h) (eq-eqb l l refl)

    here : points (set R i (Some (l, f))) (Some i) (next_in (on_chain key (key (l, f))) prior (pairs_of (set R i (Some (l, f))))) ≡ true
    here = rw (pairs, fill_here key (pairs_of R) l (label_at R before) f (rises-pairs R) missing one from.holder from.below from.same) itself

    other : (c m : ℕ) (j : Option ℕ) → holds (on_chain key c) m (pairs_of R) ≡ true → (c ≡ key (l, f) → m ≡ prior → ⊥) → points R j (next_in (on_chain key c) m (pairs_of R)) ≡ true → points (set R i (Some (l, f))) j (next_in (on_chain key c) m (pairs_of (set R i (Some (l, f))))) ≡ true
    other c m j u s q =
        rw (pairs, fill_other key (pairs_of R) l m (label_at R before) c f (rises-pairs R) missing one from.holder from.below from.same u s)
        (points_fill R i l j f (next_in (on_chain key c) m (pairs_of R)) e q)

    first-filled : (c : ℕ) → c < 64 → points (set R i (Some (l, f))) (get_or (headed before (key (l, f)) (Some i) H) c None) (next_in (on_chain key c) 0 (pairs_of (set R i (Some (l, f))))) ≡ true
    first-filled c w = ⊎_elim (λ q. at_head q) (λ q. rw (headed-other H (key (l, f)) before (Some i) c q) (other c 0 (get_or H c None) refl (λ x _. q x) (k.first c w))) (cases_eq c (key (l, f)))
      where
        at_head : c ≡ key (l, f) → points (set R i (Some (l, f))) (get_or (headed before (key (l, f)) (Some i) H) c None) (next_in (on_chain key c) 0 (pairs_of (set R i (Some (l, f))))) ≡ true
        at_head q =
            ⊎_elim
            (λ s. let r = from.row s.0 s.1 in rw (headed-same H (key (l, f)) s.0 before (Some i) s.1) (other c 0 (get_or H c None) refl (λ _ z. let y = r.4 in absurd (omega arith)) (k.first c w)))
            (λ s.
            let z = from.head s in
            let n = k.sized in
            let b : key (l, f) < length H = omega arith in
            rw (q, headed-new H (key (l, f)) before (Some i) s, get_or-set_same H (key (l, f)) (Some i) None b) (subst (λ (x : ℕ). points (set R i (Some (l, f))) (Some i) (next_in (on_chain key (key (l, f))) x (pairs_of (set R i (Some (l, f))))) ≡ true) z.0 here))
            (named_or_none before)

    later-filled : (j m : ℕ) (g : Fact) → get_or (set R i (Some (l, f))) j None ≡ Some (m, g) → points (set R i (Some (l, f))) (get_or (relinked before (Some i) (set L i at)) j None) (next_in (on_chain key (key (m, g))) m (pairs_of (set R i (Some (l, f))))) ≡ true
    later-filled j m g y = ⊎_elim (λ q. new q) (λ q. old q) (cases_eq j i)
      where
        new : j ≡ i → points (set R i (Some (l, f))) (get_or (relinked before (Some i) (set L i at)) j None) (next_in (on_chain key (key (m, g))) m (pairs_of (set R i (Some (l, f))))) ≡ true
        new q =
            let x : ◌≡◌ {A = Row} (Some (l, f)) (Some (m, g)) = sym (get_or-set_same R i (Some (l, f)) None h) ∙ ap (λ n. get_or (set R i (Some (l, f))) n None) (sym q) ∙ y in
            let p' = one_pair l m f g x in
            let u = p'.0 in
            let v = p'.1 in
            let w : points R at (next_in (on_chain key (key (l, f))) l (pairs_of R)) ≡ true = p.next in
            let s : next_in (on_chain key (key (l, f))) l (placed l f (pairs_of R)) ≡ next_in (on_chain key (key (l, f))) l (pairs_of R) = next-placed (on_chain key (key (l, f))) l l f (pairs_of R) (rises-pairs R) missing ∙ rw (le-ltb l l (omega arith)) refl in
            let t : get_or (relinked before (Some i) (set L i at)) i None ≡ at = relinked-other (set L i at) i before (Some i) apart-rows ∙ get_or-set_same L i at None (omega arith) in
            rw (q, t, ← u, ← v, pairs, s) (points_fill R i l at f (next_in (on_chain key (key (l, f))) l (pairs_of R)) e w)

        old : (j ≡ i → ⊥) → points (set R i (Some (l, f))) (get_or (relinked before (Some i) (set L i at)) j None) (next_in (on_chain key (key (m, g))) m (pairs_of (set R i (Some (l, f))))) ≡ true
        old q = ⊎_elim (λ z. linked z) (λ z. unlinked z) (names_or_not before j)
          where
            had : get_or R j None ≡ Some (m, g)
            had = sym (get_or-set_other R i j (Some (l, f)) None q) ∙ y

            linked : before ≡ Some j → points (set R i (Some (l, f))) (get_or (relinked before (Some i) (set L i at)) j None) (next_in (on_chain key (key (m, g))) m (pairs_of (set R i (Some (l, f))))) ≡ true
            linked z =
                let w = used-within R j m g had in
                let r = from.row j z in
                let x : ◌≡◌ {A = Row} (Some (prior, r.0)) (Some (m, g)) = sym r.1 ∙ had in
                let p' = one_pair prior m r.0 g x in
                let u = p'.0 in
                let v = p'.1 in
                let n = length-set L i at in
                let t : get_or (relinked before (Some i) (set L i at)) j None ≡ Some i = relinked-same (set L i at) j before (Some i) z (omega arith) in
                let c : key (m, g) ≡ key (l, f) = ap (λ n. key (n, g)) (sym u) ∙ ap (λ n. key (prior, n)) (sym v) ∙ r.2 in
                rw (t, c, ← u) here

            unlinked : (before ≡ Some j → ⊥) → points (set R i (Some (l, f))) (get_or (relinked before (Some i) (set L i at)) j None) (next_in (on_chain key (key (m, g))) m (pairs_of (set R i (Some (l, f))))) ≡ true
            unlinked z =
                let r = used-read R j m g d had in
                let s = eq-eqb (key (m, g)) (key (m, g)) refl in
                let u : holds (on_chain key (key (m, g))) m (pairs_of R) ≡ true = rw (r, s) (grind (arith, nat_tests)) in
                let b = used-sound R j m g d o had in
                let n : 1 ≤ m = grind (arith, nat_tests) in
                let w : key (m, g) ≡ key (l, f) → m ≡ prior → ⊥ = λ _ x. ⊎_elim (λ y. let v = from.row y.0 y.1 in z (named_as before y.0 j y.1 (one-row R y.0 j m v.0 g d (v.1 ∙ ap (λ n. Some (n, v.0)) (sym x)) had))) (λ y. let v = (from.head y).0 in absurd (omega arith)) (named_or_none before) in
                let t : get_or (relinked before (Some i) (set L i at)) j None ≡ get_or L j None = relinked-other (set L i at) j before (Some i) z ∙ get_or-set_other L i j at None q in
                rw t (other (key (m, g)) m (get_or L j None) u w (k.later j m g had))

    pub filled : Linked key (set R i (Some (l, f))) (relinked before (Some i) (set L i at)) (headed before (key (l, f)) (Some i) H)
    filled = record { sized = headed-length H (key (l, f)) before (Some i) ∙ k.sized; first = first-filled; later = later-filled }

  -- a row is freed
  module _ (p : Place key R L H (key (l, f)) (l - 1) before at) (e : get_or R i None ≡ Some (l, f)) where
    found : read l (pairs_of R) ≡ Some f
    found = used-read R i l f d e

    inside : i < length R
    inside = used-within R i l f e

    origin : Source key R L H (key (l, f)) (l - 1) before at (label_at R before)
    origin = source key R L H (key (l, f)) (l - 1) before at d o k p small

    less : pairs_of (set R i None) ≡ taken_out l (pairs_of R)
    less = pairs-take R i l d inside (rw e (eq-eqb l l refl))

    -- the label of the row before, or 0
    abbrev earlier : ℕ
    earlier = label_at R before

    leads : next_in (on_chain key (key (l, f))) earlier (pairs_of R) ≡ Some l
    leads =
        let s : passes_at (on_chain key (key (l, f))) l (read l (pairs_of R)) ≡ true = rw (found, eq-eqb (key (l, f)) (key (l, f)) refl) refl in
        origin.same ∙ freed-found (on_chain key (key (l, f))) (pairs_of R) l (rises-pairs R) s one

    past : points (set R i None) (get_or L i None) (next_in (on_chain key (key (l, f))) earlier (pairs_of (set R i None))) ≡ true
    past =
        rw (less, freed-here (on_chain key (key (l, f))) (pairs_of R) l earlier (rises-pairs R) leads)
        (points-free R i l (get_or L i None) f (next_in (on_chain key (key (l, f))) l (pairs_of R)) e (freed-past (on_chain key (key (l, f))) (pairs_of R) l (rises-pairs R)) (k.later i l f e))

    kept : (c m : ℕ) (j : Option ℕ) → holds (on_chain key c) m (pairs_of R) ≡ true → (c ≡ key (l, f) → m ≡ earlier → ⊥) → points R j (next_in (on_chain key c) m (pairs_of R)) ≡ true → points (set R i None) j (next_in (on_chain key c) m (pairs_of (set R i None))) ≡ true
    kept c m j u s q =
        let z = freed-other key (pairs_of R) l m earlier c f (rises-pairs R) found origin.holder leads u s in
        let t : next_in (on_chain key c) m (taken_out l (pairs_of R)) ≡ next_in (on_chain key c) m (pairs_of R) = next-taken (on_chain key c) m l (pairs_of R) (rises-pairs R) ∙ rw z refl in
        rw (less, t) (points-free R i l j f (next_in (on_chain key c) m (pairs_of R)) e z q)

    first-freed : (c : ℕ) → c < 64 → points (set R i None) (get_or (headed before (key (l, f)) (get_or L i None) H) c None) (next_in (on_chain key c) 0 (pairs_of (set R i None))) ≡ true
    first-freed c w = ⊎_elim (λ q. at_head q) (λ q. rw (headed-other H (key (l, f)) before (get_or L i None) c q) (kept c 0 (get_or H c None) refl (λ x _. q x) (k.first c w))) (cases_eq c (key (l, f)))
      where
        at_head : c ≡ key (l, f) → points (set R i None) (get_or (headed before (key (l, f)) (get_or L i None) H) c None) (next_in (on_chain key c) 0 (pairs_of (set R i None))) ≡ true
        at_head q =
            ⊎_elim
            (λ s. let r = origin.row s.0 s.1 in rw (headed-same H (key (l, f)) s.0 before (get_or L i None) s.1) (kept c 0 (get_or H c None) refl (λ _ z. let y = r.4 in absurd (omega arith)) (k.first c w)))
            (λ s.
            let z = origin.head s in
            let n = k.sized in
            let b : key (l, f) < length H = omega arith in
            rw (q, headed-new H (key (l, f)) before (get_or L i None) s, get_or-set_same H (key (l, f)) (get_or L i None) None b) (subst (λ (x : ℕ). points (set R i None) (get_or L i None) (next_in (on_chain key (key (l, f))) x (pairs_of (set R i None))) ≡ true) z.0 past))
            (named_or_none before)

    later-freed : (j m : ℕ) (g : Fact) → get_or (set R i None) j None ≡ Some (m, g) → points (set R i None) (get_or (relinked before (get_or L i None) L) j None) (next_in (on_chain key (key (m, g))) m (pairs_of (set R i None))) ≡ true
    later-freed j m g y = ⊎_elim (λ z. linked z) (λ z. unlinked z) (names_or_not before j)
      where
        other_row : j ≡ i → ⊥
        other_row q = let x : ◌≡◌ {A = Row} None (Some (m, g)) = sym (get_or-set_same R i None None inside) ∙ ap (λ n. get_or (set R i None) n None) (sym q) ∙ y in let v : ◌≡◌ {A = ℕ} 0 1 = cc in absurd (omega arith)

        had : get_or R j None ≡ Some (m, g)
        had = sym (get_or-set_other R i j None None other_row) ∙ y

        linked : before ≡ Some j → points (set R i None) (get_or (relinked before (get_or L i None) L) j None) (next_in (on_chain key (key (m, g))) m (pairs_of (set R i None))) ≡ true
        linked z =
            let w = used-within R j m g had in
            let r = origin.row j z in
            let x : ◌≡◌ {A = Row} (Some (earlier, r.0)) (Some (m, g)) = sym r.1 ∙ had in
            let p' = one_pair earlier m r.0 g x in
            let u = p'.0 in
            let v = p'.1 in
            let t : get_or (relinked before (get_or L i None) L) j None ≡ get_or L i None = relinked-same L j before (get_or L i None) z (omega arith) in
            let c : key (m, g) ≡ key (l, f) = ap (λ n. key (n, g)) (sym u) ∙ ap (λ n. key (earlier, n)) (sym v) ∙ r.2 in
            rw (t, c, ← u) past

        unlinked : (before ≡ Some j → ⊥) → points (set R i None) (get_or (relinked before (get_or L i None) L) j None) (next_in (on_chain key (key (m, g))) m (pairs_of (set R i None))) ≡ true
        unlinked z =
            let r = used-read R j m g d had in
            let s = eq-eqb (key (m, g)) (key (m, g)) refl in
            let u : holds (on_chain key (key (m, g))) m (pairs_of R) ≡ true = rw (r, s) (grind (arith, nat_tests)) in
            let b = used-sound R j m g d o had in
            let n : 1 ≤ m = grind (arith, nat_tests) in
            let w : key (m, g) ≡ key (l, f) → m ≡ earlier → ⊥ = λ _ x. ⊎_elim (λ y. let v = origin.row y.0 y.1 in z (named_as before y.0 j y.1 (one-row R y.0 j m v.0 g d (v.1 ∙ ap (λ n. Some (n, v.0)) (sym x)) had))) (λ y. let v = (origin.head y).0 in absurd (omega arith)) (named_or_none before) in
            let t : get_or (relinked before (get_or L i None) L) j None ≡ get_or L j None = relinked-other L j before (get_or L i None) z in
            rw t (kept (key (m, g)) m (get_or L j None) u w (k.later j m g had))

    pub freed : Linked key (set R i None) (relinked before (get_or L i None) L) (headed before (key (l, f)) (get_or L i None) H)
    freed = record { sized = headed-length H (key (l, f)) before (get_or L i None) ∙ k.sized; first = first-freed; later = later-freed }

-- the link of a free row does not matter
pub link-free : (key : Pair → ℕ) (R : List Row) (L H : List (Option ℕ)) (i : ℕ) (x : Option ℕ) → Linked key R L H → get_or R i None ≡ None → Linked key R (set L i x) H
link-free key R L H i x k e =
    record {
      sized = k.sized;
      first = k.first;
      later = λ j m g y. let n : j ≡ i → ⊥ = (λ q. let z : ◌≡◌ {A = Row} None (Some (m, g)) = sym e ∙ ap (λ n. get_or R n None) (sym q) ∙ y in let v : ◌≡◌ {A = ℕ} 0 1 = cc in absurd (omega arith)) in rw (get_or-set_other L i j x None n) (k.later j m g y);
    }
