-- The beginnings of choices: what a choice that suits says of them, which pairs they can go on with, and what they come to.
use Rattle.std.proofs.Common.{◌≡◌, ℕ, zero, suc, ◌-◌, ◌<◌, Bool, true, false, cond, not, ◌&&◌, ◌||◌, eqb, List, [], ◌∷◌, ◌++◌, length, get_or, take, ℤ, pos, Some, None, Option, is_some, sym, refl, ap, subst, ◌∙◌, arith, length-append, append_assoc}
use Rattle.std.specs.Prelude.{unwrap_or}
use Rattle.std.proofs.Math.Seq.{take-suc}
use Rattle.std.proofs.lemmas.List.{map-append, get_or_push, length-map, length-take-le, take_all, get_or_at}
use Rattle.std.proofs.lemmas.Bool.{and_parts, and_from, eqb-true, eq-eqb, ne_eqb, eqb-false, or_from, or_parts, both_ways, not-true, false_from_ne_true}
use Rattle.facts.specs.System.{System}
use Rattle.facts.specs.declared.fact_types.Fact.{Fact}
use Rattle.rules.specs.declared.rule_types.Pattern.{Pattern}
use Rattle.rules.specs.Rules.{Rule, singles, all}
use Rattle.rules.specs.Closed.{heads_of}
use Rattle.stores.specs.Lists.{has}
use Rattle.stores.specs.Store.{Pair, label, fact, labels, facts, read, next_that}
use Rattle.machine.specs.Lists.{distinct}
use Rattle.machine.specs.Fitting.{fits, fits_each, holds, ready_under, ready, setting_of}
use Rattle.engine.specs.Letters.{Letters, setting_in}
use Rattle.machine.specs.Machine.{stands_at, suits}
use Rattle.engine.specs.Searching.{Agrees, Binds, IsPartial, no_head, no_fact, head_at, is_candidate, fact_at, pairs_at, or_next, first_of, begun, found_from, found_above}
use Rattle.machine.proofs.Lists.{Each, Each-append}
use Rattle.engine.proofs.SearchOrder.{Rising, Stands, Next, rising-stands, fact-at, begun-none, first_of-only, above-none, above-some, after-rising}
use Rattle.engine.proofs.SearchFits.{fits-length, fits-at, fits-front, binds_again, setting-same, candidate}

-- labels ----------------------------------------------------------------------------------------------------------------

distinct-apart : (ls ms : List ℕ) (n : ℕ) → distinct (ls ++ (n ∷ ms)) ≡ true → has n ls ≡ false
distinct-apart [] ms n e = refl
distinct-apart (l ∷ ls) ms n e =
    let p = and_parts (not (has l (ls ++ (n ∷ ms)))) (distinct (ls ++ (n ∷ ms))) e in
    or_from (eqb n l) (has n ls)
    (ne_eqb n l (λ q. both_ways (has l (ls ++ (n ∷ ms))) (not-true (has l (ls ++ (n ∷ ms))) p.0) (stands ls (sym q))))
    (distinct-apart ls ms n p.1)
  where
    stands : (ks : List ℕ) → l ≡ n → has l (ks ++ (n ∷ ms)) ≡ true
    stands [] q = ap (λ b. b || has l ms) (eq-eqb l n q)
    stands (k ∷ ks) q = go (eqb l k) (stands ks q)
      where
        go : (b : Bool) → has l (ks ++ (n ∷ ms)) ≡ true → (b || has l (ks ++ (n ∷ ms))) ≡ true
        go true h = refl
        go false h = h

pub distinct-push : (ls : List ℕ) (n : ℕ) → distinct ls ≡ true → has n ls ≡ false → distinct (ls ++ (n ∷ [])) ≡ true
distinct-push [] n e h = refl
distinct-push (l ∷ ls) n e h =
    let p = and_parts (not (has l ls)) (distinct ls) e in
    let q = or_parts (eqb n l) (has n ls) h in
    and_from (not (has l (ls ++ (n ∷ [])))) (distinct (ls ++ (n ∷ [])))
    (ap not (apart ls (not-true (has l ls) p.0) (ne_eqb l n (λ k. eqb-false n l q.0 (sym k)))))
    (distinct-push ls n p.1 q.1)
  where
    apart : (ks : List ℕ) → has l ks ≡ false → eqb l n ≡ false → has l (ks ++ (n ∷ [])) ≡ false
    apart [] u v = or_from (eqb l n) false v refl
    apart (k ∷ ks) u v = let w = or_parts (eqb l k) (has l ks) u in or_from (eqb l k) (has l (ks ++ (n ∷ []))) w.0 (apart ks w.1 v)

pub has-push : (ls : List ℕ) (n m : ℕ) → has n ls ≡ false → (n ≡ m → ⊥) → has n (ls ++ (m ∷ [])) ≡ false
has-push [] n m h e = or_from (eqb n m) false (ne_eqb n m e) refl
has-push (l ∷ ls) n m h e = let p = or_parts (eqb n l) (has n ls) h in or_from (eqb n l) (has n (ls ++ (m ∷ []))) p.0 (has-push ls n m p.1 e)

pub has-at : (ls : List ℕ) (i : ℕ) → i < length ls → has (get_or ls i 0) ls ≡ true
has-at [] i h = absurd (omega arith)
has-at (l ∷ ls) zero h = ap (λ b. b || has l ls) (eq-eqb l l refl)
has-at (l ∷ ls) (suc i) h = go (eqb (get_or ls i 0) l) (has-at ls i (omega arith))
  where
    go : (b : Bool) → has (get_or ls i 0) ls ≡ true → (b || has (get_or ls i 0) ls) ≡ true
    go true k = refl
    go false k = k

-- no number stands at two places
distinct-at : (ls : List ℕ) (i j : ℕ) → distinct ls ≡ true → i < length ls → j < length ls → get_or ls i 0 ≡ get_or ls j 0 → i ≡ j
distinct-at [] i j e h k q = absurd (omega arith)
distinct-at (l ∷ ls) zero zero e h k q = refl
distinct-at (l ∷ ls) zero (suc j) e h k q =
    let p = and_parts (not (has l ls)) (distinct ls) e in
    absurd (both_ways (has l ls) (not-true (has l ls) p.0) (ap (λ n. has n ls) q ∙ has-at ls j (omega arith)))
distinct-at (l ∷ ls) (suc i) zero e h k q =
    let p = and_parts (not (has l ls)) (distinct ls) e in
    absurd (both_ways (has l ls) (not-true (has l ls) p.0) (ap (λ n. has n ls) (sym q) ∙ has-at ls i (omega arith)))
distinct-at (l ∷ ls) (suc i) (suc j) e h k q =
    ap suc (distinct-at ls i j (and_parts (not (has l ls)) (distinct ls) e).1 (omega arith) (omega arith) q)

pub all-push : (t : ℕ → Bool) (ls : List ℕ) (n : ℕ) → all t ls ≡ true → t n ≡ true → all t (ls ++ (n ∷ [])) ≡ true
all-push t [] n e h = and_from (t n) true h refl
all-push t (l ∷ ls) n e h = let p = and_parts (t l) (all t ls) e in and_from (t l) (all t (ls ++ (n ∷ []))) p.0 (all-push t ls n p.1 h)

-- pairs under labels ----------------------------------------------------------------------------------------------------

pub labels-at : (ps : List Pair) (ls : List ℕ) → labels (pairs_at ps ls) ≡ ls
labels-at ps [] = refl
labels-at ps (l ∷ ls) = ap (λ (ms : List ℕ). l ∷ ms) (labels-at ps ls)

pairs-push : (ps : List Pair) (ls : List ℕ) (n : ℕ) → pairs_at ps (ls ++ (n ∷ [])) ≡ pairs_at ps ls ++ ((n, fact_at ps n) ∷ [])
pairs-push ps ls n = map-append (λ l. (l, fact_at ps l)) ls (n ∷ [])

pub read-held : (ps : List Pair) (n : ℕ) → is_some (read n ps) ≡ true → read n ps ≡ Some (fact_at ps n)
read-held ps n = go (read n ps)
  where
    go : (o : Option Fact) → is_some o ≡ true → o ≡ Some (unwrap_or o no_fact)
    go None e = let z : ◌≡◌ {A = ℕ} 0 1 = cc in absurd (omega arith)
    go (Some f) e = refl

held-stand : (ps : List Pair) (ls : List ℕ) → all (λ m. is_some (read m ps)) ls ≡ true → Each (Stands ps) (pairs_at ps ls)
held-stand ps [] e = tt
held-stand ps (l ∷ ls) e = let p = and_parts (is_some (read l ps)) (all (λ m. is_some (read m ps)) ls) e in (read-held ps l p.0, held-stand ps ls p.1)

pub fact-stands : (ps c : List Pair) (i : ℕ) → Each (Stands ps) c → i < length c → read (get_or (labels c) i 0) ps ≡ Some (get_or (facts c) i no_fact)
fact-stands ps [] i e h = absurd (omega arith)
fact-stands ps (x ∷ c) zero e h = e.0
fact-stands ps (x ∷ c) (suc i) e h = fact-stands ps c i e.1 (omega arith)

-- a choice that suits ---------------------------------------------------------------------------------------------------

pub record Suited (s : System) (r : Rule) (place active : ℕ) (c : List Pair) : Type 0 where
  pub at_place : get_or (labels c) place 0 ≡ active
  pub apart : distinct (labels c) ≡ true
  pub fit : fits_each (setting_of r (facts c)) (singles r) (facts c) ≡ true
  pub wide : length c ≡ heads_of r

pub suited : (s : System) (r : Rule) (place active : ℕ) (c : List Pair) → suits s r place active c ≡ true → Suited s r place active c
suited s r place active c e =
    let a = and_parts (stands_at place active c) (distinct (labels c) && ready s r (facts c)) e in
    let b = and_parts (distinct (labels c)) (ready s r (facts c)) a.1 in
    let d = and_parts (fits_each (setting_of r (facts c)) (singles r) (facts c)) (all (holds s (setting_of r (facts c)) []) r.whens) b.1 in record {
      at_place = eqb-true (get_or (labels c) place 0) active a.0;
      apart = b.0;
      fit = d.0;
      wide = sym (length-map c fact) ∙ fits-length (setting_of r (facts c)) (singles r) (facts c) d.0;
    }

-- the active fact stands at its place
module _ (s : System) (r : Rule) (place active : ℕ) (ps c : List Pair) (h : place < heads_of r) (e : Each (Stands ps) c) (k : Suited s r place active c) where
  pub active-there : get_or (facts c) place no_fact ≡ fact_at ps active
  active-there =
      let q = sym (ap (λ n. read n ps) k.at_place) ∙ fact-stands ps c place e (omega (arith, k.wide)) in
      sym (ap (λ (o : Option Fact). unwrap_or o no_fact) q)

  pub active-fits : fits (setting_of r (facts c)) (head_at r place) (fact_at ps active) ≡ true
  active-fits = ap (fits (setting_of r (facts c)) (head_at r place)) (sym active-there) ∙ fits-at (setting_of r (facts c)) (singles r) (facts c) place k.fit h

-- beginnings ------------------------------------------------------------------------------------------------------------

module _ (s : System) (r : Rule) (place active : ℕ) (ps : List Pair) (ls : List ℕ) (l : Letters) (w : IsPartial ps r place active ls l) where
  -- what the labels begin
  abbrev begins : List Pair
  begins = pairs_at ps ls

  abbrev test : List Pair → Bool
  test = suits s r place active

  stand : Each (Stands ps) begins
  stand = held-stand ps ls w.held

  count : length begins ≡ length ls
  count = length-map ls (λ n. (n, fact_at ps n))

  facts-count : length (facts begins) ≡ length ls
  facts-count = length-map begins fact ∙ count

  pub front-count : length (take (length ls) (singles r)) ≡ length (facts begins)
  front-count = length-take-le (length ls) (singles r) w.short ∙ sym facts-count

  module _ (d : List Pair) (e : Each (Stands ps) d) (t : test (begins ++ d) ≡ true) where
    k : Suited s r place active (begins ++ d)
    k = suited s r place active (begins ++ d) t

    agrees : Agrees (setting_of r (facts (begins ++ d))) l
    agrees =
        let τ = setting_of r (facts (begins ++ d)) in
        let split = map-append fact begins d in
        let f = fits-front τ (singles r) (facts begins) (facts d) (ap (fits_each τ (singles r)) (sym split) ∙ k.fit) in
        let g : fits_each τ (take (length ls) (singles r)) (facts begins) ≡ true = ap (λ n. fits_each τ (take n (singles r)) (facts begins)) (sym facts-count) ∙ f in
        w.binds.agree τ
        (and_from (fits τ (head_at r place) (fact_at ps active)) (fits_each τ (take (length ls) (singles r)) (facts begins))
        (active-fits s r place active ps (begins ++ d) w.place_in (Each-append (Stands ps) begins d stand e) k) g)

  -- a choice that goes on with a pair
  module _ (x : Pair) (d : List Pair) (u : Stands ps x) (e : Each (Stands ps) d) (t : test (begins ++ (x ∷ d)) ≡ true) where
    whole : Suited s r place active (begins ++ (x ∷ d))
    whole = suited s r place active (begins ++ (x ∷ d)) t

    pub room : length ls < heads_of r
    room = omega (arith, whole.wide, length-append begins (x ∷ d), count)

    split-labels : labels (begins ++ (x ∷ d)) ≡ ls ++ (label x ∷ labels d)
    split-labels = map-append label begins (x ∷ d) ∙ ap (λ (ms : List ℕ). ms ++ (label x ∷ labels d)) (labels-at ps ls)

    pub here-fits : fits (setting_of r (facts (begins ++ (x ∷ d)))) (head_at r (length ls)) (fact x) ≡ true
    here-fits =
        let τ = setting_of r (facts (begins ++ (x ∷ d))) in
        let at = ap (λ (fs : List Fact). get_or fs (length ls) no_fact) (map-append fact begins (x ∷ d)) ∙ get_or_at (facts begins) (fact x) (facts d) no_fact (length ls) facts-count in
        ap (fits τ (head_at r (length ls))) (sym at) ∙ fits-at τ (singles r) (facts (begins ++ (x ∷ d))) (length ls) whole.fit room

    pub here-agrees : Agrees (setting_of r (facts (begins ++ (x ∷ d)))) l
    here-agrees = agrees (x ∷ d) (u, e) t

    here-label : get_or (labels (begins ++ (x ∷ d))) (length ls) 0 ≡ label x
    here-label = ap (λ (ms : List ℕ). get_or ms (length ls) 0) split-labels ∙ get_or_at ls (label x) (labels d) 0 (length ls) refl

    pub here-new : has (label x) ls ≡ false
    here-new = distinct-apart ls (labels d) (label x) (ap distinct (sym split-labels) ∙ whole.apart)

    here-active : length ls ≡ place → label x ≡ active
    here-active q = sym here-label ∙ (ap (λ n. get_or (labels (begins ++ (x ∷ d))) n 0) q ∙ whole.at_place)

    pub here-other : (length ls ≡ place → ⊥) → label x ≡ active → ⊥
    here-other ne q =
        let many : length (labels (begins ++ (x ∷ d))) ≡ heads_of r = length-map (begins ++ (x ∷ d)) label ∙ whole.wide in
        ne (distinct-at (labels (begins ++ (x ∷ d))) (length ls) place whole.apart (omega (arith, room)) (omega (arith, w.place_in)) (here-label ∙ (q ∙ sym whole.at_place)))

  -- where none of the choices that go on with a pair suits
  pub doomed : (x : Pair) → Stands ps x → (n : ℕ) → Each (Stands ps) ps → ((d : List Pair) → Each (Stands ps) d → test (begins ++ (x ∷ d)) ≡ true → ⊥) → begun test ps n (begins ++ (x ∷ [])) ≡ None
  doomed x u n e f =
      begun-none test ps e n (begins ++ (x ∷ []))
      (λ d v. ap test (append_assoc begins (x ∷ []) d) ∙ false_from_ne_true (test (begins ++ (x ∷ d))) (f d v))

  -- all labels are chosen
  module _ (q : length ls ≡ heads_of r) where
    full : take (length ls) (singles r) ≡ singles r
    full = take_all (length ls) (singles r) (omega arith)

    there : get_or (facts begins) place no_fact ≡ fact_at ps active
    there =
        let h : place < length begins = omega (arith, count, w.place_in) in
        let a = ap (λ (ms : List ℕ). get_or ms place 0) (labels-at ps ls) ∙ w.placed (omega (arith, w.place_in)) in
        let k = sym (ap (λ n. read n ps) a) ∙ fact-stands ps begins place stand h in
        sym (ap (λ (o : Option Fact). unwrap_or o no_fact) k)

    bound : Binds (head_at r place ∷ singles r) (fact_at ps active ∷ facts begins) l
    bound = subst (λ (hs : List Pattern). Binds (head_at r place ∷ hs) (fact_at ps active ∷ facts begins) l) full w.binds

    pub end-setting : setting_in l ≡ setting_of r (facts begins)
    end-setting = setting-same r place (fact_at ps active) (facts begins) l bound w.place_in there

    end-fits : fits_each (setting_in l) (singles r) (facts begins) ≡ true
    end-fits =
        (and_parts (fits (setting_in l) (head_at r place) (fact_at ps active)) (fits_each (setting_in l) (singles r) (facts begins))
        (bound.fit (setting_in l) (λ v x k. ap (λ (o : Option ℤ). unwrap_or o (pos 0)) k))).1

    end-suits : test begins ≡ all (holds s (setting_in l) []) r.whens
    end-suits =
        let a : stands_at place active begins ≡ true =
        eq-eqb (get_or (labels begins) place 0) active (ap (λ (ms : List ℕ). get_or ms place 0) (labels-at ps ls) ∙ w.placed (omega (arith, w.place_in))) in
        let b : distinct (labels begins) ≡ true = ap distinct (labels-at ps ls) ∙ w.apart in
        let c : ready s r (facts begins) ≡ all (holds s (setting_in l) []) r.whens =
        (λ i. ready_under s r (sym end-setting i) (facts begins)) ∙ ap (λ (z : Bool). z && all (holds s (setting_in l) []) r.whens) end-fits in
        (λ i. a i && (b i && c i))

    pub end-found : found_from s r place active ps ls ≡ cond (all (holds s (setting_in l) []) r.whens) (Some begins) None
    unfolding found_from
    end-found =
        let n : heads_of r - length ls ≡ 0 = omega arith in
        ap (λ (m : ℕ). begun test ps m begins) n ∙ ap (λ (z : Bool). cond z (Some begins) None) end-suits

  -- one label more
  module _ (n : ℕ) (q : length ls < heads_of r) where
    pub more-count : length (ls ++ (n ∷ [])) ≡ suc (length ls)
    more-count = omega (arith, length-append ls (n ∷ []))

    more-heads : take (length (ls ++ (n ∷ []))) (singles r) ≡ take (length ls) (singles r) ++ (head_at r (length ls) ∷ [])
    more-heads = ap (λ (m : ℕ). take m (singles r)) more-count ∙ take-suc (singles r) (length ls) no_head q

    more-facts : facts (pairs_at ps (ls ++ (n ∷ []))) ≡ facts begins ++ (fact_at ps n ∷ [])
    more-facts = ap facts (pairs-push ps ls n) ∙ map-append fact begins ((n, fact_at ps n) ∷ [])

    pub more-binds : (m : Letters) → Binds (head_at r place ∷ (take (length ls) (singles r) ++ (head_at r (length ls) ∷ []))) (fact_at ps active ∷ (facts begins ++ (fact_at ps n ∷ []))) m →
        Binds (head_at r place ∷ take (length (ls ++ (n ∷ []))) (singles r)) (fact_at ps active ∷ facts (pairs_at ps (ls ++ (n ∷ [])))) m
    more-binds m b =
        subst (λ (hs : List Pattern). Binds (head_at r place ∷ hs) (fact_at ps active ∷ facts (pairs_at ps (ls ++ (n ∷ [])))) m) (sym more-heads)
        (subst (λ (fs : List Fact). Binds (head_at r place ∷ (take (length ls) (singles r) ++ (head_at r (length ls) ∷ []))) (fact_at ps active ∷ fs) m) (sym more-facts) b)

    more-found : found_from s r place active ps (ls ++ (n ∷ [])) ≡ begun test ps (heads_of r - suc (length ls)) (begins ++ ((n, fact_at ps n) ∷ []))
    unfolding found_from
    more-found = λ i. begun test ps (heads_of r - more-count i) (pairs-push ps ls n i)

  -- at the place of the active label
  module _ (q : length ls ≡ place) where
    placed_room : length ls < heads_of r
    placed_room = omega (arith, w.place_in)

    pub placed_partial : IsPartial ps r place active (ls ++ (active ∷ [])) l
    placed_partial = record {
      stands = w.stands;
      place_in = w.place_in;
      short = omega (arith, more-count active placed_room, w.place_in);
      active_held = w.active_held;
      held = all-push (λ m. is_some (read m ps)) ls active w.held w.active_held;
      apart = distinct-push ls active w.apart (w.not_placed (omega arith));
      placed = λ h. get_or_push ls active 0 place q;
      not_placed = λ h. absurd (omega (arith, more-count active placed_room));
      binds = more-binds active placed_room l
          (subst (λ (h : Pattern). Binds (head_at r place ∷ (take (length ls) (singles r) ++ (h ∷ []))) (fact_at ps active ∷ (facts begins ++ (fact_at ps active ∷ []))) l)
          (ap (head_at r) (sym q))
          (binds_again (take (length ls) (singles r)) (facts begins) l (head_at r place) (fact_at ps active) front-count w.binds));
    }

    pub placed-found : Rising 0 ps → found_from s r place active ps ls ≡ found_from s r place active ps (ls ++ (active ∷ []))
    unfolding found_from
    placed-found rise =
        let n = heads_of r - suc (length ls) in
        let e = rising-stands 0 ps rise in
        let m : heads_of r - length ls ≡ suc n = omega (arith, placed_room) in
        ap (λ (j : ℕ). begun test ps j begins) m
        ∙ (first_of-only (λ x. begun test ps n (begins ++ (x ∷ []))) (Stands ps) active 0
        (λ x u ne. doomed x u n e (λ d v t. ne (here-active x d u v t q))) ps rise e (fact_at ps active) (read-held ps active w.active_held)
        ∙ sym (more-found active placed_room))

  -- at another place
  module _ (q : length ls < heads_of r) (rise : Rising 0 ps) where
    pub above-start : found_from s r place active ps ls ≡ found_above s r place active ps ls 0
    unfolding found_from found_above
    above-start =
        let n = heads_of r - suc (length ls) in
        let m : heads_of r - length ls ≡ suc n = omega arith in
        ap (λ (j : ℕ). begun test ps j begins) m
        ∙ ap (first_of (λ x. begun test ps n (begins ++ (x ∷ [])))) (sym (after-rising 0 0 ps (omega arith) rise))

    pub no-candidate : (x : Pair) → Stands ps x → is_candidate l (head_at r (length ls)) (fact x) ≡ false → begun test ps (heads_of r - suc (length ls)) (begins ++ (x ∷ [])) ≡ None
    no-candidate x u f =
        doomed x u (heads_of r - suc (length ls)) (rising-stands 0 ps rise)
        (λ d v t. both_ways (is_candidate l (head_at r (length ls)) (fact x)) f
        (candidate (setting_of r (facts (begins ++ (x ∷ d)))) l (head_at r (length ls)) (fact x) (here-agrees x d u v t) (here-fits x d u v t)))

    pub above-end : (above : ℕ) → next_that (is_candidate l (head_at r (length ls))) above ps ≡ None → found_above s r place active ps ls above ≡ None
    unfolding found_above
    above-end above e =
        above-none (λ x. begun test ps (heads_of r - suc (length ls)) (begins ++ (x ∷ []))) (is_candidate l (head_at r (length ls))) (Stands ps) no-candidate
        above 0 ps rise (rising-stands 0 ps rise) e

    module _ (above n : ℕ) (e : next_that (is_candidate l (head_at r (length ls))) above ps ≡ Some n) where
      pub next : Next (λ x. begun test ps (heads_of r - suc (length ls)) (begins ++ (x ∷ []))) (is_candidate l (head_at r (length ls))) (Stands ps) above n ps
      next =
          above-some (λ x. begun test ps (heads_of r - suc (length ls)) (begins ++ (x ∷ []))) (is_candidate l (head_at r (length ls))) (Stands ps) no-candidate
          above 0 n ps rise (rising-stands 0 ps rise) e

      pub next-larger : above < n
      next-larger = next.larger

      pub next-is : ◌≡◌ {A = Pair} (n, fact_at ps n) (n, next.given)
      next-is = λ i. (n, fact-at ps (n, next.given) next.there i)

      pub next-value : found_above s r place active ps ls above ≡ or_next (found_from s r place active ps (ls ++ (n ∷ []))) (found_above s r place active ps ls n)
      unfolding found_above
      next-value =
          next.value
          ∙ ap (λ (o : Option (List Pair)). or_next o (found_above s r place active ps ls n))
          (sym (more-found n q ∙ (λ i. begun test ps (heads_of r - suc (length ls)) (begins ++ (next-is i ∷ [])))))
