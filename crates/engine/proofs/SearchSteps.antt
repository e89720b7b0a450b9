-- The steps of the search: a label is refused or taken, and what the first letters and candidates say of all choices.
use Rattle.std.proofs.Common.{◌≡◌, ℕ, suc, ◌+◌, ◌-◌, ◌<◌, ◌≤◌, Bool, true, false, cond, ◌||◌, eqb, List, [], ◌∷◌, ◌++◌, length, get_or, take, Some, None, Option, is_some, sym, refl, ap, subst, ◌∙◌, arith}
use Rattle.std.specs.Prelude.{unwrap_or}
use Rattle.std.proofs.lemmas.List.{get_or_append_left}
use Rattle.std.proofs.lemmas.Bool.{and_from, eqb-true, eqb-false, both_ways, false_from_ne_true}
use Rattle.facts.specs.System.{System}
use Rattle.facts.specs.declared.fact_types.Fact.{Fact}
use Rattle.rules.specs.declared.rule_types.Pattern.{Pattern}
use Rattle.rules.specs.Rules.{Rule, singles, all}
use Rattle.rules.specs.Closed.{heads_of, accepted, rule_verdict, every_word}
use Rattle.stores.specs.Lists.{has}
use Rattle.stores.specs.Store.{Pair, labels, facts, read, next_that}
use Rattle.machine.specs.Fitting.{fits, setting_of}
use Rattle.engine.specs.Letters.{Letters, unbound, bind_fact}
use Rattle.machine.specs.Machine.{suits, chosen}
use Rattle.engine.specs.Searching.{Agrees, Binds, IsPartial, no_head, no_fact, head_at, is_candidate, fact_at, pairs_at, or_next, begun, found_from, found_above, extended, candidates_stand}
use Rattle.engine.proofs.SearchLetters.{unbound_fact, letter_below}
use Rattle.machine.proofs.Lists.{Each}
use Rattle.engine.proofs.SearchOrder.{Rising, Stands, rising-stands, fact-at, begun-none, begun-all, next-found}
use Rattle.engine.proofs.SearchFits.{fits-at, binds_first, binds_more, candidate, head-below, unbound-agrees}
use Rattle.engine.proofs.SearchPartial.{suited, active-fits, has-push, distinct-push, all-push, fact-stands, doomed, here-fits, here-agrees, here-new, here-other, more-binds, more-count, front-count, next, next-value}

-- the letters where a label is read
abbrev pub of_read : Letters → Pattern → Option Fact → Option Letters
of_read l p o = elim o [ None ↦ None | Some f ↦ bind_fact l p f ]

-- a label is refused or taken -------------------------------------------------------------------------------------------

module _ (s : System) (r : Rule) (place active : ℕ) (ps : List Pair) (ls : List ℕ) (l : Letters) (w : IsPartial ps r place active ls l) (q : length ls < heads_of r) (rise : Rising 0 ps) (other : length ls ≡ place → ⊥) (above n : ℕ) (e : next_that (is_candidate l (head_at r (length ls))) above ps ≡ Some n) where
  abbrev here : Pattern
  here = head_at r (length ls)

  abbrev begins : List Pair
  begins = pairs_at ps ls

  given : Fact
  given = (next s r place active ps ls l w q rise above n e).given

  there : Stands ps (n, given)
  unfolding given
  there = (next s r place active ps ls l w q rise above n e).there

  at-given : fact_at ps n ≡ given
  unfolding given
  at-given = fact-at ps (n, given) there

  -- where a label is refused, no choice goes on with it
  refused-none : extended ps here active ls l n ≡ None → begun (suits s r place active) ps (heads_of r - suc (length ls)) (begins ++ ((n, given) ∷ [])) ≡ None
  refused-none k = doomed s r place active ps ls l w (n, given) there (heads_of r - suc (length ls)) (rising-stands 0 ps rise) no
    where
      no : (d : List Pair) → Each (Stands ps) d → suits s r place active (begins ++ ((n, given) ∷ d)) ≡ true → ⊥
      no d v t = go (eqb n active) (has n ls) refl refl k
        where
          go : (a b : Bool) → eqb n active ≡ a → has n ls ≡ b → cond (a || b) None (of_read l here (read n ps)) ≡ None → ⊥
          go true b x y z = here-other s r place active ps ls l w (n, given) d there v t other (eqb-true n active x)
          go false true x y z = both_ways (has n ls) (here-new s r place active ps ls l w (n, given) d there v t) y
          go false false x y z =
              let f = ap (of_read l here) (sym there) ∙ z in
              let below : all (letter_below (length l)) here.args ≡ true = subst (λ (m : ℕ). all (letter_below m) here.args ≡ true) (sym w.binds.wide) (head-below r (length ls) w.stands q) in
              both_ways (fits (setting_of r (facts (begins ++ ((n, given) ∷ d)))) here given)
              (unbound_fact l here given (setting_of r (facts (begins ++ ((n, given) ∷ d)))) f below (here-agrees s r place active ps ls l w (n, given) d there v t))
              (here-fits s r place active ps ls l w (n, given) d there v t)

  pub refused : extended ps here active ls l n ≡ None → found_above s r place active ps ls above ≡ found_above s r place active ps ls n
  unfolding given found_above
  refused k = (next s r place active ps ls l w q rise above n e).value ∙ ap (λ (o : Option (List Pair)). or_next o (found_above s r place active ps ls n)) (refused-none k)

  -- where it is taken, the choices go on
  module _ (m : Letters) (k : extended ps here active ls l n ≡ Some m) where
    taken-parts : (eqb n active ≡ false) × (has n ls ≡ false) × (bind_fact l here (fact_at ps n) ≡ Some m)
    taken-parts = go (eqb n active) (has n ls) refl refl k
      where
        go : (a b : Bool) → eqb n active ≡ a → has n ls ≡ b → cond (a || b) None (of_read l here (read n ps)) ≡ Some m → (eqb n active ≡ false) × (has n ls ≡ false) × (bind_fact l here (fact_at ps n) ≡ Some m)
        go true b x y z = let c : ◌≡◌ {A = ℕ} 0 1 = cc in absurd (omega arith)
        go false true x y z = let c : ◌≡◌ {A = ℕ} 0 1 = cc in absurd (omega arith)
        go false false x y z = (
          x,
          y,
          ap (bind_fact l here) at-given ∙ (ap (of_read l here) (sym there) ∙ z),
        )

    pub taken_partial : IsPartial ps r place active (ls ++ (n ∷ [])) m
    taken_partial =
        let count = more-count s r place active ps ls l w n q in record {
          stands = w.stands;
          place_in = w.place_in;
          short = omega (arith, count);
          active_held = w.active_held;
          held = all-push (λ m. is_some (read m ps)) ls n w.held (ap is_some there);
          apart = distinct-push ls n w.apart taken-parts.1;
          placed = λ x. let y : place < length ls = behind (omega (arith, count)) in get_or_append_left ls (n ∷ []) 0 place y ∙ w.placed y;
          not_placed = λ x. has-push ls active n (w.not_placed (omega (arith, count))) (λ y. eqb-false n active taken-parts.0 (sym y));
          binds = more-binds s r place active ps ls l w n q m
              (binds_more (head_at r place ∷ take (length ls) (singles r)) (fact_at ps active ∷ facts (pairs_at ps ls)) l m here (fact_at ps n)
              (ap suc (front-count s r place active ps ls l w)) w.binds taken-parts.2);
        }
      where
        behind : place ≤ length ls → place < length ls
        behind x = omega (arith, other)

  pub taken : found_above s r place active ps ls above ≡ or_next (found_from s r place active ps (ls ++ (n ∷ []))) (found_above s r place active ps ls n)
  taken = next-value s r place active ps ls l w q rise above n e

-- all choices -----------------------------------------------------------------------------------------------------------

module _ (s : System) (r : Rule) (place active : ℕ) (ps : List Pair) (rise : Rising 0 ps) where
  none-suits : ((c : List Pair) → Each (Stands ps) c → suits s r place active c ≡ true → ⊥) → chosen s r place active ps ≡ None
  none-suits f =
      sym (begun-all (suits s r place active) ps (heads_of r))
      ∙ begun-none (suits s r place active) ps (rising-stands 0 ps rise) (heads_of r) [] (λ d e. false_from_ne_true (suits s r place active d) (f d e))

  pub start-found : found_from s r place active ps [] ≡ chosen s r place active ps
  unfolding found_from
  start-found =
      let m : heads_of r - 0 ≡ heads_of r = omega arith in
      ap (λ (n : ℕ). begun (suits s r place active) ps n []) m ∙ begun-all (suits s r place active) ps (heads_of r)

  module _ (h : place < heads_of r) (stands : accepted (rule_verdict every_word r) ≡ true) (f : Fact) (a : read active ps ≡ Some f) where
    active-is : fact_at ps active ≡ f
    active-is = ap (λ (o : Option Fact). unwrap_or o no_fact) a

    fits-place : (c : List Pair) → Each (Stands ps) c → suits s r place active c ≡ true → fits (setting_of r (facts c)) (head_at r place) f ≡ true
    fits-place c e t = ap (fits (setting_of r (facts c)) (head_at r place)) (sym active-is) ∙ active-fits s r place active ps c h e (suited s r place active c t)

    pub unbound-chosen : bind_fact unbound (head_at r place) f ≡ None → chosen s r place active ps ≡ None
    unbound-chosen k =
        none-suits (λ c e t. both_ways (fits (setting_of r (facts c)) (head_at r place) f)
        (unbound_fact unbound (head_at r place) f (setting_of r (facts c)) k (head-below r place stands h) (unbound-agrees (setting_of r (facts c))))
        (fits-place c e t))

    pub start_partial : (l : Letters) → bind_fact unbound (head_at r place) f ≡ Some l → IsPartial ps r place active [] l
    start_partial l k = record {
      stands = stands;
      place_in = h;
      short = omega arith;
      active_held = ap is_some a;
      held = refl;
      apart = refl;
      placed = λ x. absurd (omega arith);
      not_placed = λ x. refl;
      binds = subst (λ (g : Fact). Binds (head_at r place ∷ []) (g ∷ []) l) (sym active-is) (binds_first (head_at r place) f l k);
    }

    -- a head with no candidate
    all-stand : (l : Letters) (n : ℕ) (hs : List Pattern) → ((i : ℕ) → i < length hs → (n + i ≡ place → ⊥) → is_some (next_that (is_candidate l (get_or hs i no_head)) 0 ps) ≡ true) → candidates_stand ps l place n hs ≡ true
    all-stand l n [] g = refl
    all-stand l n (p ∷ hs) g =
        and_from (eqb n place || is_some (next_that (is_candidate l p) 0 ps)) (candidates_stand ps l place (suc n) hs)
        (go (eqb n place) refl) (all-stand l (suc n) hs (λ i x y. g (suc i) (omega arith) (λ z. y (omega arith))))
      where
        go : (b : Bool) → eqb n place ≡ b → (b || is_some (next_that (is_candidate l p) 0 ps)) ≡ true
        go true x = refl
        go false x = g 0 (omega arith) (λ y. eqb-false n place x (omega arith))

    pub lonely_chosen : (l : Letters) → bind_fact unbound (head_at r place) f ≡ Some l → candidates_stand ps l place 0 (singles r) ≡ false → chosen s r place active ps ≡ None
    lonely_chosen l k z = none-suits (λ c e t. both_ways (candidates_stand ps l place 0 (singles r)) z (all-stand l 0 (singles r) (λ i x y. found c e t i x)))
      where
        agrees : (c : List Pair) → Each (Stands ps) c → suits s r place active c ≡ true → Agrees (setting_of r (facts c)) l
        agrees c e t = (binds_first (head_at r place) f l k).agree (setting_of r (facts c)) (and_from (fits (setting_of r (facts c)) (head_at r place) f) true (fits-place c e t) refl)

        found : (c : List Pair) → Each (Stands ps) c → suits s r place active c ≡ true → (i : ℕ) → i < length (singles r) → is_some (next_that (is_candidate l (head_at r i)) 0 ps) ≡ true
        found c e t i x =
            let k = suited s r place active c t in
            next-found (is_candidate l (head_at r i)) 0 0 (get_or (labels c) i 0) (get_or (facts c) i no_fact) ps rise (omega arith)
            (fact-stands ps c i e (omega (arith, k.wide)))
            (candidate (setting_of r (facts c)) l (head_at r i) (get_or (facts c) i no_fact) (agrees c e t) (fits-at (setting_of r (facts c)) (singles r) (facts c) i k.fit x))
