-- The facts that a body gives, one after the other.
use Rattle.std.proofs.Common.{◌≡◌, ℕ, zero, suc, ◌+◌, ◌-◌, ◌<◌, ◌≤◌, Bool, true, false, cond, not, ◌&&◌, eqb, ltb, List, [], ◌∷◌, ◌++◌, map, flat_map, length, get_or, take, drop, set, filter, Some, None, Option, is_some, sym, refl, ap, ◌∙◌, subst, ⊎_elim, arith}
use Rattle.std.specs.Option.{option_map}
use Rattle.std.proofs.lemmas.Bool.{cases_Bool, and_parts, and_from, cond-true, cond-false, eq-eqb, ne_eqb}
use borrow.Author.Tests.{ltb-true, ltb-false}
use Rattle.std.proofs.lemmas.Bool.Decides.{nat_tests}
use Rattle.std.proofs.lemmas.List.{append_assoc, append-nil, length-map, length_push, length-set, take_all, take_more_set, take-append-le, at_drop_more, get_or_past}
use Rattle.std.proofs.Math.ListN.{get_or-map}
use Rattle.std.specs.Prelude.{unwrap_or}
use Rattle.facts.specs.declared.fact_types.Fact.{Fact}
use Rattle.rules.specs.Rules.{Rule, all, rule_seen}
use Rattle.rules.specs.declared.rule_types.RuleRecord.{RuleRecord}
use Rattle.rules.specs.declared.rule_types.GiveAll.{GiveAll}
use Rattle.stores.specs.Store.{Pair, label, fact, labels, facts, read}
use Rattle.stores.specs.Lists.{has, rises}
use Rattle.stores.specs.Lists as stores
use Rattle.stores.specs.Piles.{Pile, Owed}
use Rattle.stores.proofs.Piles.{owed-rises}
use Rattle.stores.proofs.Pairs.{above, all_above, all-kept}
use Rattle.lists.specs.Held.{held}
use Rattle.lists.proofs.Held.{held-count}
use Rattle.engine.proofs.Takings.{takes_at, all_taken-at, heads_long}
use Rattle.engine.specs.Searching.{no_fact, fact_at, pairs_at}
use Rattle.engine.specs.declared.body_type.Body.{Body}
use Rattle.facts.specs.System.{System}
use Rattle.machine.specs.Fitting.{Setting, given, all_values, body}
use Rattle.engine.specs.Taking.{with_given, with_all_given, Gives, HasFacts, IsBody, Taken, two, Took, Held, all_taken, labels_over, given_over}

-- giving ------------------------------------------------------------------------------------------------------------

-- a body with all facts of a list, where each is there
abbrev pub with_values : Body → List (Option Fact) → Option Body
with_values b os = option_map (with_all_given b) (all_values os)

mapped : (b : Body) (f : Fact) (o : Option (List Fact)) → option_map (with_all_given b) (option_map (λ fs. f ∷ fs) o) ≡ option_map (with_all_given (with_given b f)) o
mapped b f None = refl
mapped b f (Some fs) = refl

pub values_more : (b : Body) (f : Fact) (os : List (Option Fact)) → with_values b (Some f ∷ os) ≡ with_values (with_given b f) os
values_more b f os = mapped b f (all_values os)

gives_fail : (old new : Body) (o : Option (List Fact)) → option_map (with_all_given old) o ≡ None → Gives o old new None
gives_fail old new None e = refl
gives_fail old new (Some fs) e = grind (arith, nat_tests)

pub values_fail : (old new : Body) (os : List (Option Fact)) → with_values old os ≡ None → Gives (all_values os) old new None
values_fail old new os e = gives_fail old new (all_values os) e

from_gives : (old new : Body) (o : Option (List Fact)) → Gives o old new (Some tt) → option_map (with_all_given old) o ≡ Some new
from_gives old new None g = grind (arith, nat_tests)
from_gives old new (Some fs) g = ap Some (sym g.1)

from_fails : (old new : Body) (o : Option (List Fact)) → Gives o old new None → option_map (with_all_given old) o ≡ None
from_fails old new None g = refl
from_fails old new (Some fs) g = let e = g.0 in grind (arith, nat_tests)

pub values_from : (old new : Body) (os : List (Option Fact)) → Gives (all_values os) old new (Some tt) → with_values old os ≡ Some new
values_from old new os g = from_gives old new (all_values os) g

values_not : (old new : Body) (os : List (Option Fact)) → Gives (all_values os) old new None → with_values old os ≡ None
values_not old new os g = from_fails old new (all_values os) g

-- first some, then the others
values_append : (old mid : Body) (xs ys : List (Option Fact)) → with_values old xs ≡ Some mid → with_values old (xs ++ ys) ≡ with_values mid ys
values_append old mid [] ys e = ap (λ b. with_values b ys) (some-same old mid e)
  where
    some-same : (a b : Body) → Some a ≡ Some b → a ≡ b
    some-same a b e = cc
values_append old mid (None ∷ xs) ys e = grind (arith, nat_tests)
values_append old mid (Some f ∷ xs) ys e =
    values_more old f (xs ++ ys) ∙ values_append (with_given old f) mid xs ys (sym (values_more old f xs) ∙ e)

values_stop : (old : Body) (xs ys : List (Option Fact)) → with_values old xs ≡ None → with_values old (xs ++ ys) ≡ None
values_stop old [] ys e = grind (arith, nat_tests)
values_stop old (None ∷ xs) ys e = refl
values_stop old (Some f ∷ xs) ys e =
    values_more old f (xs ++ ys) ∙ values_stop (with_given old f) xs ys (sym (values_more old f xs) ∙ e)

pub values_count : (old new : Body) (os : List (Option Fact)) → with_values old os ≡ Some new → new.count ≡ old.count + length os
values_count old new [] e = ap (λ b. b.count) (sym (some-same old new e)) ∙ omega arith
  where
    some-same : (a b : Body) → Some a ≡ Some b → a ≡ b
    some-same a b e = cc
values_count old new (None ∷ os) e = grind (arith, nat_tests)
values_count old new (Some f ∷ os) e =
    let ih = values_count (with_given old f) new os (sym (values_more old f os) ∙ e) in
    omega (arith, ih)

-- what a body has ---------------------------------------------------------------------------------------------------

has_given : (fs : List Fact) (b : Body) (f : Fact) → HasFacts fs b → HasFacts (fs ++ f ∷ []) (with_given b f)
has_given fs b f h = ⊎_elim yes no (cases_Bool (ltb b.count 512))
  where
    yes : ltb b.count 512 ≡ true → HasFacts (fs ++ f ∷ []) (with_given b f)
    yes e =
        let k : b.count < 512 = ltb-true b.count 512 e in
        let w : b.count < length b.facts = omega (arith, h.wide) in
        let c = cond-true (ltb b.count 512) (set b.facts b.count f) b.facts e in
        let n : length fs ≤ 512 = omega (arith, h.count) in
        let m : length (fs ++ f ∷ []) ≤ 512 = omega (arith, h.count, length_push fs f) in
        record {
          count = omega (arith, h.count, length_push fs f);
          facts = ap (take (b.count + 1)) c ∙ (take_more_set b.facts b.count f w ∙ (ap (λ xs. xs ++ f ∷ []) (h.facts ∙ take_all 512 fs n) ∙ sym (take_all 512 (fs ++ f ∷ []) m)));
          wide = ap length c ∙ (length-set b.facts b.count f ∙ h.wide);
        }

    no : ltb b.count 512 ≡ false → HasFacts (fs ++ f ∷ []) (with_given b f)
    no e =
        let k : 512 ≤ b.count = ltb-false b.count 512 e in
        let c = cond-false (ltb b.count 512) (set b.facts b.count f) b.facts e in
        let w : length b.facts ≤ b.count = omega (arith, h.wide) in
        let v : length b.facts ≤ b.count + 1 = omega arith in
        let n : 512 ≤ length fs = omega (arith, h.count) in
        record {
          count = omega (arith, h.count, length_push fs f);
          facts = ap (take (b.count + 1)) c ∙ (take_all (b.count + 1) b.facts v ∙ (sym (take_all b.count b.facts w) ∙ (h.facts ∙ sym (take-append-le 512 fs (f ∷ []) n))));
          wide = ap length c ∙ h.wide;
        }

has_all : (fs gs : List Fact) (b : Body) → HasFacts fs b → HasFacts (fs ++ gs) (with_all_given b gs)
has_all fs [] b h = subst (λ xs. HasFacts xs b) (sym (append-nil fs)) h
has_all fs (g ∷ gs) b h =
    subst (λ xs. HasFacts xs (with_all_given (with_given b g) gs)) (append_assoc fs (g ∷ []) gs)
    (has_all (fs ++ g ∷ []) gs (with_given b g) (has_given fs b g h))

-- all facts given to an empty body
pub has_facts : (fs : List Fact) (b : Body) → HasFacts [] b → HasFacts fs (with_all_given b fs)
has_facts fs b h = has_all [] fs b h

body_from : (b : Body) (o : Option (List Fact)) (new : Body) → HasFacts [] b → option_map (with_all_given b) o ≡ Some new → IsBody o new (Some tt)
body_from b None new h e = grind (arith, nat_tests)
body_from b (Some fs) new h e = (refl, subst (λ x. HasFacts fs x) (some-same _ _ e) (has_facts fs b h))
  where
    some-same : (a b : Body) → Some a ≡ Some b → a ≡ b
    some-same a b e = cc

no_body : (b new : Body) (o : Option (List Fact)) → option_map (with_all_given b) o ≡ None → IsBody o new None
no_body b new None e = refl
no_body b new (Some fs) e = grind (arith, nat_tests)

-- a step of what is given for the facts under labels
over-step : (ps : List Pair) (value : Fact → Option Fact) (ls : List ℕ) (i d : ℕ) (f : Fact) (b : Body) → i < length ls → read (get_or ls i d) ps ≡ Some f →
    with_values b (map value (facts (pairs_at ps (drop i ls)))) ≡ with_values b (value f ∷ map value (facts (pairs_at ps (drop (i + 1) ls))))
over-step ps value ls i d f b h e =
    at_drop_more (λ xs. with_values b (map value (facts (pairs_at ps xs)))) ls i d h
    ∙ ap (λ o. with_values b (value (unwrap_or o no_fact) ∷ map value (facts (pairs_at ps (drop (i + 1) ls))))) e

pub over-more : (ps : List Pair) (value : Fact → Option Fact) (ls : List ℕ) (i d : ℕ) (f g : Fact) (old b new : Body) (whole : List (Option Fact)) →
    with_values old whole ≡ with_values b (map value (facts (pairs_at ps (drop i ls)))) → i < length ls → Some f ≡ read (get_or ls i d) ps → Some g ≡ value f → new ≡ with_given b g →
    with_values old whole ≡ with_values new (map value (facts (pairs_at ps (drop (i + 1) ls))))
over-more ps value ls i d f g old b new whole w h e v a =
    let rest = map value (facts (pairs_at ps (drop (i + 1) ls))) in
    w ∙ (over-step ps value ls i d f b h (sym e) ∙ (ap (λ o. with_values b (o ∷ rest)) (sym v) ∙ (values_more b g rest ∙ ap (λ x. with_values x rest) (sym a))))

-- a step of what the `giveall`s give
pub all-more : (give : GiveAll → List (Option Fact)) (gs : List GiveAll) (i : ℕ) (d : GiveAll) (old b new : Body) (whole : List (Option Fact)) →
    with_values old whole ≡ with_values b (flat_map give (drop i gs)) → i < length gs → Gives (all_values (give (get_or gs i d))) b new (Some tt) → with_values old whole ≡ with_values new (flat_map give (drop (i + 1) gs))
all-more give gs i d old b new whole w h g =
    w ∙ (at_drop_more (λ xs. with_values b (flat_map give xs)) gs i d h
    ∙ values_append b new (give (get_or gs i d)) (flat_map give (drop (i + 1) gs)) (values_from b new (give (get_or gs i d)) g))

pub all_stop : (give : GiveAll → List (Option Fact)) (gs : List GiveAll) (i : ℕ) (d : GiveAll) (old b new : Body) (whole : List (Option Fact)) →
    with_values old whole ≡ with_values b (flat_map give (drop i gs)) → i < length gs → Gives (all_values (give (get_or gs i d))) b new None → Gives (all_values whole) old new None
all_stop give gs i d old b new whole w h g =
    values_fail old new whole
    (w ∙ (at_drop_more (λ xs. with_values b (flat_map give xs)) gs i d h
    ∙ values_stop b (give (get_or gs i d)) (flat_map give (drop (i + 1) gs)) (values_not b new (give (get_or gs i d)) g)))

pub gives_along : {X : Type 0} (F : X → List (Option Fact)) (ls ms : X) (old new : Body) (a b : Option (Unit {0})) → ls ≡ ms → a ≡ b → Gives (all_values (F ls)) old new a → Gives (all_values (F ms)) old new b
gives_along {X} F ls ms old new a b e h g =
    subst (λ (xs : X). Gives (all_values (F xs)) old new b) e (subst (λ (x : Option (Unit {0})). Gives (all_values (F ls)) old new x) h g)

over-few : (k : ℕ) (tk : List Taken) → length (get_or (map held tk) k []) ≤ 1024
over-few k [] = omega arith
over-few zero (t ∷ tk) = omega (arith, t.few, held-count t)
over-few (suc k) (t ∷ tk) = over-few k tk

pub length-given_over : (s : System) (σ : Setting) (ps : List Pair) (tk : List Taken) (g : GiveAll) → length (given_over s σ ps tk g) ≤ 1024
length-given_over s σ ps tk g =
    let ls = labels_over g.over tk in
    let a = length-map (facts (pairs_at ps ls)) (λ f. given s σ f.words g.each) in
    let b = length-map (pairs_at ps ls) fact in
    let c = length-map {B = Pair} ls (λ l. (l, fact_at ps l)) in
    omega (arith, over-few (g.over - 1) tk, a, b, c)

-- pairs found again by their labels ---------------------------------------------------------------------------------

held_more : (p : Pair) (ps : List Pair) (ls : List ℕ) → all (λ n. is_some (read n ps)) ls ≡ true → all (λ n. is_some (read n (p ∷ ps))) ls ≡ true
held_more p ps [] h = refl
held_more p ps (l ∷ ls) h = let ih = held_more p ps ls in grind (arith, nat_tests)

kept_held : (k : Pair → Bool) (ps : List Pair) → all (λ n. is_some (read n ps)) (labels (filter k ps)) ≡ true
kept_held k [] = refl
kept_held k (p ∷ ps) = go (k p) (held_more p ps (labels (filter k ps)) (kept_held k ps))
  where
    go : (b : Bool) → all (λ n. is_some (read n (p ∷ ps))) (labels (filter k ps)) ≡ true → all (λ n. is_some (read n (p ∷ ps))) (labels (cond b (p ∷ filter k ps) (filter k ps))) ≡ true
    go true h =
        let e = cond-true (eqb (label p) (label p)) (Some (fact p)) (read (label p) ps) (eq-eqb (label p) (label p) refl) in
        and_from (is_some (read (label p) (p ∷ ps))) (all (λ n. is_some (read n (p ∷ ps))) (labels (filter k ps))) (ap is_some e) h
    go false h = h

pairs_past : (p : Pair) (ps : List Pair) (ls : List ℕ) → stores.all (ltb (label p)) ls ≡ true → pairs_at (p ∷ ps) ls ≡ pairs_at ps ls
pairs_past p ps [] h = refl
pairs_past p ps (l ∷ ls) h =
    let a = and_parts (ltb (label p) l) (stores.all (ltb (label p)) ls) h in
    let k : label p < l = ltb-true (label p) l a.0 in
    let e = cond-false (eqb (label p) l) (Some (fact p)) (read l ps) (ne_eqb (label p) l (λ q. omega arith)) in
    λ i. (l, unwrap_or (e i) no_fact) ∷ pairs_past p ps ls a.1 i

pairs_back : (k : Pair → Bool) (ps : List Pair) → rises (labels ps) ≡ true → pairs_at ps (labels (filter k ps)) ≡ filter k ps
pairs_back k [] r = refl
pairs_back k (p ∷ ps) r =
    let t = and_parts (stores.all (ltb (label p)) (labels ps)) (rises (labels ps)) r in
    let a = all-kept (above (label p)) k ps (sym (all_above (label p) ps) ∙ t.0) in
    go (k p) (pairs_past p ps (labels (filter k ps)) (all_above (label p) (filter k ps) ∙ a) ∙ pairs_back k ps t.1)
  where
    go : (b : Bool) → pairs_at (p ∷ ps) (labels (filter k ps)) ≡ filter k ps → pairs_at (p ∷ ps) (labels (cond b (p ∷ filter k ps) (filter k ps))) ≡ cond b (p ∷ filter k ps) (filter k ps)
    go true h =
        let f = cond-true (eqb (label p) (label p)) (Some (fact p)) (read (label p) ps) (eq-eqb (label p) (label p) refl) in
        λ i. (label p, unwrap_or (f i) no_fact) ∷ h i
    go false h = h

-- what all heads took, by its labels
module _ (s : System) (σ : Setting) (r : Rule) (ls : List ℕ) (m : Pile) where
  held_at : (i : ℕ) → all (λ n. is_some (read n m.pairs)) (labels (get_or (all_taken s σ r ls m.pairs) i [])) ≡ true
  held_at i =
      ap (λ ps. all (λ n. is_some (read n m.pairs)) (labels ps)) (all_taken-at s σ r ls m.pairs i)
      ∙ kept_held (λ p. not (has p.0 ls) && takes_at s σ r.alls i (fact p)) m.pairs

  pub took_held : (tk : List Taken) → Took (all_taken s σ r ls m.pairs) tk → Held m.pairs tk
  took_held tk k =
      let test : List ℕ → Bool = all (λ n. is_some (read n m.pairs)) in
      let second = labels (get_or (all_taken s σ r ls m.pairs) 1 []) in
      ap (all test) k ∙ and_from (test (labels (get_or (all_taken s σ r ls m.pairs) 0 []))) (test second && true) (held_at 0) (and_from (test second) true (held_at 1) refl)

  took_back : Owed m → (i : ℕ) → facts (pairs_at m.pairs (labels (get_or (all_taken s σ r ls m.pairs) i []))) ≡ get_or (map facts (all_taken s σ r ls m.pairs)) i []
  took_back o i =
      let x = all_taken-at s σ r ls m.pairs i in
      let b = pairs_back (λ p. not (has p.0 ls) && takes_at s σ r.alls i (fact p)) m.pairs (owed-rises m o) in
      ap (λ ps. facts (pairs_at m.pairs (labels ps))) x
      ∙ (ap facts (b ∙ sym x) ∙ sym (get_or-map facts (all_taken s σ r ls m.pairs) i []))

-- every list of facts taken is found by its labels
pub record Found (ps : List Pair) (ts : List (List Pair)) (tk : List Taken) : Type 0 where
  pub facts_over : (o : ℕ) → facts (pairs_at ps (labels_over o tk)) ≡ get_or (map facts ts) (o - 1) []

pub found : (s : System) (σ : Setting) (r : RuleRecord) (ls : List ℕ) (m : Pile) (tk : List Taken) → Owed m → Took (all_taken s σ (rule_seen r) ls m.pairs) tk →
    Found m.pairs (all_taken s σ (rule_seen r) ls m.pairs) tk
found s σ r ls m tk w k = record { facts_over = λ o. ap (λ xs. facts (pairs_at m.pairs (get_or xs (o - 1) []))) k ∙ go (o - 1) }
  where
    go : (i : ℕ) → facts (pairs_at m.pairs (get_or (map labels (two (all_taken s σ (rule_seen r) ls m.pairs))) i [])) ≡ get_or (map facts (all_taken s σ (rule_seen r) ls m.pairs)) i []
    go zero = took_back s σ (rule_seen r) ls m w 0
    go (suc zero) = took_back s σ (rule_seen r) ls m w 1
    go (suc (suc i)) =
        let n = heads_long s σ r ls m.pairs in
        let x = length-map (all_taken s σ (rule_seen r) ls m.pairs) facts in
        let b : length (map facts (all_taken s σ (rule_seen r) ls m.pairs)) ≤ suc (suc i) = omega (arith, r.alls.few) in
        sym (get_or_past (map facts (all_taken s σ (rule_seen r) ls m.pairs)) (suc (suc i)) [] b)

-- the body of a rule ------------------------------------------------------------------------------------------------

flat_map_alike : {X Y : Type 0} (f g : X → List Y) (xs : List X) → ((x : X) → f x ≡ g x) → flat_map f xs ≡ flat_map g xs
flat_map_alike f g [] e = refl
flat_map_alike f g (x ∷ xs) e = λ i. e x i ++ flat_map_alike f g xs e i

body_is : (s : System) (σ : Setting) (r : Rule) (ts : List (List Pair)) (ps : List Pair) (tk : List Taken) → Found ps ts tk →
    all_values (map (given s σ []) r.gives ++ flat_map (given_over s σ ps tk) r.givealls) ≡ body s σ r (map facts ts)
body_is s σ r ts ps tk f =
    let e = flat_map_alike (given_over s σ ps tk) (λ g. map (λ f. given s σ f.words g.each) (get_or (map facts ts) (g.over - 1) [])) r.givealls (λ g. ap (map (λ f. given s σ f.words g.each)) (f.facts_over g.over)) in
    ap (λ xs. all_values (map (given s σ []) r.gives ++ xs)) e

body-whole : (s : System) (σ : Setting) (r : Rule) (ts : List (List Pair)) (ps : List Pair) (tk : List Taken) (old mid new : Body) → HasFacts [] old → Found ps ts tk →
    Gives (all_values (map (given s σ []) r.gives)) old mid (Some tt) → Gives (all_values (flat_map (given_over s σ ps tk) r.givealls)) mid new (Some tt) → IsBody (body s σ r (map facts ts)) new (Some tt)
body-whole s σ r ts ps tk old mid new h f g k =
    let xs = map (given s σ []) r.gives in
    let ys = flat_map (given_over s σ ps tk) r.givealls in
    let e = values_append old mid xs ys (values_from old mid xs g) ∙ values_from mid new ys k in
    subst (λ o. IsBody o new (Some tt)) (body_is s σ r ts ps tk f) (body_from old (all_values (xs ++ ys)) new h e)

pub body_stops : (s : System) (σ : Setting) (r : Rule) (ts : List (List Pair)) (ps : List Pair) (tk : List Taken) (old mid : Body) → Found ps ts tk →
    Gives (all_values (map (given s σ []) r.gives)) old mid None → IsBody (body s σ r (map facts ts)) mid None
body_stops s σ r ts ps tk old mid f g =
    let xs = map (given s σ []) r.gives in
    let ys = flat_map (given_over s σ ps tk) r.givealls in
    let e = values_stop old xs ys (values_not old mid xs g) in
    subst (λ o. IsBody o mid None) (body_is s σ r ts ps tk f) (no_body old mid (all_values (xs ++ ys)) e)

body_stops_later : (s : System) (σ : Setting) (r : Rule) (ts : List (List Pair)) (ps : List Pair) (tk : List Taken) (old mid new : Body) → Found ps ts tk →
    Gives (all_values (map (given s σ []) r.gives)) old mid (Some tt) → Gives (all_values (flat_map (given_over s σ ps tk) r.givealls)) mid new None → IsBody (body s σ r (map facts ts)) new None
body_stops_later s σ r ts ps tk old mid new f g k =
    let xs = map (given s σ []) r.gives in
    let ys = flat_map (given_over s σ ps tk) r.givealls in
    let e = values_append old mid xs ys (values_from old mid xs g) ∙ values_not mid new ys k in
    subst (λ o. IsBody o new None) (body_is s σ r ts ps tk f) (no_body old new (all_values (xs ++ ys)) e)

pub body-ends : (s : System) (σ : Setting) (r : Rule) (ts : List (List Pair)) (ps : List Pair) (tk : List Taken) (old mid new : Body) (a : Option (Unit {0})) → HasFacts [] old → Found ps ts tk →
    Gives (all_values (map (given s σ []) r.gives)) old mid (Some tt) → Gives (all_values (flat_map (given_over s σ ps tk) r.givealls)) mid new a → IsBody (body s σ r (map facts ts)) new a
body-ends s σ r ts ps tk old mid new (Some tt) h f g k = body-whole s σ r ts ps tk old mid new h f g k
body-ends s σ r ts ps tk old mid new None h f g k = body_stops_later s σ r ts ps tk old mid new f g k

-- what was given, counted
pub gives-count : (old new : Body) (os : List (Option Fact)) → Gives (all_values os) old new (Some tt) → new.count ≡ old.count + length os
gives-count old new os g = values_count old new os (values_from old new os g)
