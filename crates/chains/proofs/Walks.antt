-- A walk along a chain: from its head or from a row of it, a row further, and where it stops.
use Rattle.std.proofs.Common.{◌⊎◌, inl, inr, ◌≡◌, ℕ, ◌-◌, ◌<◌, ◌≤◌, true, false, ◌&&◌, eqb, ltb, leb, List, length, get_or, Some, None, Option, sym, refl, ap, subst, ◌∙◌, arith}
use Rattle.std.proofs.lemmas.Bool.{eqb-true, eq-eqb, lt-ltb, false≢true}
use Rattle.std.proofs.lemmas.Bool.Decides.{nat_tests}
use Rattle.facts.specs.declared.fact_types.Fact.{Fact}
use Rattle.stores.specs.Store.{Pair}
use Rattle.stores.specs.Piles.{sound}
use Rattle.stores.specs.Table.{Row, pairs_of, pile_of, distinct}
use Rattle.stores.proofs.Tables.{rises-pairs}
use Rattle.chains.specs.Links.{next_in, on_chain, has_label, points, Linked, up_to, Leads, Place}
use Rattle.chains.proofs.Nexts.{beyond, next-passes, next_gap}
use Rattle.chains.proofs.Named.{used-read, used-sound, points-within}
use Rattle.chains.proofs.Tables.{row-at, link-at, rows-length}
use Rattle.chains.specs.Acts.{label_in, Started}
use Rattle.chains.specs.Rows.{rows_of, chain_at, link, links_of, heads_of, Walkable}
use Rattle.chains.specs.declared.chain_types.ChainRow.{ChainRow}
use Rattle.chains.specs.declared.chain_types.Heads.{Heads}
use Rattle.chains.specs.declared.chain_types.Way.{Way}

-- what a number names, where it is found first above another
pub record Met (key : Pair → ℕ) (R : List Row) (b a l : ℕ) (f : Fact) : Type 0 where
  pub found : next_in (on_chain key b) a (pairs_of R) ≡ Some l
  pub above : a < l
  pub chain : key (l, f) ≡ b
  pub few : l ≤ 1000000

met_used : (key : Pair → ℕ) (R : List Row) (b a i l : ℕ) (f : Fact) → distinct R ≡ true → sound (pile_of R) ≡ true → get_or R i None ≡ Some (l, f) → (o : Option ℕ) → next_in (on_chain key b) a (pairs_of R) ≡ o → points R (Some i) o ≡ true → Met key R b a l f
met_used key R b a i l f d s e None q p = absurd (false≢true p)
met_used key R b a i l f d s e (Some n) q p =
    let z : has_label n (get_or R i None) ≡ eqb l n = ap (has_label n) e in
    let y : l ≡ n = eqb-true l n (sym z ∙ p) in
    let w : next_in (on_chain key b) a (pairs_of R) ≡ Some l = q ∙ ap (λ (x : ℕ). Some x) (sym y) in
    let t = next-passes (on_chain key b) a l (pairs_of R) (rises-pairs R) w in
    let r = used-read R i l f d e in
    let u : eqb (key (l, f)) b ≡ true = rw r at t.1 in
    let v = used-sound R i l f d s e in
    record { found = w; above = t.0; chain = eqb-true (key (l, f)) b u; few = grind (arith, nat_tests) }

-- the row that is found: it has a pair of the chain, with a label above the other
pub meets : (key : Pair → ℕ) (R : List Row) (b a i l : ℕ) (f : Fact) → distinct R ≡ true → sound (pile_of R) ≡ true → get_or R i None ≡ Some (l, f) → points R (Some i) (next_in (on_chain key b) a (pairs_of R)) ≡ true → Met key R b a l f
meets key R b a i l f d s e p = met_used key R b a i l f d s e (next_in (on_chain key b) a (pairs_of R)) refl p

-- no free row is found
pub meets-used : (R : List Row) (i : ℕ) (o : Option ℕ) → get_or R i None ≡ None → points R (Some i) o ≡ true → ⊥
meets-used R i None e p = false≢true p
meets-used R i (Some n) e p = let z : has_label n (get_or R i None) ≡ false = ap (has_label n) e in false≢true (sym z ∙ p)

pub meets-none : (R : List Row) (o : Option ℕ) → points R None o ≡ true → o ≡ None
meets-none R None p = refl
meets-none R (Some n) p = absurd (false≢true p)

-- a row has a pair, or is free
pub pair_or_free : (r : Row) → ((p : Pair) × (r ≡ Some p)) ⊎ (r ≡ None)
pair_or_free None = inr refl
pair_or_free (Some p) = inl (p, refl)

-- the place of a label -------------------------------------------------------------------------------------------

pub place-more : (key : Pair → ℕ) (R : List Row) (L H : List (Option ℕ)) (b a : ℕ) (before : Option ℕ) (i l : ℕ) (f : Fact) → distinct R ≡ true → sound (pile_of R) ≡ true → Linked key R L H → Place key R L H b a before (Some i) → get_or R i None ≡ Some (l, f) → Place key R L H b l (Some i) (get_or L i None)
place-more key R L H b a before i l f d s k p e =
    let m = meets key R b a i l f d s e p.next in
    let c = eq-eqb (key (l, f)) b m.chain in
    let u : up_to key b l (get_or R i None) ≡ (eqb (key (l, f)) b && leb l l) = ap (up_to key b l) e in
    record {
      next = subst (λ (x : ℕ). points R (get_or L i None) (next_in (on_chain key x) l (pairs_of R)) ≡ true) m.chain (k.later i l f e);
      from = (grind (arith, nat_tests), refl);
    }

up_to-more : (key : Pair → ℕ) (b a c : ℕ) (r : Row) → a ≤ c → up_to key b a r ≡ true → up_to key b c r ≡ true
up_to-more key b a c None h u = u
up_to-more key b a c (Some (m, g)) h u = grind (arith, nat_tests)

leads-more : (key : Pair → ℕ) (R : List Row) (L H : List (Option ℕ)) (b a c : ℕ) (before at : Option ℕ) → a ≤ c → Leads key R L H b a before at → Leads key R L H b c before at
leads-more key R L H b a c None at h f = f
leads-more key R L H b a c (Some i) at h f = (up_to-more key b a c (get_or R i None) h f.0, f.1)

pub place_stop : (key : Pair → ℕ) (R : List Row) (L H : List (Option ℕ)) (b a c : ℕ) (before at : Option ℕ) → Place key R L H b a before at → a ≤ c → beyond c (next_in (on_chain key b) a (pairs_of R)) ≡ true → Place key R L H b c before at
place_stop key R L H b a c before at p h y =
    let g = next_gap (on_chain key b) a c (pairs_of R) h y in
    record { next = rw g p.next; from = leads-more key R L H b a c before at h p.from }

pub walk_stop : (key : Pair → ℕ) (R : List Row) (L H : List (Option ℕ)) (b a c : ℕ) (before : Option ℕ) (i : ℕ) → distinct R ≡ true → sound (pile_of R) ≡ true → Place key R L H b a before (Some i) → a ≤ c → c < label_in (get_or R i None) → Place key R L H b c before (Some i)
walk_stop key R L H b a c before i d s p h y = go (get_or R i None) refl
  where
    go : (r : Row) → get_or R i None ≡ r → Place key R L H b c before (Some i)
    go None e = let z : label_in (get_or R i None) ≡ 0 = ap label_in e in absurd (omega arith)
    go (Some (l, f)) e =
        let z : label_in (get_or R i None) ≡ l = ap label_in e in
        let m = meets key R b a i l f d s e p.next in
        let q : beyond c (next_in (on_chain key b) a (pairs_of R)) ≡ ltb c l = ap (beyond c) m.found in
        place_stop key R L H b a c before (Some i) p h (q ∙ lt-ltb c l (omega arith))

pub walk-end : (key : Pair → ℕ) (R : List Row) (L H : List (Option ℕ)) (b a c : ℕ) (before : Option ℕ) → Place key R L H b a before None → a ≤ c → Place key R L H b c before None
walk-end key R L H b a c before p h = place_stop key R L H b a c before None p h (ap (beyond c) (meets-none R (next_in (on_chain key b) a (pairs_of R)) p.next))

pub walk-more : (key : Pair → ℕ) (R : List Row) (L H : List (Option ℕ)) (b a : ℕ) (before : Option ℕ) (i : ℕ) → distinct R ≡ true → sound (pile_of R) ≡ true → Linked key R L H → Place key R L H b a before (Some i) → Place key R L H b (label_in (get_or R i None)) (Some i) (get_or L i None) × (a < label_in (get_or R i None)) × (label_in (get_or R i None) ≤ 1000000)
walk-more key R L H b a before i d s k p = go (get_or R i None) refl
  where
    go : (r : Row) → get_or R i None ≡ r → Place key R L H b (label_in (get_or R i None)) (Some i) (get_or L i None) × (a < label_in (get_or R i None)) × (label_in (get_or R i None) ≤ 1000000)
    go None e = absurd (meets-used R i (next_in (on_chain key b) a (pairs_of R)) e p.next)
    go (Some (l, f)) e =
        let z : label_in (get_or R i None) ≡ l = ap label_in e in
        let m = meets key R b a i l f d s e p.next in
        let q = m.above in
        let w = m.few in
        (subst (λ (x : ℕ). Place key R L H b x (Some i) (get_or L i None)) (sym z) (place-more key R L H b a before i l f d s k p e), omega arith, omega arith)

-- the row whose link leads to another is the one before it
pub led : (w : Way) (t : List ChainRow) (h : Heads) (i l b : ℕ) (f : Fact) (p : Pair) → Walkable w t h → get_or (rows_of t) i None ≡ Some (l, f) → get_or (rows_of t) b None ≡ Some p → get_or (links_of w t) b None ≡ Some i → Place (chain_at w) (rows_of t) (links_of w t) (heads_of w h) (chain_at w (l, f)) (l - 1) (Some b) (Some i)
led w t h i l b f (m, g) k e q s =
    let key : Pair → ℕ = chain_at w in
    let on = key (m, g) in
    let later : points (rows_of t) (Some i) (next_in (on_chain key on) m (pairs_of (rows_of t))) ≡ true = subst (λ (o : Option ℕ). points (rows_of t) o (next_in (on_chain key on) m (pairs_of (rows_of t))) ≡ true) s (k.linked.later b m g q) in
    let met = meets key (rows_of t) on m i l f k.apart k.kept e later in
    let u : up_to key on m (get_or (rows_of t) b None) ≡ (eqb on on && leb m m) = ap (up_to key on m) q in
    let v = eq-eqb on on refl in
    let base : Place key (rows_of t) (links_of w t) (heads_of w h) on m (Some b) (Some i) = record { next = later; from = (grind (arith, nat_tests), s) } in
    let n = met.above in
    let beyond_it : beyond (l - 1) (next_in (on_chain key on) m (pairs_of (rows_of t))) ≡ ltb (l - 1) l = ap (beyond (l - 1)) met.found in
    let stop = place_stop key (rows_of t) (links_of w t) (heads_of w h) on m (l - 1) (Some b) (Some i) base (omega arith) (beyond_it ∙ lt-ltb (l - 1) l (omega arith)) in
    subst (λ (x : ℕ). Place key (rows_of t) (links_of w t) (heads_of w h) x (l - 1) (Some b) (Some i)) (sym met.chain) stop

-- a walk over a table has come to a row, whose label is above another or not
module _ (w : Way) (t : List ChainRow) (h : Heads) (b a c : ℕ) (before at : Option ℕ) (i : ℕ) (k : Walkable w t h) (p : Place (chain_at w) (rows_of t) (links_of w t) (heads_of w h) b a before at) (e : at ≡ Some i) where
  met_at : Place (chain_at w) (rows_of t) (links_of w t) (heads_of w h) b a before (Some i)
  met_at = rw (← e) p

  met_within : i < length t
  met_within = let n = rows-length t in let m = points-within (rows_of t) i (next_in (on_chain (chain_at w) b) a (pairs_of (rows_of t))) met_at.next in omega arith

  -- it is no free row
  pub met_pair : (d : ChainRow) → (get_or t i d).row ≡ None → ⊥
  met_pair d q = meets-used (rows_of t) i (next_in (on_chain (chain_at w) b) a (pairs_of (rows_of t))) (row-at t i d met_within ∙ q) met_at.next

  module _ (d : ChainRow) (l : ℕ) (f : Fact) (q : (get_or t i d).row ≡ Some (l, f)) where
    met_label : label_in (get_or (rows_of t) i None) ≡ l
    met_label = ap label_in (row-at t i d met_within ∙ q)

    pub met_more : (r : ChainRow) → l ≤ c → Started (chain_at w) (rows_of t) (links_of w t) (heads_of w h) b c (Some i) (link w (get_or t i r)) × (1000000 - label_in (get_or (rows_of t) i None) < 1000000 - a)
    met_more r n =
        let m = walk-more (chain_at w) (rows_of t) (links_of w t) (heads_of w h) b a before i k.apart k.kept k.linked met_at in
        let x = m.1 in
        let y = m.2 in
        let z = met_label in
        (record { place = rw (← (link-at w t i r met_within)) m.0; below = omega arith }, omega arith)

    pub met_stop : a ≤ c → c < l → Place (chain_at w) (rows_of t) (links_of w t) (heads_of w h) b c before at
    met_stop o n = let z = met_label in rw e (walk_stop (chain_at w) (rows_of t) (links_of w t) (heads_of w h) b a c before i k.apart k.kept met_at o (omega arith))
