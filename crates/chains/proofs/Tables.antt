-- The rows and the links of a table, as a row is read and written.
use Rattle.std.proofs.Common.{◌≡◌, ℕ, zero, suc, ◌<◌, true, false, List, [], ◌∷◌, length, get_or, set, refl, sym, ap, ◌∙◌, arith, None, Some, Option, get_or-set_other, get_or-set_same}
use Rattle.std.proofs.lemmas.List.{map-set, length-map}
use Rattle.std.proofs.lemmas.Bool.{false≢true, eq-eqb, lt-ltb}
use Rattle.facts.specs.declared.fact_types.Fact.{Fact}
use Rattle.chains.specs.Links.{points}
use Rattle.chains.proofs.Named.{points-within}
use Rattle.chains.specs.Rows.{rows_of, number, named, link_to, link, links_of, Walkable, Chained}
use Rattle.chains.specs.Acts.{same_way, Within}
use Rattle.chains.specs.declared.chain_types.ChainRow.{ChainRow}
use Rattle.chains.specs.declared.chain_types.Heads.{Heads}
use Rattle.chains.specs.declared.chain_types.Way.{Way}
use Rattle.chains.specs.declared.chain_types.Way.TheVariants.{ByLabel, ByKind, ByWord}

pub row-at : (t : List ChainRow) (i : ℕ) (d : ChainRow) → i < length t → get_or (rows_of t) i None ≡ (get_or t i d).row
row-at [] i d h = absurd (omega arith)
row-at (r ∷ t) zero d h = refl
row-at (r ∷ t) (suc i) d h = row-at t i d (omega arith)

pub link-at : (w : Way) (t : List ChainRow) (i : ℕ) (d : ChainRow) → i < length t → get_or (links_of w t) i None ≡ link w (get_or t i d)
link-at w [] i d h = absurd (omega arith)
link-at w (r ∷ t) zero d h = refl
link-at w (r ∷ t) (suc i) d h = link-at w t i d (omega arith)

pub rows-length : (t : List ChainRow) → length (rows_of t) ≡ length t
rows-length t = length-map t (λ r. r.row)

pub links-length : (w : Way) (t : List ChainRow) → length (links_of w t) ≡ length (rows_of t)
links-length w t = length-map t (link w) ∙ sym (rows-length t)

-- a row written whose pair, or whose link, is the one that stood there
pub rows_stay : (t : List ChainRow) (i : ℕ) (r d : ChainRow) → r.row ≡ (get_or t i d).row → rows_of (set t i r) ≡ rows_of t
rows_stay [] zero r d e = refl
rows_stay [] (suc i) r d e = refl
rows_stay (q ∷ t) zero r d e = ap (λ x. x ∷ rows_of t) e
rows_stay (q ∷ t) (suc i) r d e = ap (λ x. q.row ∷ x) (rows_stay t i r d e)

pub links_stay : (w : Way) (t : List ChainRow) (i : ℕ) (r d : ChainRow) → link w r ≡ link w (get_or t i d) → links_of w (set t i r) ≡ links_of w t
links_stay w [] zero r d e = refl
links_stay w [] (suc i) r d e = refl
links_stay w (q ∷ t) zero r d e = ap (λ x. x ∷ links_of w t) e
links_stay w (q ∷ t) (suc i) r d e = ap (λ x. link w q ∷ x) (links_stay w t i r d e)

-- a link to a row of a table leads to that row
pub named-to : (o : Option ℕ) → Within o 1024 → named (link_to o) ≡ o
named-to None h = refl
named-to (Some i) h = rw (lt-ltb i 1024 h) refl

-- a row with another link of one way
pub record Relink (w : Way) (x : Option ℕ) (q r : ChainRow) : Type 0 where
  pub row : r.row ≡ q.row
  pub links : r.links ≡ set q.links (number w) (link_to x)
  pub fits : Within x 1024

pub few_ways : (w : Way) → number w < 3
few_ways ByLabel = omega arith
few_ways ByKind = omega arith
few_ways ByWord = omega arith

pub ways_apart : (v w : Way) → same_way v w ≡ false → number v ≡ number w → ⊥
ways_apart v w e q = false≢true (sym e ∙ eq-eqb (number v) (number w) q)

link-own : (w : Way) (x : Option ℕ) (q r : ChainRow) → Relink w x q r → link w r ≡ x
link-own w x q r k =
    let n = few_ways w in
    let h = q.three in
    ap (λ l. named (get_or l (number w) (link_to None))) k.links ∙ ap named (get_or-set_same q.links (number w) (link_to x) (link_to None) (omega arith)) ∙ named-to x k.fits

link-other : (v w : Way) (x : Option ℕ) (q r : ChainRow) → same_way v w ≡ false → Relink w x q r → link v r ≡ link v q
link-other v w x q r e k = ap (λ l. named (get_or l (number v) (link_to None))) k.links ∙ ap named (get_or-set_other q.links (number w) (number v) (link_to x) (link_to None) (ways_apart v w e))

module _ (w : Way) (t : List ChainRow) (i : ℕ) (x : Option ℕ) (r d : ChainRow) (k : Relink w x (get_or t i d) r) where
  pub set-rows : rows_of (set t i r) ≡ rows_of t
  set-rows = rows_stay t i r d k.row

  pub set-own : links_of w (set t i r) ≡ set (links_of w t) i x
  set-own = map-set (link w) t i r ∙ ap (set (links_of w t) i) (link-own w x (get_or t i d) r k)

  pub set-other : (v : Way) → same_way v w ≡ false → links_of v (set t i r) ≡ links_of v t
  set-other v e = links_stay v t i r d (link-other v w x (get_or t i d) r e k)

-- the rows of a store can be walked each way
pub walkable : (t : List ChainRow) (h : Heads) → Chained t h → (w : Way) → Walkable w t h
walkable t h c w = record { apart = c.apart; kept = c.kept; linked = c.linked w }

-- the row that a link names
pub row-named : (t : List ChainRow) (at : Option ℕ) (i l : ℕ) (f : Fact) (o : Option ℕ) (d : ChainRow) → at ≡ Some i → points (rows_of t) at o ≡ true → (get_or t i d).row ≡ Some (l, f) → (points (rows_of t) (Some i) o ≡ true) × (get_or (rows_of t) i None ≡ Some (l, f))
row-named t at i l f o d e p q =
    let m : points (rows_of t) (Some i) o ≡ true = rw (← e) p in
    let n = rows-length t in
    let b = points-within (rows_of t) i o m in
    (m, row-at t i d (omega arith) ∙ q)

-- a row that is lent, at a place that a link names
pub row-lent : (t : List ChainRow) (i : ℕ) (o : Option ℕ) (row : ChainRow) → points (rows_of t) (Some i) o ≡ true → row ≡ get_or t i row → (get_or (rows_of t) i None ≡ row.row) × ((w : Way) → get_or (links_of w t) i None ≡ link w row)
row-lent t i o row p q =
    let n = rows-length t in
    let b = points-within (rows_of t) i o p in
    let h : i < length t = omega arith in
    (row-at t i row h ∙ ap (λ r. r.row) (sym q), λ w. link-at w t i row h ∙ ap (link w) (sym q))
