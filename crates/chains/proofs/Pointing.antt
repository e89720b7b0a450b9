-- The links of one way after a row is put on its chain, or taken off.
use Rattle.std.proofs.Common.{Option, [], map, ◌≡◌, ℕ, ◌-◌, ◌<◌, ◌≤◌, true, List, length, get_or, set, refl, sym, ap, subst, ◌∙◌, arith, get_or-set_other, get_or-set_same, Some, None}
use Rattle.std.proofs.lemmas.Bool.{false≢true}
use Rattle.facts.specs.declared.fact_types.Fact.{Fact}
use Rattle.stores.specs.Store.{Pair}
use Rattle.stores.specs.Table.{Row, pile_of, absent}
use Rattle.stores.specs.Piles.{sound}
use Rattle.std.proofs.lemmas.Bool.Decides.{nat_tests}
use Rattle.std.proofs.lemmas.List.{map-set}
use Rattle.chains.specs.Links.{Place, up_to, points}
use Rattle.chains.specs.Rows.{rows_of, number, named, link_to, chain_at, links_of, heads_of, LinkedWay, Walkable}
use Rattle.chains.specs.Acts.{Within, relinked, headed, Leaves, KeepsLinks, Pointed}
use Rattle.chains.specs.declared.chain_types.ChainRow.{ChainRow}
use Rattle.chains.specs.declared.chain_types.Heads.{Heads}
use Rattle.chains.specs.declared.chain_types.Way.{Way}
use Rattle.chains.proofs.Relinked.{relinked-other, filled, freed}
use Rattle.chains.proofs.Named.{points-within}
use Rattle.chains.proofs.Tables.{Relink, named-to, ways_apart, rows-length, links-length, set-rows, set-own, set-other}

pub pointed_row : (w : Way) (b i : ℕ) (x : Option ℕ) (t : List ChainRow) (h : Heads) (r d : ChainRow) → Relink w x (get_or t i d) r → Pointed w b (Some i) x t (set t i r) h h
pointed_row w b i x t h r d k =
    record {
      rows = set-rows w t i x r d k;
      own_links = set-own w t i x r d k;
      own_heads = refl;
      links = set-other w t i x r d k;
      heads = λ v e. refl;
      free = refl;
      count = refl;
    }

pub pointed_head : (w : Way) (b : ℕ) (x : Option ℕ) (t : List ChainRow) (h g : Heads) → Within x 1024 → number w < length h.firsts → g.firsts ≡ set h.firsts (number w) (set (get_or h.firsts (number w) []) b (link_to x)) → g.free ≡ h.free → g.count ≡ h.count → Pointed w b None x t t h g
pointed_head w b x t h g f n e p q =
    record {
      rows = refl;
      own_links = refl;
      own_heads = ap (λ l. map named (get_or l (number w) [])) e ∙ ap (map named) (get_or-set_same h.firsts (number w) (set (get_or h.firsts (number w) []) b (link_to x)) [] n) ∙ map-set named (get_or h.firsts (number w) []) b (link_to x) ∙ ap (set (heads_of w h) b) (named-to x f);
      links = λ v s. refl;
      heads = λ v s. ap (λ l. map named (get_or l (number v) [])) e ∙ ap (map named) (get_or-set_other h.firsts (number w) (number v) (set (get_or h.firsts (number w) []) b (link_to x)) [] (ways_apart v w s));
      free = p;
      count = q;
    }

-- what one way's links are, and what stays, where hints alone are changed afterwards
pub linked_kept : (w : Way) (R : List Row) (t u : List ChainRow) (h g : Heads) → KeepsLinks t u h g → LinkedWay w R t h → LinkedWay w R u g
linked_kept w R t u h g k m = rw (k.links w, k.heads w) m

pub leaves_kept : (w : Way) (i : ℕ) (t u v : List ChainRow) (h g f : Heads) → KeepsLinks u v g f → Leaves w i t u h g → Leaves w i t v h f
leaves_kept w i t u v h g f k m =
    record {
      rows = k.rows ∙ m.rows;
      links = λ x e. k.links x ∙ m.links x e;
      heads = λ x e. k.heads x ∙ m.heads x e;
      frees = λ j x y z. ap (λ s. get_or s j None) (k.links w) ∙ m.frees j x y z;
      free = k.free ∙ m.free;
      count = k.count ∙ m.count;
    }

-- the same of a way that is equal
pub pointed_at : (v w : Way) (b : ℕ) (before : Option ℕ) (i : ℕ) (t u : List ChainRow) (h g : Heads) (r : ChainRow) → v ≡ w → Pointed v b before (Some i) (set t i r) u h g → Pointed w b before (Some i) (set t i r) u h g
pointed_at v w b before i t u h g r e p = subst (λ (x : Way). Pointed x b before (Some i) (set t i r) u h g) e p

-- what a link of a table names is one of its rows
pub points_fits : (R : List Row) (at o : Option ℕ) → sound (pile_of R) ≡ true → points R at o ≡ true → Within at 1024
points_fits R None o s p = tt
points_fits R (Some i) o s p = let n : length R ≤ 1024 = grind (arith, nat_tests) in let q = points-within R i o p in omega arith

pub points_here : (t u : List ChainRow) (at o : Option ℕ) → rows_of u ≡ rows_of t → points (rows_of t) at o ≡ true → Within at (length u)
points_here t u None o e p = tt
points_here t u (Some i) o e p = let q = points-within (rows_of t) i o p in let n = rows-length u in let m = ap length e in omega arith

pub leads_here : (t u : List ChainRow) (at x o : Option ℕ) → rows_of u ≡ rows_of t → at ≡ x → points (rows_of t) x o ≡ true → Within at (length u)
leads_here t u at x o e q p = points_here t u at o e (subst (λ (y : Option ℕ). points (rows_of t) y o ≡ true) (sym q) p)

-- the row before a place has a pair
place-used : (key : Pair → ℕ) (R : List Row) (L H : List (Option ℕ)) (b a i : ℕ) (at : Option ℕ) → Place key R L H b a (Some i) at → get_or R i None ≡ None → ⊥
place-used key R L H b a i at p e = false≢true (sym (ap (up_to key b a) e) ∙ p.from.0)

module _ (w : Way) (t v : List ChainRow) (h g : Heads) (i l b : ℕ) (before at : Option ℕ) (f : Fact) (k : Walkable w t h) (one : 1 ≤ l) (chain : b ≡ chain_at w (l, f)) (few : b < 64) where
  free-before : (a : ℕ) → Place (chain_at w) (rows_of t) (links_of w t) (heads_of w h) b a before at → (j : ℕ) → get_or (rows_of t) j None ≡ None → before ≡ Some j → ⊥
  free-before a p j z s = place-used (chain_at w) (rows_of t) (links_of w t) (heads_of w h) b a j at (subst (λ (o : Option ℕ). Place (chain_at w) (rows_of t) (links_of w t) (heads_of w h) b a o at) s p) z

  -- the row has got its own link, and then the one before it
  module _ (e : get_or (rows_of t) i None ≡ None) (n : i < length t) (a : absent l (rows_of t) ≡ true) (p : Place (chain_at w) (rows_of t) (links_of w t) (heads_of w h) b l before at) (r d : ChainRow) (y : Relink w at (get_or t i d) r) (q : Pointed w b before (Some i) (set t i r) v h g) where
    pub linked_in : LinkedWay w (set (rows_of t) i (Some (l, f))) v g
    linked_in =
        let s = rows-length t in
        let c : chain_at w (l, f) < 64 = omega arith in
        let p' : Place (chain_at w) (rows_of t) (links_of w t) (heads_of w h) (chain_at w (l, f)) l before at = subst (λ (x : ℕ). Place (chain_at w) (rows_of t) (links_of w t) (heads_of w h) x l before at) chain p in
        let z = filled (chain_at w) (rows_of t) (links_of w t) (heads_of w h) k.apart k.kept k.linked (links-length w t) before at l i f c one p' e (omega arith) a in
        let x : links_of w v ≡ relinked before (Some i) (set (links_of w t) i at) = q.own_links ∙ ap (relinked before (Some i)) (set-own w t i at r d y) in
        let u : heads_of w g ≡ headed before (chain_at w (l, f)) (Some i) (heads_of w h) = q.own_heads ∙ ap (λ (m : ℕ). headed before m (Some i) (heads_of w h)) chain in
        rw (x, u) z

    pub leaves_in : Leaves w i t v h g
    leaves_in =
        record {
          rows = q.rows ∙ set-rows w t i at r d y;
          links = λ x m. q.links x m ∙ set-other w t i at r d y x m;
          heads = q.heads;
          frees = λ j x m z. ap (λ s. get_or s j None) (q.own_links ∙ ap (relinked before (Some i)) (set-own w t i at r d y)) ∙ relinked-other (set (links_of w t) i at) j before (Some i) (free-before l p j z) ∙ get_or-set_other (links_of w t) i j at None x;
          free = q.free;
          count = q.count;
        }

  -- the link before the row leads to the one after it
  module _ (e : get_or (rows_of t) i None ≡ Some (l, f)) (p : Place (chain_at w) (rows_of t) (links_of w t) (heads_of w h) b (l - 1) before at) (q : Pointed w b before (get_or (links_of w t) i None) t v h g) where
    pub linked_out : LinkedWay w (set (rows_of t) i None) v g
    linked_out =
        let c : chain_at w (l, f) < 64 = omega arith in
        let p' : Place (chain_at w) (rows_of t) (links_of w t) (heads_of w h) (chain_at w (l, f)) (l - 1) before at = subst (λ (x : ℕ). Place (chain_at w) (rows_of t) (links_of w t) (heads_of w h) x (l - 1) before at) chain p in
        let y = freed (chain_at w) (rows_of t) (links_of w t) (heads_of w h) k.apart k.kept k.linked (links-length w t) before at l i f c one p' e in
        let u : heads_of w g ≡ headed before (chain_at w (l, f)) (get_or (links_of w t) i None) (heads_of w h) = q.own_heads ∙ ap (λ (m : ℕ). headed before m (get_or (links_of w t) i None) (heads_of w h)) chain in
        rw (q.own_links, u) y

    pub leaves_out : Leaves w i t v h g
    leaves_out =
        record {
          rows = q.rows;
          links = q.links;
          heads = q.heads;
          frees = λ j x y z. ap (λ s. get_or s j None) q.own_links ∙ relinked-other (links_of w t) j before (get_or (links_of w t) i None) (free-before (l - 1) p j z);
          free = q.free;
          count = q.count;
        }
