-- A fact put in the place of another that stands on the same chains.
use Rattle.std.proofs.Common.{◌≡◌, ℕ, ◌-◌, true, false, eqb, List, length, get_or, set, is_some, Some, None, Option, pos, refl, sym, ap, ◌∙◌, ⊎_elim, length-set, get_or-set_other, get_or-set_same}
use Rattle.std.proofs.lemmas.Bool.{cases_eq, and_parts, eqb-true, eq-eqb, false≢true}
use Rattle.facts.specs.declared.fact_types.Fact.{Fact}
use Rattle.stores.specs.Store.{Pair, placed, sameℤ, of_kind_with}
use Rattle.stores.specs.Piles.{sound_pair}
use Rattle.stores.specs.Table.{Row, pairs_of, pile_of, distinct}
use Rattle.stores.proofs.Pairs.{length-held}
use Rattle.stores.proofs.Tables.{rises-pairs, pairs-put, RowAt, row_at}
use Rattle.chains.specs.Links.{next_in, on_chain, has_label, points, Linked}
use Rattle.chains.specs.Rows.{rows_of, chain_at, links_of, heads_of, Chained}
use Rattle.chains.specs.Acts.{Replaces}
use Rattle.chains.specs.declared.chain_types.ChainRow.{ChainRow}
use Rattle.chains.specs.declared.chain_types.Heads.{Heads}
use Rattle.chains.specs.declared.chain_types.Way.{Way}
use Rattle.chains.specs.declared.chain_types.Way.TheVariants.{ByLabel, ByKind, ByWord}
use Rattle.chains.proofs.Nexts.{next_replaced}
use Rattle.chains.proofs.Named.{one_pair, used-within, used-read}
use Rattle.chains.proofs.Spare.{frees-used}
use Rattle.chains.proofs.Changes.{filled-links, filled-rows}
use Rattle.chains.proofs.Answered.{same-magnitude}

-- what is known of a fact that was put in the place of another, and of one that was not
pub was-replaced : (o : Option (Unit {0})) (l : ℕ) (f : Fact) (R S : List Row) → Replaces o l f R S → is_some o ≡ true → Replaces (Some tt) l f R S
was-replaced (Some u) l f R S e q = e
was-replaced None l f R S e q = absurd (false≢true q)

pub not-replaced : (o : Option (Unit {0})) (l : ℕ) (f : Fact) (R S : List Row) → Replaces o l f R S → is_some o ≡ false → S ≡ R
not-replaced (Some u) l f R S e q = absurd (false≢true (sym q))
not-replaced None l f R S e q = e

-- facts of one kind and one first word stand on the same chains
pub same_chains : (w : Way) (l : ℕ) (f g : Fact) → of_kind_with f.kind (get_or f.words 0 (pos 0)) g ≡ true → chain_at w (l, f) ≡ chain_at w (l, g)
same_chains ByLabel l f g e = refl
same_chains ByKind l f g e =
    let q = and_parts (eqb g.kind f.kind) (sameℤ (get_or g.words 0 (pos 0)) (get_or f.words 0 (pos 0))) e in rw (eqb-true g.kind f.kind q.0) refl
same_chains ByWord l f g e =
    let q = and_parts (eqb g.kind f.kind) (sameℤ (get_or g.words 0 (pos 0)) (get_or f.words 0 (pos 0))) e in
    rw (eqb-true g.kind f.kind q.0, same-magnitude (get_or g.words 0 (pos 0)) (get_or f.words 0 (pos 0)) q.1) refl

points-same : (R : List Row) (i : ℕ) (k : Option ℕ) (l : ℕ) (f g : Fact) (o : Option ℕ) → get_or R i None ≡ Some (l, g) → points R k o ≡ true → points (set R i (Some (l, f))) k o ≡ true
points-same R i None l f g None e p = p
points-same R i None l f g (Some m) e p = p
points-same R i (Some k) l f g None e p = p
points-same R i (Some k) l f g (Some m) e p =
    ⊎_elim
    (λ q.
    let w = used-within R i l g e in
    let x : has_label m (get_or R k None) ≡ eqb l m = ap (λ n. has_label m (get_or R n None)) q ∙ ap (has_label m) e in
    let y : has_label m (get_or (set R i (Some (l, f))) k None) ≡ eqb l m = ap (λ n. has_label m (get_or (set R i (Some (l, f))) n None)) q ∙ ap (has_label m) (get_or-set_same R i (Some (l, f)) None w) in
    y ∙ sym x ∙ p)
    (λ q. rw (get_or-set_other R i k (Some (l, f)) None q) p)
    (cases_eq k i)

linked-same : (key : Pair → ℕ) (R : List Row) (L H : List (Option ℕ)) (i l : ℕ) (f g : Fact) → distinct R ≡ true → Linked key R L H → get_or R i None ≡ Some (l, g) → key (l, f) ≡ key (l, g) → pairs_of (set R i (Some (l, f))) ≡ placed l f (pairs_of R) → Linked key (set R i (Some (l, f))) L H
linked-same key R L H i l f g d k e s p =
    record { sized = k.sized; first = λ c h. here c 0 (get_or H c None) (k.first c h); later = later }
  where
    here : (c m : ℕ) (j : Option ℕ) → points R j (next_in (on_chain key c) m (pairs_of R)) ≡ true → points (set R i (Some (l, f))) j (next_in (on_chain key c) m (pairs_of (set R i (Some (l, f))))) ≡ true
    here c m j q =
        let t : on_chain key c (l, f) ≡ on_chain key c (l, g) = ap (λ n. eqb n c) s in
        rw (p, next_replaced (on_chain key c) m l f g (pairs_of R) (rises-pairs R) (used-read R i l g d e) t) (points-same R i j l f g (next_in (on_chain key c) m (pairs_of R)) e q)

    later : (j m : ℕ) (x : Fact) → get_or (set R i (Some (l, f))) j None ≡ Some (m, x) → points (set R i (Some (l, f))) (get_or L j None) (next_in (on_chain key (key (m, x))) m (pairs_of (set R i (Some (l, f))))) ≡ true
    later j m x y =
        ⊎_elim
        (λ q.
        let z : ◌≡◌ {A = Row} (Some (l, f)) (Some (m, x)) = sym (get_or-set_same R i (Some (l, f)) None (used-within R i l g e)) ∙ ap (λ n. get_or (set R i (Some (l, f))) n None) (sym q) ∙ y in
        let p' = one_pair l m f x z in
        let u = p'.0 in
        let v = p'.1 in
        rw (q, ← u, ← v, s) (here (key (l, g)) l (get_or L i None) (k.later i l g e)))
        (λ q. here (key (m, x)) m (get_or L j None) (k.later j m x (sym (get_or-set_other R i j (Some (l, f)) None q) ∙ y)))
        (cases_eq j i)

module _ (t : List ChainRow) (h : Heads) (i l : ℕ) (f g : Fact) (c : Chained t h) (e : get_or (rows_of t) i None ≡ Some (l, g)) (p : sound_pair (l, f) ≡ true) (s : of_kind_with f.kind (get_or f.words 0 (pos 0)) g ≡ true) (r d : ChainRow) (pair : r.row ≡ Some (l, f)) (links : r.links ≡ (get_or t i d).links) where
  own-row : RowAt l (rows_of t) i
  own-row = row_at (rows_of t) i l c.apart c.kept (used-within (rows_of t) i l g e) (rw e (eq-eqb l l refl))

  own-pairs : pairs_of (set (rows_of t) i (Some (l, f))) ≡ placed l f (pairs_of (rows_of t))
  own-pairs = pairs-put (rows_of t) i l f c.apart (used-within (rows_of t) i l g e) (rw e (eq-eqb l l refl))

  own-count : length (pairs_of (set (rows_of t) i (Some (l, f)))) ≡ length (pairs_of (rows_of t))
  own-count = ap length own-pairs ∙ length-held l f (pairs_of (rows_of t)) (rises-pairs (rows_of t)) (ap is_some (used-read (rows_of t) i l g c.apart e))

  pub replaced_chained : Chained (set t i r) h
  replaced_chained =
      let n = length-set t i r in
      record {
        apart = rw (filled-rows t i l f r pair) (own-row.puts_apart f);
        kept = rw (filled-rows t i l f r pair) (own-row.puts_sound f p);
        counted = rw (filled-rows t i l f r pair, own-count) c.counted;
        spare = rw (filled-rows t i l f r pair, filled-links ByLabel t i r d links, n) (frees-used (rows_of t) (links_of ByLabel t) i h.free (length t - h.count) l l f g e c.spare);
        linked = λ w. rw (filled-rows t i l f r pair, filled-links w t i r d links) (linked-same (chain_at w) (rows_of t) (links_of w t) (heads_of w h) i l f g c.apart (c.linked w) e (same_chains w l f g s) own-pairs);
      }

  pub replaced_rows : Replaces (Some tt) l f (rows_of t) (rows_of (set t i r))
  replaced_rows = (ap is_some (used-read (rows_of t) i l g c.apart e), ap pile_of (filled-rows t i l f r pair) ∙ own-row.puts f)
