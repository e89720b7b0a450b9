-- A pair put into a table of linked rows, and one taken out: what holds of the table and its heads afterwards.
use Rattle.std.proofs.Common.{Option, ⊎_elim, inl, inr, ◌⊎◌, ◌≡◌, ℕ, zero, suc, ◌+◌, ◌-◌, ◌<◌, ◌≤◌, true, false, List, [], ◌∷◌, length, get_or, set, None, Ok, refl, sym, ap, subst, ◌∙◌, arith, length-set, get_or-set_other, get_or-set_same, Some}
use Rattle.std.proofs.lemmas.List.{map-set}
use Rattle.std.proofs.lemmas.Bool.{eq-eqb, cases_lt, false≢true}
use Rattle.std.proofs.lemmas.Bool.Decides.{nat_tests}
use Rattle.facts.specs.declared.fact_types.Fact.{Fact}
use Rattle.stores.specs.Store.{read}
use Rattle.stores.specs.Piles.{sound_pair, after_put, after_take}
use Rattle.stores.specs.Table.{Row, pairs_of, pile_of, absent}
use Rattle.stores.proofs.Pairs.{read-placed, length-placed}
use Rattle.stores.proofs.Tables.{pairs-put, RowAt, row_at, used_in, count-is, used-few}
use Rattle.chains.specs.Links.{frees}
use Rattle.chains.specs.Rows.{rows_of, chain_at, number, named, link_to, link, links_of, heads_of, LinkedWay, Chained}
use Rattle.chains.specs.Acts.{same_way, free_row, Leaves}
use Rattle.chains.specs.declared.chain_types.ChainRow.{ChainRow}
use Rattle.chains.specs.declared.chain_types.Heads.{Heads}
use Rattle.chains.specs.declared.chain_types.Way.{Way}
use Rattle.chains.specs.declared.chain_types.Way.TheVariants.{ByLabel, ByKind, ByWord}
use Rattle.chains.proofs.Named.{used-within}
use Rattle.chains.proofs.Relinked.{link-free}
use Rattle.chains.proofs.Tables.{few_ways, named-to, rows-length, links-length, links_stay}
use Rattle.chains.proofs.Spare.{First, first-free, none-free, frees_fits, frees-more, frees_fill, frees-free}

pub read-absent : (l : ℕ) (t : List Row) → read l (pairs_of t) ≡ None → absent l t ≡ true
read-absent l [] e = refl
read-absent l (None ∷ t) e = read-absent l t e
read-absent l (Some (m, f) ∷ t) e = let ih = read-absent l t in let r = read-placed l m f (pairs_of t) in grind (arith, nat_tests)

-- the ways, each once
abbrev pub ways : List Way
ways = ByLabel ∷ ByKind ∷ ByWord ∷ []

pub number-of : (k : ℕ) → k < 3 → number (get_or ways k ByLabel) ≡ k
number-of zero h = refl
number-of (suc zero) h = refl
number-of (suc (suc zero)) h = refl
number-of (suc (suc (suc k))) h = absurd (omega arith)

one_way : (v w : Way) → (v ≡ w) ⊎ ((same_way v w ≡ false) × (number v ≡ number w → ⊥))
one_way ByLabel ByLabel = inl refl
one_way ByLabel ByKind = inr (refl, λ e. omega arith)
one_way ByLabel ByWord = inr (refl, λ e. omega arith)
one_way ByKind ByLabel = inr (refl, λ e. omega arith)
one_way ByKind ByKind = inl refl
one_way ByKind ByWord = inr (refl, λ e. omega arith)
one_way ByWord ByLabel = inr (refl, λ e. omega arith)
one_way ByWord ByKind = inr (refl, λ e. omega arith)
one_way ByWord ByWord = inl refl

-- the first ways are linked as with another row at a place, and the others as they were
pub record Stage (n i : ℕ) (r : Row) (t u : List ChainRow) (h g : Heads) : Type 0 where
  pub rows : rows_of u ≡ rows_of t
  pub done : (w : Way) → number w < n → LinkedWay w (set (rows_of t) i r) u g
  pub left : (w : Way) → n ≤ number w → LinkedWay w (rows_of t) u g
  pub frees : (j : ℕ) → (j ≡ i → ⊥) → j < length (rows_of t) → get_or (rows_of t) j None ≡ None → get_or (links_of ByLabel u) j None ≡ get_or (links_of ByLabel t) j None
  pub free : g.free ≡ h.free
  pub count : g.count ≡ h.count

module _ (n i : ℕ) (r : Row) (t u : List ChainRow) (h g : Heads) (s : Stage n i r t u h g) where
  pub stage_all : n ≡ 3 → (w : Way) → LinkedWay w (set (rows_of t) i r) u g
  stage_all e w = let f = few_ways w in s.done w (omega arith)

  pub stage_more : (w : Way) (v : List ChainRow) (f : Heads) → number w ≡ n → Leaves w i u v g f → LinkedWay w (set (rows_of u) i r) v f → Stage (n + 1) i r t v h f
  stage_more w v f e y m =
      record {
        rows = y.rows ∙ s.rows;
        done = λ x l. ⊎_elim (λ q. subst (λ (z : Way). LinkedWay z (set (rows_of t) i r) v f) (sym q) (subst (λ (R : List Row). LinkedWay w (set R i r) v f) s.rows m)) (λ q. let a = q.1 in rw (y.links x q.0, y.heads x q.0) (s.done x (less x l a))) (one_way x w);
        left = λ x l. ⊎_elim (λ q. let a = ap number q in absurd (omega arith)) (λ q. rw (y.links x q.0, y.heads x q.0) (s.left x (omega arith))) (one_way x w);
        frees = λ j a l z. ⊎_elim (λ q. subst (λ (x : Way). get_or (links_of x v) j None ≡ get_or (links_of x u) j None) (sym q) (y.frees j a (rw s.rows l) (rw s.rows z))) (λ q. ap (λ x. get_or x j None) (y.links ByLabel q.0)) (one_way ByLabel w) ∙ s.frees j a l z;
        free = y.free ∙ s.free;
        count = y.count ∙ s.count;
      }
    where
      less : (x : Way) → number x < n + 1 → (number x ≡ number w → ⊥) → number x < n
      less x l a = ⊎_elim (λ h. h) (λ h. let b : number x ≡ number w = omega arith in absurd (a b)) (cases_lt (number x) n)

-- a pair is put ---------------------------------------------------------------------------------------------------

-- there is a free row exactly where there is a first one
some-first : (R : List Row) (L : List (Option ℕ)) (i n : ℕ) → frees R L (Some i) n ≡ true → First R L i (n - 1) × (1 ≤ n)
some-first R L i zero e = absurd (false≢true e)
some-first R L i (suc n) e = let z : suc n - 1 ≡ n = omega arith in (rw z (first-free R L i n e), omega arith)

some-spare : (R : List Row) (L : List (Option ℕ)) (o : Option ℕ) (i n : ℕ) → o ≡ Some i → frees R L o n ≡ true → frees R L (Some i) (suc (n - 1)) ≡ true
some-spare R L o i n q e = let m = (some-first R L i n (rw (← q) e)).0 in frees-more R L i (n - 1) m.within m.free m.rest

pub some-room : (t : List ChainRow) (h : Heads) (i : ℕ) → Chained t h → h.free ≡ Some i → h.count < length t
some-room t h i c s = let m = (some-first (rows_of t) (links_of ByLabel t) i (length t - h.count) (rw (← s) c.spare)).1 in omega arith

pub no-room : (t : List ChainRow) (h : Heads) → Chained t h → h.free ≡ None → length t ≤ h.count
no-room t h c s = let m = none-free (rows_of t) (links_of ByLabel t) h.free (length t - h.count) s c.spare in omega arith

-- the row's links stay as it gets the pair
pub filled-links : (w : Way) (t : List ChainRow) (i : ℕ) (r d : ChainRow) → r.links ≡ (get_or t i d).links → links_of w (set t i r) ≡ links_of w t
filled-links w t i r d e = links_stay w t i r d (ap (λ l. named (get_or l (number w) (link_to None))) e)

pub filled-rows : (t : List ChainRow) (i l : ℕ) (f : Fact) (r : ChainRow) → r.row ≡ Some (l, f) → rows_of (set t i r) ≡ set (rows_of t) i (Some (l, f))
filled-rows t i l f r e = map-set (λ x. x.row) t i r ∙ ap (set (rows_of t) i) e

module _ (t t3 : List ChainRow) (h h3 : Heads) (i l : ℕ) (f : Fact) (c : Chained t h) (p : sound_pair (l, f) ≡ true) (n : read l (pairs_of (rows_of t)) ≡ None) (s : h.free ≡ Some i) where
  spare : First (rows_of t) (links_of ByLabel t) i (length t - h.count - 1) × (1 ≤ length t - h.count)
  spare = some-first (rows_of t) (links_of ByLabel t) i (length t - h.count) (rw (← s) c.spare)

  pub free-row : (get_or (rows_of t) i None ≡ None) × (i < length t) × (h.count < length t)
  free-row = let q = spare.0 in let m = spare.1 in let z = rows-length t in let w = q.within in (q.free, omega arith, omega arith)

  suited : RowAt l (rows_of t) i
  suited = let q = spare.0 in row_at (rows_of t) i l c.apart c.kept q.within (rw q.free (read-absent l (rows_of t) n))

  module _ (rows : rows_of t3 ≡ rows_of t) (linked : (w : Way) → LinkedWay w (set (rows_of t) i (Some (l, f))) t3 h3) (others : (j : ℕ) → (j ≡ i → ⊥) → j < length (rows_of t) → get_or (rows_of t) j None ≡ None → get_or (links_of ByLabel t3) j None ≡ get_or (links_of ByLabel t) j None) (count : h3.count ≡ h.count) (r d : ChainRow) (pair : r.row ≡ Some (l, f)) (links : r.links ≡ (get_or t3 i d).links) where
    new_rows : rows_of (set t3 i r) ≡ set (rows_of t) i (Some (l, f))
    new_rows = filled-rows t3 i l f r pair ∙ ap (λ (x : List Row). set x i (Some (l, f))) rows

    pub added_pile : pile_of (rows_of (set t3 i r)) ≡ after_put l f (pile_of (rows_of t)) (Ok tt)
    added_pile = ap pile_of new_rows ∙ suited.puts f

    added-count : h3.count + 1 ≡ length (pairs_of (set (rows_of t) i (Some (l, f))))
    added-count =
        let q = spare.0 in
        let e = ap length (pairs-put (rows_of t) i l f c.apart q.within (rw q.free (read-absent l (rows_of t) n))) in
        let k = length-placed l f (pairs_of (rows_of t)) n in
        let m = c.counted in
        omega arith

    added-spare : frees (set (rows_of t) i (Some (l, f))) (links_of ByLabel t3) (get_or (links_of ByLabel t) i None) (length t - (h3.count + 1)) ≡ true
    added-spare =
        let q = spare.0 in
        let e = some-spare (rows_of t) (links_of ByLabel t) h.free i (length t - h.count) s c.spare in
        let m : length t - (h3.count + 1) ≡ length t - h.count - 1 = omega arith in
        rw m (frees_fill (rows_of t) (links_of ByLabel t) (links_of ByLabel t3) i (get_or (links_of ByLabel t) i None) (length t - h.count - 1) (length t - h.count - 1) l f others e q.rest (omega arith))

    pub added : (g : Heads) → ((w : Way) → heads_of w g ≡ heads_of w h3) → g.free ≡ get_or (links_of ByLabel t) i None → g.count ≡ h3.count + 1 → Chained (set t3 i r) g
    added g hs fr co =
        let m = length-set t3 i r in
        let u : length t3 ≡ length t = sym (rows-length t3) ∙ ap length rows ∙ rows-length t in
        record {
          apart = rw new_rows (suited.puts_apart f);
          kept = rw new_rows (suited.puts_sound f p);
          counted = rw (new_rows, co) added-count;
          spare = rw (new_rows, filled-links ByLabel t3 i r d links, fr, co, m, u) added-spare;
          linked = λ w. rw (new_rows, filled-links w t3 i r d links, hs w) (linked w);
        }

-- a pair is taken out -----------------------------------------------------------------------------------------------

used-freed : (t : List Row) (i l : ℕ) (f : Fact) → get_or t i None ≡ Some (l, f) → used_in (set t i None) + 1 ≡ used_in t
used-freed [] i l f e = let w = used-within [] i l f e in absurd (omega arith)
used-freed (None ∷ t) zero l f e = let z : ◌≡◌ {A = ℕ} 0 1 = cc in absurd (omega arith)
used-freed (Some (m, g) ∷ t) zero l f e = omega arith
used-freed (None ∷ t) (suc i) l f e = used-freed t i l f e
used-freed (Some (m, g) ∷ t) (suc i) l f e = let ih = used-freed t i l f e in omega arith

-- some link of the free row
abbrev new_link : Way → Option ℕ → Option ℕ
new_link w n = link w (free_row n)

freed-links : (w : Way) (t : List ChainRow) (i : ℕ) (n : Option ℕ) → links_of w (set t i (free_row n)) ≡ set (links_of w t) i (new_link w n)
freed-links w t i n = map-set (link w) t i (free_row n)

module _ (t t3 : List ChainRow) (h h3 : Heads) (i l : ℕ) (f : Fact) (c : Chained t h) (e : get_or (rows_of t) i None ≡ Some (l, f)) where
  pub held-within : i < length t
  held-within = let w = used-within (rows_of t) i l f e in let n = rows-length t in omega arith

  taken : RowAt l (rows_of t) i
  taken = row_at (rows_of t) i l c.apart c.kept (used-within (rows_of t) i l f e) (rw e (eq-eqb l l refl))

  pub held-count : (1 ≤ h.count) × (h.count ≤ length t)
  held-count =
      let u = used-freed (rows_of t) i l f e in
      let k = count-is (rows_of t) c.apart in
      let w = used-few (rows_of t) in
      let n = rows-length t in
      let m = c.counted in
      (omega arith, omega arith)

  module _ (rows : rows_of t3 ≡ rows_of t) (linked : (w : Way) → LinkedWay w (set (rows_of t) i None) t3 h3) (others : (j : ℕ) → (j ≡ i → ⊥) → j < length (rows_of t) → get_or (rows_of t) j None ≡ None → get_or (links_of ByLabel t3) j None ≡ get_or (links_of ByLabel t) j None) (count : h3.count ≡ h.count) (free : h3.free ≡ h.free) where
    left_rows : rows_of (set t3 i (free_row h3.free)) ≡ set (rows_of t) i None
    left_rows = map-set (λ r. r.row) t3 i (free_row h3.free) ∙ ap (λ (x : List Row). set x i None) rows

    pub removed_pile : pile_of (rows_of (set t3 i (free_row h3.free))) ≡ after_take l (pile_of (rows_of t))
    removed_pile = ap pile_of left_rows ∙ taken.takes

    left-count : h3.count - 1 ≡ length (pairs_of (set (rows_of t) i None))
    left-count =
        let u = used-freed (rows_of t) i l f e in
        let k = count-is (rows_of t) c.apart in
        let m = count-is (set (rows_of t) i None) taken.takes_apart in
        let n = c.counted in
        omega arith

    three-length : length t3 ≡ length t
    three-length = sym (rows-length t3) ∙ ap length rows ∙ rows-length t

    left-links : (j : ℕ) → (j ≡ i → ⊥) → j < length (rows_of t) → get_or (rows_of t) j None ≡ None → get_or (links_of ByLabel (set t3 i (free_row h3.free))) j None ≡ get_or (links_of ByLabel t) j None
    left-links j n b z = ap (λ m. get_or m j None) (freed-links ByLabel t3 i h3.free) ∙ get_or-set_other (links_of ByLabel t3) i j (new_link ByLabel h3.free) None n ∙ others j n b z

    left-spare : frees (set (rows_of t) i None) (links_of ByLabel (set t3 i (free_row h3.free))) (Some i) (length t - (h3.count - 1)) ≡ true
    left-spare =
        let b = held-within in
        let q = held-count in
        let z = used-within (rows_of t) i l f e in
        let n = links-length ByLabel t3 ∙ ap length rows in
        let few : length (rows_of t) ≤ 1024 = let s = c.kept in grind (arith, nat_tests) in
        let fits = frees_fits (rows_of t) (links_of ByLabel t) h.free (length t - h.count) 1024 few c.spare in
        let own : get_or (links_of ByLabel (set t3 i (free_row h3.free))) i None ≡ h.free = ap (λ m. get_or m i None) (freed-links ByLabel t3 i h3.free) ∙ get_or-set_same (links_of ByLabel t3) i (new_link ByLabel h3.free) None (omega arith) ∙ ap (λ o. named (link_to o)) free ∙ named-to h.free fits in
        let m : length t - (h3.count - 1) ≡ suc (length t - h.count) = omega arith in
        rw m (frees-free (rows_of t) (links_of ByLabel t) (links_of ByLabel (set t3 i (free_row h3.free))) i h.free (length t - h.count) l f left-links e z own c.spare)

    left-linked : (w : Way) (g : Heads) → heads_of w g ≡ heads_of w h3 → LinkedWay w (rows_of (set t3 i (free_row h3.free))) (set t3 i (free_row h3.free)) g
    left-linked w g s =
        let k = link-free (chain_at w) (set (rows_of t) i None) (links_of w t3) (heads_of w h3) i (new_link w h3.free) (linked w) (get_or-set_same (rows_of t) i None None (used-within (rows_of t) i l f e)) in
        rw (left_rows, freed-links w t3 i h3.free, s) k

    pub removed : (g : Heads) → ((w : Way) → heads_of w g ≡ heads_of w h3) → g.free ≡ Some i → g.count ≡ h3.count - 1 → Chained (set t3 i (free_row h3.free)) g
    removed g hs fr co =
        let s = length-set t3 i (free_row h3.free) in
        record {
          apart = rw left_rows taken.takes_apart;
          kept = rw left_rows taken.takes_sound;
          counted = rw (left_rows, co) left-count;
          spare = rw (left_rows, fr, co, s, three-length) left-spare;
          linked = λ w. left-linked w g (hs w);
        }
