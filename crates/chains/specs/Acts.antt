-- What the inner functions of a store of linked rows answer and leave. No contract of a public function cites this.
use Rattle.std.specs.Prelude.{refl, ◌≡◌, ℕ, ◌+◌, ◌<◌, ◌≤◌, Bool, true, false, cond, List, [], ◌∷◌, length, ℤ, is_some, Some, None, Ok, Option, ◌==◌, nat_lt, slice_index_or, slice_set}
use Rattle.facts.specs.declared.fact_types.Fact.{Fact}
use Rattle.stores.specs.Store.{Pair, read, of_kind_with}
use Rattle.stores.specs.Piles.{after_put}
use Rattle.stores.specs.Table.{Row, pairs_of, pile_of}
use Rattle.chains.specs.Links.{up_to, Place}
use Rattle.chains.specs.Rows.{rows_of, number, link_to, links_of, heads_of}
use Rattle.chains.specs.declared.chain_types.ChainRow.{ChainRow}
use Rattle.chains.specs.declared.chain_types.Heads.{Heads}
use Rattle.chains.specs.declared.chain_types.Way.{Way}

-- the label of a row whose fact has a kind and a first word, or none
abbrev pub asked_label : ℕ → ℤ → Row → Option ℕ
asked_label kind word None = None
asked_label kind word (Some (l, f)) = cond (of_kind_with kind word f) (Some l) None

abbrev pub same_way : Way → Way → Bool
same_way v w = number v == number w

-- a row without a pair, whose link by label names another
abbrev pub free_row : Option ℕ → ChainRow
free_row i = record { row = None; links = link_to i ∷ link_to None ∷ link_to None ∷ []; hints = link_to None ∷ link_to None ∷ link_to None ∷ []; three = refl }

-- the row behind one of so many rows, or none
abbrev pub behind : ℕ → ℕ → Option ℕ
behind n i = cond (nat_lt (i + 1) n) (Some (i + 1)) None

-- each row is free and names the one behind it
pub record AllFree (t : List ChainRow) : Type 0 where
  pub each : (i : ℕ) → i < length t → slice_index_or t i (free_row None) ≡ free_row (behind (length t) i)

-- a row and its fact, where the row has a label; else none
abbrev pub with_label : ℕ → ℕ → Row → Option (ℕ × Fact)
with_label l i None = None
with_label l i (Some (m, f)) = cond (m == l) (Some (i, f)) None

-- the row that is named and its fact, where the row has the label; else none
abbrev pub having : ℕ → List Row → Option ℕ → Option (ℕ × Fact)
having l rows None = None
having l rows (Some i) = with_label l i (slice_index_or rows i None)

-- the row of a label and its fact, or none where the label is not held
abbrev pub Finds : ℕ → List Row → Option (ℕ × Fact) → Type 0
Finds l rows None = read l (pairs_of rows) ≡ None
Finds l rows (Some p) = slice_index_or rows p.0 None ≡ Some (l, p.1)

-- what a change of one way's links leaves: the rows, the links and heads of the other ways, the links of the other free rows, and the
-- first free row and the count
pub record Leaves (w : Way) (i : ℕ) (t u : List ChainRow) (h g : Heads) : Type 0 where
  pub rows : rows_of u ≡ rows_of t
  pub links : (v : Way) → same_way v w ≡ false → links_of v u ≡ links_of v t
  pub heads : (v : Way) → same_way v w ≡ false → heads_of v g ≡ heads_of v h
  pub frees : (j : ℕ) → (j ≡ i → ⊥) → j < length (rows_of t) → slice_index_or (rows_of t) j None ≡ None → slice_index_or (links_of w u) j None ≡ slice_index_or (links_of w t) j None
  pub free : g.free ≡ h.free
  pub count : g.count ≡ h.count

-- a row that is named stands on a chain, and its label is not above another
abbrev pub UpTo : (Pair → ℕ) → ℕ → ℕ → List Row → Option ℕ → Type 0
UpTo key chain above rows None = Unit {0}
UpTo key chain above rows (Some i) = up_to key chain above (slice_index_or rows i None) ≡ true

-- what a change of hints leaves: the rows, all links and heads, the first free row and the count
pub record KeepsLinks (t u : List ChainRow) (h g : Heads) : Type 0 where
  pub rows : rows_of u ≡ rows_of t
  pub links : (w : Way) → links_of w u ≡ links_of w t
  pub heads : (w : Way) → heads_of w g ≡ heads_of w h
  pub free : g.free ≡ h.free
  pub count : g.count ≡ h.count

-- whether a fact was put in the place of a label's own: else nothing changed
abbrev pub Replaces : Option (Unit {0}) → ℕ → Fact → List Row → List Row → Type 0
Replaces (Some u) l f old new = (is_some (read l (pairs_of old)) ≡ true) × (pile_of new ≡ after_put l f (pile_of old) (Ok tt))
Replaces None l f old new = new ≡ old

-- a row that a link may name is within so many rows
abbrev pub Within : Option ℕ → ℕ → Type 0
Within None n = Unit {0}
Within (Some i) n = i < n

-- a row that is named has a pair, and its link leads to another row
abbrev pub LedFrom : ℕ → List Row → List (Option ℕ) → Option ℕ → Type 0
LedFrom i rows links None = Unit {0}
LedFrom i rows links (Some b) = (p : Pair) × (slice_index_or rows b None ≡ Some p) × (slice_index_or links b None ≡ Some i)

-- the row after one of a chain, or the chain's first row where none is named
abbrev pub onward : List (Option ℕ) → List (Option ℕ) → ℕ → Option ℕ → Option ℕ
onward links heads chain None = slice_index_or heads chain None
onward links heads chain (Some i) = slice_index_or links i None

-- the label of a row, and that of the row that is named; 0 where there is none
abbrev pub label_in : Row → ℕ
label_in None = 0
label_in (Some (l, f)) = l

abbrev pub label_at : List Row → Option ℕ → ℕ
label_at rows None = 0
label_at rows (Some i) = label_in (slice_index_or rows i None)

-- where a walk to a label begins or has come to: a row before, whose label is not above that one, and the row after it on the chain
pub record Started (key : Pair → ℕ) (rows : List Row) (links heads : List (Option ℕ)) (chain above : ℕ) (before at : Option ℕ) : Type 0 where
  pub place : Place key rows links heads chain (label_at rows before) before at
  pub below : label_at rows before ≤ above

-- the links and the heads after a link is set: in the row before, or in the head of the chain where there is no such row
abbrev pub relinked : Option ℕ → Option ℕ → List (Option ℕ) → List (Option ℕ)
relinked None x links = links
relinked (Some i) x links = slice_set links i x

abbrev pub headed : Option ℕ → ℕ → Option ℕ → List (Option ℕ) → List (Option ℕ)
headed None chain x heads = slice_set heads chain x
headed (Some i) chain x heads = heads

-- a link to a row set
pub record Pointed (w : Way) (chain : ℕ) (before i : Option ℕ) (t u : List ChainRow) (h g : Heads) : Type 0 where
  pub rows : rows_of u ≡ rows_of t
  pub own_links : links_of w u ≡ relinked before i (links_of w t)
  pub own_heads : heads_of w g ≡ headed before chain i (heads_of w h)
  pub links : (v : Way) → same_way v w ≡ false → links_of v u ≡ links_of v t
  pub heads : (v : Way) → same_way v w ≡ false → heads_of v g ≡ heads_of v h
  pub free : g.free ≡ h.free
  pub count : g.count ≡ h.count
