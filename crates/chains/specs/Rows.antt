-- The rows of a table with links: what it holds, its links and heads of each way, and what makes it a store.
use Rattle.std.specs.Prelude.{◌≡◌, ℕ, suc, ◌+◌, ◌-◌, ◌%◌, true, List, [], map, length, ℤ, pos, negsuc, Option, None, Some, cond, nat_lt, slice_index_or}
use Rattle.stores.specs.Store.{Pair, label, fact}
use Rattle.stores.specs.Piles.{sound}
use Rattle.stores.specs.Table.{Row, pairs_of, pile_of, distinct}
use Rattle.chains.specs.Links.{Linked, frees}
use Rattle.chains.specs.declared.chain_types.ChainRow.{ChainRow}
use Rattle.chains.specs.declared.chain_types.Heads.{Heads}
use Rattle.chains.specs.declared.chain_types.Link.{Link}
use Rattle.chains.specs.declared.chain_types.Way.{Way}
use Rattle.chains.specs.declared.chain_types.Way.TheVariants.{ByLabel, ByKind, ByWord}

-- the rows as a store of rows has them
abbrev pub rows_of : List ChainRow → List Row
rows_of = map (λ r. r.row)

abbrev pub magnitude : ℤ → ℕ
magnitude (pos n) = n
magnitude (negsuc n) = suc n

-- the number of a chain, by a label, a kind and a first word
abbrev pub chain_of : Way → ℕ → ℕ → ℤ → ℕ
chain_of ByLabel l kind word = l % 64
chain_of ByKind l kind word = kind % 64
chain_of ByWord l kind word = (kind + magnitude word % 64) % 64

abbrev pub chain_at : Way → Pair → ℕ
chain_at w p = chain_of w (label p) (fact p).kind (slice_index_or (fact p).words 0 (pos 0))

-- the place of a way among the three
abbrev pub number : Way → ℕ
number ByLabel = 0
number ByKind = 1
number ByWord = 2

-- the row that a link leads to, or none, and the link to one
abbrev pub named : Link → Option ℕ
named l = cond (nat_lt l.number 1024) (Some l.number) None

abbrev pub link_to : Option ℕ → Link
link_to None = record { number = 1024 }
link_to (Some i) = record { number = i }

-- the row after another on its chain, and those of all rows
abbrev pub link : Way → ChainRow → Option ℕ
link w r = named (slice_index_or r.links (number w) (link_to None))

abbrev pub links_of : Way → List ChainRow → List (Option ℕ)
links_of w = map (link w)

-- the heads of one way
abbrev pub heads_of : Way → Heads → List (Option ℕ)
heads_of w h = map named (slice_index_or h.firsts (number w) [])

-- the links of one way are right
abbrev pub LinkedWay : Way → List Row → List ChainRow → Heads → Type 0
LinkedWay w rows t h = Linked (chain_at w) rows (links_of w t) (heads_of w h)

-- rows that can be walked one way: no label stands twice, the pairs are those of a store, and the links of that way are right
pub record Walkable (w : Way) (t : List ChainRow) (h : Heads) : Type 0 where
  pub apart : distinct (rows_of t) ≡ true
  pub kept : sound (pile_of (rows_of t)) ≡ true
  pub linked : LinkedWay w (rows_of t) t h

-- no label stands twice, the pairs are those of a store and as many as the count says, the free rows follow one another, and so do the
-- rows of each chain
pub record Chained (t : List ChainRow) (h : Heads) : Type 0 where
  pub apart : distinct (rows_of t) ≡ true
  pub kept : sound (pile_of (rows_of t)) ≡ true
  pub counted : h.count ≡ length (pairs_of (rows_of t))
  pub spare : frees (rows_of t) (links_of ByLabel t) h.free (length t - h.count) ≡ true
  pub linked : (w : Way) → LinkedWay w (rows_of t) t h
