-- Chains of rows: from each row that has a pair a link leads to the row of the next label on its chain.
use Rattle.std.specs.Prelude.{◌≡◌, ℕ, zero, suc, ◌<◌, Bool, true, false, cond, ◌&&◌, List, [], ◌∷◌, length, Some, None, Option, ◌==◌, nat_le, nat_lt, slice_index_or}
use Rattle.facts.specs.declared.fact_types.Fact.{Fact}
use Rattle.stores.specs.Store.{Pair, label}
use Rattle.stores.specs.Table.{Row, pairs_of}

-- the first label above another whose pair passes a test
abbrev pub next_in : (Pair → Bool) → ℕ → List Pair → Option ℕ
next_in t above [] = None
next_in t above (p ∷ ps) = cond (nat_lt above (label p) && t p) (Some (label p)) (next_in t above ps)

-- the pairs of one chain, each pair having the number of its chain
abbrev pub on_chain : (Pair → ℕ) → ℕ → Pair → Bool
on_chain key chain p = key p == chain

abbrev pub has_label : ℕ → Row → Bool
has_label l None = false
has_label l (Some (m, f)) = m == l

-- a link names the row of a label, or no row where there is no label
abbrev pub points : List Row → Option ℕ → Option ℕ → Bool
points rows None None = true
points rows None (Some l) = false
points rows (Some i) None = false
points rows (Some i) (Some l) = has_label l (slice_index_or rows i None)

-- each chain by rising label: its head names the row of its least label, and the link of each row that of the next
pub record Linked (key : Pair → ℕ) (rows : List Row) (links heads : List (Option ℕ)) : Type 0 where
  pub sized : length heads ≡ 64
  pub first : (chain : ℕ) → chain < 64 → points rows (slice_index_or heads chain None) (next_in (on_chain key chain) 0 (pairs_of rows)) ≡ true
  pub later : (i l : ℕ) (f : Fact) → slice_index_or rows i None ≡ Some (l, f) → points rows (slice_index_or links i None) (next_in (on_chain key (key (l, f))) l (pairs_of rows)) ≡ true

-- a row of a chain whose label is not above another
abbrev pub up_to : (Pair → ℕ) → ℕ → ℕ → Row → Bool
up_to key chain above None = false
up_to key chain above (Some (m, f)) = key (m, f) == chain && nat_le m above

-- the row before, whose label is not above another, or the head where there is no such row, names a row
abbrev pub Leads : (Pair → ℕ) → List Row → List (Option ℕ) → List (Option ℕ) → ℕ → ℕ → Option ℕ → Option ℕ → Type 0
Leads key rows links heads chain above None at = slice_index_or heads chain None ≡ at
Leads key rows links heads chain above (Some i) at = (up_to key chain above (slice_index_or rows i None) ≡ true) × (slice_index_or links i None ≡ at)

-- where a label stands on a chain, or would stand: the first row whose label is above another, and the row whose link names that one,
-- or none where the head does
pub record Place (key : Pair → ℕ) (rows : List Row) (links heads : List (Option ℕ)) (chain above : ℕ) (before at : Option ℕ) : Type 0 where
  pub next : points rows at (next_in (on_chain key chain) above (pairs_of rows)) ≡ true
  pub from : Leads key rows links heads chain above before at

abbrev pub is_free : Row → Bool
is_free None = true
is_free (Some (l, f)) = false

-- links from a first row through so many free rows, and then to no row
abbrev pub frees : List Row → List (Option ℕ) → Option ℕ → ℕ → Bool
frees rows links None zero = true
frees rows links None (suc n) = false
frees rows links (Some i) zero = false
frees rows links (Some i) (suc n) = nat_lt i (length rows) && is_free (slice_index_or rows i None) && frees rows links (slice_index_or links i None) n
