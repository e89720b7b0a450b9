-- What the inner functions of the stores over rows answer. No contract of a public function cites this.
use Rattle.std.specs.Prelude.{ℕ, ◌+◌, ◌-◌, ◌++◌, take, drop, Bool, suc, [], ◌∷◌, ◌==◌, false, cond, List, Some, None, Option, nat_lt}
use Rattle.facts.specs.declared.fact_types.Fact.{Fact}
use Rattle.stores.specs.Store.{Pair, label}
use Rattle.stores.specs.Table.{Row}

-- how many pairs have a label below a bound, where labels rise: those before the first whose label is not
abbrev pub rank : ℕ → List Pair → ℕ
rank bound [] = 0
rank bound (p ∷ ps) = cond (nat_lt (label p) bound) (suc (rank bound ps)) 0

-- the fact of a row with this label
abbrev pub fact_under : ℕ → Row → Option Fact
fact_under l None = None
fact_under l (Some (m, f)) = cond (m == l) (Some f) None

-- whether a row has a fact that passes a test
abbrev pub row_passes : (Fact → Bool) → Row → Bool
row_passes t None = false
row_passes t (Some (l, f)) = t f

-- the label of the first row with a fact that passes a test
abbrev pub first_label : (Fact → Bool) → List Row → Option ℕ
first_label t [] = None
first_label t (None ∷ rows) = first_label t rows
first_label t (Some (l, f) ∷ rows) = cond (t f) (Some l) (first_label t rows)

-- rows with another before the one of a number; those of the first n from there on move up by one, and the row behind them goes
abbrev pub with_row : ℕ → Row → ℕ → List Row → List Row
with_row i r n rows = take i rows ++ (r ∷ (take (n - i) (drop i rows) ++ drop (n + 1) rows))

-- rows without the one of a number; those of the first n behind it move down by one, and a free one follows them
abbrev pub without_row : ℕ → ℕ → List Row → List Row
without_row i n rows = take i rows ++ (take (n - 1 - i) (drop (i + 1) rows) ++ (None ∷ drop n rows))
