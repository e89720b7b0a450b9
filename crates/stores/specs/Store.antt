-- The pairs of a store by rising label, whichever way it keeps them, and what each of its functions answers and makes of them.
use Rattle.std.specs.Prelude.{ℕ, Bool, false, cond, not, ◌&&◌, ◌||◌, List, [], ◌∷◌, map, length, ℤ, pos, negsuc, Some, None, Ok, Err, filter, Option, Result, ◌==◌, nat_lt, slice_index_or}
use Rattle.facts.specs.declared.fact_types.Fact.{Fact}
use Rattle.stores.specs.Lists.{has}
use Rattle.stores.specs.declared.fault_types.StoreFault.{StoreFault}
use Rattle.stores.specs.declared.fault_types.StoreFault.TheVariants.{Kind, Label, Full}

-- a stored fact under its label
abbrev pub Pair : Type 0
Pair = ℕ × Fact

abbrev pub label : Pair → ℕ
label p = p.0

abbrev pub fact : Pair → Fact
fact p = p.1

abbrev pub labels : List Pair → List ℕ
labels = map label

abbrev pub facts : List Pair → List Fact
facts = map fact

abbrev pub last_label : ℕ
last_label = 1000000

abbrev pub last_kind : ℕ
last_kind = 63

-- the same number
abbrev pub sameℤ : ℤ → ℤ → Bool
sameℤ (pos a) (pos b) = a == b
sameℤ (pos a) (negsuc b) = false
sameℤ (negsuc a) (pos b) = false
sameℤ (negsuc a) (negsuc b) = a == b

-- `read`: the fact under a label
abbrev pub read : ℕ → List Pair → Option Fact
read l [] = None
read l (p ∷ ps) = cond (label p == l) (Some (fact p)) (read l ps)

-- the first label above another whose fact passes a test
abbrev pub next_that : (Fact → Bool) → ℕ → List Pair → Option ℕ
next_that t above [] = None
next_that t above (p ∷ ps) = cond (nat_lt above (label p) && t (fact p)) (Some (label p)) (next_that t above ps)

-- a fact of a kind
abbrev pub of_kind : ℕ → Fact → Bool
of_kind kind f = f.kind == kind

-- a fact of a kind with a first word
abbrev pub of_kind_with : ℕ → ℤ → Fact → Bool
of_kind_with kind word f = f.kind == kind && sameℤ (slice_index_or f.words 0 (pos 0)) word

-- `next`: the first label above another with a kind
abbrev pub next_of : ℕ → ℕ → List Pair → Option ℕ
next_of kind = next_that (of_kind kind)

-- `next_with`: the first label above another with a kind and a first word
abbrev pub next_with : ℕ → ℤ → ℕ → List Pair → Option ℕ
next_with kind word = next_that (of_kind_with kind word)

-- the pairs with a fact under a label, at its place by rising label; the fact of a held label is replaced
abbrev pub placed : ℕ → Fact → List Pair → List Pair
placed l f [] = (l, f) ∷ []
placed l f (p ∷ ps) =
    cond (nat_lt l (label p)) ((l, f) ∷ (p ∷ ps)) (cond (l == label p) ((l, f) ∷ ps) (p ∷ placed l f ps))

-- one pair after the other
abbrev pub placed_all : List Pair → List Pair → List Pair
placed_all [] ps = ps
placed_all (q ∷ qs) ps = placed_all qs (placed (label q) (fact q) ps)

-- whether a pair can be put, whatever a store holds: a kind out of range is refused, then a label out of range
abbrev pub pair_answer : ℕ → Fact → Result (Unit {0}) StoreFault
pair_answer l f =
    cond (nat_lt last_kind f.kind) (Err Kind)
    (cond (l == 0 || nat_lt last_label l) (Err Label) (Ok tt))

-- `put` on a store of a capacity: a kind out of range is refused, then a label out of range,
-- and a label that is not held exactly when the store is full
abbrev pub put_answer : ℕ → ℕ → Fact → List Pair → Result (Unit {0}) StoreFault
put_answer capacity l f ps =
    cond (nat_lt last_kind f.kind) (Err Kind)
    (cond (l == 0 || nat_lt last_label l) (Err Label)
    (cond (has l (labels ps)) (Ok tt)
    (cond (nat_lt (length ps) capacity) (Ok tt) (Err Full))))

abbrev pub put_pairs : ℕ → Fact → List Pair → Result (Unit {0}) StoreFault → List Pair
put_pairs l f ps (Ok u) = placed l f ps
put_pairs l f ps (Err e) = ps

-- the number of each fault
abbrev pub store_fault_number : StoreFault → ℕ
store_fault_number Kind = 1
store_fault_number Label = 12
store_fault_number Full = 10

-- `take` answers what `read` does, and leaves the pairs but for one label
abbrev pub taken_out : ℕ → List Pair → List Pair
taken_out l = filter (λ p. not (label p == l))

-- the pairs but for some labels
abbrev pub without : List ℕ → List Pair → List Pair
without ls = filter (λ p. not (has (label p) ls))
