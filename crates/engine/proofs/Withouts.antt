-- Labels leave a store one after the other.
use Rattle.std.proofs.Common.{◌≡◌, ℕ, suc, ◌+◌, ◌<◌, ◌≤◌, List, [], ◌∷◌, length, get_or, drop, refl, ap, arith}
use Rattle.std.proofs.Math.Seq.{drop-cons}
use Rattle.std.proofs.Math.Numerals.{add-one}
use Rattle.std.proofs.lemmas.List.{drop_all}
use Rattle.std.proofs.lemmas.Bool.Decides.{nat_tests}
use Rattle.stores.specs.Piles.{Pile, with_pairs, after_take}
use Rattle.stores.specs.Store.{Pair, without, taken_out}

without-none : (ps : List Pair) → without [] ps ≡ ps
without-none [] = refl
without-none (p ∷ ps) = ap (λ qs. p ∷ qs) (without-none ps)

without-cons : (l : ℕ) (ls : List ℕ) (ps : List Pair) → without (l ∷ ls) ps ≡ without ls (taken_out l ps)
without-cons l ls [] = refl
without-cons l ls (p ∷ ps) = let ih = without-cons l ls ps in grind (arith, nat_tests)

-- a pile but for the labels from an index on
abbrev pub left_from : ℕ → List ℕ → Pile → Pile
left_from i ls m = with_pairs m (without (drop i ls) m.pairs)

pub left_more : (i : ℕ) (ls : List ℕ) (m : Pile) → i < length ls → left_from i ls m ≡ left_from (i + 1) ls (after_take (get_or ls i 0) m)
left_more i ls m h = rw (add-one, drop-cons ls i 0 h) (ap (with_pairs m) (without-cons (get_or ls i 0) (drop (suc i) ls) m.pairs))

pub left_all : (i : ℕ) (ls : List ℕ) (m : Pile) → length ls ≤ i → left_from i ls m ≡ m
left_all i ls m h = rw (drop_all i ls h) (ap (with_pairs m) (without-none m.pairs))
