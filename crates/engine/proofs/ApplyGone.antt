-- Which labels leave a store in an application, and that they may leave one row after the other.
use Rattle.std.proofs.Common.{◌≡◌, ℕ, Bool, true, false, cond, not, ◌||◌, List, [], ◌∷◌, ◌++◌, length, drop, sym, refl, ap, ◌∙◌, arith, length-take-le}
use Rattle.std.proofs.lemmas.Bool.Decides.{nat_tests}
use Rattle.rules.specs.declared.rule_types.RuleRecord.{RuleRecord}
use Rattle.lists.specs.Held.{held}
use Rattle.lists.proofs.Held.{held-count}
use Rattle.rules.specs.Rules.{rule_seen}
use Rattle.stores.specs.Lists.{has}
use Rattle.stores.specs.Store.{Pair, label, without}
use Rattle.stores.specs.Piles.{Pile, with_pairs}
use Rattle.engine.proofs.Withouts.{left_all}

-- labels that leave one row after the other ------------------------------------------------------------------------

has-or : (n : ℕ) (xs ys : List ℕ) → has n (xs ++ ys) ≡ (has n xs || has n ys)
has-or n [] ys = refl
has-or n (x ∷ xs) ys = let ih = has-or n xs ys in grind (arith, nat_tests)

pub without-append : (xs ys : List ℕ) (ps : List Pair) → without (xs ++ ys) ps ≡ without ys (without xs ps)
without-append xs ys [] = refl
without-append xs ys (p ∷ ps) = go (has (label p) xs) (has (label p) ys) (has (label p) (xs ++ ys)) refl (has-or (label p) xs ys) (without-append xs ys ps)
  where
    go : (a b d : Bool) → has (label p) ys ≡ b → d ≡ (a || b) → without (xs ++ ys) ps ≡ without ys (without xs ps) →
        cond (not d) (p ∷ without (xs ++ ys) ps) (without (xs ++ ys) ps) ≡ without ys (cond (not a) (p ∷ without xs ps) (without xs ps))
    go true b d e f ih = ap (λ x. cond (not x) (p ∷ without (xs ++ ys) ps) (without (xs ++ ys) ps)) f ∙ ih
    go false b d e f ih =
        ap (λ x. cond (not x) (p ∷ without (xs ++ ys) ps) (without (xs ++ ys) ps)) (f ∙ sym e)
        ∙ ap (λ qs. cond (not (has (label p) ys)) (p ∷ qs) qs) ih

-- rows that leave one after the other
pub two-rows : (a b : Pile) (xs ys : List ℕ) → b ≡ with_pairs a (without xs a.pairs) → with_pairs a (without (xs ++ ys) a.pairs) ≡ with_pairs b (without ys b.pairs)
two-rows a b xs ys e = ap (with_pairs a) (without-append xs ys a.pairs) ∙ ap (λ m. with_pairs m (without ys m.pairs)) (sym e)

pub no-row : (m : Pile) (ls : List ℕ) → ls ≡ [] → m ≡ with_pairs m (without ls m.pairs)
no-row m ls e = sym (left_all 0 [] m (omega arith)) ∙ ap (λ l. with_pairs m (without l m.pairs)) (sym e)

-- the labels of the `drop` heads
pub drops_of : (r : RuleRecord) (ls : List ℕ) → drop r.keep_count ls ≡ drop (length (rule_seen r).keeps) ls
drops_of r ls =
    let k : length (rule_seen r).keeps ≡ r.keep_count = length-take-le r.keep_count (held r.singles) (omega (arith, r.keeps, held-count r.singles)) in
    ap (λ n. drop n ls) (sym k)
