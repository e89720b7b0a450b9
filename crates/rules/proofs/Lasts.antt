-- A list whose last all head is taken off and put back with an `only` comparison more.
use Rattle.std.proofs.Common.{◌≡◌, ℕ, zero, suc, ◌+◌, ◌-◌, Bool, true, false, nat_le, nat_lt, List, [], ◌∷◌, map, length, Some, Ok, refl, sym, ap, ◌∙◌, arith}
use Rattle.std.specs.List.{slice_get}
use Rattle.std.specs.Option.{unwrap_or}
use Rattle.std.proofs.lemmas.Bool.Decides.{nat_tests}
use Rattle.std.proofs.lemmas.Option.{slice_get_within}
use Rattle.lists.specs.Held.{held}
use Rattle.rules.specs.declared.rule_types.AllRecord.{AllRecord}
use Rattle.rules.specs.declared.rule_types.Comparison.{Comparison}
use Rattle.rules.specs.declared.rule_types.RuleFault.TheVariants.{OutOfOrder, TooMany}
use Rattle.rules.specs.Rules.{all_seen}
use Rattle.rules.specs.Writing.{in_order, last_only}
use Rattle.rules.proofs.Stands.{no_ok}

last-at : (i : ℕ) (xs : List AllRecord) (a : AllRecord) → i + 1 ≡ length xs → slice_get xs i ≡ Some a → last_only (map all_seen xs) ≡ held a.only
last-at i [] a l h = absurd (omega arith)
last-at zero (x ∷ []) a l h = ap (λ o. held (unwrap_or o x).only) h
last-at (suc i) (x ∷ []) a l h = absurd (omega arith)
last-at zero (x ∷ (y ∷ ys)) a l h = absurd (omega arith)
last-at (suc i) (x ∷ (y ∷ ys)) a l h = last-at i (y ∷ ys) a (omega arith) h

module _ (xs : List AllRecord) (a : AllRecord) (h : slice_get xs (length xs - 1) ≡ Some a) where
  last_only-is : last_only (map all_seen xs) ≡ held a.only
  last_only-is = last-at (length xs - 1) xs a (omega (arith, slice_get_within xs (length xs - 1) a h)) h

  -- where an `only` may come next, the last all head has room for it
  pub last_room : (late : Bool) → in_order late (nat_le 2 (length (last_only (map all_seen xs)))) ≡ Ok tt → nat_lt (length (held a.only)) 2 ≡ true
  last_room late m = go late (nat_le 2 (length (held a.only))) refl (ap (λ (cs : List Comparison). in_order late (nat_le 2 (length cs))) (sym last_only-is) ∙ m)
    where
      go : (late full : Bool) → nat_le 2 (length (held a.only)) ≡ full → in_order late full ≡ Ok tt → nat_lt (length (held a.only)) 2 ≡ true
      go true full e k = absurd (no_ok OutOfOrder tt k)
      go false true e k = absurd (no_ok TooMany tt k)
      go false false e k = grind (arith, nat_tests)
