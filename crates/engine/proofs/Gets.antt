-- What `get` says of the items of a list.
use Rattle.std.proofs.Common.{◌≡◌, ℕ, ◌<◌, ◌≤◌, true, false, ltb, List, length, get_or, Some, None, refl, sym, ap, ◌∙◌, arith}
use Rattle.std.specs.List.{slice_get}
use Rattle.std.proofs.lemmas.Option.{slice_get_read, slice_get_past}
use Rattle.std.proofs.lemmas.Bool.Decides.{nat_tests}
use Rattle.lists.specs.declared.fixed_list_type.FixedList.{FixedList}
use Rattle.lists.specs.Held.{held}
use Rattle.lists.proofs.Held.{held-count}

module _ {T : Type 0} {N : ℕ} (l : FixedList T N) (xs : List T) (i : ℕ) (same : xs ≡ held l) where
  pub item : (x : T) → true ≡ ltb i (length xs) → x ≡ get_or xs i x → slice_get (held l) i ≡ Some x
  item x h e = ap (λ ys. slice_get ys i) (sym same) ∙ slice_get_read xs (length xs) i x refl (grind (arith, nat_tests)) e

  pub past : false ≡ ltb i (length xs) → l.count ≤ i
  past h = let n = held-count l in let m = ap length same in grind (arith, nat_tests)

  pub inside : true ≡ ltb i (length xs) → i < l.count
  inside h = let n = held-count l in let m = ap length same in grind (arith, nat_tests)

  pub none : false ≡ ltb i (length xs) → slice_get (held l) i ≡ None
  none h = slice_get_past (held l) i (let m = ap length same in grind (arith, nat_tests))
