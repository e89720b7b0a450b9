-- A search through words for the one that is spelled so.
use Rattle.std.proofs.Common.{◌≡◌, ℕ, cond, List, [], ◌∷◌, Some, Option, refl, ap}
use Rattle.std.specs.Prelude.{find}
use Rattle.std.specs.Str.{bytes_eq}
use Rattle.rules_file.specs.RuleRows.{by_spelling}

module _ {X : Type 0} (spelling : X → List ℕ) where
  pub spelled : (xs : List X) (bs : List ℕ) → find (λ x. bytes_eq bs (spelling x)) xs ≡ by_spelling spelling xs bs
  spelled [] bs = refl
  spelled (x ∷ xs) bs = ap (λ (o : Option X). cond (bytes_eq bs (spelling x)) (Some x) o) (spelled xs bs)
