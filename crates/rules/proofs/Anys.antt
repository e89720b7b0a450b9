-- A test over a list, as the library writes it, and a list of which each element passes.
use Rattle.std.proofs.Common.{◌≡◌, ℕ, zero, suc, ◌<◌, Bool, true, ◌||◌, List, [], ◌∷◌, map, length, get_or, refl, ap, arith}
use Rattle.std.specs.List.{list_any}
use Rattle.std.proofs.lemmas.Bool.{and_parts}
use Rattle.rules.specs.Rules.{any, all}

pub list_any-is : {X : Type 0} (p : X → Bool) (xs : List X) → list_any p xs ≡ any p xs
list_any-is p [] = refl
list_any-is p (x ∷ xs) = ap (λ (b : Bool). p x || b) (list_any-is p xs)

pub any-map : {X Y : Type 0} (p : Y → Bool) (f : X → Y) (xs : List X) → any p (map f xs) ≡ any (λ x. p (f x)) xs
any-map p f [] = refl
any-map p f (x ∷ xs) = ap (λ (b : Bool). p (f x) || b) (any-map p f xs)

pub all-at : {X : Type 0} (p : X → Bool) (xs : List X) (n : ℕ) (d : X) → n < length xs → all p xs ≡ true → p (get_or xs n d) ≡ true
all-at p [] n d h t = absurd (omega arith)
all-at p (x ∷ xs) zero d h t = (and_parts (p x) (all p xs) t).0
all-at p (x ∷ xs) (suc n) d h t = all-at p xs n d (omega arith) (and_parts (p x) (all p xs) t).1
