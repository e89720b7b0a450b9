-- Tests over lists, as the library writes them.
use Rattle.std.proofs.Common.{◌≡◌, ℕ, suc, Bool, ◌&&◌, ◌||◌, List, [], ◌∷◌, ℤ, length, map, is_some, refl, ap, ◌∙◌, arith}
use Rattle.std.specs.Prelude.{◌==◌}
use Rattle.std.specs.List.{list_all, list_any, zip, enumerate_from}
use Rattle.std.proofs.Math.Numerals.{add-one}
use Rattle.rules.specs.declared.rule_types.Argument.{Argument}
use Rattle.rules.specs.declared.rule_types.Pattern.{Pattern}
use Rattle.rules.specs.Rules.{all, any}
use Rattle.stores.specs.Store.{Pair, next_that}
use Rattle.machine.specs.Fitting.{Setting, fits_word, fits_words}
use Rattle.engine.specs.Letters.{Letters}
use Rattle.engine.specs.Searching.{is_candidate, candidates_stand}

pub list_all-is : {X : Type 0} (p : X → Bool) (xs : List X) → list_all p xs ≡ all p xs
list_all-is p [] = refl
list_all-is p (x ∷ xs) = ap (λ b. p x && b) (list_all-is p xs)

-- some element has an image that passes
pub list_any-map : {X Y : Type 0} (f : X → Y) (p : Y → Bool) (xs : List X) → list_any (λ x. p (f x)) xs ≡ any p (map f xs)
list_any-map f p [] = refl
list_any-map f p (x ∷ xs) = ap (λ b. p (f x) || b) (list_any-map f p xs)

-- the arguments of a head and the words of a fact, pair by pair
pub list_all-zip : (σ : Setting) (as' : List Argument) (ws : List ℤ) → length as' ≡ length ws → list_all (λ x. fits_word σ x.0 x.1) (zip as' ws) ≡ fits_words σ as' ws
list_all-zip σ [] [] h = refl
list_all-zip σ [] (w ∷ ws) h = absurd (omega arith)
list_all-zip σ (a ∷ as') [] h = absurd (omega arith)
list_all-zip σ (a ∷ as') (w ∷ ws) h = ap (λ b. fits_word σ a w && b) (list_all-zip σ as' ws (omega arith))

-- heads that have candidates, each with its place
pub list_all-places : (ps : List Pair) (l : Letters) (place n : ℕ) (hs : List Pattern) →
    list_all (λ x. x.0 == place || is_some (next_that (is_candidate l x.1) 0 ps)) (enumerate_from n hs) ≡ candidates_stand ps l place n hs
list_all-places ps l place n [] = refl
list_all-places ps l place n (p ∷ hs) =
    ap (λ b. (n == place || is_some (next_that (is_candidate l p) 0 ps)) && b)
    (ap (λ m. list_all (λ x. x.0 == place || is_some (next_that (is_candidate l x.1) 0 ps)) (enumerate_from m hs)) (add-one n) ∙ list_all-places ps l place (suc n) hs)
