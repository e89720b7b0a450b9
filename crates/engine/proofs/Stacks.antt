-- A stack as a list, the top first.
use Rattle.std.proofs.Common.{◌≡◌, ℕ, zero, suc, ◌-◌, ◌<◌, ◌≤◌, Bool, true, List, [], ◌∷◌, ◌++◌, length, take, reverse, get_or, refl, ap, ◌∙◌, arith}
use Rattle.std.proofs.lemmas.List.{reverse-append, take_all}
use Rattle.std.proofs.Math.Seq.{take-suc}
use Rattle.std.proofs.lemmas.Bool.{and_parts, and_from}
use Rattle.rules.specs.Rules.{all}
use Rattle.machine.specs.declared.goal_types.Goal.{Goal}
use Rattle.machine.specs.declared.goal_types.Goal.TheVariants.{Look}
use Rattle.engine.specs.Goals.{below}

below-take : (gs : List Goal) (d : ℕ) → 0 < d → d ≤ length gs → reverse (take (d - 1) gs) ≡ below (reverse (take d gs))
below-take gs zero h k = elim h [ ]
below-take gs (suc d) h k =
    let e : suc d - 1 ≡ d = omega arith in
    rw (e, take-suc gs d (Look 0) k, reverse-append (take d gs) (get_or gs d (Look 0) ∷ [])) refl

pub below-last : (gs : List Goal) → reverse (take (length gs - 1) gs) ≡ below (reverse gs)
below-last [] = refl
below-last (g ∷ gs) =
    below-take (g ∷ gs) (length (g ∷ gs)) (omega arith) (omega arith) ∙ ap (λ x. below (reverse x)) (take_all (length (g ∷ gs)) (g ∷ gs) (omega arith))

all-append : (p : Goal → Bool) (xs ys : List Goal) → all p xs ≡ true → all p ys ≡ true → all p (xs ++ ys) ≡ true
all-append p [] ys h k = k
all-append p (x ∷ xs) ys h k = let a = and_parts (p x) (all p xs) h in and_from (p x) (all p (xs ++ ys)) a.0 (all-append p xs ys a.1 k)

pub all-reverse : (p : Goal → Bool) (xs : List Goal) → all p xs ≡ true → all p (reverse xs) ≡ true
all-reverse p [] h = refl
all-reverse p (x ∷ xs) h =
    let a = and_parts (p x) (all p xs) h in
    rw (reverse-append (x ∷ []) xs) (all-append p (reverse xs) (x ∷ []) (all-reverse p xs a.1) (and_from (p x) true a.0 refl))
