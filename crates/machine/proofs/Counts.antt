-- How many elements of a list pass a test: two lists with the same counts have the same elements, in any order.
use Rattle.std.proofs.Common.{◌≡◌, ℕ, ◌+◌, ◌≤◌, Bool, true, false, cond, not, ◌&&◌, List, [], ◌∷◌, ◌++◌, filter, sym, refl, ap, arith}
use mathlib.Core.Bool.{and-true, and-false}
use mathlib.Core.List.{Memᴰ}
use Rattle.machine.specs.Lists.{tally}

abbrev pub one : Bool → ℕ
one b = cond b 1 0

pub one_split : (a b : Bool) → one a ≡ one (a && b) + one (a && not b)
one_split true true = refl
one_split true false = refl
one_split false true = refl
one_split false false = refl

pub one-and : (a b : Bool) → one (a && b) ≤ one b
one-and true b = omega arith
one-and false b = omega arith

pub one-yes : (a : Bool) → a ≡ true → one a ≡ 1
one-yes a e = ap one e

pub one-no : (a : Bool) → a ≡ false → one a ≡ 0
one-no a e = ap one e

pub one_with : (a b : Bool) → b ≡ true → one (a && b) ≡ one a
one_with true b e = ap one e
one_with false b e = refl

pub one-zero : (a : Bool) → one a ≡ 0 → a ≡ false
one-zero true e = absurd (omega arith)
one-zero false e = refl

module _ {X : Type 0} where
  pub tally-append : (p : X → Bool) (xs ys : List X) → tally p (xs ++ ys) ≡ tally p xs + tally p ys
  tally-append p [] ys = omega arith
  tally-append p (x ∷ xs) ys = omega (arith, tally-append p xs ys)

  -- tests that agree tally alike
  pub tally-alike : (p q : X → Bool) → ((x : X) → p x ≡ q x) → (xs : List X) → tally p xs ≡ tally q xs
  tally-alike p q e [] = refl
  tally-alike p q e (x ∷ xs) = omega (arith, ap one (e x), tally-alike p q e xs)

  pub tally-split : (p q : X → Bool) (xs : List X) → tally p xs ≡ tally (λ x. p x && q x) xs + tally (λ x. p x && not (q x)) xs
  tally-split p q [] = refl
  tally-split p q (x ∷ xs) = omega (arith, one_split (p x) (q x), tally-split p q xs)

  pub tally-and : (p q : X → Bool) (xs : List X) → tally (λ x. p x && q x) xs ≤ tally q xs
  tally-and p q [] = omega arith
  tally-and p q (x ∷ xs) = omega (arith, one-and (p x) (q x), tally-and p q xs)

  tally_cond : (p : X → Bool) (x : X) (xs : List X) (b : Bool) → tally p (cond b (x ∷ xs) xs) ≡ one (p x && b) + tally p xs
  tally_cond p x xs true = omega (arith, ap one (and-true (p x)))
  tally_cond p x xs false = omega (arith, ap one (and-false (p x)))

  -- a filter keeps what passes both tests
  pub tally-kept : (p q : X → Bool) (xs : List X) → tally p (filter q xs) ≡ tally (λ x. p x && q x) xs
  tally-kept p q [] = refl
  tally-kept p q (x ∷ xs) = omega (arith, tally_cond p x (filter q xs) (q x), tally-kept p q xs)

  -- a filter and its opposite make up the list
  pub tally-both : (p q : X → Bool) (xs : List X) → tally p xs ≡ tally p (filter q xs) + tally p (filter (λ x. not (q x)) xs)
  tally-both p q xs = omega (arith, tally-split p q xs, tally-kept p q xs, tally-kept p (λ x. not (q x)) xs)

  -- a member that passes is counted
  pub tally-member : (p : X → Bool) (x : X) (xs : List X) → p x ≡ true → Memᴰ x xs → 1 ≤ tally p xs
  tally-member p x xs t (Memᴰ.head {x = y} {xs = ys} e) = omega (arith, ap one (sym t), ap (λ z. one (p z)) e)
  tally-member p x xs t (Memᴰ.tail {x = y} {xs = ys} m) = omega (arith, tally-member p x ys t m)

  -- the one element that passes q
  pub tally-only : (p q : X → Bool) (x : X) (xs : List X) → q x ≡ true → Memᴰ x xs → tally q xs ≤ 1 →
      tally (λ y. p y && q y) xs ≡ one (p x)
  tally-only p q x xs t (Memᴰ.head {x = y} {xs = ys} e) h =
      omega (arith, ap one t, ap (λ z. one (q z)) e, ap (λ z. one (p z && q z)) e, one_with (p x) (q x) t, tally-and p q ys)
  tally-only p q x xs t (Memᴰ.tail {x = y} {xs = ys} m) h =
      omega (arith, tally-member q x ys t m, one-and (p y) (q y), tally-only p q x ys t m (omega (arith, tally-member q x ys t m)))

  -- taking a member out
  pub tally_out : (p q : X → Bool) (x : X) (xs : List X) → q x ≡ true → Memᴰ x xs → tally q xs ≤ 1 →
      tally p xs ≡ one (p x) + tally (λ y. p y && not (q y)) xs
  tally_out p q x xs t m h = omega (arith, tally-split p q xs, tally-only p q x xs t m h)
