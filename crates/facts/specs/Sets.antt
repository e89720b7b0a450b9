-- Sets of tags by bits: what the bits of a joined word are, and that words below 2 ^ k with the same bits are equal.
use Rattle.std.specs.Prelude.{◌≡◌, ℕ, zero, suc, ◌+◌, ◌*◌, ◌/◌, ◌%◌, ◌^◌, ◌<◌, min, max, Bool, true, false, cond, not, ◌&&◌, ◌||◌, ◌↔◌, ℤ, pos, negsuc, Option, ◌==◌, ◌≢◌, nat_eq, refl}
use Rattle.std.proofs.Common.{sym, ap, subst, ◌∙◌, arith}
use Rattle.std.specs.Int.Bits.{bit_and, bit_or, bit_xor, differ, and_step, or_step, xor_step, and_lt}
use Rattle.std.proofs.lemmas.Nat.{shr-shr, and_shr, or_shr, xor_shr, or_lt, xor_lt}
use Rattle.std.proofs.lemmas.Bool.{eqb-true, eq-eqb, ltb-true, and_parts, and_from, not_from_false, not-true, both_ways}
use Rattle.std.proofs.lemmas.Bool.Decides.{nat_tests}
use Rattle.facts.specs.Tags.{joined, related, member, tags, JoinsSets, ComparesSets, Meant}
use Rattle.facts.specs.declared.fact_types.Operator.{Operator}
use Rattle.facts.specs.declared.fact_types.Operator.TheVariants.{Plus, Minus, Meet}
use Rattle.facts.specs.declared.fact_types.Relation.{Relation}
use Rattle.facts.specs.declared.fact_types.Relation.TheVariants.{Equal, Unequal, AtMost, Less}

pub joined_lt : (o : Operator) (a b : ℕ) → a < 2 ^ 32 → b < 2 ^ 32 → joined o a b < 2 ^ 32
joined_lt Plus a b h k = or_lt 32 a b h k
joined_lt Minus a b h k = xor_lt 32 a (bit_and a b) h (and_lt 32 a b h k)
joined_lt Meet a b h k = and_lt 32 a b h k

-- one bit ------------------------------------------------------------------------------------------------

abbrev bit : ℕ → ℕ → ℕ
bit t n = n / 2 ^ t % 2

abbrev pub has_bit : ℕ → ℕ → Bool
has_bit t n = bit t n == 1

low : (q x : ℕ) → x < 2 → (q * 2 + x) % 2 ≡ x
low q x h = omega arith

bit_or_lem : (t a b : ℕ) → bit t (bit_or a b) ≡ max (bit t a) (bit t b)
bit_or_lem t a b = ap (λ (n : ℕ). n % 2) (or_shr a b t ∙ or_step (a / 2 ^ t) (b / 2 ^ t)) ∙ low (bit_or (a / 2 ^ t / 2) (b / 2 ^ t / 2)) (max (bit t a) (bit t b)) (omega arith)

bit_and_lem : (t a b : ℕ) → bit t (bit_and a b) ≡ min (bit t a) (bit t b)
bit_and_lem t a b = ap (λ (n : ℕ). n % 2) (and_shr a b t ∙ and_step (a / 2 ^ t) (b / 2 ^ t)) ∙ low (bit_and (a / 2 ^ t / 2) (b / 2 ^ t / 2)) (min (bit t a) (bit t b)) (omega arith)

differ_bits : (x y : ℕ) → x < 2 → y < 2 → (differ x y < 2) × ((differ x y == 1) ≡ cond (x == 1) (not (y == 1)) (y == 1))
differ_bits zero y h k = (k, refl)
differ_bits (suc x) zero h k = go x h
  where
    go : (x : ℕ) → suc x < 2 → (suc x < 2) × ((suc x == 1) ≡ cond (suc x == 1) (not (0 == 1)) (0 == 1))
    go zero h = (h, refl)
    go (suc x) h = absurd (omega arith)
differ_bits (suc x) (suc y) h k = go x y h k
  where
    go : (x y : ℕ) → suc x < 2 → suc y < 2 → (differ x y < 2) × ((differ x y == 1) ≡ cond (suc x == 1) (not (suc y == 1)) (suc y == 1))
    go zero zero h k = (omega arith, refl)
    go zero (suc y) h k = absurd (omega arith)
    go (suc x) y h k = absurd (omega arith)

bit_xor_lem : (t a b : ℕ) → bit t (bit_xor a b) ≡ differ (bit t a) (bit t b)
bit_xor_lem t a b = ap (λ (n : ℕ). n % 2) (xor_shr a b t ∙ xor_step (a / 2 ^ t) (b / 2 ^ t)) ∙ low (bit_xor (a / 2 ^ t / 2) (b / 2 ^ t / 2)) (differ (bit t a) (bit t b)) (differ_bits (bit t a) (bit t b) (omega arith) (omega arith)).0

or_bits : (x y : ℕ) → x < 2 → y < 2 → (max x y == 1) ≡ (x == 1 || y == 1)
or_bits x y h k = grind (arith, nat_tests)

and_bits : (x y : ℕ) → x < 2 → y < 2 → (min x y == 1) ≡ (x == 1 && y == 1)
and_bits x y h k = grind (arith, nat_tests)

has_and : (t a b : ℕ) → has_bit t (bit_and a b) ≡ (has_bit t a && has_bit t b)
has_and t a b = ap (λ (n : ℕ). nat_eq n 1) (bit_and_lem t a b) ∙ and_bits (bit t a) (bit t b) (omega arith) (omega arith)

without : (x y : Bool) → cond x (not (x && y)) (x && y) ≡ (x && not y)
without true true = refl
without true false = refl
without false true = refl
without false false = refl

-- a tag is in the joined set exactly as it is in the two
pub has_joined : (o : Operator) (t a b : ℕ) → has_bit t (joined o a b) ≡ member o (has_bit t a) (has_bit t b)
has_joined Plus t a b = ap (λ (n : ℕ). nat_eq n 1) (bit_or_lem t a b) ∙ or_bits (bit t a) (bit t b) (omega arith) (omega arith)
has_joined Minus t a b =
    ap (λ (n : ℕ). nat_eq n 1) (bit_xor_lem t a (bit_and a b))
    ∙ (differ_bits (bit t a) (bit t (bit_and a b)) (omega arith) (omega arith)).1
    ∙ ap (λ (x : Bool). cond (has_bit t a) (not x) x) (has_and t a b)
    ∙ without (has_bit t a) (has_bit t b)
has_joined Meet t a b = has_and t a b

-- all bits -----------------------------------------------------------------------------------------------

-- the bits below k are the same
abbrev pub SameBelow : ℕ → ℕ → ℕ → Type 0
SameBelow k a b = (t : ℕ) → t < k → has_bit t a ≡ has_bit t b

half_bit : (t a : ℕ) → has_bit (suc t) a ≡ has_bit t (a / 2)
half_bit t a = ap (λ (n : ℕ). nat_eq (n % 2) 1) (ap (λ (k : ℕ). a / 2 ^ k) (omega arith) ∙ sym (shr-shr a 1 t))

pub same_from_bits : (k a b : ℕ) → a < 2 ^ k → b < 2 ^ k → SameBelow k a b → a ≡ b
same_from_bits zero a b h l s = omega arith
same_from_bits (suc k) a b h l s =
    let halves = same_from_bits k (a / 2) (b / 2) (omega arith) (omega arith) (λ t u. sym (half_bit t a) ∙ s (suc t) (omega arith) ∙ half_bit t b) in
    let last = s 0 (omega arith) in
    let x : a / 1 ≡ a = omega arith in
    let y : b / 1 ≡ b = omega arith in
    let ends : nat_eq (a % 2) 1 ≡ nat_eq (b % 2) 1 = rw (← x, ← y) last in
    grind (arith, nat_tests)

-- each tag below k of one set is in the other
abbrev pub SubsetBelow : ℕ → ℕ → ℕ → Type 0
SubsetBelow k a b = (t : ℕ) → t < k → has_bit t a ≡ true → has_bit t b ≡ true

pub same_tags : (k a b : ℕ) → a < 2 ^ k → b < 2 ^ k → ((a == b) ≡ true) ↔ SameBelow k a b
same_tags k a b h l = (λ e t u. ap (has_bit t) (eqb-true a b e), λ s. eq-eqb a b (same_from_bits k a b h l s))

both_or_left : (x y : Bool) → (x ≡ true → y ≡ true) → (x && y) ≡ x
both_or_left true y f = f refl
both_or_left false y f = refl

pub subset_tags : (k a b : ℕ) → a < 2 ^ k → b < 2 ^ k → ((bit_and a b == a) ≡ true) ↔ SubsetBelow k a b
subset_tags k a b h l = (
  λ e t u i. (and_parts (has_bit t a) (has_bit t b) (sym (has_and t a b) ∙ ap (has_bit t) (eqb-true (bit_and a b) a e) ∙ i)).1,
  λ s. eq-eqb (bit_and a b) a (same_from_bits k (bit_and a b) a (and_lt k a b h l) h (λ t u. has_and t a b ∙ both_or_left (has_bit t a) (has_bit t b) (s t u))),
)

-- as the word system has it --------------------------------------------------------------------------------

clash : {X : Type 0} → false ≡ true → X
clash e = absurd (both_ways false refl e)

joins_sets : (o : Operator) (a b : ℤ) → JoinsSets o a b (tags.value o a b)
joins_sets o (pos m) (pos n) h l = (pos (joined o m n), rw (h, l) refl, λ t u. has_joined o t m n)
joins_sets o (pos m) (negsuc n) h l = clash l
joins_sets o (negsuc m) b h l = clash h

refuted : (x : Bool) → (x ≢ true) → x ≡ false
refuted true f = absurd (f refl)
refuted false f = refl

-- what is the system's value is joined as sets are
pub joined_as_sets : (o : Operator) (a b : ℤ) (r : Option ℤ) → r ≡ tags.value o a b → JoinsSets o a b r
joined_as_sets o a b r e = subst (λ (x : Option ℤ). JoinsSets o a b x) (sym e) (joins_sets o a b)

meant : (r : Relation) (m n : ℕ) → m < 2 ^ 32 → n < 2 ^ 32 → (related r m n ≡ true) ↔ Meant r (pos m) (pos n)
meant Equal m n h l = same_tags 32 m n h l
meant Unequal m n h l =
    let s = same_tags 32 m n h l in
    (λ e k. both_ways (m == n) (not-true (m == n) e) (s.1 k), λ f. not_from_false (m == n) (refuted (m == n) (λ e. f (s.0 e))))
meant AtMost m n h l = subset_tags 32 m n h l
meant Less m n h l =
    let s = same_tags 32 m n h l in
    let i = subset_tags 32 m n h l in (
      λ e. let p = and_parts (bit_and m n == m) (not (m == n)) e in (i.0 p.0, λ k. both_ways (m == n) (not-true (m == n) p.1) (s.1 k)),
      λ f. and_from (bit_and m n == m) (not (m == n)) (i.1 f.0) (not_from_false (m == n) (refuted (m == n) (λ e. f.1 (s.0 e)))),
    )

compares_sets : (r : Relation) (a b : ℤ) → ComparesSets r a b (tags.holds r a b)
compares_sets r (pos m) (pos n) h l = rw (h, l) (meant r m n (ltb-true m 4294967296 h) (ltb-true n 4294967296 l))
compares_sets r (pos m) (negsuc n) h l = clash l
compares_sets r (negsuc m) b h l = clash h

-- what the system says holds, holds of the sets
pub compared_as_sets : (r : Relation) (a b : ℤ) (answer : Bool) → answer ≡ tags.holds r a b → ComparesSets r a b answer
compared_as_sets r a b answer e = subst (λ (x : Bool). ComparesSets r a b x) (sym e) (compares_sets r a b)
