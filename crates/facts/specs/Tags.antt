-- Tags: a word is a set of tags from 0 to 31, tag t being in it where bit t is set.
use Rattle.std.specs.Prelude.{◌≡◌, ℕ, ◌/◌, ◌%◌, ◌^◌, ◌<◌, Bool, true, false, cond, not, ◌&&◌, ◌||◌, ◌↔◌, ℤ, pos, negsuc, Some, None, Option, ◌==◌, bit_and, bit_or, bit_xor, nat_lt}
use Rattle.facts.specs.System.{System}
use Rattle.facts.specs.declared.fact_types.Operator.{Operator}
use Rattle.facts.specs.declared.fact_types.Operator.TheVariants.{Plus, Minus, Meet}
use Rattle.facts.specs.declared.fact_types.Relation.{Relation}
use Rattle.facts.specs.declared.fact_types.Relation.TheVariants.{Equal, Unequal, AtMost, Less}

-- from 0 to 4,294,967,295
abbrev pub is_set : ℤ → Bool
is_set (pos n) = nat_lt n 4294967296
is_set (negsuc n) = false

-- the bits of a valid word
abbrev pub bits : ℤ → ℕ
bits (pos n) = n
bits (negsuc n) = 0

-- by bits: the union, the difference, the intersection
abbrev pub joined : Operator → ℕ → ℕ → ℕ
joined Plus a b = bit_or a b
joined Minus a b = bit_xor a (bit_and a b)
joined Meet a b = bit_and a b

-- by bits: equality, and the subset, which is what the intersection leaves as it is
abbrev pub related : Relation → ℕ → ℕ → Bool
related Equal a b = a == b
related Unequal a b = not (a == b)
related AtMost a b = bit_and a b == a
related Less a b = bit_and a b == a && not (a == b)

abbrev pub tags : System
tags =
    record {
      valid = is_set;
      value = λ o a b. cond (is_set a && is_set b) (Some (pos (joined o (bits a) (bits b)))) None;
      holds = λ r a b. cond (is_set a && is_set b) (related r (bits a) (bits b)) false;
    }

-- what it means, in the language of sets ----------------------------------------------------------------

-- whether tag t is in the set: bit t of the word
abbrev pub has : ℕ → ℤ → Bool
has t w = bits w / 2 ^ t % 2 == 1

-- where tag t is after an operator, by where it was
abbrev pub member : Operator → Bool → Bool → Bool
member Plus x y = x || y
member Minus x y = x && not y
member Meet x y = x && y

-- every tag of one set is in the other
abbrev pub Subset : ℤ → ℤ → Type 0
Subset a b = (t : ℕ) → t < 32 → has t a ≡ true → has t b ≡ true

-- the two sets have the same tags
abbrev pub Same : ℤ → ℤ → Type 0
Same a b = (t : ℕ) → t < 32 → has t a ≡ has t b

abbrev pub Meant : Relation → ℤ → ℤ → Type 0
Meant Equal a b = Same a b
Meant Unequal a b = Same a b → ⊥
Meant AtMost a b = Subset a b
Meant Less a b = Subset a b × (Same a b → ⊥)

-- two sets always have a value, and tag t is in it exactly as it is in the two
abbrev pub JoinsSets : Operator → ℤ → ℤ → Option ℤ → Type 0
JoinsSets o a b r = is_set a ≡ true → is_set b ≡ true → (c : ℤ) × (r ≡ Some c) × ((t : ℕ) → t < 32 → has t c ≡ member o (has t a) (has t b))

-- two sets stand in a relation exactly where their tags do
abbrev pub ComparesSets : Relation → ℤ → ℤ → Bool → Type 0
ComparesSets r a b answer = is_set a ≡ true → is_set b ≡ true → (answer ≡ true) ↔ Meant r a b
