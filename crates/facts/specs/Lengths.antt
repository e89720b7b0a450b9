-- Lengths: signed numbers of 32 bits. Sums and differences are exact, and have no value outside the range.
use Rattle.std.specs.Prelude.{◌≡◌, Bool, true, false, cond, not, ◌&&◌, ◌↔◌, ℤ, pos, negsuc, ◌+ℤ◌, ◌-ℤ◌, ◌≤ℤ◌, ◌<ℤ◌, Some, None, Option, int_le, int_lt}
use Rattle.facts.specs.System.{System}
use Rattle.facts.specs.declared.fact_types.Operator.{Operator}
use Rattle.facts.specs.declared.fact_types.Operator.TheVariants.{Plus, Minus, Meet}
use Rattle.facts.specs.declared.fact_types.Relation.{Relation}
use Rattle.facts.specs.declared.fact_types.Relation.TheVariants.{Equal, Unequal, AtMost, Less}

-- from -2,147,483,648 to 2,147,483,647; `negsuc n` is -(n + 1)
abbrev pub in_range : ℤ → Bool
in_range w = int_le (negsuc 2147483647) w && int_le w (pos 2147483647)

-- the sum, the difference, or the lesser of the two
abbrev pub exact : Operator → ℤ → ℤ → ℤ
exact Plus a b = a +ℤ b
exact Minus a b = a -ℤ b
exact Meet a b = cond (int_le a b) a b

-- a number, where it lies in the range
abbrev pub within : ℤ → Option ℤ
within z = cond (in_range z) (Some z) None

-- the relations of numbers
abbrev pub compared : Relation → ℤ → ℤ → Bool
compared Equal a b = int_le a b && int_le b a
compared Unequal a b = not (int_le a b && int_le b a)
compared AtMost a b = int_le a b
compared Less a b = int_lt a b

abbrev pub lengths : System
lengths =
    record {
      valid = in_range;
      value = λ o a b. cond (in_range a && in_range b) (within (exact o a b)) None;
      holds = λ r a b. cond (in_range a && in_range b) (compared r a b) false;
    }

-- what it means, in the language of numbers ---------------------------------------------------------------

abbrev pub Meant : Relation → ℤ → ℤ → Type 0
Meant Equal a b = a ≡ b
Meant Unequal a b = a ≡ b → ⊥
Meant AtMost a b = a ≤ℤ b
Meant Less a b = a <ℤ b

-- two lengths stand in a relation exactly where the numbers do
abbrev pub ComparesNumbers : Relation → ℤ → ℤ → Bool → Type 0
ComparesNumbers r a b answer = in_range a ≡ true → in_range b ≡ true → (answer ≡ true) ↔ Meant r a b
