-- What a word system is: which words are valid, what the operators make of two words, and which words stand in a relation.
use Rattle.std.specs.Prelude.{◌≡◌, Bool, true, false, ◌&&◌, ℤ, Some, None, Option}
use Rattle.facts.specs.declared.fact_types.Operator.{Operator}
use Rattle.facts.specs.declared.fact_types.Relation.{Relation}

pub record System : Type 0 where
  pub valid : ℤ → Bool
  pub value : Operator → ℤ → ℤ → Option ℤ
  pub holds : Relation → ℤ → ℤ → Bool

-- the laws of every word system ------------------------------------------------------------------------

-- a value is a valid word
abbrev pub ValuesAreValid : System → Type 0
ValuesAreValid s = (o : Operator) (a b w : ℤ) → s.value o a b ≡ Some w → s.valid w ≡ true

-- where a word is invalid there is no value
abbrev pub InvalidHasNoValue : System → Type 0
InvalidHasNoValue s = (o : Operator) (a b : ℤ) → (s.valid a && s.valid b) ≡ false → s.value o a b ≡ None

-- where a word is invalid no relation holds
abbrev pub InvalidNeverHolds : System → Type 0
InvalidNeverHolds s = (r : Relation) (a b : ℤ) → (s.valid a && s.valid b) ≡ false → s.holds r a b ≡ false

pub record Lawful (s : System) : Type 0 where
  pub closed : ValuesAreValid s
  pub valueless : InvalidHasNoValue s
  pub unrelated : InvalidNeverHolds s
