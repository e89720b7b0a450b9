-- Worked examples of the two word systems, computed from their definitions.
use Rattle.std.specs.Prelude.{◌≡◌, true, false, pos, Some, None}
use Rattle.facts.specs.Lengths.{lengths}
use Rattle.facts.specs.Tags.{tags}
use Rattle.facts.specs.declared.fact_types.Operator.TheVariants.{Plus, Minus, Meet}
use Rattle.facts.specs.declared.fact_types.Relation.TheVariants.{AtMost}

-- the greatest length is reached, and not passed
pub record LengthsEnd : Type 0 where
  pub reached : lengths.value Plus (pos 2147483646) (pos 1) ≡ Some (pos 2147483647)
  pub passed : lengths.value Plus (pos 2147483647) (pos 1) ≡ None

-- 5 is {0, 2}, 6 is {1, 2} and 4 is {2}
pub record TagsJoined : Type 0 where
  pub union : tags.value Plus (pos 5) (pos 6) ≡ Some (pos 7)
  pub intersection : tags.value Meet (pos 5) (pos 6) ≡ Some (pos 4)
  pub difference : tags.value Minus (pos 5) (pos 4) ≡ Some (pos 1)

pub record TagsCompared : Type 0 where
  pub subset : tags.holds AtMost (pos 5) (pos 7) ≡ true
  pub no_subset : tags.holds AtMost (pos 5) (pos 6) ≡ false
