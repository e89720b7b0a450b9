-- What the inner functions cite that bring facts into a job. No contract of a public function cites this.
use Rattle.std.specs.Prelude.{ℕ, zero, suc, Bool, List, [], ◌∷◌, nat_le}
use Rattle.facts.specs.declared.fact_types.Fact.{Fact}
use Rattle.stores.specs.Store.{last_kind}
use Rattle.machine.specs.declared.goal_types.Goal.{Goal}
use Rattle.machine.specs.declared.goal_types.Goal.TheVariants.{Look}

-- a kind that a store takes
abbrev pub has_kind : Fact → Bool
has_kind f = nat_le f.kind last_kind

-- goals for so many labels from a first one on
abbrev pub looks_from : ℕ → ℕ → List Goal
looks_from l zero = []
looks_from l (suc n) = Look l ∷ looks_from (suc l) n
