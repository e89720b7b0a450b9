-- What the stack of goals answers. No contract of a public function cites this.
use Rattle.std.specs.Prelude.{Bool, true, List, [], ◌∷◌, Some, None, Option, nat_le}
use Rattle.machine.specs.declared.goal_types.Goal.{Goal}
use Rattle.machine.specs.declared.goal_types.Goal.TheVariants.{Wait, Look, Try}
use Rattle.stores.specs.Store.{last_kind}

-- a fact that waits has a kind that a store takes
abbrev pub fits_store : Goal → Bool
fits_store (Wait f) = nat_le f.kind last_kind
fits_store (Look l) = true
fits_store (Try l i) = true

-- the top goal, and the goals below it
abbrev pub top_of : List Goal → Option Goal
top_of [] = None
top_of (g ∷ gs) = Some g

abbrev pub below : List Goal → List Goal
below [] = []
below (g ∷ gs) = gs
