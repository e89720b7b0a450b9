-- What there is too little of, by the numbers alone. No contract of a public function cites this.
use Rattle.std.specs.Prelude.{ℕ, suc, ◌+◌, cond, Some, None, Ok, Err, Option, Result, nat_lt}
use Rattle.stores.specs.Store.{last_label}
use Rattle.machine.specs.Machine.{most_goals}
use Rattle.machine.specs.declared.answer_types.Shortage.{Shortage}
use Rattle.machine.specs.declared.answer_types.Shortage.TheVariants.{Goals, Facts, Labels}

abbrev pub short_of_store : ℕ → ℕ → ℕ → ℕ → Option Shortage
short_of_store capacity facts next stored =
    cond (nat_lt capacity (facts + stored)) (Some Facts) (cond (nat_lt (suc last_label) (next + stored)) (Some Labels) None)

abbrev pub short_of_room : ℕ → ℕ → ℕ → ℕ → ℕ → ℕ → Option Shortage
short_of_room goals brought capacity facts next stored =
    cond (nat_lt most_goals (goals + brought)) (Some Goals) (short_of_store capacity facts next stored)

-- there is room, or too little of something
abbrev pub room : Option Shortage → Result (Unit {0}) Shortage
room None = Ok tt
room (Some short) = Err short
