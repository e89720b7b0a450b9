-- What a list in an array holds.
use Rattle.std.specs.Prelude.{ℕ, List, take}
use Rattle.lists.specs.declared.fixed_list_type.FixedList.{FixedList}

-- the first items of the array, as many as the list has
abbrev pub held : {T : Type 0} → {N : ℕ} → FixedList T N → List T
held l = take l.count l.items
