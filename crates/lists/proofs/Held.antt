-- How much a list in an array holds.
use Rattle.std.proofs.Common.{◌≡◌, ℕ, length, arith}
use Rattle.std.proofs.lemmas.List.{length-take-le}
use Rattle.lists.specs.declared.fixed_list_type.FixedList.{FixedList}
use Rattle.lists.specs.Held.{held}

pub held-count : {T : Type 0} {N : ℕ} (l : FixedList T N) → length (held l) ≡ l.count
held-count l = length-take-le l.count l.items (omega (arith, l.few, l.long))
