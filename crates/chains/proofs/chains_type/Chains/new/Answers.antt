use Rattle.std.proofs.Common.{◌≡◌, ℕ, Ok, sym, subst}
use Rattle.stores.specs.Table.{table_answer}
use Rattle.chains.proofs.Making.{chained}
use Rattle.chains.proofs.chains_type.Chains.new.Goals as goal

pub invariant_of-result : goal.invariant_of-result
invariant_of-result c =
    let a = c.free_all.auto.table in
    let b = c.requires in
    record { chained = chained c.free_all.new.table c.free_all.ensures (subst (λ (n : ℕ). table_answer n ≡ Ok tt) (sym a) b) }
