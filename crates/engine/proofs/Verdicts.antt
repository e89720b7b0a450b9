-- Facts that pass have kinds that a store takes.
use Rattle.std.proofs.Common.{◌≡◌, ℕ, suc, true, List, [], ◌∷◌, Ok, refl, arith}
use Rattle.std.proofs.lemmas.Bool.Decides.{nat_tests}
use Rattle.facts.specs.System.{System}
use Rattle.facts.specs.declared.fact_types.Fact.{Fact}
use Rattle.rules.specs.Rules.{all}
use Rattle.machine.specs.Machine.{facts_verdict}
use Rattle.engine.specs.Bringing.{has_kind}

pub verdict_kinds : (s : System) (n : ℕ) (fs : List Fact) (u : Unit {0}) → facts_verdict s n fs ≡ Ok u → all has_kind fs ≡ true
verdict_kinds s n [] u e = refl
verdict_kinds s n (f ∷ fs) u e = let ih = verdict_kinds s (suc n) fs u in grind (arith, nat_tests)
