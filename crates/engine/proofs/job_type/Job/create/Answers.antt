use Rattle.std.proofs.Common.{◌≡◌, List, [], ◌∷◌, Ok, sym, refl, subst}
use Rattle.stores.specs.Store.{Pair}
use Rattle.machine.specs.Machine.{State}
use Rattle.machine.specs.Ledger.{History, created}
use Rattle.rules.specs.Sets.{closed_rules}
use Rattle.engine.specs.Jobs.{frame_on, create_answer}
use Rattle.engine.proofs.job_type.Job.create.Goals as goal

no-pairs : (ps : List Pair) → create_answer ps ≡ Ok tt → ps ≡ []
no-pairs [] e = refl
no-pairs (p ∷ ps) e = cc

pub returns-clause-history : goal.returns-clause-history
returns-clause-history g c =
    let none = no-pairs (g.S.Store.meaning c.args.store).pairs c.requires in
    subst (λ (x : State). History (frame_on g.W.Words.system (closed_rules c.args.set) (g.S.Store.meaning c.args.store)) [] x) (λ i. record { pairs = sym none i; next = 1; goals = sym c.new.ensures i }) created
