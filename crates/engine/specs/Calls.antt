-- What every call on a job upholds, whatever was done with the job before.
use Rattle.std.specs.Prelude.{List}
use Rattle.machine.specs.Machine.{Frame, State}
use Rattle.machine.specs.Ledger.{Act, Reply, History}
use Rattle.machine.specs.Upheld.{Upheld}

-- whichever acts had led to the state before, the act with this reply leads on from there, and all promises are kept
abbrev pub Upholds : Frame → State → Act → Reply → State → Type 0
Upholds fr before a y next = (h : List (Act × Reply)) → History fr h before → Upheld fr h before a y next
