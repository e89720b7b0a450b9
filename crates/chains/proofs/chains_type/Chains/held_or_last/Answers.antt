use Rattle.chains.specs.Rows.{rows_of}
use Rattle.chains.proofs.Answered.{having-placed}
use Rattle.chains.proofs.chains_type.Chains.held_or_last.Goals as goal

pub returns : goal.returns
returns c = rw c.found.ensures (having-placed c.args.label (rows_of c.args.self.now.linked.table.now) c.place_by-spot.result.at c.requires (rw (← c.label_chain-chain.ensures.way, ← c.label_chain-chain.ensures.number) c.place_by-spot.ensures.next))
