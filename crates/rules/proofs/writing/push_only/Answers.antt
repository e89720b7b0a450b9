use Rattle.std.proofs.Common.{sym, ◌∙◌, arith}
use Rattle.lists.specs.Held.{held}
use Rattle.rules.proofs.Lasts.{last_room}
use Rattle.rules.proofs.writing.push_only.Goals as goal

pub push-requires : goal.push-requires
push-requires c = (omega arith, last_room (held c.args.rule.now.alls) c.in-Some.all (sym c.pop.ensures.last ∙ c.in-Some.is) _ c.requires)
