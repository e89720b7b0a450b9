use Rattle.std.proofs.Common.{false, ap, ◌∙◌, arith}
use Rattle.std.specs.Option.{unwrap_or}
use Rattle.rules.specs.Rules.{any}
use Rattle.rules.specs.Closed.{names}
use Rattle.rules.specs.Sets.{closed_rules}
use Rattle.rules.proofs.Heads.{watched-at}
use Rattle.rules.proofs.closed_type.ClosedSet.is_watched.Goals as goal

pub returns : goal.returns
returns g c =
    let set = c.args.self.now in
    c.unwrap_or.ensures
    ∙ ap (λ o. unwrap_or o false) c.copied.ensures
    ∙ c.get.ensures.lookup.4 (omega arith) false
    ∙ watched-at set.watched (closed_rules set) c.from.result set.watches set.stands
    ∙ ap (λ k. any (names k) (closed_rules set)) c.from.ensures
