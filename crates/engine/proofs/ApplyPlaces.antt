-- Where the head of a number stands.
use Rattle.std.proofs.Common.{◌≡◌, ℕ, ◌<◌, true, List, ◌∷◌, length, Some, sym, ap, ◌∙◌, arith, length-append}
use Rattle.rules.specs.declared.rule_types.HeadPlace.{HeadPlace}
use Rattle.rules.specs.declared.rule_types.RuleRecord.{RuleRecord}
use Rattle.rules.specs.Rules.{Rule, rule_seen}
use Rattle.rules.specs.Writing.{no_parts}
use Rattle.rules.specs.Closed.{heads_of, accepted, rule_verdict, every_word, stand, head, place_seen}
use Rattle.rules.proofs.Records.{singles-count}
use Rattle.machine.proofs.Parts.{head-is, head-place}
use Rattle.machine.proofs.Stands.{each-accepted}
use Rattle.engine.specs.Applying.{rule_at, place_at}
use Rattle.engine.proofs.ApplyWeighed.{at-mem}

module _ (rs : List Rule) (p : HeadPlace) (number : ℕ) (e : place_seen rs (Some p) ≡ head rs number) where
  pub rule_in : p.rule < length rs
  rule_in =
      let b = head-is rs number (place_at rs p) (sym e) in
      omega (arith, b.3, ap length b.2, length-append b.0 (rule_at rs p ∷ b.1))

  pub place_in_lem : p.place < heads_of (rule_at rs p)
  place_in_lem = head-place rs number (place_at rs p) (sym e)

  module _ (o : RuleRecord) (is : rule_seen o ≡ rule_at rs p) where
    pub record_stands : stand every_word rs ≡ true → accepted (rule_verdict every_word (rule_seen o)) ≡ true
    record_stands s = ap (λ r. accepted (rule_verdict every_word r)) is ∙ each-accepted (rule_verdict every_word) (at-mem rs p.rule no_parts rule_in) s

    pub record_place : p.place < o.singles.count
    record_place = omega (arith, place_in_lem, singles-count o, ap heads_of is)
