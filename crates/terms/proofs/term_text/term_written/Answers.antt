use Rattle.std.proofs.Common.{◌-◌, length, take, drop, Option, sym, ap, ◌∙◌}
use Rattle.rules.specs.declared.rule_types.Operand.{Operand}
use Rattle.terms.proofs.Terms.{led, term_leads}
use Rattle.terms.proofs.term_text.term_written.Goals as goal

pub returns-in-err-first : goal.returns-in-err-first
returns-in-err-first c =
    let bs = c.args.text.now in
    let end = c.leading-length-end.result in
    let leads = term_leads bs end c.leading-length-end.ensures in
    c.from-residual.ensures ∙ ap (λ (x : Option Operand). led x (take (length bs - end) (drop end bs))) c.in-err-first.ensures ∙ sym leads

pub returns : goal.returns
returns c =
    let bs = c.args.text.now in
    let end = c.leading-length-end.result in
    let leads = term_leads bs end c.leading-length-end.ensures in
    c.led_by.ensures ∙ ap (λ (x : Option Operand). led x (take (length bs - end) (drop end bs))) c.in-ok-first.ensures ∙ sym leads
