use Rattle.std.proofs.Common.{◌≡◌, ◌++◌, length, take, drop, map}
use Rattle.std.specs.Option.{option_map}
use Rattle.machine.specs.Fitting.{all_values, term_value}
use Rattle.engine.specs.Letters.{setting_in}
use Rattle.engine.proofs.terms.Scope.fill_words.Given as goal

abbrev pub invariant-loop-i : goal.invariant-loop-i
invariant-loop-i g l =
    let value = term_value g.W.Words.system (setting_in l.self.letters.now) l.self.taken.now in
    (length l.words ≡ 3) × (all_values (map value l.terms) ≡ option_map (λ ws. take l.i l.words ++ ws) (all_values (map value (drop l.i l.terms))))
