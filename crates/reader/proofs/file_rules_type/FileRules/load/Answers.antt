use Rattle.std.specs.Option.{option_map}
use Rattle.rules_file.proofs.RulesWritten.{rules_loaded}
use Rattle.reader.proofs.RuleLoads.{load-named}
use Rattle.reader.proofs.file_rules_type.FileRules.load.Goals as goal

pub returns-clause-named : goal.returns-clause-named
returns-clause-named g c = load-named g.W.Words.system.valid (option_map (λ x. x.now) c.args.file) c.load_stage.result _ c.load_stage.ensures.answer

pub returns-clause-loaded : goal.returns-clause-loaded
returns-clause-loaded g c = rules_loaded g.W.Words.system.valid (option_map (λ x. x.now) c.args.file) _ c.load_stage.ensures.answer
