use Rattle.std.proofs.Common.{◌∙◌}
use Rattle.rules_file.specs.RuleRows.{word_spelled, every_word, word}
use Rattle.reader.proofs.Spellings.{spelled}
use Rattle.reader.proofs.spelling.word_written.Goals as goal

pub returns : goal.returns
unfolding word
returns c = c.find_spelled.ensures ∙ spelled word_spelled every_word c.args.text.now
