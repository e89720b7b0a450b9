use Rattle.std.proofs.Common.{◌≡◌, length}
use Rattle.engine.specs.Letters.{bind_words}
use Rattle.engine.proofs.letters.bind_words.Given as goal

abbrev pub invariant-loop-argument : goal.invariant-loop-argument
invariant-loop-argument l =
    let args = l.argument-iterator.a.rest.now in
    let words = l.argument-iterator.b.rest.now in
    (length args ≡ length words) × (bind_words l.initial.letters l.args l.words ≡ bind_words l.letters args words)
