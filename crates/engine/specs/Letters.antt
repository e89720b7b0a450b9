-- What the inner functions of fitting and of the search answer: letters are bound to words one fact after the other.
-- No contract of a public function cites this.
use Rattle.std.specs.Prelude.{ℕ, cond, List, [], ◌∷◌, length, ℤ, pos, Some, None, Option, ◌==◌, nat_lt, slice_index_or, slice_set, unwrap_or, option_and_then}
use Rattle.facts.specs.declared.fact_types.Fact.{Fact}
use Rattle.rules.specs.declared.rule_types.Argument.{Argument}
use Rattle.rules.specs.declared.rule_types.Argument.TheVariants.{Letter, Constant, Any}
use Rattle.rules.specs.declared.rule_types.Pattern.{Pattern}
use Rattle.stores.specs.Store.{sameℤ}
use Rattle.machine.specs.Fitting.{Setting}

-- the words of the letters, as far as they are bound
abbrev pub Letters : Type 0
Letters = List (Option ℤ)

-- the setting that they are: a letter that is not bound means 0
abbrev pub setting_in : Letters → Setting
setting_in l v = unwrap_or (slice_index_or l v None) (pos 0)

-- no letter is bound
abbrev pub unbound : Letters
unbound = None ∷ (None ∷ (None ∷ (None ∷ (None ∷ (None ∷ (None ∷ (None ∷ [])))))))

-- a letter at a word: it is bound to that word, or was before
abbrev pub bind_letter : Option ℤ → Letters → ℕ → ℤ → Option Letters
bind_letter (Some b) l v w = cond (sameℤ b w) (Some l) None
bind_letter None l v w = cond (nat_lt v (length l)) (Some (slice_set l v (Some w))) None

-- an argument at a word
abbrev pub bind_word : Letters → Argument → ℤ → Option Letters
bind_word l (Letter v) w = bind_letter (slice_index_or l v None) l v w
bind_word l (Constant k) w = cond (sameℤ k w) (Some l) None
bind_word l Any w = Some l

abbrev pub bind_words : Letters → List Argument → List ℤ → Option Letters
bind_words l [] [] = Some l
bind_words l [] (w ∷ ws) = None
bind_words l (a ∷ rest) [] = None
bind_words l (a ∷ rest) (w ∷ ws) = option_and_then (λ m. bind_words m rest ws) (bind_word l a w)

-- a head at a fact
abbrev pub bind_fact : Letters → Pattern → Fact → Option Letters
bind_fact l p f = cond (p.kind == f.kind) (bind_words l p.args f.words) None

-- a word of a fact taken, or 0 where there is none
abbrev pub word_at : List ℤ → ℕ → ℤ
word_at ws i = slice_index_or ws i (pos 0)
