-- What it means for facts to fit a rule, and which facts its body gives.
use Rattle.std.specs.Prelude.{ℕ, ◌-◌, Bool, true, false, cond, ◌&&◌, List, [], ◌∷◌, ◌++◌, map, flat_map, ℤ, pos, Some, None, Option, ◌==◌, option_map, unwrap_or, slice_index_or}
use Rattle.facts.specs.System.{System}
use Rattle.facts.specs.declared.fact_types.Fact.{Fact}
use Rattle.facts.specs.declared.fact_types.Relation.{Relation}
use Rattle.rules.specs.declared.rule_types.Argument.{Argument}
use Rattle.rules.specs.declared.rule_types.Argument.TheVariants.{Letter, Constant, Any}
use Rattle.rules.specs.declared.rule_types.Operand.{Operand}
use Rattle.rules.specs.declared.rule_types.Operand.TheVariants as operand
use Rattle.rules.specs.declared.rule_types.Term.{Term}
use Rattle.rules.specs.declared.rule_types.Term.TheVariants.{One, Two}
use Rattle.rules.specs.declared.rule_types.Comparison.{Comparison}
use Rattle.rules.specs.declared.rule_types.Pattern.{Pattern}
use Rattle.rules.specs.declared.rule_types.Template.{Template}
use Rattle.rules.specs.Rules.{AllHead, Rule, singles, all}
use Rattle.stores.specs.Store.{sameℤ}

-- heads ------------------------------------------------------------------------------------------------------------

-- a word for each letter
abbrev pub Setting : Type 0
Setting = ℕ → ℤ

-- a letter fits its word, a constant itself, and `*` every word
abbrev pub fits_word : Setting → Argument → ℤ → Bool
fits_word σ (Letter v) w = sameℤ (σ v) w
fits_word σ (Constant k) w = sameℤ k w
fits_word σ Any w = true

-- as many words as arguments, each fitting its own
abbrev pub fits_words : Setting → List Argument → List ℤ → Bool
fits_words σ [] [] = true
fits_words σ [] (w ∷ ws) = false
fits_words σ (a ∷ rest) [] = false
fits_words σ (a ∷ rest) (w ∷ ws) = fits_word σ a w && fits_words σ rest ws

-- a fact fits a head
abbrev pub fits : Setting → Pattern → Fact → Bool
fits σ p f = p.kind == f.kind && fits_words σ p.args f.words

-- as many facts as heads, each fitting its own
abbrev pub fits_each : Setting → List Pattern → List Fact → Bool
fits_each σ [] [] = true
fits_each σ [] (f ∷ fs) = false
fits_each σ (p ∷ ps) [] = false
fits_each σ (p ∷ ps) (f ∷ fs) = fits σ p f && fits_each σ ps fs

-- terms and comparisons --------------------------------------------------------------------------------------------

-- the word of an operand; `taken` has the words of the fact that an all head took
abbrev pub operand_value : Setting → List ℤ → Operand → ℤ
operand_value σ taken (operand.Letter v) = σ v
operand_value σ taken (operand.Constant k) = k
operand_value σ taken (operand.Taken i) = slice_index_or taken i (pos 0)

abbrev pub term_value : System → Setting → List ℤ → Term → Option ℤ
term_value s σ taken (One a) = Some (operand_value σ taken a)
term_value s σ taken (Two a o b) = s.value o (operand_value σ taken a) (operand_value σ taken b)

-- two values stand in a relation, where both terms have one
abbrev pub related : System → Relation → Option ℤ → Option ℤ → Bool
related s r (Some a) (Some b) = s.holds r a b
related s r (Some a) None = false
related s r None b = false

abbrev pub holds : System → Setting → List ℤ → Comparison → Bool
holds s σ taken c = related s c.relation (term_value s σ taken c.left) (term_value s σ taken c.right)

-- a fact fits an all head and meets its `only` comparisons
abbrev pub fits_all_head : System → Setting → AllHead → Fact → Bool
fits_all_head s σ a f = fits σ a.pattern f && all (holds s σ f.words) a.only

-- rules ------------------------------------------------------------------------------------------------------------

-- facts, one for each single head, make a rule ready under a setting: each fits its head, and the `when` comparisons hold
abbrev pub ready_under : System → Rule → Setting → List Fact → Bool
ready_under s r σ fs = fits_each σ (singles r) fs && all (holds s σ []) r.whens

-- the word at the first place where a letter stands among the arguments of a head
abbrev pub letter_word : ℕ → List Argument → List ℤ → Option ℤ
letter_word v [] ws = None
letter_word v (a ∷ rest) [] = None
letter_word v (Letter u ∷ rest) (w ∷ ws) = cond (u == v) (Some w) (letter_word v rest ws)
letter_word v (Constant k ∷ rest) (w ∷ ws) = letter_word v rest ws
letter_word v (Any ∷ rest) (w ∷ ws) = letter_word v rest ws

-- the first of two values that is there
abbrev pub or_else : Option ℤ → Option ℤ → Option ℤ
or_else (Some w) o = Some w
or_else None o = o

-- and among the arguments of several heads
abbrev pub letter_in : ℕ → List Pattern → List Fact → Option ℤ
letter_in v [] fs = None
letter_in v (p ∷ ps) [] = None
letter_in v (p ∷ ps) (f ∷ fs) = or_else (letter_word v p.args f.words) (letter_in v ps fs)

-- the setting that facts, one for each single head, give the letters of a rule; a letter in no single head is 0
abbrev pub setting_of : Rule → List Fact → Setting
setting_of r fs v = unwrap_or (letter_in v (singles r) fs) (pos 0)

-- facts, one for each single head, make a rule ready
abbrev pub ready : System → Rule → List Fact → Bool
ready s r fs = ready_under s r (setting_of r fs) fs

-- bodies -----------------------------------------------------------------------------------------------------------

-- all values, where each is there
abbrev pub all_values : {X : Type 0} → List (Option X) → Option (List X)
all_values [] = Some []
all_values (None ∷ os) = None
all_values (Some x ∷ os) = option_map (λ xs. x ∷ xs) (all_values os)

-- the fact that a template gives, where each of its terms has a value
abbrev pub given : System → Setting → List ℤ → Template → Option Fact
given s σ taken t = option_map (λ ws. record { kind = t.kind; words = ws }) (all_values (map (term_value s σ taken) t.terms))

-- the facts that a body gives for what the all heads took, where every term has a value: first those of `give`, then for each
-- `giveall` one for every fact that its all head took
abbrev pub body : System → Setting → Rule → List (List Fact) → Option (List Fact)
body s σ r taken =
    all_values
    (map (given s σ []) r.gives
    ++ flat_map (λ g. map (λ f. given s σ f.words g.each) (slice_index_or taken (g.over - 1) [])) r.givealls)
