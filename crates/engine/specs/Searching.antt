-- What the inner functions of the search answer. No contract of a public function cites this.
use Rattle.std.specs.Prelude.{◌≡◌, ℕ, ◌-◌, ◌≤◌, ◌<◌, zero, suc, nat_lt, Bool, true, false, cond, ◌&&◌, ◌||◌, List, [], ◌∷◌, ◌++◌, map, take, length, ℤ, Some, None, Option, ◌==◌, slice_index, slice_index_or, unwrap_or, is_some}
use Rattle.lists.specs.Held.{held}
use Rattle.facts.specs.System.{System}
use Rattle.facts.specs.declared.fact_types.Fact.{Fact}
use Rattle.rules.specs.declared.rule_types.Argument.{Argument}
use Rattle.rules.specs.declared.rule_types.Argument.TheVariants.{Letter, Constant, Any}
use Rattle.rules.specs.declared.rule_types.Pattern.{Pattern}
use Rattle.rules.specs.Rules.{Rule, singles, all}
use Rattle.rules.specs.Closed.{heads_of, accepted, rule_verdict, every_word}
use Rattle.stores.specs.Lists.{has}
use Rattle.stores.specs.Store.{Pair, label, labels, facts, read, next_that, of_kind, of_kind_with}
use Rattle.engine.specs.declared.search.Choice.{Choice}
use Rattle.machine.specs.Lists.{distinct}
use Rattle.machine.specs.Fitting.{Setting, fits_each, letter_in, setting_of}
use Rattle.engine.specs.Letters.{Letters, setting_in, bind_fact}
use Rattle.machine.specs.Machine.{suits}

-- the word that an argument asks for, where that is known
abbrev pub known_word : Letters → Argument → Option ℤ
known_word l (Letter v) = slice_index_or l v None
known_word l (Constant k) = Some k
known_word l Any = None

-- the word that a head asks for at its first place, where that is known
abbrev pub first_word : Letters → Pattern → Option ℤ
first_word l p = known_word l (slice_index_or p.args 0 Any)

-- a fact of a kind, with a first word where one is asked for
abbrev pub of_kind_and : ℕ → Option ℤ → Fact → Bool
of_kind_and kind None = of_kind kind
of_kind_and kind (Some w) = of_kind_with kind w

-- a fact that may fit a head
abbrev pub is_candidate : Letters → Pattern → Fact → Bool
is_candidate l p = of_kind_and p.kind (first_word l p)

-- a fact that stands for one that is not there
abbrev pub no_fact : Fact
no_fact = record { kind = 0; words = [] }

-- the fact under a label that is held
abbrev pub fact_at : List Pair → ℕ → Fact
fact_at ps l = unwrap_or (read l ps) no_fact

-- the pairs of labels that are held
abbrev pub pairs_at : List Pair → List ℕ → List Pair
pairs_at ps = map (λ l. (l, fact_at ps l))

-- the first value that a function has over a list
abbrev pub or_next : {Y : Type 0} → Option Y → Option Y → Option Y
or_next (Some y) o = Some y
or_next None o = o

abbrev pub first_of : {X Y : Type 0} → (X → Option Y) → List X → Option Y
first_of f [] = None
first_of f (x ∷ xs) = or_next (f x) (first_of f xs)

-- of the choices that begin with these pairs and have n pairs more, the first that passes a test
abbrev pub begun : (List Pair → Bool) → List Pair → ℕ → List Pair → Option (List Pair)
begun test ps zero c = cond (test c) (Some c) None
begun test ps (suc n) c = first_of (λ x. begun test ps n (c ++ (x ∷ []))) ps

-- of the choices that suit, the first that begins with these labels
unfoldable pub found_from : System → Rule → ℕ → ℕ → List Pair → List ℕ → Option (List Pair)
found_from s r place active ps ls = begun (suits s r place active) ps (heads_of r - length ls) (pairs_at ps ls)

-- the pairs with a label above another, in a list of pairs by rising label
abbrev pub after : ℕ → List Pair → List Pair
after above [] = []
after above (p ∷ ps) = cond (nat_lt above (label p)) (p ∷ ps) (after above ps)

-- of the choices that suit and begin with these labels, the first whose next label is above another
unfoldable pub found_above : System → Rule → ℕ → ℕ → List Pair → List ℕ → ℕ → Option (List Pair)
found_above s r place active ps ls above =
    first_of
    (λ x. begun (suits s r place active) ps (heads_of r - suc (length ls)) (pairs_at ps ls ++ (x ∷ [])))
    (after above ps)

-- what a search answers: the labels of the choice, and the setting that its facts give
abbrev pub IsFound : Rule → Option (List Pair) → Option Choice → Type 0
IsFound r None None = Unit {0}
IsFound r None (Some x) = ⊥
IsFound r (Some c) None = ⊥
IsFound r (Some c) (Some x) = (held x.labels ≡ labels c) × (setting_in x.letters ≡ setting_of r (facts c))

-- a setting gives the letters that are bound their words
abbrev pub Agrees : Setting → Letters → Type 0
Agrees σ l = (v : ℕ) (w : ℤ) → slice_index_or l v None ≡ Some w → σ v ≡ w

-- letters are bound to words exactly as facts at heads bind them
pub record Binds (hs : List Pattern) (fs : List Fact) (l : Letters) : Type 0 where
  pub wide : length l ≡ 8
  pub words : (v : ℕ) → slice_index_or l v None ≡ letter_in v hs fs
  pub fit : (σ : Setting) → Agrees σ l → fits_each σ hs fs ≡ true
  pub agree : (σ : Setting) → fits_each σ hs fs ≡ true → Agrees σ l

-- a head that stands for one that is not there
abbrev pub no_head : Pattern
no_head = record { kind = 0; args = [] }

abbrev pub head_at : Rule → ℕ → Pattern
head_at r i = slice_index_or (singles r) i no_head

-- the beginning of a choice: labels that are held, none twice, the active label at its place and nowhere else, and letters bound
-- by the active fact and the facts of these labels
pub record IsPartial (ps : List Pair) (r : Rule) (place active : ℕ) (ls : List ℕ) (l : Letters) : Type 0 where
  pub stands : accepted (rule_verdict every_word r) ≡ true
  pub place_in : place < heads_of r
  pub short : length ls ≤ heads_of r
  pub active_held : is_some (read active ps) ≡ true
  pub held : all (λ m. is_some (read m ps)) ls ≡ true
  pub apart : distinct ls ≡ true
  pub placed : place < length ls → slice_index ls place ≡ active
  pub not_placed : length ls ≤ place → has active ls ≡ false
  pub binds : Binds (head_at r place ∷ take (length ls) (singles r)) (fact_at ps active ∷ facts (pairs_at ps ls)) l

-- the beginning of a choice with one label more, where its fact fits
abbrev pub extended : List Pair → Pattern → ℕ → List ℕ → Letters → ℕ → Option Letters
extended ps p active ls l n =
    cond (n == active || has n ls) None (elim (read n ps) [ None ↦ None | Some f ↦ bind_fact l p f ])

-- what `extended` answers for that: the choice with the label behind the labels chosen so far, and these letters
abbrev pub IsExtended : Option Letters → Choice → ℕ → Option Choice → Type 0
IsExtended None old n None = Unit {0}
IsExtended None old n (Some x) = ⊥
IsExtended (Some l) old n None = ⊥
IsExtended (Some l) old n (Some x) = (x.letters ≡ l) × (held x.labels ≡ held old.labels ++ (n ∷ []))

-- every head but the one at a place, of heads of which the first has this index, has a fact that may fit it
abbrev pub candidates_stand : List Pair → Letters → ℕ → ℕ → List Pattern → Bool
candidates_stand ps l place n [] = true
candidates_stand ps l place n (p ∷ rest) = (n == place || is_some (next_that (is_candidate l p) 0 ps)) && candidates_stand ps l place (suc n) rest
