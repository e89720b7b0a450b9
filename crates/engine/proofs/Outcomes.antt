-- What a step comes to, by the top goal.
use Rattle.std.proofs.Common.{◌≡◌, ℕ, true, false, List, [], ◌∷◌, is_some, Some, None, Option, refl, ap, ◌∙◌, arith}
use Rattle.facts.specs.declared.fact_types.Fact.{Fact}
use Rattle.rules.specs.Closed.{Place, head}
use Rattle.stores.specs.Lists.{has}
use Rattle.stores.specs.Store.{Pair, labels, read}
use Rattle.stores.proofs.Pairs.{has-read}
use Rattle.machine.specs.declared.goal_types.Goal.{Goal}
use Rattle.machine.specs.declared.goal_types.Goal.TheVariants.{Try}
use Rattle.machine.specs.declared.answer_types.Answer.TheVariants.{Woken, Dropped}
use Rattle.machine.specs.Machine.{Frame, State, answered, with_goals, look_step, try_step, try_head}
use Rattle.engine.specs.Goals.{top_of, below}

abbrev make_state : List Pair → ℕ → List Goal → State
make_state ps n gs = record { pairs = ps; next = n; goals = gs }

pub top_is : (gs : List Goal) (g : Goal) → top_of gs ≡ Some g → gs ≡ g ∷ below gs
top_is [] g e = grind arith
top_is (h ∷ gs) g e = let e' : h ≡ g = cc in ap (λ x. x ∷ gs) e'

-- a label that is held, and one that is not
pub look_held : (l : ℕ) (gs : List Goal) (s : State) (ns : List ℕ) (fact : Fact) → read l s.pairs ≡ Some fact → look_step l gs s ns ≡ answered Woken (with_goals s (Try l 1 ∷ gs)) ns
look_held l gs s ns fact e = let h : has l (labels s.pairs) ≡ true = has-read l s.pairs ∙ ap is_some e in rw h refl

pub look_gone : (l : ℕ) (gs : List Goal) (s : State) (ns : List ℕ) → read l s.pairs ≡ None → look_step l gs s ns ≡ answered Dropped (with_goals s gs) ns
look_gone l gs s ns e = let h : has l (labels s.pairs) ≡ false = has-read l s.pairs ∙ ap is_some e in rw h refl

pub try_held : (fr : Frame) (l i : ℕ) (gs : List Goal) (s : State) (ns : List ℕ) (fact : Fact) (o : Option Place) → read l s.pairs ≡ Some fact → o ≡ head fr.rules i → try_step fr l i gs s ns ≡ try_head fr l i gs s ns o
try_held fr l i gs s ns fact o e p = let h : has l (labels s.pairs) ≡ true = has-read l s.pairs ∙ ap is_some e in rw (h, p) refl

pub try_gone : (fr : Frame) (l i : ℕ) (gs : List Goal) (s : State) (ns : List ℕ) → read l s.pairs ≡ None → try_step fr l i gs s ns ≡ answered Dropped (with_goals s gs) ns
try_gone fr l i gs s ns e = let h : has l (labels s.pairs) ≡ false = has-read l s.pairs ∙ ap is_some e in rw h refl

-- states by their parts
pub same_state : (ps qs : List Pair) (m n : ℕ) (gs hs : List Goal) → ps ≡ qs → m ≡ n → gs ≡ hs → make_state ps m gs ≡ make_state qs n hs
same_state ps qs m n gs hs e f h = rw (e, f, h) refl
