-- Facts that fit under some setting fit under the one that they give; and facts of a ledger as pairs of the store.
use Rattle.std.proofs.Common.{◌≡◌, ℕ, suc, ◌≤◌, Bool, true, false, cond, ◌&&◌, eqb, List, [], ◌∷◌, ◌++◌, length, ℤ, pos, negsuc, Some, None, Option, sym, refl, ap, ◌∙◌, ⊎_elim, arith}
use mathlib.Core.Bool.{false≢true}
use lib.ListN.{length-map}
use Rattle.std.proofs.lemmas.Bool.{or_left, or_right, or_cases, or_parts, eq-eqb, eqb-true, cond_both, cond-false, and_parts, and_from, cases_Bool, both_ways}
use Rattle.machine.proofs.Lists.{within-mem, Within, within_more}
use Rattle.rules.specs.declared.rule_types.RuleFault.TheVariants as fault
use Rattle.rules.specs.Writing.{each, operand_verdict, term_verdict, comparison_verdict}
use Rattle.rules.specs.Closed.{accepted, heads_of}
use Rattle.machine.proofs.Stands.{then_accepted, cond_accepted}
use Rattle.machine.proofs.Spans.{Span, pick-mem, pick_more, pick-span, pick-apart, pick-tally, pick-found, distinct_more}
use Rattle.rules.specs.declared.rule_types.Operand.TheVariants as operand
use Rattle.rules.specs.Rules.{Rule, singles, any, all, bound, is_letter}
use Rattle.facts.specs.System.{System}
use Rattle.stores.specs.Store.{Pair, fact, labels, facts, sameℤ}
use Rattle.machine.specs.Lists.{tally, distinct}
use Rattle.machine.specs.Fitting.{holds, Setting, fits_words, fits, fits_each, operand_value, term_value, related, ready_under, letter_word, or_else, letter_in, setting_of, ready}
use Rattle.machine.specs.Ledger.{SameFacts}
use Rattle.std.specs.Prelude.{unwrap_or}
use Rattle.facts.specs.declared.fact_types.Fact.{Fact}
use Rattle.rules.specs.declared.rule_types.Argument.{Argument}
use Rattle.rules.specs.declared.rule_types.Operand.{Operand}
use Rattle.rules.specs.declared.rule_types.Term.{Term}
use Rattle.rules.specs.declared.rule_types.Comparison.{Comparison}
use Rattle.rules.specs.declared.rule_types.Pattern.{Pattern}
use Rattle.rules.specs.declared.rule_types.Argument.TheVariants.{Letter, Constant, Any}
use Rattle.rules.specs.declared.rule_types.Term.TheVariants.{One, Two}

-- equal words, equal facts
pub same_word : (a b : ℤ) → sameℤ a b ≡ true → a ≡ b
same_word (pos a) (pos b) e = ap pos (eqb-true a b e)
same_word (pos a) (negsuc b) e = absurd (false≢true e)
same_word (negsuc a) (pos b) e = absurd (false≢true e)
same_word (negsuc a) (negsuc b) e = ap negsuc (eqb-true a b e)

pub same_word_refl : (a : ℤ) → sameℤ a a ≡ true
same_word_refl (pos a) = eq-eqb a a refl
same_word_refl (negsuc a) = eq-eqb a a refl

abbrev same-words : List ℤ → List ℤ → Bool
same-words [] [] = true
same-words [] (b ∷ bs) = false
same-words (a ∷ as') [] = false
same-words (a ∷ as') (b ∷ bs) = sameℤ a b && same-words as' bs

same-words-eq : (as' bs : List ℤ) → same-words as' bs ≡ true → as' ≡ bs
same-words-eq [] [] e = refl
same-words-eq [] (b ∷ bs) e = absurd (false≢true e)
same-words-eq (a ∷ as') [] e = absurd (false≢true e)
same-words-eq (a ∷ as') (b ∷ bs) e = let h = and_parts (sameℤ a b) (same-words as' bs) e in λ i. same_word a b h.0 i ∷ same-words-eq as' bs h.1 i

same_words_refl : (as' : List ℤ) → same-words as' as' ≡ true
same_words_refl [] = refl
same_words_refl (a ∷ as') = and_from (sameℤ a a) (same-words as' as') (same_word_refl a) (same_words_refl as')

abbrev pub same-fact : Fact → Fact → Bool
same-fact f g = eqb f.kind g.kind && same-words f.words g.words

pub same-fact-eq : (f g : Fact) → same-fact f g ≡ true → f ≡ g
same-fact-eq f g e =
    let h = and_parts (eqb f.kind g.kind) (same-words f.words g.words) e in
    λ i. record { kind = eqb-true f.kind g.kind h.0 i; words = same-words-eq f.words g.words h.1 i }

pub same_fact_refl : (f : Fact) → same-fact f f ≡ true
same_fact_refl f = and_from (eqb f.kind f.kind) (same-words f.words f.words) (eq-eqb f.kind f.kind refl) (same_words_refl f.words)

-- facts of the store, as many as a part of it has, are a choice of pairs with distinct labels
pub choose : (fs os : List Fact) (ps : List Pair) (a b : ℕ) → Span a ps b → SameFacts (facts ps) (fs ++ os) → (c : List Pair) × (facts c ≡ fs) × Within ps c × (distinct (labels c) ≡ true)
choose [] os ps a b s h = ([], refl, tt, refl)
choose (f ∷ fs) os ps a b s h =
    let o : 1 ≤ tally (same-fact f) (facts ps) = omega (arith, h (same-fact f), ap {B = ℕ} (λ t. cond t 1 0) (same_fact_refl f)) in
    let k = pick-found (same-fact f) ps o in
    let e = same-fact-eq f (fact k.0) k.3 in
    let r = choose fs os k.1 a b (pick-span k.2 a b s) (λ t. omega (arith, pick-tally t k.2, h t, ap {B = ℕ} (λ g. cond (t g) 1 0) e)) in (
      k.0 ∷ r.0,
      (λ i. sym e i ∷ r.1 i),
      (pick-mem k.2, within_more k.1 ps (λ x m. pick_more k.2 m) r.0 r.2),
      distinct_more k.0 r.0 (λ x m. pick-apart k.2 a b s (within-mem k.1 r.0 r.2 m)) r.3,
    )

-- letters
abbrev pub in_args : ℕ → List Argument → Bool
in_args v as' = any (is_letter v) as'

abbrev pub in_heads : ℕ → List Pattern → Bool
in_heads v ps = any (λ p. any (is_letter v) p.args) ps

letter-word-none : (v : ℕ) (as' : List Argument) (ws : List ℤ) → in_args v as' ≡ false → letter_word v as' ws ≡ None
letter-word-none v [] ws e = refl
letter-word-none v (a ∷ rest) [] e = refl
letter-word-none v (Letter u ∷ rest) (w ∷ ws) e = let h = or_parts (eqb u v) (in_args v rest) e in cond-false (eqb u v) (Some w) (letter_word v rest ws) h.0 ∙ letter-word-none v rest ws h.1
letter-word-none v (Constant k ∷ rest) (w ∷ ws) e = letter-word-none v rest ws e
letter-word-none v (Any ∷ rest) (w ∷ ws) e = letter-word-none v rest ws e

letter-word-is : (σ : Setting) (v : ℕ) (as' : List Argument) (ws : List ℤ) → fits_words σ as' ws ≡ true → in_args v as' ≡ true → letter_word v as' ws ≡ Some (σ v)
letter-word-is σ v [] ws f e = absurd (false≢true e)
letter-word-is σ v (a ∷ rest) [] f e = absurd (false≢true f)
letter-word-is σ v (Letter u ∷ rest) (w ∷ ws) f e =
    let h = and_parts (sameℤ (σ u) w) (fits_words σ rest ws) f in
    let below = letter-word-is σ v rest ws h.1 in
    cond_both (eqb u v) (Some w) (letter_word v rest ws) (λ o. o ≡ Some (σ v))
    (λ t. ap Some (sym (same_word (σ u) w h.0) ∙ ap σ (eqb-true u v t)))
    (λ t. below (⊎_elim (λ (q : eqb u v ≡ true). absurd (both_ways (eqb u v) t q)) (λ (q : in_args v rest ≡ true). q) (or_cases (eqb u v) (in_args v rest) e)))
letter-word-is σ v (Constant k ∷ rest) (w ∷ ws) f e = letter-word-is σ v rest ws (and_parts (sameℤ k w) (fits_words σ rest ws) f).1 e
letter-word-is σ v (Any ∷ rest) (w ∷ ws) f e = letter-word-is σ v rest ws f e

pub letter_in-is : (σ : Setting) (v : ℕ) (ps : List Pattern) (fs : List Fact) → fits_each σ ps fs ≡ true → in_heads v ps ≡ true → letter_in v ps fs ≡ Some (σ v)
letter_in-is σ v [] fs f e = absurd (false≢true e)
letter_in-is σ v (p ∷ ps) [] f e = absurd (false≢true f)
letter_in-is σ v (p ∷ ps) (g ∷ fs) f e =
    let h = and_parts (fits σ p g) (fits_each σ ps fs) f in
    let k = and_parts (eqb p.kind g.kind) (fits_words σ p.args g.words) h.0 in
    let below = letter_in-is σ v ps fs h.1 in
    ⊎_elim {A = in_args v p.args ≡ true} {B = in_args v p.args ≡ false}
    (λ t. ap (λ o. or_else o (letter_in v ps fs)) (letter-word-is σ v p.args g.words k.1 t))
    (λ t. ap (λ o. or_else o (letter_in v ps fs)) (letter-word-none v p.args g.words t) ∙ below (⊎_elim (λ (q : in_args v p.args ≡ true). absurd (both_ways (in_args v p.args) t q)) (λ (q : in_heads v ps ≡ true). q) (or_cases (in_args v p.args) (in_heads v ps) e)))
    (cases_Bool (in_args v p.args))

module _ (τ σ : Setting) where
  fits-words-same : (as' : List Argument) (ws : List ℤ) → ((v : ℕ) → in_args v as' ≡ true → τ v ≡ σ v) → fits_words τ as' ws ≡ fits_words σ as' ws
  fits-words-same [] [] f = refl
  fits-words-same [] (w ∷ ws) f = refl
  fits-words-same (a ∷ rest) [] f = refl
  fits-words-same (Letter u ∷ rest) (w ∷ ws) f =
      let below = fits-words-same rest ws (λ v e. f v (or_right (eqb u v) (in_args v rest) e)) in
      let e = f u (or_left (eqb u u) (in_args u rest) (eq-eqb u u refl)) in
      λ i. sameℤ (e i) w && below i
  fits-words-same (Constant k ∷ rest) (w ∷ ws) f = let below = fits-words-same rest ws f in λ i. sameℤ k w && below i
  fits-words-same (Any ∷ rest) (w ∷ ws) f = fits-words-same rest ws f

  pub fits-each-same : (ps : List Pattern) (fs : List Fact) → ((v : ℕ) → in_heads v ps ≡ true → τ v ≡ σ v) → fits_each τ ps fs ≡ fits_each σ ps fs
  fits-each-same [] [] f = refl
  fits-each-same [] (g ∷ fs) f = refl
  fits-each-same (p ∷ ps) [] f = refl
  fits-each-same (p ∷ ps) (g ∷ fs) f =
      let below = fits-each-same ps fs (λ v e. f v (or_right (in_args v p.args) (in_heads v ps) e)) in
      let here' = fits-words-same p.args g.words (λ v e. f v (or_left (in_args v p.args) (in_heads v ps) e)) in
      λ i. (eqb p.kind g.kind && here' i) && below i

  module _ (s : System) (r : Rule) (f : (v : ℕ) → bound r v ≡ true → τ v ≡ σ v) (valid : ℤ → Bool) (taken : Bool) (ts : List ℤ) where
    operand_same : (a : Operand) → accepted (operand_verdict valid r taken a) ≡ true → operand_value τ ts a ≡ operand_value σ ts a
    operand_same (operand.Letter v) e = f v (cond_accepted (bound r v) fault.Letter e)
    operand_same (operand.Constant k) e = refl
    operand_same (operand.Taken i) e = refl

    term-same : (t : Term) → accepted (term_verdict valid r taken t) ≡ true → term_value s τ ts t ≡ term_value s σ ts t
    term-same (One a) e = ap Some (operand_same a e)
    term-same (Two a o b) e =
        let h = then_accepted (operand_verdict valid r taken a) (operand_verdict valid r taken b) e in
        λ i. s.value o (operand_same a h.0 i) (operand_same b h.1 i)

    pub holds-same : (cs : List Comparison) → accepted (each (comparison_verdict (term_verdict valid r taken)) cs) ≡ true → all (holds s τ ts) cs ≡ all (holds s σ ts) cs
    holds-same [] e = refl
    holds-same (c ∷ cs) e =
        let h = then_accepted (comparison_verdict (term_verdict valid r taken) c) (each (comparison_verdict (term_verdict valid r taken)) cs) e in
        let k = then_accepted (term_verdict valid r taken c.left) (term_verdict valid r taken c.right) h.0 in
        λ i. related s c.relation (term-same c.left k.0 i) (term-same c.right k.1 i) && holds-same cs h.1 i

-- ready under some setting is ready
pub ready-from : (s : System) (r : Rule) (σ : Setting) (fs : List Fact) (valid : ℤ → Bool) → accepted (each (comparison_verdict (term_verdict valid r false)) r.whens) ≡ true → ready_under s r σ fs ≡ true → ready s r fs ≡ true
ready-from s r σ fs valid b e =
    let h = and_parts (fits_each σ (singles r) fs) (all (holds s σ []) r.whens) e in
    let agrees : (v : ℕ) → bound r v ≡ true → setting_of r fs v ≡ σ v = λ v t. ap (λ (o : Option ℤ). unwrap_or o (pos 0)) (letter_in-is σ v (singles r) fs h.0 t) in
    and_from (fits_each (setting_of r fs) (singles r) fs) (all (holds s (setting_of r fs) []) r.whens)
    (fits-each-same (setting_of r fs) σ (singles r) fs agrees ∙ h.0)
    (holds-same (setting_of r fs) σ s r agrees valid false [] r.whens b ∙ h.1)

-- a choice that fits has a fact for each head
pub fits-length : (σ : Setting) (ps : List Pattern) (fs : List Fact) → fits_each σ ps fs ≡ true → length fs ≡ length ps
fits-length σ [] [] e = refl
fits-length σ [] (g ∷ fs) e = absurd (false≢true e)
fits-length σ (p ∷ ps) [] e = absurd (false≢true e)
fits-length σ (p ∷ ps) (g ∷ fs) e = ap suc (fits-length σ ps fs (and_parts (fits σ p g) (fits_each σ ps fs) e).1)

pub ready-length : (s : System) (r : Rule) (c : List Pair) → ready s r (facts c) ≡ true → length c ≡ heads_of r
ready-length s r c e =
    let σ = setting_of r (facts c) in
    sym (length-map c fact) ∙ fits-length σ (singles r) (facts c) (and_parts (fits_each σ (singles r) (facts c)) (all (holds s σ []) r.whens) e).0
