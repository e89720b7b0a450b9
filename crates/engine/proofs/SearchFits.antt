-- What facts that fit their heads say of the letters, and letters bound head by head.
use Rattle.std.proofs.Common.{◌≡◌, ℕ, zero, suc, ◌<◌, Bool, true, false, cond, eqb, ltb, List, [], ◌∷◌, ◌++◌, length, get_or, take, ℤ, pos, Some, None, Ok, Err, Result, Option, sym, refl, ap, ◌∙◌, arith}
use Rattle.std.specs.Prelude.{unwrap_or}
use Rattle.std.proofs.lemmas.Bool.{and_parts, and_from, eqb-true, eq-eqb}
use Rattle.facts.specs.declared.fact_types.Fact.{Fact}
use Rattle.rules.specs.declared.rule_types.Argument.{Argument}
use Rattle.rules.specs.declared.rule_types.Argument.TheVariants.{Letter, Constant, Any}
use Rattle.rules.specs.declared.rule_types.Pattern.{Pattern}
use Rattle.rules.specs.declared.rule_types.RuleFault.{RuleFault}
use Rattle.rules.specs.declared.rule_types.RuleFault.TheVariants as fault
use Rattle.rules.specs.Rules.{Rule, singles, all}
use Rattle.rules.specs.Writing.{◌>>=◌, each, kind_verdict, single_verdict, pattern_verdict, comparison_verdict, term_verdict, template_verdict, giveall_verdict}
use Rattle.rules.specs.Tables.{may_end}
use Rattle.rules.specs.Closed.{accepted, rule_verdict, parts_verdict, all_head_verdict, every_word, stand}
use Rattle.rules.proofs.Anys.{all-at}
use Rattle.rules.proofs.Stands.{fine_accepted}
use Rattle.stores.specs.Store.{sameℤ}
use Rattle.machine.specs.Fitting.{Setting, fits_word, fits_words, fits, fits_each, letter_word, letter_in, or_else, setting_of}
use Rattle.engine.specs.Letters.{Letters, unbound, setting_in, bind_fact}
use Rattle.engine.specs.Searching.{Agrees, Binds, no_head, no_fact, head_at, first_word, known_word, of_kind_and, is_candidate}
use Rattle.machine.proofs.Settings.{same_word}
use Rattle.engine.proofs.SearchLetters.{or-none, or-or, word_same, letter_below, bound_fact}

-- facts at heads --------------------------------------------------------------------------------------------------------

pub fits-length : (σ : Setting) (hs : List Pattern) (fs : List Fact) → fits_each σ hs fs ≡ true → length fs ≡ length hs
fits-length σ [] [] e = refl
fits-length σ [] (f ∷ fs) e = let z : ◌≡◌ {A = ℕ} 0 1 = cc in absurd (omega arith)
fits-length σ (h ∷ hs) [] e = let z : ◌≡◌ {A = ℕ} 0 1 = cc in absurd (omega arith)
fits-length σ (h ∷ hs) (f ∷ fs) e = ap suc (fits-length σ hs fs (and_parts (fits σ h f) (fits_each σ hs fs) e).1)

pub fits-at : (σ : Setting) (hs : List Pattern) (fs : List Fact) (i : ℕ) → fits_each σ hs fs ≡ true → i < length hs → fits σ (get_or hs i no_head) (get_or fs i no_fact) ≡ true
fits-at σ [] fs i e l = absurd (omega arith)
fits-at σ (h ∷ hs) [] i e l = let z : ◌≡◌ {A = ℕ} 0 1 = cc in absurd (omega arith)
fits-at σ (h ∷ hs) (f ∷ fs) zero e l = (and_parts (fits σ h f) (fits_each σ hs fs) e).0
fits-at σ (h ∷ hs) (f ∷ fs) (suc i) e l = fits-at σ hs fs i (and_parts (fits σ h f) (fits_each σ hs fs) e).1 (omega arith)

pub fits-front : (σ : Setting) (hs : List Pattern) (fs gs : List Fact) → fits_each σ hs (fs ++ gs) ≡ true → fits_each σ (take (length fs) hs) fs ≡ true
fits-front σ hs [] gs e = refl
fits-front σ [] (f ∷ fs) gs e = let z : ◌≡◌ {A = ℕ} 0 1 = cc in absurd (omega arith)
fits-front σ (h ∷ hs) (f ∷ fs) gs e =
    let p = and_parts (fits σ h f) (fits_each σ hs (fs ++ gs)) e in
    and_from (fits σ h f) (fits_each σ (take (length fs) hs) fs) p.0 (fits-front σ hs fs gs p.1)

fits-push : (σ : Setting) (hs : List Pattern) (fs : List Fact) (h : Pattern) (f : Fact) → fits_each σ hs fs ≡ true → fits σ h f ≡ true → fits_each σ (hs ++ (h ∷ [])) (fs ++ (f ∷ [])) ≡ true
fits-push σ [] [] h f e k = and_from (fits σ h f) true k refl
fits-push σ [] (g ∷ fs) h f e k = let z : ◌≡◌ {A = ℕ} 0 1 = cc in absurd (omega arith)
fits-push σ (p ∷ hs) [] h f e k = let z : ◌≡◌ {A = ℕ} 0 1 = cc in absurd (omega arith)
fits-push σ (p ∷ hs) (g ∷ fs) h f e k =
    let q = and_parts (fits σ p g) (fits_each σ hs fs) e in
    and_from (fits σ p g) (fits_each σ (hs ++ (h ∷ [])) (fs ++ (f ∷ []))) q.0 (fits-push σ hs fs h f q.1 k)

fits_pushed : (σ : Setting) (hs : List Pattern) (fs : List Fact) (h : Pattern) (f : Fact) → length hs ≡ length fs → fits_each σ (hs ++ (h ∷ [])) (fs ++ (f ∷ [])) ≡ true → (fits_each σ hs fs ≡ true) × (fits σ h f ≡ true)
fits_pushed σ [] [] h f l e = (refl, (and_parts (fits σ h f) true e).0)
fits_pushed σ [] (g ∷ fs) h f l e = absurd (omega arith)
fits_pushed σ (p ∷ hs) [] h f l e = absurd (omega arith)
fits_pushed σ (p ∷ hs) (g ∷ fs) h f l e =
    let q = and_parts (fits σ p g) (fits_each σ (hs ++ (h ∷ [])) (fs ++ (f ∷ []))) e in
    let r = fits_pushed σ hs fs h f (omega arith) q.1 in
    (and_from (fits σ p g) (fits_each σ hs fs) q.0 r.0, r.1)

-- the words of the letters ----------------------------------------------------------------------------------------------

letter_word-known : (σ : Setting) (v : ℕ) (as' : List Argument) (ws : List ℤ) (x : ℤ) → fits_words σ as' ws ≡ true → letter_word v as' ws ≡ Some x → σ v ≡ x
letter_word-known σ v [] ws x f e = cc
letter_word-known σ v (a ∷ rest) [] x f e = cc
letter_word-known σ v (Letter u ∷ rest) (w ∷ ws) x f e =
    let p = and_parts (sameℤ (σ u) w) (fits_words σ rest ws) f in
    go (letter_word-known σ v rest ws x p.1) (same_word (σ u) w p.0) (eqb u v) refl e
  where
    go : (letter_word v rest ws ≡ Some x → σ v ≡ x) → σ u ≡ w → (b : Bool) → eqb u v ≡ b → cond b (Some w) (letter_word v rest ws) ≡ Some x → σ v ≡ x
    go below s true b q = let z : w ≡ x = cc in ap σ (sym (eqb-true u v b)) ∙ (s ∙ z)
    go below s false b q = below q
letter_word-known σ v (Constant k ∷ rest) (w ∷ ws) x f e = letter_word-known σ v rest ws x (and_parts (sameℤ k w) (fits_words σ rest ws) f).1 e
letter_word-known σ v (Any ∷ rest) (w ∷ ws) x f e = letter_word-known σ v rest ws x f e

letter_in-known : (σ : Setting) (v : ℕ) (hs : List Pattern) (fs : List Fact) (x : ℤ) → fits_each σ hs fs ≡ true → letter_in v hs fs ≡ Some x → σ v ≡ x
letter_in-known σ v [] fs x f e = cc
letter_in-known σ v (h ∷ hs) [] x f e = cc
letter_in-known σ v (h ∷ hs) (g ∷ fs) x f e =
    let p = and_parts (fits σ h g) (fits_each σ hs fs) f in
    let q = and_parts (eqb h.kind g.kind) (fits_words σ h.args g.words) p.0 in
    go (letter_word-known σ v h.args g.words x q.1) (letter_in-known σ v hs fs x p.1) (letter_word v h.args g.words) refl e
  where
    go : (letter_word v h.args g.words ≡ Some x → σ v ≡ x) → (letter_in v hs fs ≡ Some x → σ v ≡ x) → (o : Option ℤ) → letter_word v h.args g.words ≡ o → or_else o (letter_in v hs fs) ≡ Some x → σ v ≡ x
    go here below (Some y) k q = here (k ∙ q)
    go here below None k q = below q

or-none-parts : (a b : Option ℤ) → or_else a b ≡ None → (a ≡ None) × (b ≡ None)
or-none-parts None b e = (refl, e)
or-none-parts (Some x) b e = let z : ◌≡◌ {A = ℕ} 0 1 = cc in absurd (omega arith)

letter_in-none : (v : ℕ) (hs : List Pattern) (fs : List Fact) (i : ℕ) → letter_in v hs fs ≡ None → i < length hs → i < length fs → letter_word v (get_or hs i no_head).args (get_or fs i no_fact).words ≡ None
letter_in-none v [] fs i e l k = absurd (omega arith)
letter_in-none v (h ∷ hs) [] i e l k = absurd (omega arith)
letter_in-none v (h ∷ hs) (f ∷ fs) zero e l k = (or-none-parts (letter_word v h.args f.words) (letter_in v hs fs) e).0
letter_in-none v (h ∷ hs) (f ∷ fs) (suc i) e l k = letter_in-none v hs fs i (or-none-parts (letter_word v h.args f.words) (letter_in v hs fs) e).1 (omega arith) (omega arith)

or_twice : (a b : Option ℤ) → or_else (or_else a b) a ≡ or_else a b
or_twice None b = or-none b
or_twice (Some w) b = refl

letter_in-push : (v : ℕ) (hs : List Pattern) (fs : List Fact) (h : Pattern) (f : Fact) → length hs ≡ length fs → letter_in v (hs ++ (h ∷ [])) (fs ++ (f ∷ [])) ≡ or_else (letter_in v hs fs) (letter_word v h.args f.words)
letter_in-push v [] [] h f l = or-none (letter_word v h.args f.words)
letter_in-push v [] (g ∷ fs) h f l = absurd (omega arith)
letter_in-push v (p ∷ hs) [] h f l = absurd (omega arith)
letter_in-push v (p ∷ hs) (g ∷ fs) h f l =
    ap (or_else (letter_word v p.args g.words)) (letter_in-push v hs fs h f (omega arith))
    ∙ sym (or-or (letter_word v p.args g.words) (letter_in v hs fs) (letter_word v h.args f.words))

-- letters bound head by head --------------------------------------------------------------------------------------------

fits-from : (σ : Setting) (h : Pattern) (f : Fact) → h.kind ≡ f.kind → fits_words σ h.args f.words ≡ true → fits σ h f ≡ true
fits-from σ h f e k = and_from (eqb h.kind f.kind) (fits_words σ h.args f.words) (eq-eqb h.kind f.kind e) k

fits-words : (σ : Setting) (h : Pattern) (f : Fact) → fits σ h f ≡ true → fits_words σ h.args f.words ≡ true
fits-words σ h f e = (and_parts (eqb h.kind f.kind) (fits_words σ h.args f.words) e).1

pub unbound-none : (v : ℕ) → get_or unbound v None ≡ None
unbound-none zero = refl
unbound-none (suc zero) = refl
unbound-none (suc (suc zero)) = refl
unbound-none (suc (suc (suc zero))) = refl
unbound-none (suc (suc (suc (suc zero)))) = refl
unbound-none (suc (suc (suc (suc (suc zero))))) = refl
unbound-none (suc (suc (suc (suc (suc (suc zero)))))) = refl
unbound-none (suc (suc (suc (suc (suc (suc (suc zero))))))) = refl
unbound-none (suc (suc (suc (suc (suc (suc (suc (suc v)))))))) = refl

pub unbound-agrees : (σ : Setting) → Agrees σ unbound
unbound-agrees σ v w e = let q = sym (unbound-none v) ∙ e in cc

pub binds_first : (h : Pattern) (f : Fact) (m : Letters) → bind_fact unbound h f ≡ Some m → Binds (h ∷ []) (f ∷ []) m
binds_first h f m e =
    let k = bound_fact unbound m h f e in
    let b = k.1 in record {
      wide = b.wide;
      words = λ v. b.words v ∙ (ap (λ o. or_else o (letter_word v h.args f.words)) (unbound-none v) ∙ sym (or-none (letter_word v h.args f.words)));
      fit = λ σ g. and_from (fits σ h f) true (fits-from σ h f k.0 (b.fit σ g)) refl;
      agree = λ σ g. b.agree σ (unbound-agrees σ) (fits-words σ h f (and_parts (fits σ h f) true g).0);
    }

pub binds_more : (hs : List Pattern) (fs : List Fact) (l m : Letters) (h : Pattern) (f : Fact) → length hs ≡ length fs → Binds hs fs l → bind_fact l h f ≡ Some m → Binds (hs ++ (h ∷ [])) (fs ++ (f ∷ [])) m
binds_more hs fs l m h f e c q =
    let k = bound_fact l m h f q in
    let b = k.1 in record {
      wide = b.wide ∙ c.wide;
      words = λ v. b.words v ∙ (ap (λ o. or_else o (letter_word v h.args f.words)) (c.words v) ∙ sym (letter_in-push v hs fs h f e));
      fit = λ σ g. fits-push σ hs fs h f (c.fit σ (b.before σ g)) (fits-from σ h f k.0 (b.fit σ g));
      agree = λ σ g. let p = fits_pushed σ hs fs h f e g in b.agree σ (c.agree σ p.0) (fits-words σ h f p.1);
    }

-- a head and a fact that bound letters before
pub binds_again : (hs : List Pattern) (fs : List Fact) (l : Letters) (h : Pattern) (f : Fact) → length hs ≡ length fs → Binds (h ∷ hs) (f ∷ fs) l → Binds (h ∷ (hs ++ (h ∷ []))) (f ∷ (fs ++ (f ∷ []))) l
binds_again hs fs l h f e c = record {
  wide = c.wide;
  words = λ v. c.words v ∙ sym (letter_in-push v (h ∷ hs) (f ∷ fs) h f (ap suc e) ∙ or_twice (letter_word v h.args f.words) (letter_in v hs fs));
  fit = λ σ g. let p = c.fit σ g in fits-push σ (h ∷ hs) (f ∷ fs) h f p (and_parts (fits σ h f) (fits_each σ hs fs) p).0;
  agree = λ σ g. c.agree σ (fits_pushed σ (h ∷ hs) (f ∷ fs) h f (ap suc e) g).0;
}

-- once every head has its fact, the letters are the setting that the facts give
pub setting-same : (r : Rule) (place : ℕ) (g : Fact) (fs : List Fact) (l : Letters) → Binds (head_at r place ∷ singles r) (g ∷ fs) l → place < length (singles r) → get_or fs place no_fact ≡ g → setting_in l ≡ setting_of r fs
setting-same r place g fs l c h e = λ i v. point v i
  where
    itself : Agrees (setting_in l) l
    itself v w q = ap (λ (o : Option ℤ). unwrap_or o (pos 0)) q

    f : fits_each (setting_in l) (singles r) fs ≡ true
    f = (and_parts (fits (setting_in l) (head_at r place) g) (fits_each (setting_in l) (singles r) fs) (c.fit (setting_in l) itself)).1

    go : (v : ℕ) (o : Option ℤ) → letter_in v (singles r) fs ≡ o → setting_in l v ≡ unwrap_or o (pos 0)
    go v (Some w) q = letter_in-known (setting_in l) v (singles r) fs w f q
    go v None q =
        let k = letter_in-none v (singles r) fs place q h (omega (arith, fits-length (setting_in l) (singles r) fs f)) in
        let n = ap (λ (x : Fact). letter_word v (head_at r place).args x.words) (sym e) ∙ k in
        ap (λ (o : Option ℤ). unwrap_or o (pos 0)) (c.words v ∙ ((λ i. or_else (n i) (q i))))

    point : (v : ℕ) → setting_in l v ≡ setting_of r fs v
    point v = go v (letter_in v (singles r) fs) refl

-- candidates ------------------------------------------------------------------------------------------------------------

pub candidate : (σ : Setting) (l : Letters) (h : Pattern) (f : Fact) → Agrees σ l → fits σ h f ≡ true → is_candidate l h f ≡ true
candidate σ l h f g e =
    let p = and_parts (eqb h.kind f.kind) (fits_words σ h.args f.words) e in
    let kind : eqb f.kind h.kind ≡ true = eq-eqb f.kind h.kind (sym (eqb-true h.kind f.kind p.0)) in
    go kind (first_word l h) (λ w q. word (λ v x. g v x) h.args f.words w p.1 q)
  where
    known : (a : Argument) (x w : ℤ) → fits_word σ a x ≡ true → known_word l a ≡ Some w → x ≡ w
    known (Letter v) x w t q = sym (same_word (σ v) x t) ∙ g v w q
    known (Constant k) x w t q = let z : k ≡ w = cc in sym (same_word k x t) ∙ z
    known Any x w t q = cc

    word : Agrees σ l → (as' : List Argument) (ws : List ℤ) (w : ℤ) → fits_words σ as' ws ≡ true → known_word l (get_or as' 0 Any) ≡ Some w → sameℤ (get_or ws 0 (pos 0)) w ≡ true
    word g [] ws w t q = cc
    word g (a ∷ rest) [] w t q = cc
    word g (a ∷ rest) (x ∷ ws) w t q = word_same x w (known a x w (and_parts (fits_word σ a x) (fits_words σ rest ws) t).0 q)

    go : eqb f.kind h.kind ≡ true → (o : Option ℤ) → ((w : ℤ) → o ≡ Some w → sameℤ (get_or f.words 0 (pos 0)) w ≡ true) → of_kind_and h.kind o f ≡ true
    go k None n = k
    go k (Some w) n = and_from (eqb f.kind h.kind) (sameℤ (get_or f.words 0 (pos 0)) w) k (n w refl)

-- the letters of a rule that stands are below 8 -------------------------------------------------------------------------

abbrev pub letters_below : Pattern → Bool
letters_below p = all (letter_below 8) p.args

then_parts : {X : Type 0} (a : Result X RuleFault) (b : Result (Unit {0}) RuleFault) → (a >>= λ _. b) ≡ Ok tt → b ≡ Ok tt
then_parts (Ok x) b e = e
then_parts (Err y) b e = let z : ◌≡◌ {A = ℕ} 0 1 = cc in absurd (omega arith)

then_first : (a : Result (Unit {0}) RuleFault) (b : Result (Unit {0}) RuleFault) → (a >>= λ _. b) ≡ Ok tt → a ≡ Ok tt
then_first (Ok tt) b e = refl
then_first (Err y) b e = let z : ◌≡◌ {A = ℕ} 0 1 = cc in absurd (omega arith)

abbrev letter_tested : Bool → Result (Unit {0}) RuleFault
letter_tested b = cond b (Ok tt) (Err fault.Letter)

test_true : (b : Bool) → letter_tested b ≡ Ok tt → b ≡ true
test_true true e = refl
test_true false e = let z : ◌≡◌ {A = ℕ} 0 1 = cc in absurd (omega arith)

single-below : (valid : ℤ → Bool) (a : Argument) → single_verdict valid a ≡ Ok tt → letter_below 8 a ≡ true
single-below valid (Letter v) e = test_true (ltb v 8) e
single-below valid (Constant k) e = refl
single-below valid Any e = refl

each-below : (valid : ℤ → Bool) (as' : List Argument) → each (single_verdict valid) as' ≡ Ok tt → all (letter_below 8) as' ≡ true
each-below valid [] e = refl
each-below valid (a ∷ rest) e =
    and_from (letter_below 8 a) (all (letter_below 8) rest)
    (single-below valid a (then_first (single_verdict valid a) (each (single_verdict valid) rest) e))
    (each-below valid rest (then_parts (single_verdict valid a) (each (single_verdict valid) rest) e))

heads-below : (valid : ℤ → Bool) (hs : List Pattern) → each (pattern_verdict (single_verdict valid)) hs ≡ Ok tt → all letters_below hs ≡ true
heads-below valid [] e = refl
heads-below valid (h ∷ hs) e =
    and_from (letters_below h) (all letters_below hs)
    (each-below valid h.args (then_parts (kind_verdict (pos h.kind)) (each (single_verdict valid) h.args) (then_first (pattern_verdict (single_verdict valid) h) (each (pattern_verdict (single_verdict valid)) hs) e)))
    (heads-below valid hs (then_parts (pattern_verdict (single_verdict valid) h) (each (pattern_verdict (single_verdict valid)) hs) e))

all-append : {X : Type 0} (p : X → Bool) (xs ys : List X) → all p xs ≡ true → all p ys ≡ true → all p (xs ++ ys) ≡ true
all-append p [] ys h k = k
all-append p (x ∷ xs) ys h k = let q = and_parts (p x) (all p xs) h in and_from (p x) (all p (xs ++ ys)) q.0 (all-append p xs ys q.1 k)

pub head-below : (r : Rule) (i : ℕ) → accepted (rule_verdict every_word r) ≡ true → i < length (singles r) → letters_below (head_at r i) ≡ true
head-below r i e h =
    let v = every_word in
    let tail = each (all_head_verdict v r) r.alls >>= λ _. each (comparison_verdict (term_verdict v r false)) r.whens >>= λ _. each (template_verdict (term_verdict v r false)) r.gives >>= λ _. each (giveall_verdict v r) r.givealls in
    let drops = each (pattern_verdict (single_verdict v)) r.drops in
    let keeps = each (pattern_verdict (single_verdict v)) r.keeps in
    let a : parts_verdict v r ≡ Ok tt = then_parts (may_end r) (parts_verdict v r) (fine_accepted (rule_verdict v r) e) in
    let b : (drops >>= λ _. tail) ≡ Ok tt = then_parts keeps (drops >>= λ _. tail) a in
    all-at letters_below (singles r) i no_head h
    (all-append letters_below r.keeps r.drops
    (heads-below v r.keeps (then_first keeps (drops >>= λ _. tail) a))
    (heads-below v r.drops (then_first drops tail b)))

-- a rule of a set in which every rule stands
pub rule-stands : (valid : ℤ → Bool) (rs : List Rule) (i : ℕ) (d : Rule) → stand valid rs ≡ true → i < length rs → accepted (rule_verdict valid (get_or rs i d)) ≡ true
rule-stands valid rs i d e h = ap accepted (each-at rs i (fine_accepted (each (rule_verdict valid) rs) e) h)
  where
    each-at : (rs : List Rule) (i : ℕ) → each (rule_verdict valid) rs ≡ Ok tt → i < length rs → rule_verdict valid (get_or rs i d) ≡ Ok tt
    each-at [] i e h = absurd (omega arith)
    each-at (r ∷ rs) zero e h = then_first (rule_verdict valid r) (each (rule_verdict valid) rs) e
    each-at (r ∷ rs) (suc i) e h = each-at rs i (then_parts (rule_verdict valid r) (each (rule_verdict valid) rs) e) (omega arith)
