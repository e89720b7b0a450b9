-- Letters bound to the words of facts, against the settings that give them those words.
use Rattle.std.proofs.Common.{◌≡◌, ℕ, ◌<◌, Bool, true, false, cond, ◌&&◌, eqb, ltb, List, [], ◌∷◌, length, get_or, set, ℤ, Some, None, Option, sym, refl, ap, subst, ◌∙◌, arith, length-set, get_or-set_same, get_or-set_other}
use Rattle.std.proofs.lemmas.Bool.{and_parts, and_from, and_left, and_right, eqb-true, eqb-false, ltb-true}
use Rattle.facts.specs.declared.fact_types.Fact.{Fact}
use Rattle.rules.specs.declared.rule_types.Argument.{Argument}
use Rattle.rules.specs.declared.rule_types.Argument.TheVariants.{Letter, Constant, Any}
use Rattle.rules.specs.declared.rule_types.Pattern.{Pattern}
use Rattle.rules.specs.Rules.{all}
use Rattle.stores.specs.Store.{sameℤ}
use Rattle.machine.specs.Fitting.{Setting, fits_word, fits_words, fits, letter_word, or_else}
use Rattle.machine.proofs.Settings.{same_word, same_word_refl}
use Rattle.engine.specs.Letters.{Letters, bind_letter, bind_word, bind_words, bind_fact}
use Rattle.std.specs.Option.{option_and_then}
use Rattle.engine.specs.Searching.{Agrees}

pub word_same : (a b : ℤ) → a ≡ b → sameℤ a b ≡ true
word_same a b e = subst (λ (x : ℤ). sameℤ a x ≡ true) e (same_word_refl a)

-- letters bound by words at arguments: which words they have then, and which settings give them these
pub record Bound (l : Letters) (as' : List Argument) (ws : List ℤ) (m : Letters) : Type 0 where
  pub wide : length m ≡ length l
  pub words : (v : ℕ) → get_or m v None ≡ or_else (get_or l v None) (letter_word v as' ws)
  pub before : (σ : Setting) → Agrees σ m → Agrees σ l
  pub fit : (σ : Setting) → Agrees σ m → fits_words σ as' ws ≡ true
  pub agree : (σ : Setting) → Agrees σ l → fits_words σ as' ws ≡ true → Agrees σ m

pub or-none : (o : Option ℤ) → or_else o None ≡ o
or-none None = refl
or-none (Some w) = refl

pub or-or : (a b c : Option ℤ) → or_else (or_else a b) c ≡ or_else a (or_else b c)
or-or None b c = refl
or-or (Some w) b c = refl

letter_word-more : (v : ℕ) (a : Argument) (rest : List Argument) (w : ℤ) (ws : List ℤ) → letter_word v (a ∷ rest) (w ∷ ws) ≡ or_else (letter_word v (a ∷ []) (w ∷ [])) (letter_word v rest ws)
letter_word-more v (Letter u) rest w ws = go (eqb u v)
  where
    go : (b : Bool) → cond b (Some w) (letter_word v rest ws) ≡ or_else (cond b (Some w) None) (letter_word v rest ws)
    go true = refl
    go false = refl
letter_word-more v (Constant k) rest w ws = refl
letter_word-more v Any rest w ws = refl

bound_none : (l : Letters) → Bound l [] [] l
bound_none l = record { wide = refl; words = λ v. sym (or-none (get_or l v None)); before = λ σ h. h; fit = λ σ h. refl; agree = λ σ h k. h }

bound_more : (l m n : Letters) (a : Argument) (rest : List Argument) (w : ℤ) (ws : List ℤ) → Bound l (a ∷ []) (w ∷ []) m → Bound m rest ws n → Bound l (a ∷ rest) (w ∷ ws) n
bound_more l m n a rest w ws h k = record {
  wide = k.wide ∙ h.wide;
  words = λ v.
      k.words v
      ∙ (ap (λ o. or_else o (letter_word v rest ws)) (h.words v)
      ∙ (or-or (get_or l v None) (letter_word v (a ∷ []) (w ∷ [])) (letter_word v rest ws)
      ∙ ap (or_else (get_or l v None)) (sym (letter_word-more v a rest w ws))));
  before = λ σ g. h.before σ (k.before σ g);
  fit = λ σ g. and_from (fits_word σ a w) (fits_words σ rest ws) (and_parts (fits_word σ a w) true (h.fit σ (k.before σ g))).0 (k.fit σ g);
  agree = λ σ g f.
      let p = and_parts (fits_word σ a w) (fits_words σ rest ws) f in
      k.agree σ (h.agree σ g (and_from (fits_word σ a w) true p.0 refl)) p.1;
}

-- one letter
bound_letter : (l m : Letters) (v : ℕ) (w : ℤ) → length m ≡ length l → get_or m v None ≡ Some w → ((u : ℕ) → get_or m u None ≡ or_else (get_or l u None) (cond (eqb v u) (Some w) None)) → Bound l (Letter v ∷ []) (w ∷ []) m
bound_letter l m v w e at more = record {
  wide = e;
  words = more;
  before = λ σ g u x f. g u x (more u ∙ ap (λ o. or_else o (cond (eqb v u) (Some w) None)) f);
  fit = λ σ g. and_from (sameℤ (σ v) w) true (word_same (σ v) w (g v w at)) refl;
  agree = λ σ g f u x t. later σ g (same_word (σ v) w (and_parts (sameℤ (σ v) w) true f).0) u x (get_or l u None) refl (sym (more u) ∙ t);
}
  where
    later : (σ : Setting) → Agrees σ l → σ v ≡ w → (u : ℕ) (x : ℤ) (o : Option ℤ) → get_or l u None ≡ o → or_else o (cond (eqb v u) (Some w) None) ≡ Some x → σ u ≡ x
    later σ g s u x (Some y) f t = g u x (f ∙ t)
    later σ g s u x None f t = end (eqb v u) refl t
      where
        end : (b : Bool) → eqb v u ≡ b → cond b (Some w) None ≡ Some x → σ u ≡ x
        end true b q = let z : w ≡ x = cc in ap σ (sym (eqb-true v u b)) ∙ (s ∙ z)
        end false b q = cc

bound_same : (l : Letters) (v : ℕ) (w : ℤ) → get_or l v None ≡ Some w → Bound l (Letter v ∷ []) (w ∷ []) l
bound_same l v w e = bound_letter l l v w refl e (λ u. go u (eqb v u) refl)
  where
    go : (u : ℕ) (b : Bool) → eqb v u ≡ b → get_or l u None ≡ or_else (get_or l u None) (cond b (Some w) None)
    go u true b = let h : get_or l u None ≡ Some w = ap (λ n. get_or l n None) (sym (eqb-true v u b)) ∙ e in h ∙ ap (λ o. or_else o (Some w)) (sym h)
    go u false b = sym (or-none (get_or l u None))

bound_new : (l : Letters) (v : ℕ) (w : ℤ) → v < length l → get_or l v None ≡ None → Bound l (Letter v ∷ []) (w ∷ []) (set l v (Some w))
bound_new l v w h e = bound_letter l (set l v (Some w)) v w (length-set l v (Some w)) (get_or-set_same l v (Some w) None h) (λ u. go u (eqb v u) refl)
  where
    go : (u : ℕ) (b : Bool) → eqb v u ≡ b → get_or (set l v (Some w)) u None ≡ or_else (get_or l u None) (cond b (Some w) None)
    go u true b =
        let s = eqb-true v u b in
        ap (λ n. get_or (set l v (Some w)) n None) (sym s) ∙ (get_or-set_same l v (Some w) None h ∙ ap (λ o. or_else o (Some w)) (sym (ap (λ n. get_or l n None) (sym s) ∙ e)))
    go u false b = get_or-set_other l v u (Some w) None (λ s. eqb-false v u b (sym s)) ∙ sym (or-none (get_or l u None))

-- one argument
bound_word : (l m : Letters) (a : Argument) (w : ℤ) → bind_word l a w ≡ Some m → Bound l (a ∷ []) (w ∷ []) m
bound_word l m (Letter v) w e = go (get_or l v None) refl e
  where
    go : (o : Option ℤ) → get_or l v None ≡ o → bind_letter o l v w ≡ Some m → Bound l (Letter v ∷ []) (w ∷ []) m
    go (Some b) f k = old (sameℤ b w) refl k
      where
        old : (t : Bool) → sameℤ b w ≡ t → cond t (Some l) None ≡ Some m → Bound l (Letter v ∷ []) (w ∷ []) m
        old true t q = let z : l ≡ m = cc in subst (λ (x : Letters). Bound l (Letter v ∷ []) (w ∷ []) x) z (bound_same l v w (f ∙ ap Some (same_word b w t)))
        old false t q = let z : ◌≡◌ {A = ℕ} 0 1 = cc in absurd (omega arith)
    go None f k = new (ltb v (length l)) refl k
      where
        new : (t : Bool) → ltb v (length l) ≡ t → cond t (Some (set l v (Some w))) None ≡ Some m → Bound l (Letter v ∷ []) (w ∷ []) m
        new true t q = let z : set l v (Some w) ≡ m = cc in subst (λ (x : Letters). Bound l (Letter v ∷ []) (w ∷ []) x) z (bound_new l v w (ltb-true v (length l) t) f)
        new false t q = let z : ◌≡◌ {A = ℕ} 0 1 = cc in absurd (omega arith)
bound_word l m (Constant k) w e = go (sameℤ k w) refl e
  where
    go : (t : Bool) → sameℤ k w ≡ t → cond t (Some l) None ≡ Some m → Bound l (Constant k ∷ []) (w ∷ []) m
    go true t q =
        let z : l ≡ m = cc in
        subst (λ (x : Letters). Bound l (Constant k ∷ []) (w ∷ []) x) z
        (record { wide = refl; words = λ v. sym (or-none (get_or l v None)); before = λ σ h. h; fit = λ σ h. and_from (sameℤ k w) true t refl; agree = λ σ h f. h })
    go false t q = let z : ◌≡◌ {A = ℕ} 0 1 = cc in absurd (omega arith)
bound_word l m Any w e =
    let z : l ≡ m = cc in
    subst (λ (x : Letters). Bound l (Any ∷ []) (w ∷ []) x) z
    (record { wide = refl; words = λ v. sym (or-none (get_or l v None)); before = λ σ h. h; fit = λ σ h. refl; agree = λ σ h f. h })

-- an argument is a letter below n, or none
abbrev pub letter_below : ℕ → Argument → Bool
letter_below n (Letter v) = ltb v n
letter_below n (Constant k) = true
letter_below n Any = true

unbound_word : (l : Letters) (a : Argument) (w : ℤ) (σ : Setting) → bind_word l a w ≡ None → letter_below (length l) a ≡ true → Agrees σ l → fits_word σ a w ≡ false
unbound_word l (Letter v) w σ e h g = go (get_or l v None) refl e
  where
    go : (o : Option ℤ) → get_or l v None ≡ o → bind_letter o l v w ≡ None → sameℤ (σ v) w ≡ false
    go (Some b) f k = old (sameℤ b w) refl k
      where
        old : (t : Bool) → sameℤ b w ≡ t → cond t (Some l) None ≡ None → sameℤ (σ v) w ≡ false
        old true t q = cc
        old false t q = ap (λ x. sameℤ x w) (g v b f) ∙ t
    go None f k = let q = ap (λ t. cond t (Some (set l v (Some w))) None) (sym h) ∙ k in cc
unbound_word l (Constant k) w σ e h g = go (sameℤ k w) refl e
  where
    go : (t : Bool) → sameℤ k w ≡ t → cond t (Some l) None ≡ None → sameℤ k w ≡ false
    go true t q = cc
    go false t q = t
unbound_word l Any w σ e h g = cc

-- arguments one after the other
pub bound_words : (l m : Letters) (as' : List Argument) (ws : List ℤ) → bind_words l as' ws ≡ Some m → Bound l as' ws m
bound_words l m [] [] e = let z : l ≡ m = cc in subst (λ (x : Letters). Bound l [] [] x) z (bound_none l)
bound_words l m [] (w ∷ ws) e = let z : ◌≡◌ {A = ℕ} 0 1 = cc in absurd (omega arith)
bound_words l m (a ∷ rest) [] e = let z : ◌≡◌ {A = ℕ} 0 1 = cc in absurd (omega arith)
bound_words l m (a ∷ rest) (w ∷ ws) e = go (bind_word l a w) refl (λ n. bound_words n m rest ws) e
  where
    go : (o : Option Letters) → bind_word l a w ≡ o → ((n : Letters) → bind_words n rest ws ≡ Some m → Bound n rest ws m) → option_and_then (λ n. bind_words n rest ws) o ≡ Some m → Bound l (a ∷ rest) (w ∷ ws) m
    go None f below k = let z : ◌≡◌ {A = ℕ} 0 1 = cc in absurd (omega arith)
    go (Some n) f below k = bound_more l n m a rest w ws (bound_word l n a w f) (below n k)

pub unbound_words : (l : Letters) (as' : List Argument) (ws : List ℤ) (σ : Setting) → bind_words l as' ws ≡ None → all (letter_below (length l)) as' ≡ true → Agrees σ l → fits_words σ as' ws ≡ false
unbound_words l [] [] σ e h g = cc
unbound_words l [] (w ∷ ws) σ e h g = refl
unbound_words l (a ∷ rest) [] σ e h g = refl
unbound_words l (a ∷ rest) (w ∷ ws) σ e h g =
    let p = and_parts (letter_below (length l) a) (all (letter_below (length l)) rest) h in
    go p.0 p.1 (bind_word l a w) refl (λ n. unbound_words n rest ws σ) e
  where
    go : letter_below (length l) a ≡ true → all (letter_below (length l)) rest ≡ true → (o : Option Letters) → bind_word l a w ≡ o → ((n : Letters) → bind_words n rest ws ≡ None → all (letter_below (length n)) rest ≡ true → Agrees σ n → fits_words σ rest ws ≡ false) → option_and_then (λ n. bind_words n rest ws) o ≡ None → (fits_word σ a w && fits_words σ rest ws) ≡ false
    go here behind None f below k = and_left (fits_word σ a w) (fits_words σ rest ws) (unbound_word l a w σ f here g)
    go here behind (Some n) f below k = split (fits_word σ a w) refl
      where
        b : Bound l (a ∷ []) (w ∷ []) n
        b = bound_word l n a w f

        split : (t : Bool) → fits_word σ a w ≡ t → (fits_word σ a w && fits_words σ rest ws) ≡ false
        split false t = and_left (fits_word σ a w) (fits_words σ rest ws) t
        split true t =
            and_right (fits_word σ a w) (fits_words σ rest ws)
            (below n k (subst (λ j. all (letter_below j) rest ≡ true) (sym b.wide) behind) (b.agree σ g (and_from (fits_word σ a w) true t refl)))

-- a head at a fact
pub bound_fact : (l m : Letters) (p : Pattern) (f : Fact) → bind_fact l p f ≡ Some m → (p.kind ≡ f.kind) × Bound l p.args f.words m
bound_fact l m p f e = go (eqb p.kind f.kind) refl e
  where
    go : (t : Bool) → eqb p.kind f.kind ≡ t → cond t (bind_words l p.args f.words) None ≡ Some m → (p.kind ≡ f.kind) × Bound l p.args f.words m
    go true t q = (eqb-true p.kind f.kind t, bound_words l m p.args f.words q)
    go false t q = let z : ◌≡◌ {A = ℕ} 0 1 = cc in absurd (omega arith)

pub unbound_fact : (l : Letters) (p : Pattern) (f : Fact) (σ : Setting) → bind_fact l p f ≡ None → all (letter_below (length l)) p.args ≡ true → Agrees σ l → fits σ p f ≡ false
unbound_fact l p f σ e h g = go (eqb p.kind f.kind) refl e
  where
    go : (t : Bool) → eqb p.kind f.kind ≡ t → cond t (bind_words l p.args f.words) None ≡ None → fits σ p f ≡ false
    go true t q = and_right (eqb p.kind f.kind) (fits_words σ p.args f.words) (unbound_words l p.args f.words σ q h g)
    go false t q = and_left (eqb p.kind f.kind) (fits_words σ p.args f.words) t
