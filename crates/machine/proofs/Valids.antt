-- Every fact of a ledger is valid, where the constants of the rules are.
use Rattle.std.proofs.Common.{◌≡◌, ℕ, zero, suc, ◌-◌, ◌<◌, ◌≤◌, Bool, true, false, cond, not, ◌&&◌, ◌⊎◌, eqb, leb, ltb, List, [], ◌∷◌, ◌++◌, map, length, get_or, ℤ, pos, Some, None, Ok, Err, Option, Result, sym, refl, ap, ◌∙◌, subst, inl, inr, arith}
use Rattle.std.specs.Prelude.{flat_map, option_map}
use mathlib.Core.Bool.{false≢true}
use mathlib.Core.List.Memᴰ
use mathlib.Core.List.{Memᴰ}
use lib.ListN.{length-map}
use Rattle.std.proofs.lemmas.Bool.{cond_both, and_parts, and_from, leb-true, le-leb, ltb-true, ltb-false, eqb-true, eq-eqb}
use Rattle.facts.specs.declared.fact_types.Fact.{Fact}
use Rattle.facts.specs.System.{System, Lawful}
use Rattle.rules.specs.declared.rule_types.Argument.{Argument}
use Rattle.rules.specs.declared.rule_types.Argument.TheVariants.{Letter, Constant, Any}
use Rattle.rules.specs.declared.rule_types.GiveAll.{GiveAll}
use Rattle.rules.specs.declared.rule_types.Operand.{Operand}
use Rattle.rules.specs.declared.rule_types.Operand.TheVariants as operand
use Rattle.rules.specs.declared.rule_types.Pattern.{Pattern}
use Rattle.rules.specs.declared.rule_types.RuleFault.TheVariants as fault
use Rattle.rules.specs.declared.rule_types.Template.{Template}
use Rattle.rules.specs.declared.rule_types.Term.{Term}
use Rattle.rules.specs.declared.rule_types.Term.TheVariants.{One, Two}
use Rattle.rules.specs.Rules.{AllHead, Rule, singles, all, bound}
use Rattle.rules.specs.Writing.{◌>>=◌, each, kind_verdict, over_verdict, operand_verdict, term_verdict, template_verdict, giveall_verdict}
use Rattle.rules.specs.Closed.{accepted}
use Rattle.stores.specs.Store.{last_kind}
use Rattle.machine.specs.declared.answer_types.Answer.{Answer}
use Rattle.machine.specs.declared.answer_types.Answer.TheVariants.{Quiet, Stored, Woken, Dropped, Passed, Applied, Refused}
use Rattle.machine.specs.declared.answer_types.PostFault.{PostFault}
use Rattle.machine.specs.declared.answer_types.PostFault.TheVariants.{Kind, Word}
use Rattle.machine.specs.Lists.{tally, together}
use Rattle.machine.specs.Fitting.{Setting, fits_each, holds, operand_value, term_value, letter_word, or_else, letter_in, all_values, given, body}
use Rattle.machine.specs.Machine.{Frame, State, kept_alls, fact_verdict, facts_verdict, room_verdict, shortage, post_answer}
use Rattle.machine.specs.Ledger.{ledger, Applies, Act, posting, stepping, running, reading, Reply, to_post, to_step, reply, History, created, acted, Change, brought, used, Numbered, Leads, unchanged, by_facts, by_rule, AllUsed, Reports, PostsHaveThreeWords, HasValidConstants, has_three_terms, LedgerFactsAreValid}
use Rattle.machine.proofs.Lists.{Each, Each-append, Each-map}
use Rattle.machine.proofs.Counts.{one, tally-append, tally-member}
use Rattle.machine.proofs.Stands.{RuleStands, rule-stands, behind-number, kind-accepted, cond_accepted, each-accepted}
use Rattle.machine.proofs.Settings.{letter_in-is}
use Rattle.machine.proofs.Accounts.{act_grown, history_good}
use Rattle.machine.proofs.Rooms.{some-none, some-some}

-- lists -----------------------------------------------------------------------------------------------

pub each-from : {X : Type 0} (P : X → Type 0) (xs : List X) → ((x : X) → Memᴰ x xs → P x) → Each P xs
each-from P [] f = tt
each-from P (x ∷ xs) f = (f x (Memᴰ.head refl), each-from P xs (λ y m. f y (Memᴰ.tail m)))

pub each_flat : {X Y : Type 0} (P : Y → Type 0) (f : X → List Y) (xs : List X) → Each (λ x. Each P (f x)) xs → Each P (flat_map f xs)
each_flat P f [] h = tt
each_flat P f (x ∷ xs) h = Each-append P (f x) (flat_map f xs) h.0 (each_flat P f xs h.1)

all-member : {X : Type 0} (p : X → Bool) {x : X} {xs : List X} → Memᴰ x xs → all p xs ≡ true → p x ≡ true
all-member p (Memᴰ.head {x = y} {xs = ys} e) h = ap p e ∙ (and_parts (p y) (all p ys) h).0
all-member p (Memᴰ.tail {x = y} {xs = ys} m) h = all-member p m (and_parts (p y) (all p ys) h).1

pub all-each : {X : Type 0} (p : X → Bool) (xs : List X) → Each (λ x. p x ≡ true) xs → all p xs ≡ true
all-each p [] h = refl
all-each p (x ∷ xs) h = and_from (p x) (all p xs) h.0 (all-each p xs h.1)

all-at : {X : Type 0} (p : X → Bool) (xs : List X) (i : ℕ) (d : X) → all p xs ≡ true → i < length xs → p (get_or xs i d) ≡ true
all-at p [] i d h l = absurd (omega arith)
all-at p (x ∷ xs) zero d h l = (and_parts (p x) (all p xs) h).0
all-at p (x ∷ xs) (suc i) d h l = all-at p xs i d (and_parts (p x) (all p xs) h).1 (omega arith)

index_together : {X : Type 0} (ts : List (List X)) (i : ℕ) {x : X} → Memᴰ x (get_or ts i []) → Memᴰ x (together ts)
index_together [] i m = absurd (Memᴰ.not-nil m)
index_together (t ∷ ts) zero m = Memᴰ.append_left (together ts) m
index_together (t ∷ ts) (suc i) m = Memᴰ.append_right t (index_together ts i m)

-- all values of a list, each of which is one
pub values_some : {X : Type 0} (P : X → Type 0) (os : List (Option X)) → Each (λ o. (x : X) → o ≡ Some x → P x) os → (xs : List X) → all_values os ≡ Some xs →
    Each P xs × (length xs ≡ length os)
values_some P [] h xs e = subst (λ l. Each P l × (length l ≡ 0)) (some-some [] xs e) (tt, refl)
values_some P (None ∷ os) h xs e = absurd (some-none xs (sym e))
values_some {X} P (Some x ∷ os) h xs e = go (all_values os) (λ ys q. values_some P os h.1 ys q) refl e
  where
    go : (o : Option (List X)) → ((ys : List X) → all_values os ≡ Some ys → Each P ys × (length ys ≡ length os)) → all_values os ≡ o →
        option_map (λ l. x ∷ l) o ≡ Some xs → Each P xs × (length xs ≡ suc (length os))
    go None more q k = absurd (some-none xs (sym k))
    go (Some ys) more q k =
        let below = more ys q in
        subst (λ l. Each P l × (length l ≡ suc (length os))) (some-some (x ∷ ys) xs k) ((h.0 x refl, below.0), ap suc below.1)

-- valid facts -----------------------------------------------------------------------------------------

abbrev pub valid_fact : System → Fact → Bool
valid_fact s f = leb f.kind last_kind && (all s.valid f.words && eqb (length f.words) 3)

abbrev pub Valid : System → Fact → Type 0
Valid s f = valid_fact s f ≡ true

abbrev invalid : System → Fact → Bool
invalid s f = not (valid_fact s f)

-- no fact of a list is invalid, whatever their order
abbrev pub Clean : System → List Fact → Type 0
Clean s l = tally (invalid s) l ≡ 0

valid-words : (s : System) (f : Fact) → Valid s f → all s.valid f.words ≡ true
valid-words s f v = (and_parts (all s.valid f.words) (eqb (length f.words) 3) (and_parts (leb f.kind last_kind) (all s.valid f.words && eqb (length f.words) 3) v).1).0

valid-three : (s : System) (f : Fact) → Valid s f → length f.words ≡ 3
valid-three s f v =
    eqb-true (length f.words) 3
    (and_parts (all s.valid f.words) (eqb (length f.words) 3) (and_parts (leb f.kind last_kind) (all s.valid f.words && eqb (length f.words) 3) v).1).1

make_valid : (s : System) (f : Fact) → f.kind ≤ 63 → all s.valid f.words ≡ true → length f.words ≡ 3 → Valid s f
make_valid s f k w l =
    and_from (leb f.kind last_kind) (all s.valid f.words && eqb (length f.words) 3) (le-leb f.kind last_kind k)
    (and_from (all s.valid f.words) (eqb (length f.words) 3) w (eq-eqb (length f.words) 3 l))

clean_each : (s : System) (l : List Fact) → Each (Valid s) l → Clean s l
clean_each s [] h = refl
clean_each s (f ∷ l) h = omega (arith, ap (λ (b : Bool). one (not b)) h.0, clean_each s l h.1)

clean_member : (s : System) (l : List Fact) (f : Fact) → Clean s l → Memᴰ f l → Valid s f
clean_member s l f c m = go (valid_fact s f) refl
  where
    go : (b : Bool) → valid_fact s f ≡ b → b ≡ true
    go true e = refl
    go false e = absurd (omega (arith, c, tally-member (invalid s) f l (ap not e) m))

-- what a rule gives -----------------------------------------------------------------------------------

tally-kept-alls : (p : Fact → Bool) (hs : List AllHead) (ts : List (List Fact)) → tally p (kept_alls hs ts) ≤ tally p (together ts)
tally-kept-alls p [] ts = omega arith
tally-kept-alls p (a ∷ hs) [] = omega arith
tally-kept-alls p (a ∷ hs) (t ∷ ts) =
    omega (
      arith,
      tally-append p (cond a.drops [] t) (kept_alls hs ts),
      tally-append p t (together ts),
      tally-kept-alls p hs ts,
      cond_both a.drops [] t (λ (l : List Fact). tally p l ≤ tally p t) (λ e. omega arith) (λ e. omega arith),
    )

module _ (s : System) where
  -- the word of a letter is one of the facts'
  letter-word-valid : (v : ℕ) (as' : List Argument) (ws : List ℤ) → all s.valid ws ≡ true → (w : ℤ) → letter_word v as' ws ≡ Some w → s.valid w ≡ true
  letter-word-valid v [] ws h w e = absurd (some-none w (sym e))
  letter-word-valid v (a ∷ rest) [] h w e = absurd (some-none w (sym e))
  letter-word-valid v (Letter u ∷ rest) (x ∷ ws) h w e' =
      let p = and_parts (s.valid x) (all s.valid ws) h in
      cond_both (eqb u v) (Some x) (letter_word v rest ws) (λ (o : Option ℤ). o ≡ Some w → s.valid w ≡ true)
      (λ t e. ap s.valid (sym (some-some x w e)) ∙ p.0) (λ t e. letter-word-valid v rest ws p.1 w e) e'
  letter-word-valid v (Constant k ∷ rest) (x ∷ ws) h w e = letter-word-valid v rest ws (and_parts (s.valid x) (all s.valid ws) h).1 w e
  letter-word-valid v (Any ∷ rest) (x ∷ ws) h w e = letter-word-valid v rest ws (and_parts (s.valid x) (all s.valid ws) h).1 w e

  or_else-some : (o q : Option ℤ) (w : ℤ) → or_else o q ≡ Some w → (o ≡ Some w) ⊎ (q ≡ Some w)
  or_else-some (Some x) q w e = inl e
  or_else-some None q w e = inr e

  letter_in-valid : (v : ℕ) (ps : List Pattern) (fs : List Fact) → Each (Valid s) fs → (w : ℤ) → letter_in v ps fs ≡ Some w → s.valid w ≡ true
  letter_in-valid v [] fs h w e = absurd (some-none w (sym e))
  letter_in-valid v (p ∷ ps) [] h w e = absurd (some-none w (sym e))
  letter_in-valid v (p ∷ ps) (f ∷ fs) h w e = elim (or_else-some (letter_word v p.args f.words) (letter_in v ps fs) w e) [
    | inl q ↦ letter-word-valid v p.args f.words (valid-words s f h.0) w q
    | inr q ↦ letter_in-valid v ps fs h.1 w q
  ]

  -- terms of a rule, where its letters and what is taken have valid words
  module _ (lawful : Lawful s) (r : Rule) (σ : Setting) (letters : (v : ℕ) → bound r v ≡ true → s.valid (σ v) ≡ true) where
    module _ (flag : Bool) (ts : List ℤ) (taken : flag ≡ true → (all s.valid ts ≡ true) × (length ts ≡ 3)) where
      operand-valid : (a : Operand) → accepted (operand_verdict s.valid r flag a) ≡ true → s.valid (operand_value σ ts a) ≡ true
      operand-valid (operand.Letter v) e = letters v (cond_accepted (bound r v) fault.Letter e)
      operand-valid (operand.Constant z) e = cond_accepted (s.valid z) fault.Word e
      operand-valid (operand.Taken i) e =
          let h = and_parts flag (ltb i 3) (cond_accepted (flag && ltb i 3) fault.Letter e) in
          let k = taken h.0 in
          all-at s.valid ts i (pos 0) k.0 (omega (arith, ltb-true i 3 h.1, k.1))

      term-valid : (t : Term) → accepted (term_verdict s.valid r flag t) ≡ true → (w : ℤ) → term_value s σ ts t ≡ Some w → s.valid w ≡ true
      term-valid (One a) e w q = ap s.valid (sym (some-some (operand_value σ ts a) w q)) ∙ operand-valid a e
      term-valid (Two a o b) e w q = lawful.closed o (operand_value σ ts a) (operand_value σ ts b) w q

      given-valid : (t : Template) → accepted (template_verdict (term_verdict s.valid r flag) t) ≡ true → eqb (length t.terms) 3 ≡ true →
          (f : Fact) → given s σ ts t ≡ Some f → Valid s f
      given-valid t e l f q = go (all_values (map (term_value s σ ts) t.terms)) refl q
        where
          go : (o : Option (List ℤ)) → all_values (map (term_value s σ ts) t.terms) ≡ o →
              option_map {U = Fact} (λ ws. record { kind = t.kind; words = ws }) o ≡ Some f → Valid s f
          go None p k = absurd (some-none f (sym k))
          go (Some ws) p k =
              let judge = term_verdict s.valid r flag in
              let terms = behind-number (kind_verdict (pos t.kind)) (each judge t.terms) e in
              let all' = values_some (λ w. s.valid w ≡ true) (map (term_value s σ ts) t.terms)
              (Each-map (λ (o : Option ℤ). (w : ℤ) → o ≡ Some w → s.valid w ≡ true) (term_value s σ ts) t.terms
              (each-from (λ x. (w : ℤ) → term_value s σ ts x ≡ Some w → s.valid w ≡ true) t.terms (λ x m. term-valid x (each-accepted judge m terms)))) ws p in
              subst (λ (g : Fact). Valid s g) (some-some _ f k)
              (make_valid s (record { kind = t.kind; words = ws }) (omega (arith, kind-accepted t.kind (each judge t.terms) e)) (all-each s.valid ws all'.0)
              (all'.1 ∙ length-map t.terms (term_value s σ ts) ∙ eqb-true (length t.terms) 3 l))

    body-valid : (taken : List (List Fact)) → RuleStands s.valid r → has_three_terms r ≡ true → Clean s (together taken) →
        (fs : List Fact) → body s σ r taken ≡ Some fs → Each (Valid s) fs
    body-valid taken st three clean fs e =
        let Q : Option Fact → Type 0 = λ o. (f : Fact) → o ≡ Some f → Valid s f in
        let h = and_parts (all (λ (t : Template). eqb (length t.terms) 3) r.gives) (all (λ (g : GiveAll). eqb (length g.each.terms) 3) r.givealls) three in
        let over : GiveAll → List (Option Fact) = λ g. map (λ f. given s σ f.words g.each) (get_or taken (g.over - 1) []) in
        (values_some (Valid s) (map (given s σ []) r.gives ++ flat_map over r.givealls)
        (Each-append Q (map (given s σ []) r.gives) (flat_map over r.givealls)
        (Each-map Q (given s σ []) r.gives
        (each-from (λ t. Q (given s σ [] t)) r.gives
        (λ t m. given-valid false [] (λ q. absurd (false≢true q)) t (each-accepted (template_verdict (term_verdict s.valid r false)) m st.gives)
        (all-member (λ (t : Template). eqb (length t.terms) 3) m h.0))))
        (each_flat Q over r.givealls
        (each-from (λ g. Each Q (over g)) r.givealls
        (λ g m. Each-map Q (λ f. given s σ f.words g.each) (get_or taken (g.over - 1) [])
        (each-from (λ f. Q (given s σ f.words g.each)) (get_or taken (g.over - 1) [])
        (λ f n.
        let v = clean_member s (together taken) f clean (index_together taken (g.over - 1) n) in
        given-valid true f.words (λ q. (valid-words s f v, valid-three s f v)) g.each
        (behind-number (over_verdict r (pos g.over)) (template_verdict (term_verdict s.valid r true) g.each) (each-accepted (giveall_verdict s.valid r) m st.givealls))
        (all-member (λ (g : GiveAll). eqb (length g.each.terms) 3) m h.1))))))) fs e).0

-- changes ---------------------------------------------------------------------------------------------

abbrev CleanChange : System → Change → Type 0
CleanChange s (brought fs) = Clean s fs
CleanChange s (used a) = Unit {0}

numbered-mem : {rs : List Rule} {n : ℕ} {r : Rule} → Numbered rs n r → Memᴰ r rs
numbered-mem {r = r} m = subst (λ (l : List Rule). Memᴰ r l) (sym m.2) (Memᴰ.append_right m.0 (Memᴰ.head refl))

module _ (fr : Frame) (k : HasValidConstants fr) where
  applies_clean : (r : Rule) (l m : List Fact) → Memᴰ r fr.rules → Applies fr.system r l m → Clean fr.system l → Clean fr.system m
  applies_clean r l m n x c =
      let s = fr.system in
      let p = invalid s in
      let G = x.gone ++ (together x.taken ++ x.others) in
      let a = tally-append p x.kept G in
      let b = tally-append p x.gone (together x.taken ++ x.others) in
      let d = tally-append p (together x.taken) x.others in
      let e = x.parts p in
      let heads : Clean s (x.kept ++ x.gone) = omega (arith, tally-append p x.kept x.gone, a, b, d, e, c) in
      let took : Clean s (together x.taken) = omega (arith, a, b, d, e, c) in
      let fit = (and_parts (fits_each x.setting (singles r) (x.kept ++ x.gone)) (all (holds s x.setting []) r.whens) x.ready).0 in
      let each' = each-from (Valid s) (x.kept ++ x.gone) (λ f i. clean_member s (x.kept ++ x.gone) f heads i) in
      let letters : (v : ℕ) → bound r v ≡ true → s.valid (x.setting v) ≡ true =
      λ v t. letter_in-valid s v (singles r) (x.kept ++ x.gone) each' (x.setting v) (letter_in-is x.setting v (singles r) (x.kept ++ x.gone) fit t) in
      let given' = clean_each s x.given
      (body-valid s k.lawful r x.setting letters x.taken (rule-stands s.valid k.stands n) (all-member has_three_terms n k.three) took x.given x.gives) in
      omega (
        arith,
        x.ends p,
        tally-append p x.kept (kept_alls r.alls x.taken ++ (x.others ++ x.given)),
        tally-append p (kept_alls r.alls x.taken) (x.others ++ x.given),
        tally-append p x.others x.given,
        tally-kept-alls p r.alls x.taken,
        given',
        a,
        b,
        d,
        e,
        c,
      )

  leads_clean : {ds : List Change} {l m : List Fact} → Leads fr ds l m → Each (CleanChange fr.system) ds → Clean fr.system l → Clean fr.system m
  leads_clean (unchanged e) h c = e (invalid fr.system) ∙ c
  leads_clean (by_facts {l = l} fs b e) h c =
      omega (arith, e (invalid fr.system), tally-append (invalid fr.system) l fs, h.0, leads_clean b h.1 c)
  leads_clean (by_rule {l = l} {m = m} a r ps ws b e num x told) h c = applies_clean r l m (numbered-mem num) x (leads_clean b h.1 c)

-- histories -------------------------------------------------------------------------------------------

abbrev passes : Result (Unit {0}) PostFault → Bool
passes (Ok u) = true
passes (Err e) = false

then_passes : (a b : Result (Unit {0}) PostFault) → passes (a >>= λ _. b) ≡ true → (passes a ≡ true) × (passes b ≡ true)
then_passes (Ok u) b e = (refl, e)
then_passes (Err f) b e = absurd (false≢true e)

fact-passes : (s : System) (n : ℕ) (f : Fact) → length f.words ≡ 3 → passes (fact_verdict s n f) ≡ true → Valid s f
fact-passes s n f l =
    cond_both (ltb last_kind f.kind) (Err (Kind n)) (cond (all s.valid f.words) (Ok tt) (Err (Word n))) (λ (r : Result (Unit {0}) PostFault). passes r ≡ true → Valid s f)
    (λ t e. absurd (false≢true e))
    (λ t. cond_both (all s.valid f.words) (Ok tt) (Err (Word n)) (λ (r : Result (Unit {0}) PostFault). passes r ≡ true → Valid s f)
    (λ w e. make_valid s f (ltb-false last_kind f.kind t) w l)
    (λ w e. absurd (false≢true e)))

facts_pass : (s : System) (n : ℕ) (fs : List Fact) → ((f : Fact) → Memᴰ f fs → length f.words ≡ 3) → passes (facts_verdict s n fs) ≡ true → Each (Valid s) fs
facts_pass s n [] l e = tt
facts_pass s n (f ∷ fs) l e =
    let h = then_passes (fact_verdict s n f) (facts_verdict s (suc n) fs) e in
    (fact-passes s n f (l f (Memᴰ.head refl)) h.0, facts_pass s (suc n) fs (λ g m. l g (Memᴰ.tail m)) h.1)

all_used_clean : (s : System) (ds : List Change) → AllUsed ds → Each (CleanChange s) ds
all_used_clean s [] u = tt
all_used_clean s (brought fs ∷ ds) u = absurd u
all_used_clean s (used a ∷ ds) u = (tt, all_used_clean s ds u)

no_change : (s : System) (ds : List Change) → ds ≡ [] → Each (CleanChange s) ds
no_change s ds e = subst (λ (l : List Change). Each (CleanChange s) l) (sym e) tt

step-changes : (s : System) (ns ms : List ℕ) (y : Answer) (ds : List Change) → Reports (stepping ns) (to_step y ms) ds → Each (CleanChange s) ds
step-changes s ns ms Quiet ds r = no_change s ds r
step-changes s ns ms Stored ds r = no_change s ds r
step-changes s ns ms Woken ds r = no_change s ds r
step-changes s ns ms Dropped ds r = no_change s ds r
step-changes s ns ms Passed ds r = no_change s ds r
step-changes s ns ms (Applied y) ds r = subst (λ (l : List Change). Each (CleanChange s) l) (sym r.2) (tt, tt)
step-changes s ns ms (Refused e) ds r = no_change s ds r

module _ (fr : Frame) (st : State) where
  post_changes : (fs : List Fact) → ((f : Fact) → Memᴰ f fs → length f.words ≡ 3) → (o : Result (Unit {0}) PostFault) → post_answer fr fs st ≡ o →
      (ds : List Change) → Reports (posting fs) (to_post o) ds → Each (CleanChange fr.system) ds
  post_changes fs l (Ok u) e ds r =
      let h = then_passes (facts_verdict fr.system 1 fs) (room_verdict (shortage fr fs st)) (ap passes e) in
      subst (λ (l : List Change). Each (CleanChange fr.system) l) (sym r) (clean_each fr.system fs (facts_pass fr.system 1 fs l h.0), tt)
  post_changes fs l (Err f) e ds r = no_change fr.system ds r

  act_changes : (a : Act) → ((fs : List Fact) → a ≡ posting fs → (f : Fact) → Memᴰ f fs → length f.words ≡ 3) →
      (ds : List Change) → Reports a (reply fr a st) ds → Each (CleanChange fr.system) ds
  act_changes (posting fs) l ds r = post_changes fs (l fs refl) (post_answer fr fs st) refl ds r
  act_changes (stepping ns) l ds r = step-changes fr.system ns _ _ ds r
  act_changes (running ns budget) l ds r = all_used_clean fr.system ds r.1
  act_changes (reading n) l ds r = no_change fr.system ds r

history_clean : (fr : Frame) → HasValidConstants fr → (h : List (Act × Reply)) (st : State) → History fr h st → PostsHaveThreeWords h → Clean fr.system (ledger st)
history_clean fr k h st created l = refl
history_clean fr k h st (acted {h = h'} {st = st'} before a) l =
    let g = (history_good fr h' st' before).4 in
    let d = act_grown g a in
    let y = reply fr a st' in
    leads_clean fr k d.2
    (act_changes fr st' a (λ fs e. l fs y (Memᴰ.head (λ i. (sym e i, y)))) d.0 d.1)
    (history_clean fr k h' st' before (λ fs z m. l fs z (Memᴰ.tail m)))

pub ledger-facts-valid : LedgerFactsAreValid
ledger-facts-valid fr k h st x l f m =
    let s = fr.system in
    let v = clean_member s (ledger st) f (history_clean fr k h st x l) m in
    let p = and_parts (leb f.kind last_kind) (all s.valid f.words && eqb (length f.words) 3) v in
    record { kind = leb-true f.kind last_kind p.0; words = valid-words s f v; three = valid-three s f v }
