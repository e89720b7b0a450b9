-- A rule stays one whose parts pass, whichever part the writer adds: a verdict that passes in a rule passes in one with more
-- heads, and under a test that more words pass.
use Rattle.std.proofs.Common.{◌≡◌, ℕ, ◌<◌, ◌≤◌, Bool, true, false, cond, ◌&&◌, eqb, ltb, leb, List, [], ◌∷◌, ◌++◌, length, ℤ, pos, Ok, Err, Result, sym, refl, ap, subst, ◌∙◌, inl, inr, append_assoc, append-nil, arith, length-append}
use Rattle.std.proofs.lemmas.Bool.{and_parts, and_from, leb-true, le-leb, or_left, or_right, or_cases, ltb-true, or_from, ne_eqb}
use Rattle.rules.specs.declared.rule_types.Argument.{Argument}
use Rattle.rules.specs.declared.rule_types.Argument.TheVariants as argument
use Rattle.rules.specs.declared.rule_types.Operand.{Operand}
use Rattle.rules.specs.declared.rule_types.Operand.TheVariants.{Letter, Constant, Taken}
use Rattle.rules.specs.declared.rule_types.Term.{Term}
use Rattle.rules.specs.declared.rule_types.Term.TheVariants.{One, Two}
use Rattle.rules.specs.declared.rule_types.Comparison.{Comparison}
use Rattle.rules.specs.declared.rule_types.Pattern.{Pattern}
use Rattle.rules.specs.declared.rule_types.Template.{Template}
use Rattle.rules.specs.declared.rule_types.GiveAll.{GiveAll}
use Rattle.rules.specs.declared.rule_types.RuleFault.{RuleFault}
use Rattle.rules.specs.declared.rule_types.RuleFault.TheVariants as fault
use Rattle.rules.specs.declared.rule_types.RuleFault.TheVariants.{NoAllHead}
use Rattle.rules.specs.declared.rule_types.HeadSort.TheVariants.{Keep, Drop, KeepAll, DropAll, Only, When}
use Rattle.rules.specs.declared.rule_types.BodySort.TheVariants as body
use Rattle.rules.specs.declared.rule_types.HeadPart.{HeadPart}
use Rattle.rules.specs.declared.rule_types.HeadPart.TheVariants as head_part
use Rattle.rules.specs.declared.rule_types.BodyPart.{BodyPart}
use Rattle.rules.specs.declared.rule_types.BodyPart.TheVariants as body_part
use Rattle.rules.specs.Rules.{AllHead, Rule, singles, any, is_letter, bound}
use Rattle.rules.specs.Writing.{◌>>=◌, each, may_add, may_add_body, kind_verdict, over_verdict, single_verdict, all_verdict, operand_verdict, term_verdict, pattern_verdict, comparison_verdict, template_verdict, giveall_verdict, with_keep, with_drop, with_all, to_last, with_only, with_when, with_give, with_giveall, add_head, add_body, after}
use Rattle.rules.specs.Tables.{may_end}
use Rattle.rules.specs.Closed.{accepted, all_head_verdict, parts_verdict, rule_verdict, stand, names}

pub no_ok : {X : Type 0} (e : RuleFault) (x : X) → ◌≡◌ {A = Result X RuleFault} (Err e) (Ok x) → ⊥
no_ok e x h = let z : ◌≡◌ {A = ℕ} 0 1 = cc in omega arith

-- verdicts --------------------------------------------------------------------------------------------------------------

abbrev Verdict : Type 0
Verdict = Result (Unit {0}) RuleFault

pub fine_accepted : (v : Verdict) → accepted v ≡ true → v ≡ Ok tt
fine_accepted (Ok u) h = refl
fine_accepted (Err e) h = let z : ◌≡◌ {A = ℕ} 0 1 = cc in absurd (omega arith)

pub then_fine : (a b : Verdict) → (a >>= λ _. b) ≡ Ok tt → (a ≡ Ok tt) × (b ≡ Ok tt)
then_fine (Ok u) b h = (refl, h)
then_fine (Err e) b h = absurd (no_ok e tt h)

pub both_fine : (a b : Verdict) → a ≡ Ok tt → b ≡ Ok tt → (a >>= λ _. b) ≡ Ok tt
both_fine a b p q = rw p q

-- what follows passes still
kept_then : {X : Type 0} (a : Result X RuleFault) (b c : Verdict) → (b ≡ Ok tt → c ≡ Ok tt) → (a >>= λ _. b) ≡ Ok tt → (a >>= λ _. c) ≡ Ok tt
kept_then (Ok x) b c f h = f h
kept_then (Err e) b c f h = absurd (no_ok e tt h)

-- a test that has to pass
abbrev tested : Bool → RuleFault → Verdict
tested b e = cond b (Ok tt) (Err e)

test_fine : (b : Bool) (e : RuleFault) → tested b e ≡ Ok tt → b ≡ true
test_fine true e h = refl
test_fine false e h = absurd (no_ok e tt h)

fine_test : (b : Bool) (e : RuleFault) → b ≡ true → tested b e ≡ Ok tt
fine_test b e h = rw h

each_up : {X : Type 0} (judge more : X → Verdict) → ((x : X) → judge x ≡ Ok tt → more x ≡ Ok tt) → (xs : List X) → each judge xs ≡ Ok tt → each more xs ≡ Ok tt
each_up judge more f [] h = refl
each_up judge more f (x ∷ xs) h =
    let p = then_fine (judge x) (each judge xs) h in both_fine (more x) (each more xs) (f x p.0) (each_up judge more f xs p.1)

pub each-push : {X : Type 0} (judge : X → Verdict) (xs : List X) (x : X) → each judge xs ≡ Ok tt → judge x ≡ Ok tt → each judge (xs ++ (x ∷ [])) ≡ Ok tt
each-push judge [] x h k = both_fine (judge x) (Ok tt) k refl
each-push judge (y ∷ ys) x h k =
    let p = then_fine (judge y) (each judge ys) h in both_fine (judge y) (each judge (ys ++ (x ∷ []))) p.0 (each-push judge ys x p.1 k)

-- one rule has the letters and all heads of another -----------------------------------------------------------------------

pub record Extends (r s : Rule) : Type 0 where
  pub letters : (n : ℕ) → bound r n ≡ true → bound s n ≡ true
  pub alls : length r.alls ≤ length s.alls

abbrev MoreWords : (ℤ → Bool) → (ℤ → Bool) → Type 0
MoreWords valid v = (z : ℤ) → valid z ≡ true → v z ≡ true

single_up : (valid v : ℤ → Bool) → MoreWords valid v → (a : Argument) → single_verdict valid a ≡ Ok tt → single_verdict v a ≡ Ok tt
single_up valid v m (argument.Letter n) h = h
single_up valid v m (argument.Constant z) h = fine_test (v z) fault.Word (m z (test_fine (valid z) fault.Word h))
single_up valid v m argument.Any h = h

pattern_up : (judge more : Argument → Verdict) → ((a : Argument) → judge a ≡ Ok tt → more a ≡ Ok tt) → (p : Pattern) → pattern_verdict judge p ≡ Ok tt → pattern_verdict more p ≡ Ok tt
pattern_up judge more f p = kept_then (kind_verdict (pos p.kind)) (each judge p.args) (each more p.args) (each_up judge more f p.args)

module _ (valid v : ℤ → Bool) (m : MoreWords valid v) (r s : Rule) (x : Extends r s) where
  all_up : (a : Argument) → all_verdict valid r a ≡ Ok tt → all_verdict v s a ≡ Ok tt
  all_up (argument.Letter n) h = fine_test (bound s n) fault.Letter (x.letters n (test_fine (bound r n) fault.Letter h))
  all_up (argument.Constant z) h = fine_test (v z) fault.Word (m z (test_fine (valid z) fault.Word h))
  all_up argument.Any h = h

  operand_up : (t : Bool) (a : Operand) → operand_verdict valid r t a ≡ Ok tt → operand_verdict v s t a ≡ Ok tt
  operand_up t (Letter n) h = fine_test (bound s n) fault.Letter (x.letters n (test_fine (bound r n) fault.Letter h))
  operand_up t (Constant z) h = fine_test (v z) fault.Word (m z (test_fine (valid z) fault.Word h))
  operand_up t (Taken i) h = h

  term_up : (t : Bool) (a : Term) → term_verdict valid r t a ≡ Ok tt → term_verdict v s t a ≡ Ok tt
  term_up t (One a) h = operand_up t a h
  term_up t (Two a o b) h =
      let p = then_fine (operand_verdict valid r t a) (operand_verdict valid r t b) h in
      both_fine (operand_verdict v s t a) (operand_verdict v s t b) (operand_up t a p.0) (operand_up t b p.1)

  comparison_up : (t : Bool) (c : Comparison) → comparison_verdict (term_verdict valid r t) c ≡ Ok tt → comparison_verdict (term_verdict v s t) c ≡ Ok tt
  comparison_up t c h =
      let p = then_fine (term_verdict valid r t c.left) (term_verdict valid r t c.right) h in
      both_fine (term_verdict v s t c.left) (term_verdict v s t c.right) (term_up t c.left p.0) (term_up t c.right p.1)

  template_up : (t : Bool) (g : Template) → template_verdict (term_verdict valid r t) g ≡ Ok tt → template_verdict (term_verdict v s t) g ≡ Ok tt
  template_up t g = kept_then (kind_verdict (pos g.kind)) (each (term_verdict valid r t) g.terms) (each (term_verdict v s t) g.terms) (each_up (term_verdict valid r t) (term_verdict v s t) (term_up t) g.terms)

  head_up : (a : AllHead) → all_head_verdict valid r a ≡ Ok tt → all_head_verdict v s a ≡ Ok tt
  head_up a h =
      let p = then_fine (pattern_verdict (all_verdict valid r) a.pattern) (each (comparison_verdict (term_verdict valid r true)) a.only) h in
      both_fine (pattern_verdict (all_verdict v s) a.pattern) (each (comparison_verdict (term_verdict v s true)) a.only)
      (pattern_up (all_verdict valid r) (all_verdict v s) all_up a.pattern p.0)
      (each_up (comparison_verdict (term_verdict valid r true)) (comparison_verdict (term_verdict v s true)) (comparison_up true) a.only p.1)

  over_up : (n : ℕ) (b c : Verdict) → (b ≡ Ok tt → c ≡ Ok tt) → (over_verdict r (pos n) >>= λ _. b) ≡ Ok tt → (over_verdict s (pos n) >>= λ _. c) ≡ Ok tt
  over_up n b c f h = go (leb 1 n && leb n (length r.alls)) refl h
    where
      go : (t : Bool) → (leb 1 n && leb n (length r.alls)) ≡ t → (cond t (Ok n) (Err NoAllHead) >>= λ _. b) ≡ Ok tt → (over_verdict s (pos n) >>= λ _. c) ≡ Ok tt
      go true e k =
          let p = and_parts (leb 1 n) (leb n (length r.alls)) e in
          let there : (leb 1 n && leb n (length s.alls)) ≡ true = and_from (leb 1 n) (leb n (length s.alls)) p.0 (le-leb n (length s.alls) (omega (arith, leb-true n (length r.alls) p.1, x.alls))) in
          rw there (f k)
      go false e k = absurd (no_ok NoAllHead tt k)

  giveall_up : (g : GiveAll) → giveall_verdict valid r g ≡ Ok tt → giveall_verdict v s g ≡ Ok tt
  giveall_up g = over_up g.over (template_verdict (term_verdict valid r true) g.each) (template_verdict (term_verdict v s true) g.each) (template_up true g.each)

-- the parts of a rule pass, each judged in another ---------------------------------------------------------------------------

pub record Passing (v : ℤ → Bool) (s r : Rule) : Type 0 where
  pub keeps : each (pattern_verdict (single_verdict v)) r.keeps ≡ Ok tt
  pub drops : each (pattern_verdict (single_verdict v)) r.drops ≡ Ok tt
  pub alls : each (all_head_verdict v s) r.alls ≡ Ok tt
  pub whens : each (comparison_verdict (term_verdict v s false)) r.whens ≡ Ok tt
  pub gives : each (template_verdict (term_verdict v s false)) r.gives ≡ Ok tt
  pub givealls : each (giveall_verdict v s) r.givealls ≡ Ok tt

module _ (v : ℤ → Bool) (r : Rule) where
  abbrev keeps : Verdict
  keeps = each (pattern_verdict (single_verdict v)) r.keeps

  abbrev drops : Verdict
  drops = each (pattern_verdict (single_verdict v)) r.drops

  abbrev alls : Verdict
  alls = each (all_head_verdict v r) r.alls

  abbrev whens : Verdict
  whens = each (comparison_verdict (term_verdict v r false)) r.whens

  abbrev gives : Verdict
  gives = each (template_verdict (term_verdict v r false)) r.gives

  abbrev givealls : Verdict
  givealls = each (giveall_verdict v r) r.givealls

  pub passing : parts_verdict v r ≡ Ok tt → Passing v r r
  passing h =
      let a = then_fine keeps (drops >>= λ _. alls >>= λ _. whens >>= λ _. gives >>= λ _. givealls) h in
      let b = then_fine drops (alls >>= λ _. whens >>= λ _. gives >>= λ _. givealls) a.1 in
      let c = then_fine alls (whens >>= λ _. gives >>= λ _. givealls) b.1 in
      let d = then_fine whens (gives >>= λ _. givealls) c.1 in
      let e = then_fine gives givealls d.1 in
      record { keeps = a.0; drops = b.0; alls = c.0; whens = d.0; gives = e.0; givealls = e.1 }

  pub passed : Passing v r r → parts_verdict v r ≡ Ok tt
  passed p = rw (p.keeps, p.drops, p.alls, p.whens, p.gives) p.givealls

-- in a rule with more letters and all heads
in_more : (v : ℤ → Bool) (r s : Rule) → Extends r s → Passing v r r → Passing v s r
in_more v r s x p =
    let same : MoreWords v v = λ z h. h in
    record {
      keeps = p.keeps;
      drops = p.drops;
      alls = each_up (all_head_verdict v r) (all_head_verdict v s) (head_up v v same r s x) r.alls p.alls;
      whens = each_up (comparison_verdict (term_verdict v r false)) (comparison_verdict (term_verdict v s false)) (comparison_up v v same r s x false) r.whens p.whens;
      gives = each_up (template_verdict (term_verdict v r false)) (template_verdict (term_verdict v s false)) (template_up v v same r s x false) r.gives p.gives;
      givealls = each_up (giveall_verdict v r) (giveall_verdict v s) (giveall_up v v same r s x) r.givealls p.givealls;
    }

-- a part more -------------------------------------------------------------------------------------------------------------------

any_between : {X : Type 0} (p : X → Bool) (xs ys zs : List X) → any p (xs ++ zs) ≡ true → any p (xs ++ (ys ++ zs)) ≡ true
any_between p [] [] zs h = h
any_between p [] (y ∷ ys) zs h = or_right (p y) (any p (ys ++ zs)) (any_between p [] ys zs h)
any_between p (x ∷ xs) ys zs h =
    elim (or_cases (p x) (any p (xs ++ zs)) h) [ inl e ↦ or_left (p x) (any p (xs ++ (ys ++ zs))) e | inr e ↦ or_right (p x) (any p (xs ++ (ys ++ zs))) (any_between p xs ys zs e) ]

to_last-length : (c : Comparison) (ls : List AllHead) → length (to_last c ls) ≡ length ls
to_last-length c [] = refl
to_last-length c (a ∷ []) = refl
to_last-length c (a ∷ (b ∷ rest)) = let e = to_last-length c (b ∷ rest) in omega arith

module _ (r : Rule) where
  with_keep_extends : (p : Pattern) → Extends r (with_keep p r)
  with_keep_extends p =
      record {
        letters = λ n h. rw append_assoc (any_between (λ q. any (is_letter n) q.args) r.keeps (p ∷ []) r.drops h);
        alls = omega arith;
      }

  with_drop_extends : (p : Pattern) → Extends r (with_drop p r)
  with_drop_extends p =
      record {
        letters = λ n h. rw (← append_assoc r.keeps r.drops (p ∷ [])) (any_between (λ q. any (is_letter n) q.args) (singles r) (p ∷ []) [] (rw append-nil h));
        alls = omega arith;
      }

  with_all_extends : (drops : Bool) (p : Pattern) → Extends r (with_all drops p r)
  with_all_extends drops p = record { letters = λ n h. h; alls = omega (arith, length-append r.alls (record { drops = drops; pattern = p; only = [] } ∷ [])) }

  with_only_extends : (c : Comparison) → Extends r (with_only c r)
  with_only_extends c = record { letters = λ n h. h; alls = omega (arith, to_last-length c r.alls) }

-- the same letters and all heads
same_extends : (r s : Rule) → ((n : ℕ) → bound r n ≡ true → bound s n ≡ true) → length r.alls ≡ length s.alls → Extends r s
same_extends r s l e = record { letters = l; alls = omega arith }

to_last-passes : (judge : AllHead → Verdict) (c : Comparison) (ls : List AllHead) → ((a : AllHead) → judge a ≡ Ok tt → judge (record { drops = a.drops; pattern = a.pattern; only = a.only ++ (c ∷ []) }) ≡ Ok tt) → each judge ls ≡ Ok tt → each judge (to_last c ls) ≡ Ok tt
to_last-passes judge c [] f h = refl
to_last-passes judge c (a ∷ []) f h = both_fine (judge (record { drops = a.drops; pattern = a.pattern; only = a.only ++ (c ∷ []) })) (Ok tt) (f a (then_fine (judge a) (Ok tt) h).0) refl
to_last-passes judge c (a ∷ (b ∷ rest)) f h =
    let p = then_fine (judge a) (each judge (b ∷ rest)) h in both_fine (judge a) (each judge (to_last c (b ∷ rest))) p.0 (to_last-passes judge c (b ∷ rest) f p.1)

module _ (valid v : ℤ → Bool) (m : MoreWords valid v) (r : Rule) (p : Passing v r r) where
  keep_passes : (q : Pattern) → pattern_verdict (single_verdict valid) q ≡ Ok tt → Passing v (with_keep q r) (with_keep q r)
  keep_passes q h =
      let i = in_more v r (with_keep q r) (with_keep_extends r q) p in
      record { keeps = each-push (pattern_verdict (single_verdict v)) r.keeps q p.keeps (pattern_up (single_verdict valid) (single_verdict v) (single_up valid v m) q h); drops = i.drops; alls = i.alls; whens = i.whens; gives = i.gives; givealls = i.givealls }

  drop-passes : (q : Pattern) → pattern_verdict (single_verdict valid) q ≡ Ok tt → Passing v (with_drop q r) (with_drop q r)
  drop-passes q h =
      let i = in_more v r (with_drop q r) (with_drop_extends r q) p in
      record { keeps = i.keeps; drops = each-push (pattern_verdict (single_verdict v)) r.drops q p.drops (pattern_up (single_verdict valid) (single_verdict v) (single_up valid v m) q h); alls = i.alls; whens = i.whens; gives = i.gives; givealls = i.givealls }

  all-passes : (drops : Bool) (q : Pattern) → pattern_verdict (all_verdict valid r) q ≡ Ok tt → Passing v (with_all drops q r) (with_all drops q r)
  all-passes drops q h =
      let s = with_all drops q r in
      let x = with_all_extends r drops q in
      let i = in_more v r s x p in
      let new : all_head_verdict v s (record { drops = drops; pattern = q; only = [] }) ≡ Ok tt = both_fine (pattern_verdict (all_verdict v s) q) (Ok tt) (pattern_up (all_verdict valid r) (all_verdict v s) (all_up valid v m r s x) q h) refl in
      record { keeps = i.keeps; drops = i.drops; alls = each-push (all_head_verdict v s) r.alls (record { drops = drops; pattern = q; only = [] }) i.alls new; whens = i.whens; gives = i.gives; givealls = i.givealls }

  only-passes : (c : Comparison) → comparison_verdict (term_verdict valid r true) c ≡ Ok tt → Passing v (with_only c r) (with_only c r)
  only-passes c h =
      let s = with_only c r in
      let x = with_only_extends r c in
      let i = in_more v r s x p in
      let judge = comparison_verdict (term_verdict v s true) in
      record {
        keeps = i.keeps;
        drops = i.drops;
        alls = to_last-passes (all_head_verdict v s) c r.alls
            (λ a k. let t = then_fine (pattern_verdict (all_verdict v s) a.pattern) (each judge a.only) k in both_fine (pattern_verdict (all_verdict v s) a.pattern) (each judge (a.only ++ (c ∷ []))) t.0 (each-push judge a.only c t.1 (comparison_up valid v m r s x true c h)))
            i.alls;
        whens = i.whens;
        gives = i.gives;
        givealls = i.givealls;
      }

  when_passes : (c : Comparison) → comparison_verdict (term_verdict valid r false) c ≡ Ok tt → Passing v (with_when c r) (with_when c r)
  when_passes c h =
      let s = with_when c r in
      let x = same_extends r s (λ n k. k) refl in
      let i = in_more v r s x p in
      record { keeps = i.keeps; drops = i.drops; alls = i.alls; whens = each-push (comparison_verdict (term_verdict v s false)) r.whens c i.whens (comparison_up valid v m r s x false c h); gives = i.gives; givealls = i.givealls }

  give_passes : (t : Template) → template_verdict (term_verdict valid r false) t ≡ Ok tt → Passing v (with_give t r) (with_give t r)
  give_passes t h =
      let s = with_give t r in
      let x = same_extends r s (λ n k. k) refl in
      let i = in_more v r s x p in
      record { keeps = i.keeps; drops = i.drops; alls = i.alls; whens = i.whens; gives = each-push (template_verdict (term_verdict v s false)) r.gives t i.gives (template_up valid v m r s x false t h); givealls = i.givealls }

  giveall_passes : (g : GiveAll) → giveall_verdict valid r g ≡ Ok tt → Passing v (with_giveall g r) (with_giveall g r)
  giveall_passes g h =
      let s = with_giveall g r in
      let x = same_extends r s (λ n k. k) refl in
      let i = in_more v r s x p in
      record { keeps = i.keeps; drops = i.drops; alls = i.alls; whens = i.whens; gives = i.gives; givealls = each-push (giveall_verdict v s) r.givealls g i.givealls (giveall_up valid v m r s x g h) }

-- a part that was added: its verdict passed, and the rule is the one with the part
added_so : (may verdict : Verdict) (x y : Rule) → (may >>= λ _. verdict >>= λ _. Ok x) ≡ Ok y → (verdict ≡ Ok tt) × (x ≡ y)
added_so (Ok u) (Ok w) x y h = (refl, (cc))
added_so (Ok u) (Err e) x y h = absurd (no_ok e y h)
added_so (Err e) verdict x y h = absurd (no_ok e y h)

module _ (valid v : ℤ → Bool) (m : MoreWords valid v) (r s : Rule) (p : Passing v r r) where
  moved : (t : Rule) → t ≡ s → Passing v t t → Passing v s s
  moved t e q = subst (λ (x : Rule). Passing v x x) e q

  head_stays : (part : HeadPart) → add_head valid part r ≡ Ok s → Passing v s s
  head_stays (head_part.Keep q) h = let a = added_so (may_add Keep r) (pattern_verdict (single_verdict valid) q) (with_keep q r) s h in moved (with_keep q r) a.1 (keep_passes valid v m r p q a.0)
  head_stays (head_part.Drop q) h = let a = added_so (may_add Drop r) (pattern_verdict (single_verdict valid) q) (with_drop q r) s h in moved (with_drop q r) a.1 (drop-passes valid v m r p q a.0)
  head_stays (head_part.KeepAll q) h = let a = added_so (may_add KeepAll r) (pattern_verdict (all_verdict valid r) q) (with_all false q r) s h in moved (with_all false q r) a.1 (all-passes valid v m r p false q a.0)
  head_stays (head_part.DropAll q) h = let a = added_so (may_add DropAll r) (pattern_verdict (all_verdict valid r) q) (with_all true q r) s h in moved (with_all true q r) a.1 (all-passes valid v m r p true q a.0)
  head_stays (head_part.Only c) h = let a = added_so (may_add Only r) (comparison_verdict (term_verdict valid r true) c) (with_only c r) s h in moved (with_only c r) a.1 (only-passes valid v m r p c a.0)
  head_stays (head_part.When c) h = let a = added_so (may_add When r) (comparison_verdict (term_verdict valid r false) c) (with_when c r) s h in moved (with_when c r) a.1 (when_passes valid v m r p c a.0)

  body_stays : (part : BodyPart) → add_body valid part r ≡ Ok s → Passing v s s
  body_stays (body_part.Give t) h = let a = added_so (may_add_body body.Give r) (template_verdict (term_verdict valid r false) t) (with_give t r) s h in moved (with_give t r) a.1 (give_passes valid v m r p t a.0)
  body_stays (body_part.GiveAll g) h = let a = added_so (may_add_body body.GiveAll r) (giveall_verdict valid r g) (with_giveall g r) s h in moved (with_giveall g r) a.1 (giveall_passes valid v m r p g a.0)

-- what the stages say --------------------------------------------------------------------------------------------------------------

after_stays : (v : ℤ → Bool) (o : Result Rule RuleFault) (r s : Rule) → s ≡ after o r → ((t : Rule) → o ≡ Ok t → Passing v r r → Passing v t t) → accepted (parts_verdict v r) ≡ true → accepted (parts_verdict v s) ≡ true
after_stays v o r s e f h = subst (λ (x : Rule). accepted (parts_verdict v x) ≡ true) (sym e) (go o refl)
  where
    go : (x : Result Rule RuleFault) → o ≡ x → accepted (parts_verdict v (after x r)) ≡ true
    go (Ok t) k = ap accepted (passed v t (f t k (passing v r (fine_accepted (parts_verdict v r) h))))
    go (Err d) k = h

module _ (valid v : ℤ → Bool) (m : MoreWords valid v) (r s : Rule) where
  pub head-accepted : (part : HeadPart) → s ≡ after (add_head valid part r) r → accepted (parts_verdict v r) ≡ true → accepted (parts_verdict v s) ≡ true
  head-accepted part e = after_stays v (add_head valid part r) r s e (λ t k p. head_stays valid v m r t p part k)

  pub body-accepted : (part : BodyPart) → s ≡ after (add_body valid part r) r → accepted (parts_verdict v r) ≡ true → accepted (parts_verdict v s) ≡ true
  body-accepted part e = after_stays v (add_body valid part r) r s e (λ t k p. body_stays valid v m r t p part k)

-- a rule that ends stands with the others
pub stands-push : (v : ℤ → Bool) (rs : List Rule) (r : Rule) → stand v rs ≡ true → may_end r ≡ Ok tt → accepted (parts_verdict v r) ≡ true → stand v (rs ++ (r ∷ [])) ≡ true
stands-push v rs r h k p = ap accepted (each-push (rule_verdict v) rs r (fine_accepted (each (rule_verdict v) rs) h) (both_fine (may_end r) (parts_verdict v r) k (fine_accepted (parts_verdict v r) p)))

-- so do the rules of a set that has it behind those it had
pub stands-end : (v : ℤ → Bool) (rs all : List Rule) (r : Rule) → all ≡ rs ++ (r ∷ []) → stand v rs ≡ true → may_end r ≡ Ok tt → accepted (parts_verdict v r) ≡ true → stand v all ≡ true
stands-end v rs all r e h k p = ap (stand v) e ∙ stands-push v rs r h k p

-- the all heads of rules that stand name kinds below 64 -------------------------------------------------------------------------------

kind-small : (n : ℕ) (b : Verdict) → (kind_verdict (pos n) >>= λ _. b) ≡ Ok tt → n < 64
kind-small n b h = go (ltb n 64) refl h
  where
    go : (t : Bool) → ltb n 64 ≡ t → (cond t (Ok n) (Err fault.Kind) >>= λ _. b) ≡ Ok tt → n < 64
    go true e k = ltb-true n 64 e
    go false e k = absurd (no_ok fault.Kind tt k)

-- where no element that passes a verdict passes a test, none of a list that passes does
none_passes : {X : Type 0} (judge : X → Verdict) (p : X → Bool) → ((x : X) → judge x ≡ Ok tt → p x ≡ false) → (xs : List X) → each judge xs ≡ Ok tt → any p xs ≡ false
none_passes judge p f [] h = refl
none_passes judge p f (x ∷ xs) h = let t = then_fine (judge x) (each judge xs) h in or_from (p x) (any p xs) (f x t.0) (none_passes judge p f xs t.1)

all-kind : (v : ℤ → Bool) (r : Rule) (kind : ℕ) → 64 ≤ kind → (a : AllHead) → all_head_verdict v r a ≡ Ok tt → eqb a.pattern.kind kind ≡ false
all-kind v r kind h a k =
    let small = kind-small a.pattern.kind (each (all_verdict v r) a.pattern.args) (then_fine (pattern_verdict (all_verdict v r) a.pattern) (each (comparison_verdict (term_verdict v r true)) a.only) k).0 in
    ne_eqb a.pattern.kind kind (λ e. omega arith)

rule-kind : (v : ℤ → Bool) (kind : ℕ) → 64 ≤ kind → (r : Rule) → rule_verdict v r ≡ Ok tt → names kind r ≡ false
rule-kind v kind h r k = none_passes (all_head_verdict v r) (λ a. eqb a.pattern.kind kind) (all-kind v r kind h) r.alls (passing v r (then_fine (may_end r) (parts_verdict v r) k).1).alls

pub none_named : (v : ℤ → Bool) (rs : List Rule) (kind : ℕ) → 64 ≤ kind → stand v rs ≡ true → any (names kind) rs ≡ false
none_named v rs kind h k = none_passes (rule_verdict v) (names kind) (rule-kind v kind h) rs (fine_accepted (each (rule_verdict v) rs) k)
