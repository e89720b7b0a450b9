-- What an all head takes of stored pairs, label by label.
use Rattle.std.proofs.Common.{◌≡◌, ℕ, zero, suc, ◌+◌, ◌*◌, ◌⊎◌, inl, inr, ◌<◌, ◌≤◌, Bool, true, false, cond, not, ◌&&◌, ◌||◌, eqb, leb, List, [], ◌∷◌, ◌++◌, map, length, get_or, set, take, drop, flat_map, ℤ, pos, negsuc, Some, None, filter, Option, sym, refl, ap, ◌∙◌, arith}
use Rattle.std.proofs.lemmas.Bool.{and_parts, eqb-true}
use Rattle.std.specs.List.{slice_get, sum_by, zip}
use Rattle.std.proofs.lemmas.Option.{slice_get_within, get_or_from_slice_get}
use Rattle.std.proofs.lemmas.List.Sums.{sum_by-cons}
use Rattle.lists.specs.Held.{held}
use Rattle.lists.proofs.Held.{held-count}
use Rattle.std.proofs.lemmas.List.{take-map, get_or-map, length-append, length-map, length_push, length-drop, append-nil}
use Rattle.std.proofs.lemmas.Bool.Decides.{nat_tests}
use Rattle.facts.specs.System.{System}
use Rattle.facts.specs.declared.fact_types.Fact.{Fact}
use Rattle.rules.specs.declared.rule_types.Argument.{Argument}
use Rattle.rules.specs.declared.rule_types.Argument.TheVariants.{Letter, Constant, Any}
use Rattle.rules.specs.declared.rule_types.Pattern.{Pattern}
use Rattle.rules.specs.declared.rule_types.AllRecord.{AllRecord}
use Rattle.rules.proofs.Records.{alls-count}
use Rattle.rules.specs.Rules.{AllHead, Rule, all_seen, rule_seen, singles}
use Rattle.rules.specs.declared.rule_types.RuleRecord.{RuleRecord}
use Rattle.rules.specs.Rules as rules_specs
use Rattle.stores.specs.Lists.{all, has, rises}
use Rattle.stores.specs.Store.{Pair, label, fact, labels, read, next_that, sameℤ, without, facts}
use Rattle.stores.specs.Piles.{Pile, Owed, sound_pair}
use Rattle.stores.proofs.Piles.{owed-rises}
use Rattle.stores.proofs.Pairs.{above, all_above, next-above, length-kept}
use Rattle.machine.specs.Fitting.{Setting, fits_words, fits, holds, fits_all_head, setting_of}
use Rattle.engine.specs.Letters.{Letters, setting_in}
use Rattle.engine.specs.Searching.{known_word, of_kind_and, is_candidate}
use Rattle.engine.specs.Taking.{takes, taken_by_head, takes_label, all_taken, Taken, two, Took, gone_number}
use Rattle.machine.proofs.Parts.{gone-alls-map}
use Rattle.machine.specs.Machine.{taken_by, taken_of, gone_alls, gone_of}

-- the pairs that pass, up to a label
abbrev pub passed : (ℕ → Bool) → (Fact → Bool) → Pair → Bool
passed k q p = not (k (label p)) && q (fact p)

abbrev pub passed_to : ℕ → (ℕ → Bool) → (Fact → Bool) → Pair → Bool
passed_to a k q p = leb (label p) a && passed k q p

abbrev pub test_at : (ℕ → Bool) → (Fact → Bool) → List Pair → ℕ → Bool
test_at k q ps n = not (k n) && elim (read n ps) [ None ↦ false | Some f ↦ q f ]

-- none of the pairs above a label
none_above : (a n : ℕ) (k : ℕ → Bool) (q : Fact → Bool) (ps : List Pair) → a ≤ n → all (above n) ps ≡ true → filter (passed_to a k q) ps ≡ []
none_above a n k q [] h r = refl
none_above a n k q (p ∷ ps) h r = let ih = none_above a n k q ps h in grind (arith, nat_tests)

next_passes : (c : Fact → Bool) (a : ℕ) (ps : List Pair) (l : ℕ) → next_that c a ps ≡ Some l → a < l
next_passes c a [] l e = grind (arith, nat_tests)
next_passes c a (p ∷ ps) l e = let ih = next_passes c a ps l in grind (arith, nat_tests)

passed_more : (c : Fact → Bool) (k : ℕ → Bool) (q : Fact → Bool) (a l : ℕ) (ps : List Pair) → ((f : Fact) → q f ≡ true → c f ≡ true) → rises (labels ps) ≡ true → next_that c a ps ≡ Some l →
    labels (filter (passed_to l k q) ps) ≡ labels (filter (passed_to a k q) ps) ++ cond (test_at k q ps l) (l ∷ []) []
passed_more c k q a l [] s r e = grind (arith, nat_tests)
passed_more c k q a l (p ∷ ps) s r e =
    let ih = passed_more c k q a l ps s in
    let u = all_above (label p) ps in
    let g = next_passes c a ps l in
    let b = next-above c a (label p) ps l in
    let m = none_above l l k q ps in
    let n = none_above a (label p) k q ps in
    let t = s (fact p) in
    grind (arith, nat_tests)

passed_all : (c : Fact → Bool) (k : ℕ → Bool) (q : Fact → Bool) (a : ℕ) (ps : List Pair) → ((f : Fact) → q f ≡ true → c f ≡ true) → next_that c a ps ≡ None → filter (passed_to a k q) ps ≡ filter (passed k q) ps
passed_all c k q a [] s e = refl
passed_all c k q a (p ∷ ps) s e =
    let ih = passed_all c k q a ps s in
    let t = s (fact p) in
    grind (arith, nat_tests)

passed_none : (k : ℕ → Bool) (q : Fact → Bool) (ps : List Pair) → all sound_pair ps ≡ true → filter (passed_to 0 k q) ps ≡ []
passed_none k q [] h = refl
passed_none k q (p ∷ ps) h = let ih = passed_none k q ps in grind (arith, nat_tests)

-- a fact that an all head takes is a candidate --------------------------------------------------------------------

sameℤ_sym : (a b : ℤ) → sameℤ a b ≡ sameℤ b a
sameℤ_sym (pos a) (pos b) = grind (arith, nat_tests)
sameℤ_sym (pos a) (negsuc b) = refl
sameℤ_sym (negsuc a) (pos b) = refl
sameℤ_sym (negsuc a) (negsuc b) = grind (arith, nat_tests)

first_fits : (l : Letters) (kind : ℕ) (as' : List Argument) (ws : List ℤ) → fits_words (setting_in l) as' ws ≡ true → of_kind_and kind (known_word l (get_or as' 0 Any)) (record { kind = kind; words = ws }) ≡ true
first_fits l kind [] ws h = grind (arith, nat_tests)
first_fits l kind (a ∷ as') [] h = grind (arith, nat_tests)
first_fits l kind (Any ∷ as') (w ∷ ws) h = grind (arith, nat_tests)
first_fits l kind (Constant c ∷ as') (w ∷ ws) h = let e = sameℤ_sym c w in grind (arith, nat_tests)
first_fits l kind (Letter v ∷ as') (w ∷ ws) h = go (get_or l v None) refl
  where
    go : (o : Option ℤ) → get_or l v None ≡ o → of_kind_and kind o (record { kind = kind; words = w ∷ ws }) ≡ true
    go None e = grind (arith, nat_tests)
    go (Some b) e = let g = sameℤ_sym b w in grind (arith, nat_tests)

fits_candidate : (l : Letters) (p : Pattern) (f : Fact) → fits (setting_in l) p f ≡ true → is_candidate l p f ≡ true
fits_candidate l p f h =
    let a = and_parts (eqb p.kind f.kind) (fits_words (setting_in l) p.args f.words) h in
    let e = first_fits l f.kind p.args f.words a.1 in
    let k = eqb-true p.kind f.kind a.0 in
    rw k e

takes_candidate : (s : System) (l : Letters) (es : List AllHead) (a : AllHead) (f : Fact) → takes s (setting_in l) es a f ≡ true → is_candidate l a.pattern f ≡ true
takes_candidate s l es a f h =
    let fitting = (and_parts (not (rules_specs.any (λ b. fits_all_head s (setting_in l) b f) es)) (fits_all_head s (setting_in l) a f) h).1 in
    fits_candidate l a.pattern f (and_parts (fits (setting_in l) a.pattern f) (rules_specs.all (holds s (setting_in l) f.words) a.only) fitting).0

owed-sound : (m : Pile) → Owed m → all sound_pair m.pairs ≡ true
owed-sound m o = grind (arith, nat_tests)

pub owed-length : (m : Pile) → Owed m → length m.pairs ≤ 1024
owed-length m o = grind (arith, nat_tests)

-- a list that is filled label by label --------------------------------------------------------------------------------

-- what an all head takes, up to a label
abbrev pub taken_to : System → Letters → List AllHead → AllHead → List ℕ → ℕ → List Pair → List ℕ
taken_to s l es h ls a ps = labels (filter (passed_to a (λ n. has n ls) (takes s (setting_in l) es h)) ps)

-- after a label, the next is that of a fact that may fit an all head
pub record Step (l : Letters) (h : AllHead) (m : Pile) (a n : ℕ) : Type 0 where
  pub owed : Owed m
  pub next : Some n ≡ next_that (is_candidate l h.pattern) a m.pairs

pub step_up : {l : Letters} {h : AllHead} {m : Pile} {a n : ℕ} → Step l h m a n → a < n
step_up {l} {h} {m} {a} {n} t = next_passes (is_candidate l h.pattern) a m.pairs n (sym t.next)

module _ (s : System) (es : List AllHead) (ls : List ℕ) where
  pub taken_to-first : (l : Letters) (h : AllHead) (m : Pile) → Owed m → taken_to s l es h ls 0 m.pairs ≡ []
  taken_to-first l h m o = ap labels (passed_none (λ n. has n ls) (takes s (setting_in l) es h) m.pairs (owed-sound m o))

  module _ {l : Letters} {h : AllHead} {m : Pile} {a n : ℕ} (t : Step l h m a n) (answer : Bool) (e : answer ≡ takes_label s (setting_in l) es h ls m.pairs n) where
    taken_to-more : (b : Bool) → answer ≡ b → taken_to s l es h ls n m.pairs ≡ taken_to s l es h ls a m.pairs ++ cond b (n ∷ []) []
    taken_to-more b k =
        passed_more (is_candidate l h.pattern) (λ x. has x ls) (takes s (setting_in l) es h) a n m.pairs (takes_candidate s l es h) (owed-rises m t.owed) (sym t.next)
        ∙ ap (λ x. taken_to s l es h ls a m.pairs ++ cond x (n ∷ []) []) (sym e ∙ k)

    pub taken_to_room : answer ≡ true → length (taken_to s l es h ls a m.pairs) < 1024
    taken_to_room k =
        let q = taken_to-more true k in
        let test : Pair → Bool = passed_to n (λ x. has x ls) (takes s (setting_in l) es h) in
        omega (arith, ap length q, length_push (taken_to s l es h ls a m.pairs) n, length-map (filter test m.pairs) label, length-kept test m.pairs, owed-length m t.owed)

    pub filled-yes : answer ≡ true → (xs ys : List ℕ) → xs ≡ taken_to s l es h ls a m.pairs → ys ≡ xs ++ n ∷ [] → ys ≡ taken_to s l es h ls n m.pairs
    filled-yes k xs ys f g = g ∙ (ap (λ zs. zs ++ n ∷ []) f ∙ sym (taken_to-more true k))

    pub filled-no : answer ≡ false → (xs : List ℕ) → xs ≡ taken_to s l es h ls a m.pairs → xs ≡ taken_to s l es h ls n m.pairs
    filled-no k xs f = f ∙ sym (taken_to-more false k ∙ append-nil (taken_to s l es h ls a m.pairs))

  pub filled-all : (l : Letters) (h : AllHead) (m : Pile) (a : ℕ) → None ≡ next_that (is_candidate l h.pattern) a m.pairs → (xs : List ℕ) →
      xs ≡ taken_to s l es h ls a m.pairs → xs ≡ labels (taken_by_head s (setting_in l) es h ls m.pairs)
  filled-all l h m a e xs f =
      f ∙ ap labels (passed_all (is_candidate l h.pattern) (λ x. has x ls) (takes s (setting_in l) es h) a m.pairs (takes_candidate s l es h) (sym e))

-- what all heads take, each in turn of what the earlier ones left --------------------------------------------------

pub filter-filter : {X : Type 0} (p q : X → Bool) (xs : List X) → filter q (filter p xs) ≡ filter (λ x. p x && q x) xs
filter-filter p q [] = refl
filter-filter p q (x ∷ xs) = let ih = filter-filter p q xs in grind (arith, nat_tests)

filter_none : {X : Type 0} (xs : List X) → filter (λ x. false) xs ≡ []
filter_none [] = refl
filter_none (x ∷ xs) = filter_none xs

-- the all head at an index takes a fact
abbrev pub takes_at : System → Setting → List AllHead → ℕ → Fact → Bool
takes_at s σ [] i f = false
takes_at s σ (a ∷ rest) zero f = fits_all_head s σ a f
takes_at s σ (a ∷ rest) (suc i) f = not (fits_all_head s σ a f) && takes_at s σ rest i f

-- what it takes of stored pairs but those of some labels
abbrev pub taken_at : System → Setting → List AllHead → ℕ → List ℕ → List Pair → List Pair
taken_at s σ alls i ls ps = filter (λ p. not (has p.0 ls) && takes_at s σ alls i (fact p)) ps

-- it is behind those that stand before it
takes-at : (s : System) (σ : Setting) (as' : List AllHead) (i : ℕ) (d : AllHead) → i < length as' → (f : Fact) → takes_at s σ as' i f ≡ takes s σ (take i as') (get_or as' i d) f
takes-at s σ [] i d h f = absurd (omega arith)
takes-at s σ (a ∷ as') zero d h f = refl
takes-at s σ (a ∷ as') (suc i) d h f = behind (takes-at s σ as' i d (omega arith) f) (fits_all_head s σ a f)
  where
    behind : takes_at s σ as' i f ≡ takes s σ (take i as') (get_or as' i d) f → (b : Bool) → (not b && takes_at s σ as' i f) ≡ (not (b || rules_specs.any (λ c. fits_all_head s σ c f) (take i as')) && fits_all_head s σ (get_or as' i d) f)
    behind e true = refl
    behind e false = e

-- list number i is what the all head at i takes
pub taken_by_list : (s : System) (σ : Setting) (as' : List AllHead) (i : ℕ) (ps : List Pair) → get_or (taken_by s σ as' ps) i [] ≡ filter (λ p. takes_at s σ as' i (fact p)) ps
taken_by_list s σ [] i ps = sym (filter_none ps)
taken_by_list s σ (a ∷ as') zero ps = refl
taken_by_list s σ (a ∷ as') (suc i) ps =
    let rest : Pair → Bool = λ p. not (fits_all_head s σ a (fact p)) in
    taken_by_list s σ as' i (filter rest ps) ∙ filter-filter rest (λ p. takes_at s σ as' i (fact p)) ps

pub all_taken-at : (s : System) (σ : Setting) (r : Rule) (ls : List ℕ) (ps : List Pair) (i : ℕ) → get_or (all_taken s σ r ls ps) i [] ≡ taken_at s σ r.alls i ls ps
all_taken-at s σ r ls ps i =
    taken_by_list s σ r.alls i (without ls ps) ∙ filter-filter (λ p. not (has (label p) ls)) (λ p. takes_at s σ r.alls i (fact p)) ps

pub length-taken_by : (s : System) (σ : Setting) (as' : List AllHead) (ps : List Pair) → length (taken_by s σ as' ps) ≡ length as'
length-taken_by s σ [] ps = refl
length-taken_by s σ (a ∷ as') ps = ap suc (length-taken_by s σ as' (filter (λ p. not (fits_all_head s σ a (fact p))) ps))

-- two lists put together
pub together_two : {X Y : Type 0} (f : List X → List Y) (ts : List (List X)) → f [] ≡ [] → length ts ≤ 2 → f (get_or ts 0 []) ++ f (get_or ts 1 []) ≡ flat_map f ts
together_two f [] e h = rw e refl
together_two f (t ∷ []) e h = rw e refl
together_two f (t ∷ (u ∷ [])) e h = ap (λ xs. f t ++ xs) (sym (append-nil (f u)))
together_two f (t ∷ (u ∷ (v ∷ ts))) e h = absurd (omega arith)

-- what an all head of a record takes, behind those before it
pub took_from : (s : System) (σ : Setting) (o : RuleRecord) (ls : List ℕ) (ps : List Pair) (i : ℕ) (a : AllRecord) (xs : List ℕ) → slice_get (held o.alls) i ≡ Some a →
    xs ≡ labels (taken_by_head s σ (map all_seen (take i (held o.alls))) (all_seen a) ls ps) → xs ≡ labels (get_or (all_taken s σ (rule_seen o) ls ps) i [])
took_from s σ o ls ps i a xs h e =
    let r = rule_seen o in
    let b : i < length (held o.alls) = slice_get_within (held o.alls) i a h in
    let n : i < length r.alls = omega (arith, b, length-map (held o.alls) all_seen) in
    let earlier : take i r.alls ≡ map all_seen (take i (held o.alls)) = take-map all_seen i (held o.alls) in
    let here : get_or r.alls i (all_seen a) ≡ all_seen a = get_or-map all_seen (held o.alls) i a (all_seen a) b ∙ ap all_seen (get_or_from_slice_get (held o.alls) i a a h) in
    let same : (f : Fact) → takes s σ (map all_seen (take i (held o.alls))) (all_seen a) f ≡ takes_at s σ r.alls i f =
    λ f. (λ j. takes s σ (sym earlier j) (sym here j) f) ∙ sym (takes-at s σ r.alls i (all_seen a) n f) in
    e ∙ ap labels ((λ j. filter (λ p. not (has (label p) ls) && same (fact p) j) ps) ∙ sym (all_taken-at s σ r ls ps i))

-- what all heads took, in one list
joined : {X Y : Type 0} (f : X → List Y) (xs : List X) → flat_map f xs ≡ flat_map (λ ys. ys) (map f xs)
joined f [] = refl
joined f (x ∷ xs) = ap (λ ys. f x ++ ys) (joined f xs)

joined-took : (tk : List Taken) (ts : List (List Pair)) → Took ts tk → flat_map held tk ≡ labels (get_or ts 0 []) ++ labels (get_or ts 1 [])
joined-took tk ts k = joined held tk ∙ (ap (flat_map (λ ys. ys)) k ∙ ap (λ ys. labels (get_or ts 0 []) ++ ys) (append-nil (labels (get_or ts 1 []))))

pub together-took : (tk : List Taken) (ts : List (List Pair)) → length ts ≤ 2 → Took ts tk → flat_map held tk ≡ flat_map labels ts
together-took tk ts h k = joined-took tk ts k ∙ together_two labels ts refl h

pub length-took : (tk : List Taken) (ts : List (List Pair)) → Took ts tk → length (flat_map held tk) ≡ length (get_or ts 0 []) + length (get_or ts 1 [])
length-took tk ts k =
    ap length (joined-took tk ts k)
    ∙ omega (arith, length-append (labels (get_or ts 0 [])) (labels (get_or ts 1 [])), length-map (get_or ts 0 []) label, length-map (get_or ts 1 []) label)

-- one all head more took its pairs
pub took-more : (tk : List Taken) (i : ℕ) (x : Taken) (ts : List (List Pair)) → length tk ≡ 2 → i < 2 → map held (take i tk) ≡ take i (map labels (two ts)) → held x ≡ labels (get_or ts i []) →
    (length (set tk i x) ≡ 2) × (map held (take (i + 1) (set tk i x)) ≡ take (i + 1) (map labels (two ts)))
took-more [] i x ts w h k e = absurd (omega arith)
took-more (a ∷ []) i x ts w h k e = absurd (omega arith)
took-more (a ∷ (b ∷ [])) zero x ts w h k e = (refl, ap (λ ns. ns ∷ []) e)
took-more (a ∷ (b ∷ [])) (suc zero) x ts w h k e = (refl, λ j. k j ++ (e j ∷ []))
took-more (a ∷ (b ∷ [])) (suc (suc i)) x ts w h k e = absurd (omega arith)
took-more (a ∷ (b ∷ (d ∷ tk))) i x ts w h k e = absurd (omega arith)

-- how many an all head took
pub count-took : (tk : List Taken) (ts : List (List Pair)) (i : ℕ) (d : Taken) → Took ts tk → i < length tk → length (held (get_or tk i d)) ≡ length (get_or (map labels (two ts)) i [])
count-took tk ts i d k h = ap length (sym (get_or-map held tk i d [] h) ∙ ap (λ xs. get_or xs i []) k)

-- what leaves
gone-two : (hs : List AllHead) (ts : List (List Pair)) → length ts ≡ length hs → length hs ≤ 2 → gone_alls hs (map labels (two ts)) ≡ gone_alls hs (map labels ts)
gone-two [] ts e h = refl
gone-two (a ∷ hs) [] e h = absurd (omega arith)
gone-two (a ∷ []) (t ∷ ts) e h = refl
gone-two (a ∷ (b ∷ [])) (t ∷ []) e h = absurd (omega arith)
gone-two (a ∷ (b ∷ [])) (t ∷ (u ∷ ts)) e h = refl
gone-two (a ∷ (b ∷ (d ∷ hs))) (t ∷ ts) e h = absurd (omega arith)

pub gone-took : (hs : List AllHead) (ts : List (List Pair)) (tk : List Taken) → length ts ≡ length hs → length hs ≤ 2 → Took ts tk → gone_alls hs (map held tk) ≡ labels (gone_alls hs ts)
gone-took hs ts tk e h k = ap (gone_alls hs) k ∙ (gone-two hs ts e h ∙ gone-alls-map label hs ts)

-- the all heads of a record
pub heads_long : (s : System) (σ : Setting) (r : RuleRecord) (ls : List ℕ) (ps : List Pair) → length (all_taken s σ (rule_seen r) ls ps) ≡ r.alls.count
heads_long s σ r ls ps = length-taken_by s σ (rule_seen r).alls (without ls ps) ∙ alls-count r

-- heads and what they took, one after the other
pub gone-cons : (rs us : List AllRecord) (ts vs : List Taken) (r : AllRecord) (t : Taken) → rs ≡ r ∷ us → ts ≡ t ∷ vs → r.drops ≡ true →
    gone_alls (map all_seen rs) (map held ts) ≡ held t ++ gone_alls (map all_seen us) (map held vs)
gone-cons rs us ts vs r t e f h = (λ i. gone_alls (map all_seen (e i)) (map held (f i))) ∙ ap (λ b. cond b (held t) [] ++ gone_alls (map all_seen us) (map held vs)) h

pub gone-none : (rs : List AllRecord) (ts : List Taken) → (rs ≡ []) ⊎ (ts ≡ []) → gone_alls (map all_seen rs) (map held ts) ≡ []
gone-none rs ts (inl e) = ap (λ x. gone_alls (map all_seen x) (map held ts)) e
gone-none [] ts (inr e) = refl
gone-none (r ∷ rs) ts (inr e) = ap (λ x. gone_alls (map all_seen (r ∷ rs)) (map held x)) e

-- how many labels go with an all head
abbrev pub counted : AllRecord × Taken → ℕ
counted p = length (held p.1)

-- those whose head drops them
abbrev pub dropping : List AllRecord → List Taken → List (AllRecord × Taken)
dropping rs ts = filter (λ p. p.0.drops) (zip rs ts)

pub gone-sum : (rs : List AllRecord) (ts : List Taken) → sum_by counted (dropping rs ts) ≡ length (gone_alls (map all_seen rs) (map held ts))
gone-sum [] ts = refl
gone-sum (r ∷ rs) [] = refl
gone-sum (r ∷ rs) (t ∷ ts) = go (gone-sum rs ts) r.drops
  where
    go : sum_by counted (dropping rs ts) ≡ length (gone_alls (map all_seen rs) (map held ts)) → (b : Bool) →
        sum_by counted (cond b ((r, t) ∷ dropping rs ts) (dropping rs ts)) ≡ length (cond b (held t) [] ++ gone_alls (map all_seen rs) (map held ts))
    go h true = omega (arith, h, sum_by-cons counted (r, t) (dropping rs ts), length-append (held t) (gone_alls (map all_seen rs) (map held ts)))
    go h false = h

pub gone-few : (hs : List AllHead) (ts : List Taken) → length (gone_alls hs (map held ts)) ≤ 1024 * length ts
gone-few [] ts = omega arith
gone-few (a ∷ hs) [] = omega arith
gone-few (a ∷ hs) (t ∷ ts) = go (gone-few hs ts) a.drops
  where
    go : length (gone_alls hs (map held ts)) ≤ 1024 * length ts → (b : Bool) → length (cond b (held t) [] ++ gone_alls hs (map held ts)) ≤ 1024 * length (t ∷ ts)
    go h true = omega (arith, length-append (held t) (gone_alls hs (map held ts)), held-count t, t.few, h)
    go h false = omega (arith, h)

pub gone_number-gone : (s : System) (r : Rule) (ps c : List Pair) (tk : List Taken) → length r.alls ≤ 2 → length c ≡ length (singles r) → Took (taken_of s r ps c) tk →
    gone_number r (map held tk) ≡ length (gone_of s r ps c)
gone_number-gone s r ps c tk h l k =
    let ts = taken_of s r ps c in
    let g = gone-took r.alls ts tk (length-taken_by s (setting_of r (facts c)) r.alls (without (labels c) ps)) h k in
    omega (
      arith,
      ap length g,
      length-map (gone_alls r.alls ts) label,
      length-append r.keeps r.drops,
      length-append (drop (length r.keeps) c) (gone_alls r.alls ts),
      length-drop (length r.keeps) c,
      l,
    )
