-- The choices stand in dictionary order of their labels, so that the first that suits is the lowest.
use Rattle.std.proofs.Common.{◌≡◌, ℕ, zero, suc, ◌<◌, Bool, true, false, ◌&&◌, eqb, ltb, List, [], ◌∷◌, ◌++◌, map, length, Some, None, Option, sym, refl, ap, ◌∙◌, subst, inl, inr, arith}
use mathlib.Core.List.Memᴰ
use mathlib.Core.List.{Memᴰ}
use lib.ListN.{length-map}
use Rattle.std.proofs.lemmas.Bool.{or_from, or_parts, and_left, and_right, and_from, and_parts, le-ltb, ltb-false, ne_eqb, eq-eqb, both_ways, cases_Bool, cond-true, cond-false}
use Rattle.machine.proofs.Lists.{Within, first-none, first_some, choices-all, choices-from, within-mem, each_member, Each, Each-append, Each-map, Each_weaker}
use Rattle.machine.proofs.Spans.{Span, span-lower, read_mem}
use Rattle.machine.proofs.Settings.{ready-length}
use Rattle.rules.specs.Closed.{heads_of, Place}
use Rattle.stores.specs.Store.{Pair, label, fact, labels, facts, read}
use Rattle.machine.specs.Lists.{distinct, choices}
use Rattle.machine.specs.Fitting.{ready}
use Rattle.machine.specs.Machine.{Frame, stands_at, suits, chosen}
use Rattle.machine.specs.Transitions.{Suits, lower, IsLowest}
use Rattle.std.specs.Prelude.{find, flat_map}

-- dictionary order ------------------------------------------------------------------------------------

lower-same : (ns : List ℕ) → lower ns ns ≡ false
lower-same [] = refl
lower-same (n ∷ ns) = or_from (ltb n n) (eqb n n && lower ns ns) (le-ltb n n (omega arith)) (and_right (eqb n n) (lower ns ns) (lower-same ns))

lower-under : (n : ℕ) (ms ns : List ℕ) → lower ms ns ≡ false → lower (n ∷ ms) (n ∷ ns) ≡ false
lower-under n ms ns e = or_from (ltb n n) (eqb n n && lower ms ns) (le-ltb n n (omega arith)) (and_right (eqb n n) (lower ms ns) e)

lower-above : (m n : ℕ) (ms ns : List ℕ) → m < n → lower (n ∷ ns) (m ∷ ms) ≡ false
lower-above m n ms ns h = or_from (ltb n m) (eqb n m && lower ns ms) (le-ltb n m (omega arith)) (and_left (eqb n m) (lower ns ms) (ne_eqb n m (λ e. omega arith)))

neither-lower : (ms ns : List ℕ) → length ms ≡ length ns → lower ms ns ≡ false → lower ns ms ≡ false → ms ≡ ns
neither-lower [] [] e a b = refl
neither-lower [] (n ∷ ns) e a b = absurd (omega arith)
neither-lower (m ∷ ms) [] e a b = absurd (omega arith)
neither-lower (m ∷ ms) (n ∷ ns) e a b =
    let p = or_parts (ltb m n) (eqb m n && lower ms ns) a in
    let q = or_parts (ltb n m) (eqb n m && lower ns ms) b in
    let same : m ≡ n = omega (arith, ltb-false m n p.0, ltb-false n m q.0) in
    let rest = neither-lower ms ns (omega arith) (past (eqb m n) (lower ms ns) (eq-eqb m n same) p.1) (past (eqb n m) (lower ns ms) (eq-eqb n m (sym same)) q.1) in
    λ i. same i ∷ rest i
  where
    past : (x y : Bool) → x ≡ true → (x && y) ≡ false → y ≡ false
    past x y t f = ap (λ (b : Bool). b && y) (sym t) ∙ f

-- the order of choices --------------------------------------------------------------------------------

abbrev Ordered : List (List Pair) → Type 0
Ordered [] = Unit {0}
Ordered (c ∷ cs) = Each (λ d. lower (labels d) (labels c) ≡ false) cs × Ordered cs

each_all : {X : Type 0} (P : X → Type 0) → ((x : X) → P x) → (xs : List X) → Each P xs
each_all P f [] = tt
each_all P f (x ∷ xs) = (f x, each_all P f xs)

ordered_append : (A B : List (List Pair)) → Ordered A → Ordered B → Each (λ a. Each (λ b. lower (labels b) (labels a) ≡ false) B) A → Ordered (A ++ B)
ordered_append [] B a b h = b
ordered_append (c ∷ A) B a b h = (Each-append (λ d. lower (labels d) (labels c) ≡ false) A B a.0 h.0, ordered_append A B a.1 b h.1)

ordered_map : (x : Pair) (A : List (List Pair)) → Ordered A → Ordered (map (λ c. x ∷ c) A)
ordered_map x [] o = tt
ordered_map x (c ∷ A) o = (
  Each-map (λ d. lower (labels d) (labels (x ∷ c)) ≡ false) (λ d. x ∷ d) A
      (Each_weaker (λ d. lower (labels d) (labels c) ≡ false) (λ d. lower (labels (x ∷ d)) (labels (x ∷ c)) ≡ false) (λ d e. lower-under (label x) (labels d) (labels c) e) A o.0),
  ordered_map x A o.1,
)

-- choices that begin with later pairs come later
later : (x : Pair) (b : ℕ) (A : List (List Pair)) (qs : List Pair) → Span (suc (label x)) qs b → (c : List Pair) →
    Each (λ d. lower (labels d) (labels (x ∷ c)) ≡ false) (flat_map (λ y. map (λ d. y ∷ d) A) qs)
later x b A [] s c = tt
later x b A (y ∷ qs) s c =
    let P : List Pair → Type 0 = λ d. lower (labels d) (labels (x ∷ c)) ≡ false in
    Each-append P (map (λ d. y ∷ d) A) (flat_map (λ y. map (λ d. y ∷ d) A) qs)
    (Each-map P (λ d. y ∷ d) A (each_all (λ d. P (y ∷ d)) (λ d. lower-above (label x) (label y) (labels c) (labels d) s.0) A))
    (later x b A qs (span-lower (suc (label y)) (suc (label x)) qs b (omega (arith, s.0)) s.1) c)

ordered_joined : (A : List (List Pair)) → Ordered A → (a b : ℕ) (qs : List Pair) → Span a qs b → Ordered (flat_map (λ x. map (λ c. x ∷ c) A) qs)
ordered_joined A o a b [] s = tt
ordered_joined A o a b (x ∷ qs) s =
    let B = flat_map (λ y. map (λ c. y ∷ c) A) qs in
    let P : List Pair → Type 0 = λ c. Each (λ d. lower (labels d) (labels c) ≡ false) B in
    ordered_append (map (λ c. x ∷ c) A) B (ordered_map x A o) (ordered_joined A o (suc (label x)) b qs s.1)
    (Each-map P (λ c. x ∷ c) A (each_all (λ c. P (x ∷ c)) (λ c. later x b A qs s.1 c) A))

choices_ordered : (n a b : ℕ) (ps : List Pair) → Span a ps b → Ordered (choices n ps)
choices_ordered zero a b ps s = (tt, tt)
choices_ordered (suc n) a b ps s = ordered_joined (choices n ps) (choices_ordered n a b ps s) a b ps s

first_lowest : (p : List Pair → Bool) (A : List (List Pair)) → Ordered A → (c d : List Pair) → find p A ≡ Some c → Memᴰ d A → p d ≡ true →
    lower (labels d) (labels c) ≡ false
first_lowest p [] o c d e m t = absurd (Memᴰ.not-nil m)
first_lowest p (x ∷ A) o c d e m t =
    elim (cases_Bool (p x)) [
      | inl y ↦
          let k = sym (cond-true (p x) (Some x) (find p A) y) ∙ e in
          let q : x ≡ c = cc in
          subst (λ (z : List Pair). lower (labels d) (labels z) ≡ false) q
          (elim (Memᴰ.cases_cons m) [
            | inl h ↦ ap (λ (z : List Pair). lower (labels z) (labels x)) h ∙ lower-same (labels x)
            | inr h ↦ each_member (λ z. lower (labels z) (labels x) ≡ false) d A o.0 h
          ])
      | inr y ↦
          elim (Memᴰ.cases_cons m) [
            | inl h ↦ absurd (both_ways (p x) y (ap p (sym h) ∙ t))
            | inr h ↦ first_lowest p A o.1 c d (sym (cond-false (p x) (Some x) (find p A) y) ∙ e) h t
          ]
    ]

-- labels tell pairs apart
same-labels : (ps : List Pair) (a b : ℕ) → Span a ps b → (c d : List Pair) → Within ps c → Within ps d → labels c ≡ labels d → c ≡ d
same-labels ps a b s [] [] v w e = refl
same-labels ps a b s [] (y ∷ d) v w e = let z : ◌≡◌ {A = ℕ} 0 1 = cc in absurd (omega arith)
same-labels ps a b s (x ∷ c) [] v w e = let z : ◌≡◌ {A = ℕ} 0 1 = cc in absurd (omega arith)
same-labels ps a b s (x ∷ c) (y ∷ d) v w e =
    let h : label x ≡ label y = cc in
    let t : labels c ≡ labels d = cc in
    let k = sym (read_mem v.0 a b s) ∙ (ap (λ n. read n ps) h ∙ read_mem w.0 a b s) in
    let f : fact x ≡ fact y = cc in
    let rest = same-labels ps a b s c d v.1 w.1 t in
    λ i. (h i, f i) ∷ rest i

-- the choice that a goal finds ------------------------------------------------------------------------

within-each : {X : Type 0} (ps c : List X) → ((x : X) → Memᴰ x c → Memᴰ x ps) → Within ps c
within-each ps [] f = tt
within-each ps (x ∷ c) f = (f x (Memᴰ.head refl), within-each ps c (λ y m. f y (Memᴰ.tail m)))

module _ (fr : Frame) (h : Place) (l : ℕ) (ps : List Pair) where
  suits_of : (c : List Pair) → Suits fr h l ps c → suits fr.system h.rule h.place l c ≡ true
  suits_of c k =
      and_from (stands_at h.place l c) (distinct (labels c) && ready fr.system h.rule (facts c)) k.stands
      (and_from (distinct (labels c)) (ready fr.system h.rule (facts c)) k.apart k.suits)

  listed_of : (c : List Pair) → Suits fr h l ps c → Memᴰ c (choices (heads_of h.rule) ps)
  listed_of c k =
      subst (λ n. Memᴰ c (choices n ps)) (ready-length fr.system h.rule c k.suits) (choices-all ps c (within-each ps c k.within))

  suiting : (c : List Pair) → chosen fr.system h.rule h.place l ps ≡ Some c → Suits fr h l ps c
  suiting c e =
      let f = first_some (suits fr.system h.rule h.place l) c (choices (heads_of h.rule) ps) e in
      let w = choices-from (heads_of h.rule) ps c f.0 in
      let a = and_parts (stands_at h.place l c) (distinct (labels c) && ready fr.system h.rule (facts c)) f.1 in
      let b = and_parts (distinct (labels c)) (ready fr.system h.rule (facts c)) a.1 in
      record { within = λ p m. within-mem ps c w m; stands = a.0; apart = b.0; suits = b.1 }

  pub none-suiting : chosen fr.system h.rule h.place l ps ≡ None → (c : List Pair) → Suits fr h l ps c → ⊥
  none-suiting e c k =
      both_ways (suits fr.system h.rule h.place l c) (first-none (suits fr.system h.rule h.place l) (listed_of c k) e) (suits_of c k)

  pub none-chosen : ((c : List Pair) → Suits fr h l ps c → ⊥) → chosen fr.system h.rule h.place l ps ≡ None
  none-chosen f = go (chosen fr.system h.rule h.place l ps) refl
    where
      go : (o : Option (List Pair)) → chosen fr.system h.rule h.place l ps ≡ o → o ≡ None
      go None e = refl
      go (Some c) e = absurd (f c (suiting c e))

  module _ (n : ℕ) (span : Span 0 ps n) where
    pub chosen_lowest : (c : List Pair) → chosen fr.system h.rule h.place l ps ≡ Some c → IsLowest fr h l ps c
    chosen_lowest c e = record {
      itself = suiting c e;
      least = λ d k. first_lowest (suits fr.system h.rule h.place l) (choices (heads_of h.rule) ps) (choices_ordered (heads_of h.rule) 0 n ps span) c d e (listed_of d k) (suits_of d k);
    }

    pub lowest_chosen : (c : List Pair) → IsLowest fr h l ps c → chosen fr.system h.rule h.place l ps ≡ Some c
    lowest_chosen c k = go (chosen fr.system h.rule h.place l ps) refl
      where
        go : (o : Option (List Pair)) → chosen fr.system h.rule h.place l ps ≡ o → o ≡ Some c
        go None e = absurd (none-suiting e c k.itself)
        go (Some d) e =
            let j = chosen_lowest d e in
            let many : length (labels d) ≡ length (labels c) =
            length-map d label ∙ (ready-length fr.system h.rule d j.itself.suits ∙ sym (length-map c label ∙ ready-length fr.system h.rule c k.itself.suits)) in
            ap Some (same-labels ps 0 n span d c (within-each ps d j.itself.within) (within-each ps c k.itself.within)
            (neither-lower (labels d) (labels c) many (k.least d j.itself) (j.least c k.itself)))
