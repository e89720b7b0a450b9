-- What a choice, the all heads and the numbers of heads give: facts about the lists of `specs/Machine.antt`.
use Rattle.std.proofs.Common.{◌≡◌, ℕ, suc, ◌+◌, ◌-◌, ◌<◌, Bool, true, false, cond, not, ltb, List, [], ◌∷◌, ◌++◌, map, length, get_or, Some, filter, sym, refl, ap, ◌∙◌, subst, inl, inr, arith}
use mathlib.Core.List.Memᴰ
use mathlib.Core.List.{Memᴰ}
use lib.ListN.{length-map, get_or-map}
use Rattle.std.proofs.lemmas.Bool.{ltb-true, not-true, cases_Bool, cond-true, cond-false}
use Rattle.machine.proofs.Lists.{each_member, Each, Each_weaker, Each-append, Each-map, Each-filter, Each-passes}
use Rattle.machine.proofs.Counts.{tally-append, tally-both}
use Rattle.rules.specs.Rules.{AllHead, Rule}
use Rattle.rules.specs.Closed.{heads_of, Place, head_from, head}
use Rattle.facts.specs.System.{System}
use Rattle.stores.specs.Store.{Pair, label, fact, labels, facts}
use Rattle.machine.specs.Lists.{tally, together}
use Rattle.machine.specs.Fitting.{Setting, fits_all_head}
use Rattle.machine.specs.Machine.{taken_by, gone_alls, kept_alls, two_counts}
use Rattle.machine.specs.Ledger.{Takes, Numbered}
use Rattle.std.specs.Prelude.{flat_map}
use Rattle.facts.specs.declared.fact_types.Fact.{Fact}

-- lists -----------------------------------------------------------------------------------------------

pub map-append : {X Y : Type 0} (f : X → Y) (xs ys : List X) → map f (xs ++ ys) ≡ map f xs ++ map f ys
map-append f [] ys = refl
map-append f (x ∷ xs) ys = ap (λ r. f x ∷ r) (map-append f xs ys)

-- heads -----------------------------------------------------------------------------------------------

pub head-from-is : (n : ℕ) (rs : List Rule) (i : ℕ) (h : Place) → head_from n rs i ≡ Some h →
    (before : List Rule) × (behind : List Rule) × (rs ≡ before ++ (h.rule ∷ behind)) × (h.number ≡ n + length before) × (h.place < heads_of h.rule)
head-from-is n [] i h e = let z : ◌≡◌ {A = ℕ} 0 1 = cc in absurd (omega arith)
head-from-is n (r ∷ rs) i h e =
    let here : Place = record { rule = r; number = n; place = i } in
    let later = head_from (suc n) rs (i - heads_of r) in
    elim (cases_Bool (ltb i (heads_of r))) [
      | inl t ↦
          let k = sym (cond-true (ltb i (heads_of r)) (Some here) later t) ∙ e in
          let q : here ≡ h = cc in
          ([], rs, ap (λ (p : Place). p.rule ∷ rs) q, sym (ap (λ (p : Place). p.number) q) ∙ omega arith, subst (λ (p : Place). p.place < heads_of p.rule) q (ltb-true i (heads_of r) t))
      | inr t ↦
          let b = head-from-is (suc n) rs (i - heads_of r) h (sym (cond-false (ltb i (heads_of r)) (Some here) later t) ∙ e) in
          (r ∷ b.0, b.1, ap (λ (l : List Rule). r ∷ l) b.2, omega (arith, b.3), b.4)
    ]

pub head-is : (rs : List Rule) (i : ℕ) (h : Place) → head rs i ≡ Some h → Numbered rs h.number h.rule
head-is rs i h e = let b = head-from-is 1 rs (i - 1) h e in (b.0, b.1, b.2, omega (arith, b.3))

pub head-place : (rs : List Rule) (i : ℕ) (h : Place) → head rs i ≡ Some h → h.place < heads_of h.rule
head-place rs i h e = (head-from-is 1 rs (i - 1) h e).4

pub head-mem : (rs : List Rule) (i : ℕ) (h : Place) → head rs i ≡ Some h → Memᴰ h.rule rs
head-mem rs i h e =
    let b = head-is rs i h e in
    subst (λ (l : List Rule). Memᴰ h.rule l) (sym b.2) (Memᴰ.append_right b.0 (Memᴰ.head refl))

-- all heads -------------------------------------------------------------------------------------------

-- what no all head took
abbrev pub rest_by : System → Setting → List AllHead → List Pair → List Pair
rest_by s σ [] ps = ps
rest_by s σ (a ∷ hs) ps = rest_by s σ hs (filter (λ p. not (fits_all_head s σ a (fact p))) ps)

one_of : (p : Pair → Bool) (b : Bool) (t : List Pair) → tally p t ≡ tally p (cond b [] t) + tally p (cond b t [])
one_of p true t = omega arith
one_of p false t = omega arith

map_cond : {X Y : Type 0} (f : X → Y) (b : Bool) (xs ys : List X) → map f (cond b xs ys) ≡ cond b (map f xs) (map f ys)
map_cond f true xs ys = refl
map_cond f false xs ys = refl

pub gone-alls-map : {X Y : Type 0} (f : X → Y) (hs : List AllHead) (ts : List (List X)) → gone_alls hs (map (map f) ts) ≡ map f (gone_alls hs ts)
gone-alls-map f [] ts = refl
gone-alls-map f (a ∷ hs) [] = refl
gone-alls-map f (a ∷ hs) (t ∷ ts) =
    let m = map-append f (cond a.drops t []) (gone_alls hs ts) in
    let l = map_cond f a.drops t [] in
    let i = gone-alls-map f hs ts in cc

pub kept-alls-map : {X Y : Type 0} (f : X → Y) (hs : List AllHead) (ts : List (List X)) → kept_alls hs (map (map f) ts) ≡ map f (kept_alls hs ts)
kept-alls-map f [] ts = refl
kept-alls-map f (a ∷ hs) [] = refl
kept-alls-map f (a ∷ hs) (t ∷ ts) =
    let m = map-append f (cond a.drops [] t) (kept_alls hs ts) in
    let l = map_cond f a.drops [] t in
    let i = kept-alls-map f hs ts in cc

pub joined-map : {X Y : Type 0} (f : X → Y) (ts : List (List X)) → together (map (map f) ts) ≡ map f (together ts)
joined-map f [] = refl
joined-map {Y = Y} f (t ∷ ts) = ap (λ (r : List Y). map f t ++ r) (joined-map f ts) ∙ sym (map-append f t (together ts))

pub joined-labels : (ts : List (List Pair)) → flat_map labels ts ≡ labels (together ts)
joined-labels [] = refl
joined-labels (t ∷ ts) = ap (λ (r : List ℕ). labels t ++ r) (joined-labels ts) ∙ sym (map-append label t (together ts))

pub two-counts-map : {X Y : Type 0} (f : X → Y) (ts : List (List X)) → two_counts (map (map f) ts) ≡ two_counts ts
two-counts-map f ts =
    let e : (i : ℕ) → length (get_or (map (map f) ts) i []) ≡ length (get_or ts i []) =
    λ i. ap length (get_or-map (map f) ts i []) ∙ length-map (get_or ts i []) f in
    λ i. e 0 i ∷ (e 1 i ∷ [])

module _ (s : System) (σ : Setting) where
  -- what all heads took, and the rest, make up the list
  pub taken-parts : (p : Pair → Bool) (hs : List AllHead) (ps : List Pair) →
      tally p ps ≡ (tally p (gone_alls hs (taken_by s σ hs ps)) + tally p (kept_alls hs (taken_by s σ hs ps))) + tally p (rest_by s σ hs ps)
  taken-parts p [] ps = omega arith
  taken-parts p (a ∷ hs) ps =
      let t = filter (λ x. fits_all_head s σ a (fact x)) ps in
      let u = filter (λ x. not (fits_all_head s σ a (fact x))) ps in
      omega (
        arith,
        tally-both p (λ x. fits_all_head s σ a (fact x)) ps,
        taken-parts p hs u,
        one_of p a.drops t,
        tally-append p (cond a.drops t []) (gone_alls hs (taken_by s σ hs u)),
        tally-append p (cond a.drops [] t) (kept_alls hs (taken_by s σ hs u)),
      )

  pub taken-joined : (p : Pair → Bool) (hs : List AllHead) (ps : List Pair) →
      tally p ps ≡ tally p (together (taken_by s σ hs ps)) + tally p (rest_by s σ hs ps)
  taken-joined p [] ps = omega arith
  taken-joined p (a ∷ hs) ps =
      let t = filter (λ x. fits_all_head s σ a (fact x)) ps in
      let u = filter (λ x. not (fits_all_head s σ a (fact x))) ps in
      omega (
        arith,
        tally-both p (λ x. fits_all_head s σ a (fact x)) ps,
        taken-joined p hs u,
        tally-append p t (together (taken_by s σ hs u)),
      )

  pub taken-fits : (hs : List AllHead) (ps : List Pair) → Takes s σ hs (map facts (taken_by s σ hs ps))
  taken-fits [] ps = tt
  taken-fits (a ∷ hs) ps =
      let q : Pair → Bool = λ x. fits_all_head s σ a (fact x) in
      let P : Fact → Type 0 = λ f. fits_all_head s σ a f ≡ true in (
        λ f m. each_member P f (facts (filter q ps)) (Each-map P fact (filter q ps) (Each-passes q ps)) m,
        taken-fits hs (filter (λ x. not (q x)) ps),
      )

  rest_each : (P : Pair → Type 0) (hs : List AllHead) (ps : List Pair) → Each P ps → Each P (rest_by s σ hs ps)
  rest_each P [] ps h = h
  rest_each P (a ∷ hs) ps h =
      let q : Pair → Bool = λ x. not (fits_all_head s σ a (fact x)) in
      rest_each P hs (filter q ps) (Each-filter q P ps h)

  pub rest_fits : (a : AllHead) (hs : List AllHead) (ps : List Pair) → Memᴰ a hs → Each (λ x. fits_all_head s σ a (fact x) ≡ false) (rest_by s σ hs ps)
  rest_fits a hs ps (Memᴰ.head {x = b} {xs = bs} e) =
      let q : Pair → Bool = λ x. not (fits_all_head s σ b (fact x)) in
      let P : Pair → Type 0 = λ x. fits_all_head s σ a (fact x) ≡ false in
      rest_each P bs (filter q ps)
      (Each_weaker (λ x. q x ≡ true) P (λ x h. ap (λ (z : AllHead). fits_all_head s σ z (fact x)) e ∙ not-true (fits_all_head s σ b (fact x)) h) (filter q ps)
      (Each-passes q ps))
  rest_fits a hs ps (Memᴰ.tail {x = b} {xs = bs} m) = rest_fits a bs (filter (λ x. not (fits_all_head s σ b (fact x))) ps) m

  -- what all heads took was there
  pub taken_in : (P : Pair → Type 0) (hs : List AllHead) (ps : List Pair) → Each P ps → Each P (together (taken_by s σ hs ps))
  taken_in P [] ps h = tt
  taken_in P (a ∷ hs) ps h =
      let q : Pair → Bool = λ x. fits_all_head s σ a (fact x) in
      let u = filter (λ x. not (q x)) ps in
      Each-append P (filter q ps) (together (taken_by s σ hs u)) (Each-filter q P ps h)
      (taken_in P hs u (Each-filter (λ x. not (q x)) P ps h))
