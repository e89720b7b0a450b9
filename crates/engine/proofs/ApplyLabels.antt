-- What an application's choice gives: labels that stand once, how many facts leave, and whether the active one does.
use Rattle.std.proofs.Common.{◌≡◌, ℕ, ◌+◌, ◌<◌, ◌≤◌, Bool, true, false, ◌&&◌, ◌||◌, eqb, List, [], ◌∷◌, ◌++◌, length, get_or, take, drop, Some, sym, refl, ap, subst, ◌∙◌, inl, inr, arith, take-append-drop, length-append}
use Rattle.std.proofs.lemmas.Bool.{cases_eq, eq-eqb, eqb-true, ne_eqb, and_parts, both_ways}
use Rattle.std.proofs.lemmas.List.{length-map, drop-map}
use mathlib.Core.List.{Memᴰ}
use Rattle.facts.specs.System.{System}
use Rattle.rules.specs.Rules.{Rule}
use Rattle.rules.specs.Closed.{heads_of}
use Rattle.stores.specs.Lists.{has}
use Rattle.stores.specs.Store.{Pair, label, labels, facts, without}
use Rattle.stores.specs.Piles.{Pile, Owed}
use Rattle.machine.specs.Lists.{tally, distinct, choices, together}
use Rattle.machine.specs.Fitting.{setting_of, ready}
use Rattle.machine.specs.Machine.{stands_at, suits, chosen, taken_of, gone_of, gone_alls, kept_alls}
use Rattle.machine.proofs.Counts.{one-yes, one-no, tally-append}
use Rattle.machine.proofs.Labels.{under, often, Apart, Alike, has-none, removed, chosen-parts}
use Rattle.machine.proofs.Lists.{Each, first_some, choices-from, has-at}
use Rattle.machine.proofs.Parts.{map-append, rest_by, taken-parts, taken-joined}
use Rattle.machine.proofs.Settings.{ready-length}
use Rattle.engine.proofs.SearchOrder.{Rising, owed-rising}
use Rattle.engine.proofs.Takings.{together_two, length-taken_by}

-- a label stands once in pairs whose labels rise
rising-apart : (n a : ℕ) (ps : List Pair) → Rising a ps → (often n ps ≤ 1) × (n ≤ a → often n ps ≡ 0)
rising-apart n a [] r = (omega arith, λ h. refl)
rising-apart n a (p ∷ ps) r =
    let b = rising-apart n (label p) ps r.1 in
    elim (cases_eq n (label p)) [
      | inl e ↦ (omega (arith, one-yes (eqb n (label p)) (eq-eqb n (label p) e), b.1 (omega arith)), λ h. absurd (omega (arith, r.0)))
      | inr e ↦ (omega (arith, one-no (eqb n (label p)) (ne_eqb n (label p) e), b.0), λ h. omega (arith, r.0, one-no (eqb n (label p)) (ne_eqb n (label p) e), b.1 (omega (arith, r.0))))
    ]

pub owed-apart : (m : Pile) → Owed m → Apart m.pairs
owed-apart m o n = (rising-apart n 0 m.pairs (owed-rising m o)).0

-- all elements are as many as the list is long
pub tally-length : {X : Type 0} (xs : List X) → tally (λ x. true) xs ≡ length xs
tally-length [] = refl
tally-length (x ∷ xs) = omega (arith, tally-length xs)

has-append : (n : ℕ) (xs ys : List ℕ) → has n ys ≡ false → has n (xs ++ ys) ≡ has n xs
has-append n [] ys h = h
has-append n (x ∷ xs) ys h = ap (λ b. eqb n x || b) (has-append n xs ys h)

-- what is known of a choice
pub record Chosen (s : System) (r : Rule) (place active : ℕ) (ps c : List Pair) : Type 0 where
  pub within : Each (λ x. Memᴰ x ps) c
  pub stands : stands_at place active c ≡ true
  pub differ : distinct (labels c) ≡ true
  pub many : length c ≡ heads_of r

pub chosen-is : (s : System) (r : Rule) (place active : ℕ) (ps c : List Pair) → chosen s r place active ps ≡ Some c → Chosen s r place active ps c
chosen-is s r place active ps c e =
    let f = first_some (suits s r place active) c (choices (heads_of r) ps) e in
    let a = and_parts (stands_at place active c) (distinct (labels c) && ready s r (facts c)) f.1 in
    let b = and_parts (distinct (labels c)) (ready s r (facts c)) a.1 in
    record { within = choices-from (heads_of r) ps c f.0; stands = a.0; differ = b.0; many = ready-length s r c b.1 }

module _ (s : System) (r : Rule) (place active : ℕ) (ps c : List Pair) (apart : Apart ps) (k : Chosen s r place active ps c) where
  -- what stays
  kept_of : List Pair
  kept_of = take (length r.keeps) c ++ (kept_alls r.alls (taken_of s r ps c) ++ rest_by s (setting_of r (facts c)) r.alls (without (labels c) ps))

  cut : (p : Pair → Bool) → tally p c ≡ tally p (take (length r.keeps) c) + tally p (drop (length r.keeps) c)
  cut p = sym (ap (tally p) (take-append-drop (length r.keeps) c)) ∙ tally-append p (take (length r.keeps) c) (drop (length r.keeps) c)

  whole : Alike ps (gone_of s r ps c ++ kept_of)
  unfolding kept_of
  whole p =
      let σ = setting_of r (facts c) in
      let n = length r.keeps in
      let ts = taken_of s r ps c in
      let rest = rest_by s σ r.alls (without (labels c) ps) in
      omega (
        arith,
        chosen-parts ps c apart k.within k.differ p,
        tally-append p c (without (labels c) ps),
        cut p,
        taken-parts s σ p r.alls (without (labels c) ps),
        tally-append p (gone_of s r ps c) (take n c ++ (kept_alls r.alls ts ++ rest)),
        tally-append p (drop n c) (gone_alls r.alls ts),
        tally-append p (take n c) (kept_alls r.alls ts ++ rest),
        tally-append p (kept_alls r.alls ts) rest,
      )

  -- as many pairs leave as the labels that are taken out
  pub gone-length : length (without (labels (gone_of s r ps c)) ps) + length (gone_of s r ps c) ≡ length ps
  gone-length =
      let p : Pair → Bool = λ x. true in
      let l = without (labels (gone_of s r ps c)) ps in
      omega (
        arith,
        removed ps (gone_of s r ps c) kept_of apart whole p,
        whole p,
        tally-append p (gone_of s r ps c) kept_of,
        tally-length l,
        tally-length ps,
        tally-length (gone_of s r ps c),
      )

  -- the choice and what all heads took are no more than there are
  pub took-within : length r.alls ≤ 2 → heads_of r + (length (get_or (taken_of s r ps c) 0 []) + length (get_or (taken_of s r ps c) 1 [])) ≤ length ps
  took-within h =
      let σ = setting_of r (facts c) in
      let p : Pair → Bool = λ x. true in
      let ts = taken_of s r ps c in
      let qs = without (labels c) ps in
      let two = together_two (λ (xs : List Pair). xs) ts refl (omega (arith, length-taken_by s σ r.alls qs)) in
      omega (
        arith,
        k.many,
        chosen-parts ps c apart k.within k.differ p,
        tally-append p c qs,
        taken-joined s σ p r.alls qs,
        ap length two,
        length-append (get_or ts 0 []) (get_or ts 1 []),
        tally-length ps,
        tally-length c,
        tally-length (together ts),
      )

  -- the active label is among those of the choice, and so among those that leave only if its own head is a `drop` head
  active-often : place < heads_of r → 1 ≤ often active c
  active-often h =
      let t : has active (labels c) ≡ true =
      subst (λ m. has m (labels c) ≡ true) (eqb-true (get_or (labels c) place 0) active k.stands) (has-at (labels c) place (omega (arith, length-map c label, k.many))) in
      elim (cases_eq (often active c) 0) [
        | inl e ↦ absurd (both_ways (has active (labels c)) (has-none active c e) t)
        | inr e ↦ omega arith
      ]

  pub active-goes : place < heads_of r → has active (labels (gone_of s r ps c)) ≡ has active (drop (length r.keeps) (labels c))
  active-goes h =
      let σ = setting_of r (facts c) in
      let n = length r.keeps in
      let ts = taken_of s r ps c in
      let qs = without (labels c) ps in
      let u = under active in
      let z : often active (gone_alls r.alls ts) ≡ 0 =
      omega (arith, active-often h, apart active, chosen-parts ps c apart k.within k.differ u, tally-append u c qs, taken-parts s σ u r.alls qs) in
      ap (has active) (map-append label (drop n c) (gone_alls r.alls ts))
      ∙ (has-append active (labels (drop n c)) (labels (gone_alls r.alls ts)) (has-none active (gone_alls r.alls ts) z)
      ∙ ap (has active) (sym (drop-map label n c)))
