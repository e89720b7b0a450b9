-- The invariant of a job: labels rise, and every choice of stored pairs that makes a rule ready has a goal that will try it.
use Rattle.std.proofs.Common.{◌≡◌, ℕ, zero, suc, ◌+◌, ◌-◌, ◌<◌, ◌≤◌, true, false, cond, not, ◌⊎◌, List, [], ◌∷◌, ◌++◌, map, length, get_or, Some, None, filter, sym, refl, ap, ◌∙◌, subst, inl, inr, ⊎_elim, arith}
use mathlib.Core.List.Memᴰ
use mathlib.Core.List.{Memᴰ}
use Rattle.std.proofs.lemmas.Bool.{cond_both, eq-eqb, cases_lt, both_ways, not-true}
use Rattle.machine.proofs.Lists.{Within, has-label, within_more, kept_from, within-mem}
use Rattle.machine.proofs.Steps.{bring-span}
use Rattle.machine.proofs.Spans.{placed-last, placed-all-last, span-under, Span, span-append, span-kept}
use Rattle.machine.proofs.Settings.{ready-length}
use Rattle.machine.proofs.Orders.{none-suiting}
use Rattle.machine.proofs.Places.{offset, head_at, offset-within, head-none}
use Rattle.machine.proofs.Moves.{lacks, crowds, Move, ends, stores, full, wakes, forgets, loses, finishes, passes, applies}
use Rattle.rules.specs.Rules.{Rule}
use Rattle.rules.specs.Closed.{heads_of, Place, head_from, head, watched}
use Rattle.stores.specs.Store.{Pair, label, labels, facts, without}
use Rattle.stores.specs.Lists.{has}
use Rattle.machine.specs.Lists.{distinct}
use Rattle.machine.specs.Fitting.{ready}
use Rattle.machine.specs.Machine.{Frame, State, chosen, gone_of, left_of, numbered, bring, Outcome}
use Rattle.facts.specs.declared.fact_types.Fact.{Fact}
use Rattle.machine.specs.declared.goal_types.Goal.{Goal}
use Rattle.machine.specs.declared.goal_types.Goal.TheVariants.{Wait, Look, Try}

-- a goal will try the label at the head of the number n
abbrev pub Covers : Goal → ℕ → ℕ → Type 0
Covers (Wait f) l n = ⊥
Covers (Look k) l n = k ≡ l
Covers (Try k i) l n = (k ≡ l) × (i ≤ n)

abbrev pub Pending : List Goal → ℕ → ℕ → Type 0
Pending gs l n = (g : Goal) × Memᴰ g gs × Covers g l n

-- a choice of Stored pairs that makes a rule ready
pub record Choice (fr : Frame) (r : Rule) (ps c : List Pair) : Type 0 where
  pub within : Within ps c
  pub apart : distinct (labels c) ≡ true
  pub suits : ready fr.system r (facts c) ≡ true

abbrev pub label_at : List Pair → ℕ → ℕ
label_at c j = get_or (labels c) j 0

abbrev pub Covered : Frame → List Pair → List Goal → Type 0
Covered fr ps gs =
    (r : Rule) (m : Memᴰ r fr.rules) (c : List Pair) → Choice fr r ps c →
    (j : ℕ) × (j < heads_of r) × Pending gs (label_at c j) (suc (offset m + j))

pub record Inv (fr : Frame) (st : State) : Type 0 where
  pub span : Span 0 st.pairs st.next
  pub covered : Covered fr st.pairs st.goals

-- the pair at a place
pub place-mem : (c : List Pair) (j : ℕ) → j < length c → (p : Pair) × Memᴰ p c × (label_at c j ≡ label p)
place-mem [] j h = absurd (omega arith)
place-mem (p ∷ c) zero h = (p, Memᴰ.head refl, refl)
place-mem (p ∷ c) (suc j) h = let r = place-mem c j (omega arith) in (r.0, Memᴰ.tail r.1, r.2)

-- a choice over two lists is one over the first, or takes one of the second
pub split-within : (ps qs c : List Pair) → Within (ps ++ qs) c → Within ps c ⊎ ((j : ℕ) × (j < length c) × (p : Pair) × Memᴰ p qs × (label_at c j ≡ label p))
split-within ps qs [] w = inl tt
split-within ps qs (x ∷ c) w = go (Memᴰ.append_cases ps w.0) (split-within ps qs c w.1)
  where
    go : Memᴰ x ps ⊎ Memᴰ x qs → Within ps c ⊎ ((j : ℕ) × (j < length c) × (p : Pair) × Memᴰ p qs × (label_at c j ≡ label p)) →
        Within ps (x ∷ c) ⊎ ((j : ℕ) × (j < length (x ∷ c)) × (p : Pair) × Memᴰ p qs × (label_at (x ∷ c) j ≡ label p))
    go (inr n) below = inr (0, omega arith, x, n, refl)
    go (inl n) (inl v) = inl (n, v)
    go (inl n) (inr v) = inr (suc v.0, omega arith, v.2, v.3, v.4)

-- what is left of a state when labels go and the top goal with its own
abbrev left_by : List ℕ → ℕ → ℕ → List Goal → State → State
left_by gone l i gs st = record { pairs = without gone st.pairs; next = st.next; goals = cond (has l gone) gs (Try l i ∷ gs) }

module _ (fr : Frame) where
  -- a choice's label is Stored
  pub choice_has : (r : Rule) (ps c : List Pair) → Choice fr r ps c → (j : ℕ) → j < heads_of r → has (label_at c j) (labels ps) ≡ true
  choice_has r ps c k j h =
      let p = place-mem c j (omega (arith, ready-length fr.system r c k.suits)) in
      subst (λ l. has l (labels ps) ≡ true) (sym p.2) (has-label (within-mem ps c k.within p.1))

  -- fewer pairs, and another goal for the top one where that covered something
  pub recover : (ps qs : List Pair) (g : Goal) (gs hs : List Goal) → ((x : Pair) → Memᴰ x qs → Memᴰ x ps) → ((x : Goal) → Memᴰ x gs → Memᴰ x hs) →
      ((r : Rule) (m : Memᴰ r fr.rules) (c : List Pair) → Choice fr r qs c → (j : ℕ) → j < heads_of r → Covers g (label_at c j) (suc (offset m + j)) → Pending hs (label_at c j) (suc (offset m + j))) →
      Covered fr ps (g ∷ gs) → Covered fr qs hs
  recover ps qs g gs hs fewer more top k r m c h =
      let o = k r m c (record { within = within_more qs ps fewer c h.within; apart = h.apart; suits = h.suits }) in
      let j = o.0 in (
        j,
        o.1,
        ⊎_elim {A = o.2.0 ≡ g} {B = Memᴰ o.2.0 gs}
            (λ e. top r m c h j o.1 (subst (λ x. Covers x (label_at c j) (suc (offset m + j))) e o.2.2))
            (λ n. (o.2.0, more o.2.0 n, o.2.2))
            (Memᴰ.cases_cons o.2.1),
      )

  -- new pairs that have goals of their own
  pub enlarge : (ps qs : List Pair) (gs hs : List Goal) → ((x : Goal) → Memᴰ x gs → Memᴰ x hs) →
      ((p : Pair) → Memᴰ p qs → (n : ℕ) → Pending hs (label p) (suc n)) → Covered fr ps gs → Covered fr (ps ++ qs) hs
  enlarge ps qs gs hs more new k r m c h =
      ⊎_elim {A = Within ps c} {B = (j : ℕ) × (j < length c) × (p : Pair) × Memᴰ p qs × (label_at c j ≡ label p)}
      {C = (j : ℕ) × (j < heads_of r) × Pending hs (label_at c j) (suc (offset m + j))}
      (λ w. let o = k r m c (record { within = w; apart = h.apart; suits = h.suits }) in (o.0, o.1, (o.2.0, more o.2.0 o.2.1, o.2.2)))
      (λ v. (v.0, omega (arith, v.1, ready-length fr.system r c h.suits), subst (λ l. Pending hs l (suc (offset m + v.0))) (sym v.4) (new v.2 v.3 (offset m + v.0))))
      (split-within ps qs c h.within)

  -- the top goal covered nothing
  pub uncover : (ps : List Pair) (g : Goal) (gs : List Goal) →
      ((r : Rule) (m : Memᴰ r fr.rules) (c : List Pair) → Choice fr r ps c → (j : ℕ) → j < heads_of r → Covers g (label_at c j) (suc (offset m + j)) → ⊥) →
      Covered fr ps (g ∷ gs) → Covered fr ps gs
  uncover ps g gs top k = recover ps ps g gs gs (λ x m. m) (λ x m. m) (λ r m c h j l v. absurd (top r m c h j l v)) k

  pub bring-keeps : (fs : List Fact) (st : State) → Inv fr st → Inv fr (bring fr.rules fs st)
  bring-keeps fs st k =
      let qs = numbered st.next (filter (watched fr.rules) fs) in
      let ws = map Wait (filter (λ f. not (watched fr.rules f)) fs) in
      let ls = map {B = Goal} (λ p. Look (label p)) qs in
      record {
        span = bring-span fr.rules fs st k.span;
        covered = subst (λ (ps : List Pair). Covered fr ps (ws ++ (ls ++ st.goals))) (sym (placed-all-last 0 st.next (filter (watched fr.rules) fs) st.pairs k.span)) (enlarge st.pairs qs st.goals (ws ++ (ls ++ st.goals)) (λ x m. Memᴰ.append_right ws (Memᴰ.append_right ls m))
            (λ p m n. (Look (label p), Memᴰ.append_right ws (Memᴰ.append_left st.goals (Memᴰ.map (λ p. Look (label p)) m)), refl)) k.covered);
      }

  -- what goes takes its goal with it
  pub left-keeps : (st : State) (gone : List ℕ) (l i : ℕ) (gs : List Goal) → st.goals ≡ Try l i ∷ gs → Inv fr st → Inv fr (left_by gone l i gs st)
  left-keeps st gone l i gs e k =
      let ps = st.pairs in
      let qs = without gone ps in
      let fewer : (x : Pair) → Memᴰ x qs → Memᴰ x ps = λ x m. (kept_from (λ p. not (has (label p) gone)) x ps m).0 in
      let old : Covered fr ps (Try l i ∷ gs) = subst (Covered fr ps) e k.covered in
      record {
        span = span-kept (λ p. not (has (label p) gone)) 0 ps st.next k.span;
        covered = cond_both (has l gone) gs (Try l i ∷ gs) (Covered fr qs)
            (λ t. recover ps qs (Try l i) gs gs fewer (λ x m. m)
            (λ r m c h j a v.
            let p = place-mem c j (omega (arith, a, ready-length fr.system r c h.suits)) in
            let n = not-true (has (label p.0) gone) (kept_from (λ p. not (has (label p) gone)) p.0 ps (within-mem qs c h.within p.1)).1 in
            absurd (both_ways (has l gone) (subst (λ x. has x gone ≡ false) (sym (v.0 ∙ p.2)) n) t)) old)
            (λ t. recover ps qs (Try l i) gs (Try l i ∷ gs) fewer (λ x m. Memᴰ.tail m) (λ r m c h j a v. (Try l i, Memᴰ.head refl, v)) old);
      }

  -- no choice suits at the head of the number i
  pub pass_covers : (ps : List Pair) (l i : ℕ) (h : Place) → head fr.rules i ≡ Some h → chosen fr.system h.rule h.place l ps ≡ None →
      (r : Rule) (m : Memᴰ r fr.rules) (c : List Pair) → Choice fr r ps c → (j : ℕ) → j < heads_of r → l ≡ label_at c j → i ≡ suc (offset m + j) → ⊥
  pass_covers ps l i h eh ec r m c k j a el ei =
      let b = head_at m 1 j a in
      let n : suc (offset m + j) - 1 ≡ offset m + j = omega arith in
      let q : Some h ≡ Some b.0 = sym eh ∙ (ap (λ n. head fr.rules n) ei ∙ (ap (head_from 1 fr.rules) n ∙ b.1)) in
      let hh : h ≡ b.0 = cc in
      let er : h.rule ≡ r = ap (λ h. h.rule) hh ∙ b.2 in
      let ep : h.place ≡ j = ap (λ h. h.place) hh ∙ b.3 in
      let s = fr.system in
      none-suiting fr h l ps ec c (record {
        within = λ p n. within-mem ps c k.within n;
        stands = eq-eqb (label_at c h.place) l (ap (label_at c) ep ∙ sym el);
        apart = k.apart;
        suits = subst (λ (r : Rule). ready s r (facts c) ≡ true) (sym er) k.suits;
      })

  pub moved : (st : State) (ns : List ℕ) {gs : List Goal} {o : Outcome} → Move fr st ns gs o → st.goals ≡ gs → Inv fr st → Inv fr o.state
  moved st ns ends e k = k
  moved st ns (stores {f = f} {gs = gs} a) e k =
      let ps = st.pairs in
      let last = placed-last st.next f ps (span-under 0 ps st.next k.span) in
      record {
        span = subst (λ (ps : List Pair). Span 0 ps (suc st.next)) (sym last) (span-append 0 ps st.next ((st.next, f) ∷ []) (suc st.next) k.span (omega arith, omega arith));
        covered = subst (λ (ps : List Pair). Covered fr ps (Try st.next 1 ∷ gs)) (sym last) (enlarge ps ((st.next, f) ∷ []) gs (Try st.next 1 ∷ gs) (λ x m. Memᴰ.tail m)
            (λ p m n. (Try st.next 1, Memᴰ.head refl, (sym (ap label (Memᴰ.eq_of_singleton m)), omega arith)))
            (uncover ps (Wait f) gs (λ r m c h j a v. v) (subst (Covered fr ps) e k.covered)));
      }
  moved st ns (full n a) e k = k
  moved st ns (wakes {l = l} {gs = gs} a) e k =
      let ps = st.pairs in
      record {
        span = k.span;
        covered = recover ps ps (Look l) gs (Try l 1 ∷ gs) (λ x m. m) (λ x m. Memᴰ.tail m) (λ r m c h j b v. (Try l 1, Memᴰ.head refl, (v, omega arith))) (subst (Covered fr ps) e k.covered);
      }
  moved st ns (forgets {l = l} {gs = gs} a) e k =
      let ps = st.pairs in
      record {
        span = k.span;
        covered = uncover ps (Look l) gs (λ r m c h j b v. both_ways (has l (labels ps)) a (subst (λ x. has x (labels ps) ≡ true) (sym v) (choice_has r ps c h j b))) (subst (Covered fr ps) e k.covered);
      }
  moved st ns (loses {l = l} {i = i} {gs = gs} a) e k =
      let ps = st.pairs in
      record {
        span = k.span;
        covered = uncover ps (Try l i) gs (λ r m c h j b v. both_ways (has l (labels ps)) a (subst (λ x. has x (labels ps) ≡ true) (sym v.0) (choice_has r ps c h j b))) (subst (Covered fr ps) e k.covered);
      }
  moved st ns (finishes {l = l} {i = i} {gs = gs} y a) e k =
      let ps = st.pairs in
      record {
        span = k.span;
        covered = uncover ps (Try l i) gs (λ r m c h j b v. omega (arith, head-none 1 fr.rules (i - 1) a, offset-within m, v.1, b)) (subst (Covered fr ps) e k.covered);
      }
  moved st ns (passes {l = l} {i = i} {gs = gs} y h eh ec) e k =
      let ps = st.pairs in
      record {
        span = k.span;
        covered = recover ps ps (Try l i) gs (Try l (suc i) ∷ gs) (λ x m. m) (λ x m. Memᴰ.tail m)
            (λ r m c t j b v.
            ⊎_elim {A = i < suc (offset m + j)} {B = suc (offset m + j) ≤ i} (λ a. (Try l (suc i), Memᴰ.head refl, (v.0, a)))
            (λ a. absurd (pass_covers ps l i h eh ec r m c t j b v.0 (omega (arith, v.1)))) (cases_lt i (suc (offset m + j))))
            (subst (Covered fr ps) e k.covered);
      }
  moved st ns (applies {l = l} {i = i} {gs = gs} y h eh c ec fs q z) e k =
      bring-keeps fs (left_of fr.system h l i gs st c) (left-keeps st (labels (gone_of fr.system h.rule st.pairs c)) l i gs e k)
  moved st ns (lacks y h eh c ec q) e k = k
  moved st ns (crowds y h eh c ec fs q n z) e k = k
