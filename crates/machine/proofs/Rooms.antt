-- What a shortage says, and that there is none.
use Rattle.std.proofs.Common.{◌≡◌, ℕ, suc, ◌+◌, ◌<◌, ◌≤◌, cond, ltb, ◌⊎◌, List, length, Some, None, Option, sym, refl, ◌∙◌, inl, inr, arith}
use Rattle.std.proofs.lemmas.Bool.{le-ltb, cond-false, cond-true, lt-ltb, cases_lt, cond_both, ltb-true, ltb-false}
use Rattle.facts.specs.declared.fact_types.Fact.{Fact}
use Rattle.stores.specs.Store.{last_label}
use Rattle.machine.specs.declared.answer_types.Shortage.{Shortage}
use Rattle.machine.specs.declared.answer_types.Shortage.TheVariants.{Goals, Facts, Labels}
use Rattle.machine.specs.Machine.{seen, shortage, most_goals, Frame, State, store_shortage}

pub some-none : {X : Type 0} (x : X) → Some x ≡ None → ⊥
some-none x e = let z : ◌≡◌ {A = ℕ} 0 1 = cc in omega arith

pub some-some : {X : Type 0} (x y : X) → Some x ≡ Some y → x ≡ y
some-some x y e = cc

abbrev pub Fits : Frame → State → ℕ → Type 0
Fits fr st n = (length st.pairs + n ≤ fr.capacity) × (st.next + n ≤ suc last_label)

-- why so many facts more cannot be stored
abbrev pub Cramped : Frame → State → ℕ → Shortage → Type 0
Cramped fr st n k =
    ((k ≡ Facts) × (fr.capacity < length st.pairs + n))
    ⊎ ((k ≡ Labels) × (length st.pairs + n ≤ fr.capacity) × (suc last_label < st.next + n))

-- no shortage, or why
abbrev pub StoreCase : Frame → State → ℕ → Option Shortage → Type 0
StoreCase fr st n o = ((o ≡ None) × Fits fr st n) ⊎ ((k : Shortage) × (o ≡ Some k) × Cramped fr st n k)

module _ (fr : Frame) (st : State) where
  pub store_case : (n : ℕ) → StoreCase fr st n (store_shortage fr st n)
  store_case n =
      cond_both (ltb fr.capacity (length st.pairs + n)) (Some Facts) (cond (ltb (suc last_label) (st.next + n)) (Some Labels) None)
      (StoreCase fr st n)
      (λ e. inr (Facts, refl, inl (refl, ltb-true _ _ e)))
      (λ e. cond_both (ltb (suc last_label) (st.next + n)) (Some Labels) None (StoreCase fr st n)
      (λ q. inr (Labels, refl, inr (refl, ltb-false _ _ e, ltb-true _ _ q)))
      (λ q. inl (refl, (ltb-false _ _ e, ltb-false _ _ q))))

  pub store_fits : (n : ℕ) → store_shortage fr st n ≡ None → Fits fr st n
  store_fits n e = elim (store_case n) [
    | inl h ↦ h.1
    | inr h ↦ absurd (some-none h.0 (sym h.1 ∙ e))
  ]

  pub store_cramped : (n : ℕ) (k : Shortage) → store_shortage fr st n ≡ Some k → Cramped fr st n k
  store_cramped n k e = elim (store_case n) [
    | inl h ↦ absurd (some-none k (sym e ∙ h.0))
    | inr h ↦
        let q = some-some k h.0 (sym e ∙ h.1) in
        elim h.2 [ inl c ↦ inl (q ∙ c.0, c.1) | inr c ↦ inr (q ∙ c.0, c.1, c.2) ]
  ]

  pub fits_store_lem : (n : ℕ) → Fits fr st n → store_shortage fr st n ≡ None
  fits_store_lem n h = elim (store_case n) [
    | inl q ↦ q.0
    | inr q ↦ elim q.2 [ inl c ↦ absurd (omega (arith, c.1, h.0)) | inr c ↦ absurd (omega (arith, c.2, h.1)) ]
  ]

  pub store_full : (n : ℕ) → fr.capacity < length st.pairs + n → store_shortage fr st n ≡ Some Facts
  store_full n h =
      cond-true (ltb fr.capacity (length st.pairs + n)) (Some Facts) (cond (ltb (suc last_label) (st.next + n)) (Some Labels) None)
      (lt-ltb fr.capacity (length st.pairs + n) h)

  pub store_out : (n : ℕ) → length st.pairs + n ≤ fr.capacity → suc last_label < st.next + n → store_shortage fr st n ≡ Some Labels
  store_out n h k =
      cond-false (ltb fr.capacity (length st.pairs + n)) (Some Facts) (cond (ltb (suc last_label) (st.next + n)) (Some Labels) None)
      (le-ltb fr.capacity (length st.pairs + n) h)
      ∙ cond-true (ltb (suc last_label) (st.next + n)) (Some Labels) None (lt-ltb (suc last_label) (st.next + n) k)

  module _ (fs : List Fact) where
    pub room_store : length st.goals + length fs ≤ most_goals → shortage fr fs st ≡ store_shortage fr st (length (seen fr.rules fs))
    room_store h =
        cond-false (ltb most_goals (length st.goals + length fs)) (Some Goals) (store_shortage fr st (length (seen fr.rules fs)))
        (le-ltb most_goals (length st.goals + length fs) h)

    pub room_full : most_goals < length st.goals + length fs → shortage fr fs st ≡ Some Goals
    room_full h =
        cond-true (ltb most_goals (length st.goals + length fs)) (Some Goals) (store_shortage fr st (length (seen fr.rules fs)))
        (lt-ltb most_goals (length st.goals + length fs) h)

    -- the goals are too many, or the store decides
    pub room_case : ((shortage fr fs st ≡ Some Goals) × (most_goals < length st.goals + length fs))
        ⊎ ((shortage fr fs st ≡ store_shortage fr st (length (seen fr.rules fs))) × (length st.goals + length fs ≤ most_goals))
    room_case = elim (cases_lt most_goals (length st.goals + length fs)) [
      | inl h ↦ inl (room_full h, h)
      | inr h ↦ inr (room_store h, h)
    ]
