-- An array that is made by a closure of the index, which changes nothing.
use Rattle.std.proofs.Common.{◌≡◌, ℕ, zero, suc, ◌+◌, ◌<◌, ◌≤◌, List, map, get_or, sym, ap, subst, ◌∙◌, inl, inr, arith}
use Rattle.std.specs.Fn.{Mut, Called}
use Rattle.std.specs.List.{range_with_len}
use Rattle.std.specs.Array.{IsFromFnResult, IsFromFnResultFrom}
use Rattle.std.proofs.lemmas.Bool.{cases_eq}
use Rattle.std.proofs.lemmas.List.FromFn.{fill_by_all}

module _ {F B : Type 0} (g : Mut F (ℕ × Unit {0}) B) (f : F) (ys : List B) (d : B) (made : ℕ → B) (len : ℕ) (says : (i : ℕ) (y : B) (q : F) → i < len → Called g f (i, tt) y q → (q ≡ f) × (y ≡ made i)) where
  made-at : (n i : ℕ) → i + n ≡ len → IsFromFnResultFrom g f ys i n → (k : ℕ) → i ≤ k → k < len → get_or ys k d ≡ made k
  made-at zero i e c k l h = absurd (omega arith)
  made-at (suc n) i e c k l h =
      let told = says i c.1 c.0 (omega arith) c.3 in
      elim (cases_eq i k) [
        | inl s ↦ ap (λ j. get_or ys j d) (sym s) ∙ c.2.1 d ∙ told.1 ∙ ap made s
        | inr a ↦ made-at n (i + 1) (omega arith) (subst (λ z. IsFromFnResultFrom g z ys (i + 1) n) told.0 c.4) k (omega arith) h
      ]

pub made_by : {F B : Type 0} {g : Mut F (ℕ × Unit {0}) B} {f : F} {ys : List B} {len : ℕ} (d : B) (made : ℕ → B) → IsFromFnResult g f ys len → ((i : ℕ) (y : B) (q : F) → i < len → Called g f (i, tt) y q → (q ≡ f) × (y ≡ made i)) → ys ≡ map made (range_with_len 0 len)
made_by {g = g} {f = f} {ys = ys} {len = len} d made r says = fill_by_all made ys len d r.long (λ k h. made-at g f ys d made len says len 0 (omega arith) r.each k (omega arith) h)
