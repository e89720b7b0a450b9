-- A list judged from left to right by a closure: the first fault ends it, and is the answer.
use Rattle.std.proofs.Common.{◌≡◌, List, [], ◌∷◌, Option, None, Some, Ok, Err, Result, Break, sym, ap, subst, ◌∙◌}
use Rattle.std.specs.Fn.{Mut, Called}
use Rattle.std.specs.Iterator.{AlwaysYields, Yields, YieldsThen}
use Rattle.std.specs.List.{FoldsTo}
use Rattle.std.specs.Option.{MatchOption}
use Rattle.std.specs.Result.{IsErr, IsErrAnd, result_from_control_flow}
use Rattle.std.proofs.lemmas.Iterator.{YieldsList}
use Rattle.std.proofs.lemmas.Result.{err_from_is_err_and}
use Rattle.rules.specs.declared.rule_types.RuleFault.{RuleFault}
use Rattle.rules.specs.Writing.{◌>>=◌, each}

abbrev Verdict : Type 0
Verdict = Result (Unit {0}) RuleFault

-- What is known of a call of `try_for_each`: the closure passed some items, and then no item came, or it found a fault.
module _ {A F : Type 0} (g : Mut F (A × Unit {0}) Verdict) (r : Verdict) where
  abbrev pub Passes : F → A → F → Type 0
  Passes p x q = (v : Verdict) × Called g p (x, tt) v q × (v ≡ Ok tt)

  abbrev pub Ends : F → Option A → Type 0
  Ends j o = MatchOption o (r ≡ Ok tt) (λ x. (v : Verdict) × (h : F) × (e : _) × Called g j (x, tt) v h × (v ≡ result_from_control_flow (Break e)) × (IsErr r × IsErrAnd r (λ d. d ≡ e.0)))

module _ {S A B F : Type 0} (steps : S → Option A → S → Type 0) (shows : A → B) (g : Mut F (A × Unit {0}) Verdict) (judge : B → Verdict) (f : F) (r : Verdict) (u : S)
    (says : (x : A) (v : Verdict) (q : F) → Called g f (x, tt) v q → (q ≡ f) × (v ≡ judge (shows x))) where
  judged : (all : List B) (xs : List A) (o : Option A) (s t : S) (j : F) → AlwaysYields steps shows s all → Yields steps s xs t → steps t o u → FoldsTo (Passes g r) f xs j → Ends g r j o → r ≡ each judge all
  judged [] [] None s t j a y p w k = k
  judged [] [] (Some x) s t j a y p w k = absurd (a x u (subst (λ z. steps z (Some x) u) (sym y) p))
  judged [] (x ∷ xs) o s t j a y p w k = absurd (a x y.0 y.1)
  judged (b ∷ all) [] None s t j a y p w k = absurd (a.0 u (subst (λ z. steps z None u) (sym y) p))
  judged (b ∷ all) [] (Some x) s t j a y p w k =
      let here = (a.1 x u (subst (λ z. steps z (Some x) u) (sym y) p)).0 in
      let told = says x k.0 k.1 (subst (λ z. Called g z (x, tt) k.0 k.1) (sym w) k.3) in
      let was : judge b ≡ Err k.2.0 = ap judge (sym here) ∙ sym told.1 ∙ k.4 in
      let end = err_from_is_err_and r k.5.1 in
      end.1 ∙ ap Err end.2 ∙ sym (ap (λ (v : Verdict). v >>= λ _. each judge all) was)
  judged (b ∷ all) (x ∷ xs) o s t j a y p w k =
      let on = a.1 x y.0 y.1 in
      let told = says x w.1.0 w.0 w.1.1 in
      let was : judge b ≡ Ok tt = ap judge (sym on.0) ∙ sym told.1 ∙ w.1.2 in
      judged all xs o y.0 t j on.1 y.2 p (subst (λ z. FoldsTo (Passes g r) z xs j) told.0 w.2) k ∙ sym (ap (λ (v : Verdict). v >>= λ _. each judge all) was)

module _ {S A B F : Type 0} {steps : S → Option A → S → Type 0} {shows : A → B} {g : Mut F (A × Unit {0}) Verdict} {s : S} {all : List B} (judge : B → Verdict) (u : S) (f : F) (r : Verdict) where
  pub each_from_yields_List : (xs : List A) × (o : Option A) × (j : F) × YieldsThen steps s xs o u × FoldsTo (Passes g r) f xs j × Ends g r j o
      → YieldsList steps shows s all → ((x : A) (v : Verdict) (q : F) → Called g f (x, tt) v q → (q ≡ f) × (v ≡ judge (shows x))) → r ≡ each judge all
  each_from_yields_List d e says = judged steps shows g judge f r u says all d.0 d.1 s d.3.0 d.2 e.runs d.3.1 d.3.2 d.4 d.5
