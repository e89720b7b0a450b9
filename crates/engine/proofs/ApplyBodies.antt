-- What a rule of a set that stands gives: kinds that a store takes, and no more facts than can be counted.
use Rattle.std.proofs.Common.{◌≡◌, ℕ, ◌-◌, ◌*◌, ◌<◌, ◌≤◌, Bool, true, false, List, [], ◌∷◌, ◌++◌, map, flat_map, length, get_or, ℤ, pos, Some, None, Option, sym, subst, arith, length-append}
use Rattle.std.specs.Prelude.{option_map}
use Rattle.std.proofs.lemmas.Bool.{le-leb}
use Rattle.std.proofs.lemmas.List.{length-map}
use Rattle.facts.specs.System.{System}
use Rattle.facts.specs.declared.fact_types.Fact.{Fact}
use Rattle.rules.specs.declared.rule_types.GiveAll.{GiveAll}
use Rattle.rules.specs.declared.rule_types.Template.{Template}
use Rattle.rules.specs.Rules.{Rule, all}
use Rattle.rules.specs.Writing.{each, over_verdict, term_verdict, template_verdict, giveall_verdict}
use Rattle.rules.specs.Closed.{accepted, every_word}
use Rattle.stores.specs.Store.{last_kind}
use Rattle.machine.specs.Fitting.{Setting, all_values, given, term_value, body}
use Rattle.machine.proofs.Lists.{Each, Each-append, Each-map}
use Rattle.machine.proofs.Rooms.{some-none, some-some}
use Rattle.machine.proofs.Valids.{each-from, each_flat, all-each, values_some}
use Rattle.machine.proofs.Stands.{RuleStands, behind-number, kind-accepted, each-accepted}
use Rattle.engine.specs.Bringing.{has_kind}

module _ (s : System) (σ : Setting) (r : Rule) where
  given-kind : (ts : List ℤ) (t : Template) → t.kind < 64 → (f : Fact) → given s σ ts t ≡ Some f → has_kind f ≡ true
  given-kind ts t h f = go (all_values (map (term_value s σ ts) t.terms))
    where
      go : (o : Option (List ℤ)) → option_map {U = Fact} (λ ws. record { kind = t.kind; words = ws }) o ≡ Some f → has_kind f ≡ true
      go None k = absurd (some-none f (sym k))
      go (Some ws) k = subst (λ (g : Fact). has_kind g ≡ true) (some-some _ f k) (le-leb t.kind last_kind (omega arith))

  template-kind : (flag : Bool) (t : Template) → accepted (template_verdict (term_verdict every_word r flag) t) ≡ true → t.kind < 64
  template-kind flag t e = kind-accepted t.kind (each (term_verdict every_word r flag) t.terms) e

  over : List (List Fact) → GiveAll → List (Option Fact)
  over taken g = map (λ f. given s σ f.words g.each) (get_or taken (g.over - 1) [])

  length-over : (taken : List (List Fact)) → ((i : ℕ) → length (get_or taken i []) ≤ 1024) → (gs : List GiveAll) → length (flat_map (over taken) gs) ≤ 1024 * length gs
  unfolding over
  length-over taken h [] = omega arith
  length-over taken h (g ∷ gs) =
      omega (arith, length-over taken h gs, h (g.over - 1), length-map (get_or taken (g.over - 1) []) (λ f. given s σ f.words g.each), length-append (over taken g) (flat_map (over taken) gs))

  body_values : (taken : List (List Fact)) → RuleStands every_word r → (fs : List Fact) → body s σ r taken ≡ Some fs →
      Each (λ f. has_kind f ≡ true) fs × (length fs ≡ length (map (given s σ []) r.gives ++ flat_map (over taken) r.givealls))
  unfolding over
  body_values taken st fs e =
      let Q : Option Fact → Type 0 = λ o. (f : Fact) → o ≡ Some f → has_kind f ≡ true in
      values_some (λ f. has_kind f ≡ true) (map (given s σ []) r.gives ++ flat_map (over taken) r.givealls)
      (Each-append Q (map (given s σ []) r.gives) (flat_map (over taken) r.givealls)
      (Each-map Q (given s σ []) r.gives
      (each-from (λ t. Q (given s σ [] t)) r.gives
      (λ t m. given-kind [] t (template-kind false t (each-accepted (template_verdict (term_verdict every_word r false)) m st.gives)))))
      (each_flat Q (over taken) r.givealls
      (each-from (λ g. Each Q (over taken g)) r.givealls
      (λ g m. Each-map Q (λ f. given s σ f.words g.each) (get_or taken (g.over - 1) [])
      (each-from (λ f. Q (given s σ f.words g.each)) (get_or taken (g.over - 1) [])
      (λ f n. given-kind f.words g.each
      (template-kind true g.each
      (behind-number (over_verdict r (pos g.over)) (template_verdict (term_verdict every_word r true) g.each) (each-accepted (giveall_verdict every_word r) m st.givealls)))))))))
      fs e

  -- the facts that a body gives
  pub body-kinds : (taken : List (List Fact)) → RuleStands every_word r → (fs : List Fact) → body s σ r taken ≡ Some fs → all has_kind fs ≡ true
  body-kinds taken st fs e = all-each has_kind fs (body_values taken st fs e).0

  pub body-few : (taken : List (List Fact)) → RuleStands every_word r → length r.gives ≤ 4 → length r.givealls ≤ 2 → ((i : ℕ) → length (get_or taken i []) ≤ 1024) →
      (fs : List Fact) → body s σ r taken ≡ Some fs → length fs ≤ 4000
  body-few taken st h k b fs e =
      omega (
        arith,
        (body_values taken st fs e).1,
        length-append (map (given s σ []) r.gives) (flat_map (over taken) r.givealls),
        length-map r.gives (given s σ []),
        length-over taken b r.givealls,
      )
