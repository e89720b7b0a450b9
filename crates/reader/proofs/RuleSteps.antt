-- A row written into a rule: what the rule set says of it, and the state that follows.
use Rattle.std.proofs.Common.{◌≡◌, ℕ, ◌≤◌, Bool, List, [], ◌∷◌, length, ℤ, Ok, Err, Result, sym, refl, ap, ◌∙◌, arith}
use Rattle.std.proofs.lemmas.List.{length_push}
use Rattle.std.proofs.lemmas.Bool.Decides.{nat_tests}
use Rattle.rules.specs.declared.rule_types.RuleFault.{RuleFault}
use Rattle.rules.specs.declared.rule_types.HeadSort.{HeadSort}
use Rattle.rules.specs.declared.rule_types.HeadSort.TheVariants.{Keep, Drop, KeepAll, DropAll, Only, When}
use Rattle.rules.specs.declared.rule_types.BodySort.{BodySort}
use Rattle.rules.specs.declared.rule_types.BodySort.TheVariants.{Give, GiveAll}
use Rattle.rules.specs.declared.rule_types.HeadPart.{HeadPart}
use Rattle.rules.specs.declared.rule_types.BodyPart.{BodyPart}
use Rattle.rules.specs.declared.rule_types.BodyPart.TheVariants as in_Body
use Rattle.rules.specs.Rules.{Rule}
use Rattle.rules.specs.Writing.{may_add, may_add_body, add_head, add_body, stage, done, after}
use Rattle.rows.specs.Refusals.{Outcome, ◌>>=◌, refused_as}
use Rattle.rules_file.specs.RuleRefusals.{row_refusal}
use Rattle.rules_file.specs.RuleRows.{word_spelled, ruled, head_part, body_part, with_head, with_body, State, writing, write_head, write_body}
use Rattle.reader.specs.RuleScan.{with_head_row, with_body_row, written, BegunBy}
use Rattle.rows.specs.declared.field_types.Place.{Place}
use Rattle.rules_file.specs.declared.fault_types.RowFault.{RowFault}
use Rattle.rules_file.specs.declared.word_type.RowWord.TheVariants as row_word
use Rattle.rows.proofs.Outcomes.{no_ok}
use Rattle.rules_file.proofs.RuleFields.{ruled_ok}
use Rattle.rules_file.proofs.RuleLines.{head-added, body-added, head-part-was, body-part-was}

-- a part that was read is added ---------------------------------------------------------------------------------------

module _ (valid : ℤ → Bool) (row : ℕ) (r : Rule) (v w : List ℕ) (cs : List (List ℕ)) where
  -- a part does not depend on the word of its row
  head-part-same : (sort : HeadSort) → head_part valid row r sort (v ∷ cs) ≡ head_part valid row r sort (w ∷ cs)
  head-part-same Keep = refl
  head-part-same Drop = refl
  head-part-same KeepAll = refl
  head-part-same DropAll = refl
  head-part-same Only = refl
  head-part-same When = refl

  body-part-same : (sort : BodySort) → body_part valid row r sort (v ∷ cs) ≡ body_part valid row r sort (w ∷ cs)
  body-part-same Give = refl
  body-part-same GiveAll = refl

-- six cells, one by one
record Six (cs : List (List ℕ)) : Type 0 where
  w : List ℕ
  a : List ℕ
  b : List ℕ
  c : List ℕ
  d : List ℕ
  e : List ℕ
  is : w ∷ (a ∷ (b ∷ (c ∷ (d ∷ (e ∷ []))))) ≡ cs

six : (cs : List (List ℕ)) → length cs ≡ 6 → Six cs
six (w ∷ (a ∷ (b ∷ (c ∷ (d ∷ (e ∷ [])))))) l = record { w = w; a = a; b = b; c = c; d = d; e = e; is = refl }
six (w ∷ (a ∷ (b ∷ (c ∷ (d ∷ (e ∷ (f ∷ cs))))))) l = absurd (omega arith)
six (w ∷ (a ∷ (b ∷ (c ∷ (d ∷ []))))) l = absurd (omega arith)
six (w ∷ (a ∷ (b ∷ (c ∷ [])))) l = absurd (omega arith)
six (w ∷ (a ∷ (b ∷ []))) l = absurd (omega arith)
six (w ∷ (a ∷ [])) l = absurd (omega arith)
six (w ∷ []) l = absurd (omega arith)
six [] l = absurd (omega arith)

module _ (valid : ℤ → Bool) (row : ℕ) (r : Rule) (cs : List (List ℕ)) (l : length cs ≡ 6) where
  head_adds : (sort : HeadSort) (p : HeadPart) → may_add sort r ≡ Ok tt → head_part valid row r sort cs ≡ Ok p → add_head valid p r ≡ Ok (with_head p r)
  head_adds sort p m h =
      let s = six cs l in
      let v = word_spelled (row_word.Head sort) in
      let was = head-part-was valid row r v s.a s.b s.c s.d s.e sort p refl (head-part-same valid row r v s.w (s.a ∷ (s.b ∷ (s.c ∷ (s.d ∷ (s.e ∷ []))))) sort ∙ ap (head_part valid row r sort) s.is ∙ h) in
      head-added valid r p (ap (λ q. may_add q r) was.0 ∙ m) was.2

  body_adds : (sort : BodySort) (p : BodyPart) → may_add_body sort r ≡ Ok tt → body_part valid row r sort cs ≡ Ok p → add_body valid p r ≡ Ok (with_body p r)
  body_adds sort p m h =
      let s = six cs l in
      let v = word_spelled (row_word.Body sort) in
      let was = body-part-was valid row r sort p v s.a s.b s.c s.d s.e refl (body-part-same valid row r v s.w (s.a ∷ (s.b ∷ (s.c ∷ (s.d ∷ (s.e ∷ []))))) sort ∙ ap (body_part valid row r sort) s.is ∙ h) in
      body-added valid r p (ap (λ q. may_add_body q r) was.0 ∙ m) was.2

-- a place that refuses nothing
place_fine : (place : Place) (o : Result (Unit {0}) RuleFault) → Ok tt ≡ ruled place.row place.field o → o ≡ Ok tt
place_fine place o h = ruled_ok place.row place.field o tt (sym h)

refused_fine : (place : Place) (res : Result (Unit {0}) RowFault) (o : Result (Unit {0}) RuleFault) → refused_as row_refusal res ≡ ruled place.row place.field o → o ≡ Ok tt → res ≡ Ok tt
refused_fine place (Ok u) o h k = refl
refused_fine place (Err e) o h k = absurd (no_ok (row_refusal e) tt (h ∙ ap (ruled place.row place.field) k))

-- an addition that comes to this rule
pub record ComesTo (add : Result (Unit {0}) RuleFault) (place : Place) (res : Result (Unit {0}) RowFault) (o : Result Rule RuleFault) (old new : Rule) : Type 0 where
  pub answer : add ≡ done o
  pub after_it : new ≡ after o old
  pub told : refused_as row_refusal res ≡ ruled place.row place.field add

came_to : (add : Result (Unit {0}) RuleFault) (place : Place) (res : Result (Unit {0}) RowFault) (o : Result Rule RuleFault) (old new x : Rule) → ComesTo add place res o old new → o ≡ Ok x → (res ≡ Ok tt) × (new ≡ x)
came_to add place res o old new x h e = (refused_fine place res add h.told (h.answer ∙ ap done e), h.after_it ∙ ap (λ (y : Result Rule RuleFault). after y old) e)

module _ (valid : ℤ → Bool) (row : ℕ) (r new : Rule) (cs : List (List ℕ)) (l : length cs ≡ 6) (place : Place) (may add : Result (Unit {0}) RuleFault) (res : Result (Unit {0}) RowFault) (fine : Ok tt ≡ ruled place.row place.field may) where
  pub head_done : (sort : HeadSort) (p : HeadPart) → may ≡ may_add sort r → Ok p ≡ head_part valid row r sort cs → ComesTo add place res (add_head valid p r) r new → refused_as row_refusal (written res new) ≡ with_head_row valid row cs sort r
  head_done sort p m h k =
      let passed : may_add sort r ≡ Ok tt = sym m ∙ place_fine place may fine in
      let to = came_to add place res (add_head valid p r) r new (with_head p r) k (head_adds valid row r cs l sort p passed (sym h)) in
      rw (to.0, to.1, passed, ← h) refl

  pub body-done : (sort : BodySort) (p : BodyPart) → may ≡ may_add_body sort r → Ok p ≡ body_part valid row r sort cs → ComesTo add place res (add_body valid p r) r new → refused_as row_refusal (written res new) ≡ with_body_row valid row cs sort r
  body-done sort p m h k =
      let passed : may_add_body sort r ≡ Ok tt = sym m ∙ place_fine place may fine in
      let to = came_to add place res (add_body valid p r) r new (with_body p r) k (body_adds valid row r cs l sort p passed (sym h)) in
      rw (to.0, to.1, passed, ← h) refl

  pub body-begun : (sort : BodySort) (p : BodyPart) → may ≡ may_add_body sort r → Ok p ≡ body_part valid row r sort cs → ComesTo add place res (add_body valid p r) r new → BegunBy res new
  body-begun sort p m h k =
      let passed : may_add_body sort r ≡ Ok tt = sym m ∙ place_fine place may fine in
      let to = came_to add place res (add_body valid p r) r new (with_body p r) k (body_adds valid row r cs l sort p passed (sym h)) in
      rw (to.0, to.1) (late p)
    where
      late : (q : BodyPart) → 5 ≤ stage (with_body q r)
      late (in_Body.Give t) = let l = length_push r.gives t in grind (arith, nat_tests)
      late (in_Body.GiveAll g) = let l = length_push r.givealls g in grind (arith, nat_tests)

-- the state that follows -------------------------------------------------------------------------------------------------

rebound : {X : Type 0} (a : Outcome (Unit {0})) (b : Outcome X) (f : X → Rule) (g : Rule → State) → (a >>= λ _. b >>= λ p. Ok (g (f p))) ≡ ((a >>= λ _. b >>= λ p. Ok (f p)) >>= λ r. Ok (g r))
rebound (Ok u) (Ok x) f g = refl
rebound (Ok u) (Err e) f g = refl
rebound (Err e) b f g = refl

module _ (valid : ℤ → Bool) (row : ℕ) (cs : List (List ℕ)) (done : List Rule) (at_row : ℕ) (r : Rule) where
  pub head_step : (sort : HeadSort) → write_head valid row cs sort (writing done at_row r) ≡ (with_head_row valid row cs sort r >>= λ new. Ok (writing done at_row new))
  head_step sort = rebound (ruled row 0 (may_add sort r)) (head_part valid row r sort cs) (λ p. with_head p r) (writing done at_row)

  pub body-step : (sort : BodySort) → write_body valid row cs sort (writing done at_row r) ≡ (with_body_row valid row cs sort r >>= λ new. Ok (writing done at_row new))
  body-step sort = rebound (ruled row 0 (may_add_body sort r)) (body_part valid row r sort cs) (λ p. with_body p r) (writing done at_row)

  -- what is written where the rule stands
  pub head-written : (sort : HeadSort) (new : Rule) (rules : List Rule) (res : Result (Unit {0}) RowFault) → rules ≡ done → refused_as row_refusal (written res new) ≡ with_head_row valid row cs sort r → refused_as row_refusal (written res (writing rules at_row new)) ≡ write_head valid row cs sort (writing done at_row r)
  head-written sort new rules (Ok u) e h = ap (λ (d : List Rule). Ok (writing d at_row new)) e ∙ sym (head_step sort ∙ rw (← h) refl)
  head-written sort new rules (Err x) e h = sym (head_step sort ∙ rw (← h) refl)

  pub body-written : (sort : BodySort) (new : Rule) (rules : List Rule) (res : Result (Unit {0}) RowFault) → rules ≡ done → refused_as row_refusal (written res new) ≡ with_body_row valid row cs sort r → refused_as row_refusal (written res (writing rules at_row new)) ≡ write_body valid row cs sort (writing done at_row r)
  body-written sort new rules (Ok u) e h = ap (λ (d : List Rule). Ok (writing d at_row new)) e ∙ sym (body-step sort ∙ rw (← h) refl)
  body-written sort new rules (Err x) e h = sym (body-step sort ∙ rw (← h) refl)
