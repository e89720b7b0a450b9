-- The writer of a rule: which part may come next, how its fields are judged, and the rule with the part added.
use Rattle.std.specs.Prelude.{◌≡◌, ℕ, Bool, true, false, cond, not, ◌&&◌, List, [], ◌∷◌, ◌++◌, length, ℤ, pos, negsuc, Some, None, Option, Ok, Err, Result, ◌==◌, nat_le, nat_lt}
use Rattle.rules.specs.declared.rule_types.Argument.{Argument}
use Rattle.rules.specs.declared.rule_types.Argument.TheVariants as argument
use Rattle.rules.specs.declared.rule_types.Operand.{Operand}
use Rattle.rules.specs.declared.rule_types.Operand.TheVariants.{Letter, Constant, Taken}
use Rattle.rules.specs.declared.rule_types.Term.{Term}
use Rattle.rules.specs.declared.rule_types.Term.TheVariants.{One, Two}
use Rattle.rules.specs.declared.rule_types.Comparison.{Comparison}
use Rattle.rules.specs.declared.rule_types.Pattern.{Pattern}
use Rattle.rules.specs.declared.rule_types.Template.{Template}
use Rattle.rules.specs.declared.rule_types.GiveAll.{GiveAll}
use Rattle.rules.specs.declared.rule_types.RuleFault.{RuleFault}
use Rattle.rules.specs.declared.rule_types.RuleFault.TheVariants as fault
use Rattle.rules.specs.declared.rule_types.HeadSort.{HeadSort}
use Rattle.rules.specs.declared.rule_types.HeadSort.TheVariants.{Keep, Drop, KeepAll, DropAll, Only, When}
use Rattle.rules.specs.declared.rule_types.BodySort.{BodySort}
use Rattle.rules.specs.declared.rule_types.BodySort.TheVariants as body
use Rattle.rules.specs.declared.rule_types.HeadPart.{HeadPart}
use Rattle.rules.specs.declared.rule_types.HeadPart.TheVariants as head_part
use Rattle.rules.specs.declared.rule_types.BodyPart.{BodyPart}
use Rattle.rules.specs.declared.rule_types.BodyPart.TheVariants as body_part
use Rattle.rules.specs.declared.rule_types.RuleRecord.{RuleRecord}
use Rattle.rules.specs.declared.ordering.LastPart.{LastPart}
use Rattle.rules.specs.declared.ordering.LastPart.TheVariants as last
use Rattle.rules.specs.Rules.{AllHead, Rule, rule_seen, singles, bound}

-- the number of each fault
abbrev pub fault_number : RuleFault → ℕ
fault_number fault.Kind = 1
fault_number fault.Word = 2
fault_number fault.Letter = 3
fault_number fault.TooMany = 4
fault_number fault.NoDrop = 5
fault_number fault.NoAllHead = 6
fault_number fault.OutOfOrder = 9

infixl 10 ◌>>=◌
-- the first fault counts
abbrev pub ◌>>=◌ : {X Y E : Type 0} → Result X E → (X → Result Y E) → Result Y E
◌>>=◌ (Ok x) then = then x
◌>>=◌ (Err e) then = Err e

-- the order of parts ---------------------------------------------------------------------------------------------

-- the place of the last part of a rule, by how many it has of each; an `only` stands with its all head
abbrev pub place_of_last : ℕ → ℕ → ℕ → ℕ → ℕ → ℕ → ℕ
place_of_last keeps drops alls whens gives givealls =
    cond (nat_lt 0 givealls) 6
    (cond (nat_lt 0 gives) 5
    (cond (nat_lt 0 whens) 4
    (cond (nat_lt 0 alls) 3
    (cond (nat_lt 0 drops) 2
    (cond (nat_lt 0 keeps) 1 0)))))

-- the number of the place of each sort of last part
abbrev pub last_number : LastPart → ℕ
last_number last.Nothing = 0
last_number last.Keep = 1
last_number last.Drop = 2
last_number last.AllHead = 3
last_number last.When = 4
last_number last.Give = 5
last_number last.GiveAll = 6

abbrev pub stage : Rule → ℕ
stage r = place_of_last (length r.keeps) (length r.drops) (length r.alls) (length r.whens) (length r.gives) (length r.givealls)

-- out of order (9): a part behind a later one, and an `only` that follows no all head and no `only`
abbrev pub late : HeadSort → ℕ → Bool
late Keep n = nat_lt 1 n
late Drop n = nat_lt 2 n
late KeepAll n = nat_lt 3 n
late DropAll n = nat_lt 3 n
late Only n = not (n == 3)
late When n = nat_lt 4 n

abbrev pub late_body : BodySort → ℕ → Bool
late_body body.Give n = nat_lt 5 n
late_body body.GiveAll n = nat_lt 6 n

abbrev pub last_only : List AllHead → List Comparison
last_only [] = []
last_only (a ∷ []) = a.only
last_only (a ∷ (b ∷ rest)) = last_only (b ∷ rest)

-- one too many (4)
abbrev pub full : HeadSort → Rule → Bool
full Keep r = nat_le 4 (length (singles r))
full Drop r = nat_le 4 (length (singles r))
full KeepAll r = nat_le 2 (length r.alls)
full DropAll r = nat_le 2 (length r.alls)
full Only r = nat_le 2 (length (last_only r.alls))
full When r = nat_le 4 (length r.whens)

abbrev pub full_body : BodySort → Rule → Bool
full_body body.Give r = nat_le 4 (length r.gives)
full_body body.GiveAll r = nat_le 2 (length r.givealls)

-- 9, then 4
abbrev pub in_order : Bool → Bool → Result (Unit {0}) RuleFault
in_order true f = Err fault.OutOfOrder
in_order false true = Err fault.TooMany
in_order false false = Ok tt

abbrev pub may_add : HeadSort → Rule → Result (Unit {0}) RuleFault
may_add p r = in_order (late p (stage r)) (full p r)

abbrev pub may_add_body : BodySort → Rule → Result (Unit {0}) RuleFault
may_add_body p r = in_order (late_body p (stage r)) (full_body p r)

-- what is judged in a field ----------------------------------------------------------------------------------------

abbrev pub kind_verdict : ℤ → Result ℕ RuleFault
kind_verdict (pos n) = cond (nat_lt n 64) (Ok n) (Err fault.Kind)
kind_verdict (negsuc n) = Err fault.Kind

-- which all head: from 1 to as many as there are
abbrev pub over_verdict : Rule → ℤ → Result ℕ RuleFault
over_verdict r (pos n) = cond (nat_le 1 n && nat_le n (length r.alls)) (Ok n) (Err fault.NoAllHead)
over_verdict r (negsuc n) = Err fault.NoAllHead

-- a letter of A to H or a valid constant; no `*`
abbrev pub single_verdict : (ℤ → Bool) → Argument → Result (Unit {0}) RuleFault
single_verdict valid (argument.Letter v) = cond (nat_lt v 8) (Ok tt) (Err fault.Letter)
single_verdict valid (argument.Constant z) = cond (valid z) (Ok tt) (Err fault.Word)
single_verdict valid argument.Any = Err fault.Letter

-- a letter that stands in a single head, a valid constant, or `*`
abbrev pub all_verdict : (ℤ → Bool) → Rule → Argument → Result (Unit {0}) RuleFault
all_verdict valid r (argument.Letter v) = cond (bound r v) (Ok tt) (Err fault.Letter)
all_verdict valid r (argument.Constant z) = cond (valid z) (Ok tt) (Err fault.Word)
all_verdict valid r argument.Any = Ok tt

-- a letter that stands in a single head, a valid constant, or a word of the fact taken where that may stand
abbrev pub operand_verdict : (ℤ → Bool) → Rule → Bool → Operand → Result (Unit {0}) RuleFault
operand_verdict valid r taken (Letter v) = cond (bound r v) (Ok tt) (Err fault.Letter)
operand_verdict valid r taken (Constant z) = cond (valid z) (Ok tt) (Err fault.Word)
operand_verdict valid r taken (Taken i) = cond (taken && nat_lt i 3) (Ok tt) (Err fault.Letter)

-- operands from left to right
abbrev pub term_verdict : (ℤ → Bool) → Rule → Bool → Term → Result (Unit {0}) RuleFault
term_verdict valid r taken (One a) = operand_verdict valid r taken a
term_verdict valid r taken (Two a o b) = operand_verdict valid r taken a >>= λ _. operand_verdict valid r taken b

-- each of a list, from left to right
abbrev pub each : {X : Type 0} → (X → Result (Unit {0}) RuleFault) → List X → Result (Unit {0}) RuleFault
each judge [] = Ok tt
each judge (x ∷ xs) = judge x >>= λ _. each judge xs

abbrev pub pattern_verdict : (Argument → Result (Unit {0}) RuleFault) → Pattern → Result (Unit {0}) RuleFault
pattern_verdict judge p = kind_verdict (pos p.kind) >>= λ _. each judge p.args

abbrev pub comparison_verdict : (Term → Result (Unit {0}) RuleFault) → Comparison → Result (Unit {0}) RuleFault
comparison_verdict judge c = judge c.left >>= λ _. judge c.right

abbrev pub template_verdict : (Term → Result (Unit {0}) RuleFault) → Template → Result (Unit {0}) RuleFault
template_verdict judge t = kind_verdict (pos t.kind) >>= λ _. each judge t.terms

abbrev pub giveall_verdict : (ℤ → Bool) → Rule → GiveAll → Result (Unit {0}) RuleFault
giveall_verdict valid r g = over_verdict r (pos g.over) >>= λ _. template_verdict (term_verdict valid r true) g.each

-- the rule with a part added ---------------------------------------------------------------------------------------

abbrev pub no_parts : Rule
no_parts = record { keeps = []; drops = []; alls = []; whens = []; gives = []; givealls = [] }

-- the rule of a record, where there is one
abbrev pub rule_in : Option RuleRecord → Rule
rule_in None = no_parts
rule_in (Some r) = rule_seen r

abbrev pub with_keep : Pattern → Rule → Rule
with_keep p r = record { keeps = r.keeps ++ (p ∷ []); drops = r.drops; alls = r.alls; whens = r.whens; gives = r.gives; givealls = r.givealls }

abbrev pub with_drop : Pattern → Rule → Rule
with_drop p r = record { keeps = r.keeps; drops = r.drops ++ (p ∷ []); alls = r.alls; whens = r.whens; gives = r.gives; givealls = r.givealls }

abbrev pub new_all : Bool → Pattern → AllHead
new_all drops p = record { drops = drops; pattern = p; only = [] }

abbrev pub with_all : Bool → Pattern → Rule → Rule
with_all drops p r = record { keeps = r.keeps; drops = r.drops; alls = r.alls ++ (new_all drops p ∷ []); whens = r.whens; gives = r.gives; givealls = r.givealls }

-- an `only` belongs to the last all head
abbrev pub to_last : Comparison → List AllHead → List AllHead
to_last c [] = []
to_last c (a ∷ []) = record { drops = a.drops; pattern = a.pattern; only = a.only ++ (c ∷ []) } ∷ []
to_last c (a ∷ (b ∷ rest)) = a ∷ to_last c (b ∷ rest)

abbrev pub with_only : Comparison → Rule → Rule
with_only c r = record { keeps = r.keeps; drops = r.drops; alls = to_last c r.alls; whens = r.whens; gives = r.gives; givealls = r.givealls }

abbrev pub with_when : Comparison → Rule → Rule
with_when c r = record { keeps = r.keeps; drops = r.drops; alls = r.alls; whens = r.whens ++ (c ∷ []); gives = r.gives; givealls = r.givealls }

abbrev pub with_give : Template → Rule → Rule
with_give t r = record { keeps = r.keeps; drops = r.drops; alls = r.alls; whens = r.whens; gives = r.gives ++ (t ∷ []); givealls = r.givealls }

abbrev pub with_giveall : GiveAll → Rule → Rule
with_giveall g r = record { keeps = r.keeps; drops = r.drops; alls = r.alls; whens = r.whens; gives = r.gives; givealls = r.givealls ++ (g ∷ []) }

-- the parts: 9, 4, the fields from left to right, and then the part is added -----------------------------------------

-- a part of any sort: whether it may come next, how its fields are judged, and the rule with it
abbrev pub add_part : Result (Unit {0}) RuleFault → Result (Unit {0}) RuleFault → Rule → Result Rule RuleFault
add_part may verdict new = may >>= λ _. verdict >>= λ _. Ok new

abbrev pub add_keep : (ℤ → Bool) → Pattern → Rule → Result Rule RuleFault
add_keep valid p r = may_add Keep r >>= λ _. pattern_verdict (single_verdict valid) p >>= λ _. Ok (with_keep p r)

abbrev pub add_drop : (ℤ → Bool) → Pattern → Rule → Result Rule RuleFault
add_drop valid p r = may_add Drop r >>= λ _. pattern_verdict (single_verdict valid) p >>= λ _. Ok (with_drop p r)

abbrev pub add_keepall : (ℤ → Bool) → Pattern → Rule → Result Rule RuleFault
add_keepall valid p r = may_add KeepAll r >>= λ _. pattern_verdict (all_verdict valid r) p >>= λ _. Ok (with_all false p r)

abbrev pub add_dropall : (ℤ → Bool) → Pattern → Rule → Result Rule RuleFault
add_dropall valid p r = may_add DropAll r >>= λ _. pattern_verdict (all_verdict valid r) p >>= λ _. Ok (with_all true p r)

abbrev pub add_only : (ℤ → Bool) → Comparison → Rule → Result Rule RuleFault
add_only valid c r = may_add Only r >>= λ _. comparison_verdict (term_verdict valid r true) c >>= λ _. Ok (with_only c r)

abbrev pub add_when : (ℤ → Bool) → Comparison → Rule → Result Rule RuleFault
add_when valid c r = may_add When r >>= λ _. comparison_verdict (term_verdict valid r false) c >>= λ _. Ok (with_when c r)

abbrev pub add_give : (ℤ → Bool) → Template → Rule → Result Rule RuleFault
add_give valid t r = may_add_body body.Give r >>= λ _. template_verdict (term_verdict valid r false) t >>= λ _. Ok (with_give t r)

abbrev pub add_giveall : (ℤ → Bool) → GiveAll → Rule → Result Rule RuleFault
add_giveall valid g r = may_add_body body.GiveAll r >>= λ _. giveall_verdict valid r g >>= λ _. Ok (with_giveall g r)

abbrev pub add_head : (ℤ → Bool) → HeadPart → Rule → Result Rule RuleFault
add_head valid (head_part.Keep p) r = add_keep valid p r
add_head valid (head_part.Drop p) r = add_drop valid p r
add_head valid (head_part.KeepAll p) r = add_keepall valid p r
add_head valid (head_part.DropAll p) r = add_dropall valid p r
add_head valid (head_part.Only c) r = add_only valid c r
add_head valid (head_part.When c) r = add_when valid c r

abbrev pub add_body : (ℤ → Bool) → BodyPart → Rule → Result Rule RuleFault
add_body valid (body_part.Give t) r = add_give valid t r
add_body valid (body_part.GiveAll g) r = add_giveall valid g r

-- of a part: its sort, how its fields are judged, and the rule with it -------------------------------------------------

abbrev pub head_sort : HeadPart → HeadSort
head_sort (head_part.Keep p) = Keep
head_sort (head_part.Drop p) = Drop
head_sort (head_part.KeepAll p) = KeepAll
head_sort (head_part.DropAll p) = DropAll
head_sort (head_part.Only c) = Only
head_sort (head_part.When c) = When

abbrev pub body_sort : BodyPart → BodySort
body_sort (body_part.Give t) = body.Give
body_sort (body_part.GiveAll g) = body.GiveAll

abbrev pub head_verdict : (ℤ → Bool) → Rule → HeadPart → Result (Unit {0}) RuleFault
head_verdict valid r (head_part.Keep p) = pattern_verdict (single_verdict valid) p
head_verdict valid r (head_part.Drop p) = pattern_verdict (single_verdict valid) p
head_verdict valid r (head_part.KeepAll p) = pattern_verdict (all_verdict valid r) p
head_verdict valid r (head_part.DropAll p) = pattern_verdict (all_verdict valid r) p
head_verdict valid r (head_part.Only c) = comparison_verdict (term_verdict valid r true) c
head_verdict valid r (head_part.When c) = comparison_verdict (term_verdict valid r false) c

abbrev pub body_verdict : (ℤ → Bool) → Rule → BodyPart → Result (Unit {0}) RuleFault
body_verdict valid r (body_part.Give t) = template_verdict (term_verdict valid r false) t
body_verdict valid r (body_part.GiveAll g) = giveall_verdict valid r g

abbrev pub with_head : HeadPart → Rule → Rule
with_head (head_part.Keep p) r = with_keep p r
with_head (head_part.Drop p) r = with_drop p r
with_head (head_part.KeepAll p) r = with_all false p r
with_head (head_part.DropAll p) r = with_all true p r
with_head (head_part.Only c) r = with_only c r
with_head (head_part.When c) r = with_when c r

abbrev pub with_body : BodyPart → Rule → Rule
with_body (body_part.Give t) r = with_give t r
with_body (body_part.GiveAll g) r = with_giveall g r

-- what was written ---------------------------------------------------------------------------------------------------

abbrev pub done : {X : Type 0} → Result X RuleFault → Result (Unit {0}) RuleFault
done (Ok x) = Ok tt
done (Err e) = Err e

-- the new rule, or the old one where the part is turned down
abbrev pub after : Result Rule RuleFault → Rule → Rule
after (Ok new) old = new
after (Err e) old = old

-- a part was written into a record, or turned down: the answer, what the record then means, and that a refused part leaves it as found
pub record Wrote (o : Result Rule RuleFault) (old new : RuleRecord) (r : Result (Unit {0}) RuleFault) : Type 0 where
  pub answer : r ≡ done o
  pub meaning : rule_seen new ≡ after o (rule_seen old)
  pub as_found : (e : RuleFault) → r ≡ Err e → new ≡ old
