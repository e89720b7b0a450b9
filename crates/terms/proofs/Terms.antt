-- Terms: exactly the writings of operands, arguments and terms are read.
use Rattle.std.proofs.Common.{◌≡◌, ℕ, zero, suc, ◌+◌, ◌-◌, ◌^◌, ◌<◌, ◌≤◌, Bool, true, false, cond, ◌&&◌, eqb, leb, List, [], ◌∷◌, ◌++◌, length, get_or, take, drop, ℤ, pos, negsuc, neg_ℤ, is_some, Some, None, decimal, Option, sym, refl, ap, ◌∙◌, subst, append-nil, arith, length-drop, rules}
use Rattle.std.proofs.lemmas.Str.Parse.{IsNumeralModel, numerals_by_weight}
use Rattle.std.proofs.lemmas.Fmt.{digits_decimal, digits_value-decimal, length-decimal-le, decimal_nonempty}
use Rattle.std.proofs.lemmas.Bool.{eqb-true, leb-true, le-leb, lt-leb, ne_eqb, and_parts}
use Rattle.std.proofs.lemmas.List.{take_rest, take-append-drop, get_or-drop}
use Rattle.std.proofs.lemmas.Bool.Decides.{nat_tests}
use Rattle.std.proofs.lemmas.List.Sums.{prefix_len-le-length, fails_before_first, passes_at_first}
use Rattle.std.specs.List.{position_or_len}
use Rattle.std.specs.Prelude.{not}
use Rattle.facts.specs.declared.fact_types.Operator.{Operator}
use Rattle.facts.specs.declared.fact_types.Operator.TheVariants.{Plus, Minus, Meet}
use Rattle.rules.specs.declared.rule_types.Operand.{Operand}
use Rattle.rules.specs.declared.rule_types.Operand.TheVariants.{Letter, Constant, Taken}
use Rattle.rules.specs.declared.rule_types.Term.{Term}
use Rattle.rules.specs.declared.rule_types.Term.TheVariants.{One, Two}
use Rattle.terms.specs.declared.mark_type.Mark.{Mark}
use Rattle.terms.specs.declared.mark_type.Mark.TheVariants as mark
use Rattle.rows.specs.Numbers.{minus, is_digit, all_digits, number, places, Digits, Decimal}
use Rattle.terms.specs.Terms.{letter, constant, or_else, operand, star, marked, argument, MarkWritten, a_star, an_operand, operator, is_operator, Split, whole, cut, split_at, split, one, two, of_split, term, Leading, joined_to, led_by, OperandWritten, a_letter, a_word, a_constant, operator_byte, TermWritten, alone, joined, write_operand, write, Fine, FineTerm, OperandGrammar, ArgumentGrammar, TermGrammar}
use Rattle.rows.proofs.Numbers.{number_is, number-was}

-- operands ----------------------------------------------------------------------------------------------

letter-is : (v : ℕ) → v < 8 → letter (65 + v) ≡ Some (Letter v)
letter-is v l = rw (le-leb 65 (65 + v) (omega arith), le-leb (65 + v) 72 (omega arith)) (ap (λ (x : ℕ). Some (Letter x)) (omega arith))

taken_is : (i : ℕ) → i < 3 → letter (88 + i) ≡ Some (Taken i)
taken_is i l =
    rw (le-leb 65 (88 + i) (omega arith), lt-leb (88 + i) 72 (omega arith), le-leb 88 (88 + i) (omega arith), le-leb (88 + i) 90 (omega arith))
    (ap (λ (x : ℕ). Some (Taken x)) (omega arith))

letter-was : (b : ℕ) (a : Operand) → letter b ≡ Some a → OperandWritten a (b ∷ [])
letter-was b a e = go (leb 65 b && leb b 72) refl e
  where
    at : (n v : ℕ) (m : ℕ → Operand) → n + v ≡ b → m v ≡ a → OperandWritten (m v) ((n + v) ∷ []) → OperandWritten a (b ∷ [])
    at n v m h k w = rw (← h, ← k) w

    other : (t : Bool) → (leb 88 b && leb b 90) ≡ t → cond t (Some (Taken (b - 88))) None ≡ Some a → OperandWritten a (b ∷ [])
    other true h e =
        let p = and_parts (leb 88 b) (leb b 90) h in
        let low : 88 ≤ b = leb-true 88 b p.0 in
        let high : b ≤ 90 = leb-true b 90 p.1 in
        let k : Taken (b - 88) ≡ a = cc in
        at 88 (b - 88) Taken (omega arith) k (a_word (b - 88) (omega arith))
    other false h e = let z : ◌≡◌ {A = ℕ} 0 1 = cc in absurd (omega arith)

    go : (t : Bool) → (leb 65 b && leb b 72) ≡ t → cond t (Some (Letter (b - 65))) (cond (leb 88 b && leb b 90) (Some (Taken (b - 88))) None) ≡ Some a → OperandWritten a (b ∷ [])
    go true h e =
        let p = and_parts (leb 65 b) (leb b 72) h in
        let low : 65 ≤ b = leb-true 65 b p.0 in
        let high : b ≤ 72 = leb-true b 72 p.1 in
        let k : Letter (b - 65) ≡ a = cc in
        at 65 (b - 65) Letter (omega arith) k (a_letter (b - 65) (omega arith))
    go false h e = other (leb 88 b && leb b 90) refl e

constant-was : (a : Operand) (bs : List ℕ) → constant (number bs) ≡ Some a → OperandWritten a bs
constant-was a bs e = go (number bs) refl e
  where
    go : (o : Option ℤ) → number bs ≡ o → constant o ≡ Some a → OperandWritten a bs
    go (Some z) h e = let k : Constant z ≡ a = cc in rw (← k) (a_constant (number-was z bs h))
    go None h e = let z : ◌≡◌ {A = ℕ} 0 1 = cc in absurd (omega arith)

-- a readable number begins with a minus or a digit, which is no letter
number-no-letter : (b : ℕ) → b < 65 → letter b ≡ None
number-no-letter b l = rw (lt-leb 65 b l, lt-leb 88 b (omega arith))

decimal_first : {z : ℤ} {bs : List ℕ} → Decimal z bs → (b : ℕ) (cs : List ℕ) → bs ≡ b ∷ cs → (b < 65) × (all_digits cs ≡ true)
decimal_first (Decimal.plain {bs} d) b cs e = let p = and_parts (is_digit b) (all_digits cs) (subst (λ (x : List ℕ). all_digits x ≡ true) e d.all) in (grind (arith, nat_tests), p.1)
decimal_first (Decimal.negated {bs} d) b cs e =
    let same : bs ≡ cs = cc in
    let first : minus ≡ b = cc in
    (omega arith, subst (λ (x : List ℕ). all_digits x ≡ true) same d.all)

operand-is : {a : Operand} {bs : List ℕ} → OperandWritten a bs → operand bs ≡ Some a
operand-is (a_letter v l) = rw (letter-is v l)
operand-is (a_word i l) = rw (taken_is i l)
operand-is (a_constant {z} {bs} d) = go bs (number_is z bs d) (decimal_first d)
  where
    go : (bs : List ℕ) → number bs ≡ Some z → ((b : ℕ) (cs : List ℕ) → bs ≡ b ∷ cs → (b < 65) × (all_digits cs ≡ true)) → operand bs ≡ Some (Constant z)
    go [] e f = let z : ◌≡◌ {A = ℕ} 0 1 = cc in absurd (omega arith)
    go (b ∷ []) e f = ap (λ (x : Option Operand). or_else x (constant (number (b ∷ [])))) (number-no-letter b (f b [] refl).0) ∙ ap constant e
    go (b ∷ (c ∷ bs)) e f = ap constant e

operand-was : (a : Operand) (bs : List ℕ) → operand bs ≡ Some a → OperandWritten a bs
operand-was a [] e = let z : ◌≡◌ {A = ℕ} 0 1 = cc in absurd (omega arith)
operand-was a (b ∷ []) e = go (letter b) refl e
  where
    go : (o : Option Operand) → letter b ≡ o → or_else o (constant (number (b ∷ []))) ≡ Some a → OperandWritten a (b ∷ [])
    go (Some x) h e = letter-was b a (h ∙ e)
    go None h e = constant-was a (b ∷ []) e
operand-was a (b ∷ (c ∷ bs)) e = constant-was a (b ∷ (c ∷ bs)) e

pub operand_read_so : (bs : List ℕ) (r : Option Operand) → r ≡ operand bs → OperandGrammar bs r
operand_read_so bs r e =
    record {
      reads = λ a w. e ∙ operand-is w;
      was = λ a h. operand-was a bs (sym e ∙ h);
      none = λ h a w. let c : Some a ≡ None = sym (operand-is w) ∙ sym e ∙ h in let z : ◌≡◌ {A = ℕ} 0 1 = cc in omega arith;
    }

-- arguments ---------------------------------------------------------------------------------------------

-- a star is no operand
no-star : (a : Operand) → operand (star ∷ []) ≡ Some a → ⊥
no-star a e = let z : ◌≡◌ {A = ℕ} 0 1 = cc in omega arith

argument_is : {m : Mark} {bs : List ℕ} → MarkWritten m bs → argument bs ≡ Some m
argument_is a_star = refl
argument_is (an_operand {a} {bs} w) = go bs (operand-is w)
  where
    go : (bs : List ℕ) → operand bs ≡ Some a → argument bs ≡ Some (mark.Operand a)
    go [] e = let z : ◌≡◌ {A = ℕ} 0 1 = cc in absurd (omega arith)
    go (b ∷ []) e =
        rw (ne_eqb b star (λ h. no-star a (subst (λ (x : ℕ). operand (x ∷ []) ≡ Some a) h e)))
        (ap marked e)
    go (b ∷ (c ∷ bs)) e = ap marked e

marked-was : (m : Mark) (bs : List ℕ) (o : Option Operand) → operand bs ≡ o → marked o ≡ Some m → MarkWritten m bs
marked-was m bs (Some a) h e = let k : mark.Operand a ≡ m = cc in rw (← k) (an_operand (operand-was a bs h))
marked-was m bs None h e = let z : ◌≡◌ {A = ℕ} 0 1 = cc in absurd (omega arith)

argument-was : (m : Mark) (bs : List ℕ) → argument bs ≡ Some m → MarkWritten m bs
argument-was m [] e = let z : ◌≡◌ {A = ℕ} 0 1 = cc in absurd (omega arith)
argument-was m (b ∷ []) e = go (eqb b star) refl e
  where
    go : (t : Bool) → eqb b star ≡ t → cond t (Some mark.Star) (marked (operand (b ∷ []))) ≡ Some m → MarkWritten m (b ∷ [])
    go true h e = let k : mark.Star ≡ m = cc in rw (eqb-true b star h, ← k) a_star
    go false h e = marked-was m (b ∷ []) (operand (b ∷ [])) refl e
argument-was m (b ∷ (c ∷ bs)) e = marked-was m (b ∷ (c ∷ bs)) (operand (b ∷ (c ∷ bs))) refl e

pub argument_read_so : (bs : List ℕ) (r : Option Mark) → r ≡ argument bs → ArgumentGrammar bs r
argument_read_so bs r e =
    record {
      reads = λ m w. e ∙ argument_is w;
      was = λ m h. argument-was m bs (sym e ∙ h);
      none = λ h m w. let c : Some m ≡ None = sym (argument_is w) ∙ sym e ∙ h in let z : ◌≡◌ {A = ℕ} 0 1 = cc in omega arith;
    }

-- terms -------------------------------------------------------------------------------------------------

-- bytes with no operator
data Calm : List ℕ → Type 0 where
  none : Calm []
  more : {b : ℕ} {bs : List ℕ} → operator b ≡ None → Calm bs → Calm (b ∷ bs)

calm-digits : (bs : List ℕ) → all_digits bs ≡ true → Calm bs
calm-digits [] h = Calm.none
calm-digits (b ∷ bs) h =
    let p = and_parts (is_digit b) (all_digits bs) h in
    let q = and_parts (leb 48 b) (leb b 57) p.0 in
    Calm.more (digit_no_operator b (leb-true 48 b q.0)) (calm-digits bs p.1)
  where
    digit_no_operator : (b : ℕ) → 48 ≤ b → operator b ≡ None
    digit_no_operator b l = rw (ne_eqb b 43 (λ e. omega arith), ne_eqb b 45 (λ e. omega arith), ne_eqb b 38 (λ e. omega arith))

calm-split : {bs : List ℕ} → Calm bs → split bs ≡ whole
calm-split Calm.none = refl
calm-split (Calm.more {b} {bs} h c) = rw (h, calm-split c)

operator-is : (o : Operator) → operator (operator_byte o) ≡ Some o
operator-is Plus = refl
operator-is Minus = refl
operator-is Meet = refl

calm-cut : {bs : List ℕ} (o : Operator) (cs : List ℕ) → Calm bs → split (bs ++ (operator_byte o ∷ cs)) ≡ cut bs o cs
calm-cut o cs Calm.none = rw (operator-is o)
calm-cut o cs (Calm.more {b} {bs} h c) = rw (h, calm-cut o cs c)

-- an operand has no operator behind its first byte
operand-calm : {a : Operand} {bs : List ℕ} → OperandWritten a bs → (b : ℕ) × (cs : List ℕ) × (bs ≡ b ∷ cs) × Calm cs
operand-calm (a_letter v l) = (65 + v, [], refl, Calm.none)
operand-calm (a_word i l) = (88 + i, [], refl, Calm.none)
operand-calm (a_constant d) = go d
  where
    some : (bs : List ℕ) → Digits bs → (b : ℕ) × (cs : List ℕ) × (bs ≡ b ∷ cs) × Calm cs
    some [] d = absurd (omega (arith, d.some))
    some (b ∷ bs) d = (b, bs, refl, calm-digits bs (and_parts (is_digit b) (all_digits bs) d.all).1)

    go : {z : ℤ} {bs : List ℕ} → Decimal z bs → (b : ℕ) × (cs : List ℕ) × (bs ≡ b ∷ cs) × Calm cs
    go (Decimal.plain {bs} d) = some bs d
    go (Decimal.negated {bs} d) = (minus, bs, refl, calm-digits bs d.all)

term_is : {t : Term} {bs : List ℕ} → TermWritten t bs → term bs ≡ Some t
term_is (alone {a} {bs} w) =
    let c = operand-calm w in
    let e : operand (c.0 ∷ c.1) ≡ Some a = subst (λ (x : List ℕ). operand x ≡ Some a) c.2 (operand-is w) in
    ap term c.2 ∙ ap (of_split c.0 c.1) (calm-split c.3) ∙ ap one e
term_is (joined {a} {c = d} {bs} {cs} o w v) =
    let c = operand-calm w in
    let e : operand (c.0 ∷ c.1) ≡ Some a = subst (λ (x : List ℕ). operand x ≡ Some a) c.2 (operand-is w) in
    ap (λ (x : List ℕ). term (x ++ (operator_byte o ∷ cs))) c.2
    ∙ ap (of_split c.0 (c.1 ++ (operator_byte o ∷ cs))) (calm-cut o cs c.3)
    ∙ ap (λ (x : Option Operand). two x o (operand cs)) e
    ∙ ap (two (Some a) o) (operand-is v)

abbrev CutOf : List ℕ → Split → Type 0
CutOf bs whole = Unit {0}
CutOf bs (cut front o back) = bs ≡ front ++ (operator_byte o ∷ back)

operator-was : (b : ℕ) (o : Operator) → operator b ≡ Some o → b ≡ operator_byte o
operator-was b o e = go (eqb b 43) (eqb b 45) (eqb b 38) refl refl refl e
  where
    at : (x : Operator) → eqb b (operator_byte x) ≡ true → Some x ≡ Some o → b ≡ operator_byte o
    at x h e = let k : x ≡ o = cc in eqb-true b (operator_byte x) h ∙ ap operator_byte k

    go : (p q r : Bool) → eqb b 43 ≡ p → eqb b 45 ≡ q → eqb b 38 ≡ r → cond p (Some Plus) (cond q (Some Minus) (cond r (Some Meet) None)) ≡ Some o → b ≡ operator_byte o
    go true q r x y z e = at Plus x e
    go false true r x y z e = at Minus y e
    go false false true x y z e = at Meet z e
    go false false false x y z e = let z : ◌≡◌ {A = ℕ} 0 1 = cc in absurd (omega arith)

split-was : (bs : List ℕ) → CutOf bs (split bs)
split-was [] = tt
split-was (b ∷ bs) = go (operator b) refl (split bs) (split-was bs)
  where
    go : (o : Option Operator) → operator b ≡ o → (x : Split) → CutOf bs x → CutOf (b ∷ bs) (split_at o b bs x)
    go (Some o) h x c = ap (λ (n : ℕ). n ∷ bs) (operator-was b o h)
    go None h whole c = tt
    go None h (cut front o back) c = ap (λ (y : List ℕ). b ∷ y) c

term-was : (t : Term) (bs : List ℕ) → term bs ≡ Some t → TermWritten t bs
term-was t [] e = let z : ◌≡◌ {A = ℕ} 0 1 = cc in absurd (omega arith)
term-was t (b ∷ bs) e = go (split bs) (split-was bs) e
  where
    single : (o : Option Operand) → operand (b ∷ bs) ≡ o → one o ≡ Some t → TermWritten t (b ∷ bs)
    single (Some a) h e = let k : One a ≡ t = cc in rw (← k) (alone (operand-was a (b ∷ bs) h))
    single None h e = let z : ◌≡◌ {A = ℕ} 0 1 = cc in absurd (omega arith)

    both : (front : List ℕ) (o : Operator) (back : List ℕ) (x y : Option Operand) → operand (b ∷ front) ≡ x → operand back ≡ y → two x o y ≡ Some t → TermWritten t (b ∷ (front ++ (operator_byte o ∷ back)))
    both front o back (Some a) (Some c) h k e = let m : Two a o c ≡ t = cc in rw (← m) (joined o (operand-was a (b ∷ front) h) (operand-was c back k))
    both front o back (Some a) None h k e = let z : ◌≡◌ {A = ℕ} 0 1 = cc in absurd (omega arith)
    both front o back None y h k e = let z : ◌≡◌ {A = ℕ} 0 1 = cc in absurd (omega arith)

    go : (x : Split) → CutOf bs x → of_split b bs x ≡ Some t → TermWritten t (b ∷ bs)
    go whole c e = single (operand (b ∷ bs)) refl e
    go (cut front o back) c e = rw c (both front o back (operand (b ∷ front)) (operand back) refl refl e)

-- the round trip ----------------------------------------------------------------------------------------

own : IsNumeralModel (λ ds. all_digits ds ≡ true) places
own = numerals_by_weight _ (search rules) places (search rules)

decimal_digits : (n : ℕ) → n < 10 ^ 10 → Digits (decimal n)
decimal_digits n l =
    record {
      all = digits_decimal own n (omega arith);
      some = decimal_nonempty n (omega arith);
      few = length-decimal-le 10 n (omega arith) l (omega arith);
    }

operand_writes : (a : Operand) → Fine a → OperandWritten a (write_operand a)
operand_writes (Letter v) l = a_letter v l
operand_writes (Taken i) l = a_word i l
operand_writes (Constant (pos n)) l = a_constant (subst (λ (x : ℕ). Decimal (pos x) (decimal n)) (digits_value-decimal own n (omega arith)) (Decimal.plain (decimal_digits n l)))
operand_writes (Constant (negsuc n)) l =
    a_constant (subst (λ (x : ℕ). Decimal (neg_ℤ (pos x)) (minus ∷ decimal (suc n))) (digits_value-decimal own (suc n) (omega arith)) (Decimal.negated (decimal_digits (suc n) (omega arith))))

term_comes_back : (t : Term) → FineTerm t → term (write t) ≡ Some t
term_comes_back (One a) f = term_is (alone (operand_writes a f))
term_comes_back (Two a o b) f = term_is (joined o (operand_writes a f.0) (operand_writes b f.1))

pub term_read_so : (bs : List ℕ) (r : Option Term) → r ≡ term bs → TermGrammar bs r
term_read_so bs r e =
    record {
      reads = λ t w. e ∙ term_is w;
      was = λ t h. term-was t bs (sym e ∙ h);
      none = λ h t w. let c : Some t ≡ None = sym (term_is w) ∙ sym e ∙ h in let z : ◌≡◌ {A = ℕ} 0 1 = cc in omega arith;
      back = λ t f h. e ∙ ap term h ∙ term_comes_back t f;
    }

-- a term by its leading operand ------------------------------------------------------------------------------

abbrev pub led : Option Operand → List ℕ → Option Term
led (Some a) bs = led_by a bs
led None bs = None

not-operator : (b : ℕ) → is_operator b ≡ false → operator b ≡ None
not-operator b e = go (operator b) e
  where
    go : (o : Option Operator) → is_some o ≡ false → o ≡ None
    go (Some o) e = let z : ◌≡◌ {A = ℕ} 0 1 = cc in absurd (omega arith)
    go None e = refl

an_operator : (b : ℕ) → is_operator b ≡ true → (o : Operator) × (operator b ≡ Some o)
an_operator b e = go (operator b) e
  where
    go : (x : Option Operator) → is_some x ≡ true → (o : Operator) × (x ≡ Some o)
    go (Some o) e = (o, refl)
    go None e = let z : ◌≡◌ {A = ℕ} 0 1 = cc in absurd (omega arith)

calm-front : (bs : List ℕ) (n : ℕ) → ((k : ℕ) → k < n → is_operator (get_or bs k 0) ≡ false) → Calm (take n bs)
calm-front bs zero f = Calm.none
calm-front [] (suc n) f = Calm.none
calm-front (b ∷ bs) (suc n) f = Calm.more (not-operator b (f 0 (omega arith))) (calm-front bs n (λ k h. f (suc k) (omega arith)))

-- behind a calm front the term goes on by what follows: nothing or an operator
led-calm : (b : ℕ) {front : List ℕ} (back : List ℕ) → Calm front → (0 < length back → is_operator (get_or back 0 0) ≡ true) → term (b ∷ (front ++ back)) ≡ led (operand (b ∷ front)) back
led-calm b {front} [] c f = ap (λ (x : List ℕ). term (b ∷ x)) (append-nil front) ∙ ap (of_split b front) (calm-split c) ∙ go (operand (b ∷ front))
  where
    go : (x : Option Operand) → one x ≡ led x []
    go (Some a) = refl
    go None = refl
led-calm b {front} (d ∷ back) c f =
    let o = an_operator d (f (omega arith)) in
    ap (λ (x : ℕ). term (b ∷ (front ++ (x ∷ back)))) (operator-was d o.0 o.1)
    ∙ ap (of_split b (front ++ (operator_byte o.0 ∷ back))) (calm-cut o.0 back c)
    ∙ go o.0 o.1 (operand (b ∷ front))
  where
    go : (o : Operator) → operator d ≡ Some o → (x : Option Operand) → two x o (operand back) ≡ led x (d ∷ back)
    go o e (Some a) = ap (λ (y : Option Operator). joined_to a y back) (sym e)
    go o e None = refl

pub term-leads : (bs : List ℕ) (n : ℕ) → Leading bs n → term bs ≡ led (operand (take n bs)) (take (length bs - n) (drop n bs))
term-leads bs n l = rw (take_rest bs n) (go bs n l)
  where
    go : (bs : List ℕ) (n : ℕ) → Leading bs n → term bs ≡ led (operand (take n bs)) (drop n bs)
    go [] zero l = refl
    go [] (suc n) l = refl
    go (b ∷ bs) zero l = absurd (omega (arith, l.some (omega arith)))
    go (b ∷ bs) (suc n) l =
        let first : get_or (drop n bs) 0 0 ≡ get_or bs n 0 = get_or-drop n bs 0 0 ∙ ap (λ (k : ℕ). get_or bs k 0) (omega arith) in
        ap (λ (x : List ℕ). term (b ∷ x)) (sym (take-append-drop n bs))
        ∙ led-calm b (drop n bs) (calm-front bs n (λ k h. l.before (suc k) (omega arith) (omega arith))) (λ h. rw first (l.found (omega (arith, length-drop n bs))))

-- the leading operand ends at the first operator behind the first byte
leads-behind : (b : ℕ) (bs : List ℕ) → Leading (b ∷ bs) (1 + position_or_len is_operator bs)
leads-behind b bs =
    let within : position_or_len is_operator bs ≤ length bs = prefix_len-le-length (λ x. not (is_operator x)) bs in
    let one : 1 + position_or_len is_operator bs ≡ suc (position_or_len is_operator bs) = omega arith in
    subst (Leading (b ∷ bs)) (sym one)
    (record {
      within = omega arith;
      some = λ _. omega arith;
      before = before;
      found = λ h. passes_at_first is_operator bs 0 (omega arith);
    })
  where
    before : (k : ℕ) → 1 ≤ k → k < suc (position_or_len is_operator bs) → is_operator (get_or (b ∷ bs) k 0) ≡ false
    before zero l h = absurd (omega arith)
    before (suc k) l h = fails_before_first is_operator bs k 0 (omega arith)

pub leads : (bs : List ℕ) (n : ℕ) → 1 ≤ length bs → n ≡ position_or_len is_operator (take (length bs - 1) (drop 1 bs)) → Leading bs (1 + n)
leads [] n some h = absurd (omega arith)
leads (b ∷ bs) n some h =
    let same : n ≡ position_or_len is_operator bs = h ∙ ap (position_or_len is_operator) (take_rest (b ∷ bs) 1) in
    subst (λ (k : ℕ). Leading (b ∷ bs) (1 + k)) (sym same) (leads-behind b bs)
