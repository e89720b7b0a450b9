-- Operands, arguments and terms, from a field's content.
use Rattle.std.specs.Prelude.{◌≡◌, ℕ, ◌+◌, ◌-◌, ◌^◌, ◌<◌, ◌≤◌, Bool, true, false, cond, ◌&&◌, List, [], ◌∷◌, ◌++◌, length, ℤ, pos, negsuc, is_some, Some, None, Option, ◌==◌, nat_le, slice_index}
use Rattle.std.specs.Fmt.{signed_decimal}
use Rattle.facts.specs.declared.fact_types.Operator.{Operator}
use Rattle.facts.specs.declared.fact_types.Operator.TheVariants.{Plus, Minus, Meet}
use Rattle.rules.specs.declared.rule_types.Operand.{Operand}
use Rattle.rules.specs.declared.rule_types.Operand.TheVariants.{Letter, Constant, Taken}
use Rattle.rules.specs.declared.rule_types.Term.{Term}
use Rattle.rules.specs.declared.rule_types.Term.TheVariants.{One, Two}
use Rattle.rows.specs.Numbers.{number, Decimal}
use Rattle.terms.specs.declared.mark_type.Mark.{Mark}
use Rattle.terms.specs.declared.mark_type.Mark.TheVariants as mark

-- A to H are the letters 0 to 7, and X, Y, Z the words 0 to 2 of the fact taken
abbrev pub letter : ℕ → Option Operand
letter b = cond (nat_le 65 b && nat_le b 72) (Some (Letter (b - 65))) (cond (nat_le 88 b && nat_le b 90) (Some (Taken (b - 88))) None)

abbrev pub constant : Option ℤ → Option Operand
constant (Some z) = Some (Constant z)
constant None = None

abbrev pub or_else : Option Operand → Option Operand → Option Operand
or_else (Some a) o = Some a
or_else None o = o

abbrev pub operand : List ℕ → Option Operand
operand [] = None
operand (b ∷ []) = or_else (letter b) (constant (number (b ∷ [])))
operand (b ∷ (c ∷ bs)) = constant (number (b ∷ (c ∷ bs)))

abbrev pub star : ℕ
star = 42

abbrev pub marked : Option Operand → Option Mark
marked (Some a) = Some (mark.Operand a)
marked None = None

abbrev pub argument : List ℕ → Option Mark
argument [] = None
argument (b ∷ []) = cond (b == star) (Some mark.Star) (marked (operand (b ∷ [])))
argument (b ∷ (c ∷ bs)) = marked (operand (b ∷ (c ∷ bs)))

abbrev pub operator : ℕ → Option Operator
operator b = cond (b == 43) (Some Plus) (cond (b == 45) (Some Minus) (cond (b == 38) (Some Meet) None))

abbrev pub is_operator : ℕ → Bool
is_operator b = is_some (operator b)

-- bytes around their first operator
pub data Split : Type 0 where
  whole : Split
  cut : List ℕ → Operator → List ℕ → Split

abbrev pub further : ℕ → Split → Split
further b whole = whole
further b (cut front o back) = cut (b ∷ front) o back

abbrev pub split_at : Option Operator → ℕ → List ℕ → Split → Split
split_at (Some o) b bs below = cut [] o bs
split_at None b bs below = further b below

abbrev pub split : List ℕ → Split
split [] = whole
split (b ∷ bs) = split_at (operator b) b bs (split bs)

abbrev pub one : Option Operand → Option Term
one (Some a) = Some (One a)
one None = None

abbrev pub two : Option Operand → Operator → Option Operand → Option Term
two (Some a) o (Some b) = Some (Two a o b)
two (Some a) o None = None
two None o b = None

-- the first byte belongs to the first operand, so that a minus there is its sign
abbrev pub of_split : ℕ → List ℕ → Split → Option Term
of_split b bs whole = one (operand (b ∷ bs))
of_split b bs (cut front o back) = two (operand (b ∷ front)) o (operand back)

abbrev pub term : List ℕ → Option Term
term [] = None
term (b ∷ bs) = of_split b bs (split bs)

-- how many bytes the leading operand has: those before the first operator behind the first byte
pub record Leading (bs : List ℕ) (n : ℕ) : Type 0 where
  pub within : n ≤ length bs
  pub some : 1 ≤ length bs → 1 ≤ n
  pub before : (k : ℕ) → 1 ≤ k → k < n → is_operator (slice_index bs k) ≡ false
  pub found : n < length bs → is_operator (slice_index bs n) ≡ true

-- a term of its leading operand and what stands behind that: nothing, or an operator and a second operand
abbrev pub joined_to : Operand → Option Operator → List ℕ → Option Term
joined_to a (Some o) bs = two (Some a) o (operand bs)
joined_to a None bs = None

abbrev pub led_by : Operand → List ℕ → Option Term
led_by a [] = Some (One a)
led_by a (b ∷ bs) = joined_to a (operator b) bs

-- what it means ---------------------------------------------------------------------------------------

-- the writings of an operand: a letter's capital, that of a word, or a constant's decimal writing
pub data OperandWritten : Operand → List ℕ → Type 0 where
  a_letter : (v : ℕ) → v < 8 → OperandWritten (Letter v) ((65 + v) ∷ [])
  a_word : (i : ℕ) → i < 3 → OperandWritten (Taken i) ((88 + i) ∷ [])
  a_constant : {z : ℤ} {bs : List ℕ} → Decimal z bs → OperandWritten (Constant z) bs

pub data MarkWritten : Mark → List ℕ → Type 0 where
  a_star : MarkWritten mark.Star (star ∷ [])
  an_operand : {a : Operand} {bs : List ℕ} → OperandWritten a bs → MarkWritten (mark.Operand a) bs

abbrev pub operator_byte : Operator → ℕ
operator_byte Plus = 43
operator_byte Minus = 45
operator_byte Meet = 38

-- the writings of a term: that of its operand, or those of its two with the operator between them
pub data TermWritten : Term → List ℕ → Type 0 where
  alone : {a : Operand} {bs : List ℕ} → OperandWritten a bs → TermWritten (One a) bs
  joined : {a c : Operand} {bs cs : List ℕ} (o : Operator) → OperandWritten a bs → OperandWritten c cs → TermWritten (Two a o c) (bs ++ (operator_byte o ∷ cs))

-- the shortest writings, and what they can write ----------------------------------------------------------

abbrev pub write_operand : Operand → List ℕ
write_operand (Letter v) = (65 + v) ∷ []
write_operand (Taken i) = (88 + i) ∷ []
write_operand (Constant z) = signed_decimal z

abbrev pub write : Term → List ℕ
write (One a) = write_operand a
write (Two a o b) = write_operand a ++ (operator_byte o ∷ write_operand b)

-- the letters, words and constants that can be written
abbrev pub Fine : Operand → Type 0
Fine (Letter v) = v < 8
Fine (Taken i) = i < 3
Fine (Constant (pos n)) = n < 10 ^ 10
Fine (Constant (negsuc n)) = n + 1 < 10 ^ 10

abbrev pub FineTerm : Term → Type 0
FineTerm (One a) = Fine a
FineTerm (Two a o b) = Fine a × Fine b

-- what was read ---------------------------------------------------------------------------------------------

-- an operand was read: exactly its writings are read so, and nothing is read where no operand is written
pub record OperandGrammar (bs : List ℕ) (r : Option Operand) : Type 0 where
  pub reads : (a : Operand) → OperandWritten a bs → r ≡ Some a
  pub was : (a : Operand) → r ≡ Some a → OperandWritten a bs
  pub none : r ≡ None → (a : Operand) → OperandWritten a bs → ⊥

-- an argument was read: exactly its writings are read so, and nothing is read where no argument is written
pub record ArgumentGrammar (bs : List ℕ) (r : Option Mark) : Type 0 where
  pub reads : (m : Mark) → MarkWritten m bs → r ≡ Some m
  pub was : (m : Mark) → r ≡ Some m → MarkWritten m bs
  pub none : r ≡ None → (m : Mark) → MarkWritten m bs → ⊥

-- a term was read: exactly its writings are read so, nothing is read where no term is written,
-- and a term that is written and read is that term
pub record TermGrammar (bs : List ℕ) (r : Option Term) : Type 0 where
  pub reads : (t : Term) → TermWritten t bs → r ≡ Some t
  pub was : (t : Term) → r ≡ Some t → TermWritten t bs
  pub none : r ≡ None → (t : Term) → TermWritten t bs → ⊥
  pub back : (t : Term) → FineTerm t → bs ≡ write t → r ≡ Some t
