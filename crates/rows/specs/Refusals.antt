-- What a file's reading comes to: a value, or the refusal of a row.
use Rattle.std.specs.Prelude.{◌≡◌, ℕ, Bool, true, cond, ◌&&◌, ◌||◌, List, length, Some, None, Ok, Err, Option, Result, ◌==◌, nat_lt, nat_le}
use Rattle.std.specs.Borrow.{Bor}
use Rattle.rows.specs.declared.field_types.Place.{Place}
use Rattle.rows.specs.declared.refusal_types.Layer.{Layer}
use Rattle.rows.specs.declared.refusal_types.Layer.TheVariants.{Reader}
use Rattle.rows.specs.declared.refusal_types.Refusal.{Refusal}
use Rattle.rows.specs.declared.refusal_types.FieldFault.{FieldFault}

-- rows and fields count from 1; field 0 is a whole row, and row 0 a whole file
abbrev pub refusal : ℕ → ℕ → ℕ → Layer → Refusal
refusal n r f l = record { number = n; row = r; field = f; layer = l }

abbrev pub Outcome : Type 0 → Type 0
Outcome X = Result X Refusal

abbrev pub refuse : {X : Type 0} → ℕ → ℕ → ℕ → Layer → Outcome X
refuse n r f l = Err (refusal n r f l)

infixl 10 ◌>>=◌
-- the first refusal counts
abbrev pub ◌>>=◌ : {X Y E : Type 0} → Result X E → (X → Result Y E) → Result Y E
◌>>=◌ (Ok x) then = then x
◌>>=◌ (Err e) then = Err e

-- a value, or what a fault comes to
abbrev pub refused_as : {X E F : Type 0} → (E → F) → Result X E → Result X F
refused_as f (Ok x) = Ok x
refused_as f (Err e) = Err (f e)

-- a field that cannot be read
abbrev pub field_refusal : FieldFault → Refusal
field_refusal fault = refusal 8 fault.place.row fault.place.field Reader

abbrev pub most_bytes : ℕ
most_bytes = 65536

-- the place of a row as a whole
abbrev pub whole_row : ℕ → Place
whole_row row = record { row = row; field = 0 }

-- the bytes of a file; it is refused where it is not there or is too long
abbrev pub file_bytes : Option (List ℕ) → Outcome (List ℕ)
file_bytes None = refuse 7 0 0 Reader
file_bytes (Some bs) = cond (nat_lt most_bytes (length bs)) (refuse 7 0 0 Reader) (Ok bs)

-- the same, as the program holds it
abbrev pub bytes_seen : {E : Type 0} → Result (Bor (List ℕ)) E → Result (List ℕ) E
bytes_seen (Ok bs) = Ok bs.now
bytes_seen (Err e) = Err e

-- what a refusal names: its number tells its layer, and whether it names a field ------------------------------

abbrev pub names_field : ℕ → ℕ → Bool
names_field width field = nat_le 1 field && nat_le field width

-- 7 names a whole row and 8 a field, and both are the reader's
abbrev pub by_reader : ℕ → ℕ → ℕ → Bool
by_reader width number field = (number == 7 && field == 0) || (number == 8 && names_field width field)

-- a refusal, if there is one, is such a one
abbrev pub RefusedSo : {X E : Type 0} → (E → Bool) → Result X E → Type 0
RefusedSo such (Ok x) = Unit {0}
RefusedSo such (Err r) = such r ≡ true
