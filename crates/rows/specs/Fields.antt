-- Fields as the program holds them: borrowed parts of the file's bytes, without the borrowing.
use Rattle.std.specs.Prelude.{◌≡◌, ℕ, Bool, false, cond, ◌&&◌, List, [], ◌∷◌, ℤ, is_some, Some, None, Ok, Err, Option, Result, nat_le}
use Rattle.std.specs.Borrow.{Bor}
use Rattle.rows.specs.Csv as csv
use Rattle.rows.specs.declared.refusal_types.FieldFault.{FieldFault}
use Rattle.rows.specs.Numbers.{number}
use Rattle.rows.specs.declared.field_types.Place.{Place}
use Rattle.rows.specs.declared.field_types.Field.{Field}
use Rattle.rows.specs.declared.field_types.Field.TheVariants.{Number, Word, Letter, Quoted}
use Rattle.rows.specs.declared.field_types.Part.{Part}
use Rattle.rows.specs.declared.field_types.Part.TheVariants as part
use Rattle.rows.specs.declared.field_types.After.{After}
use Rattle.rows.specs.declared.field_types.After.TheVariants as after

abbrev pub part_seen : Part → csv.Part
part_seen (part.Bare bs) = csv.bare bs.now
part_seen (part.Quoted bs) = csv.quoted bs.now

abbrev pub after_seen : Option After → csv.Next
after_seen (Some after.FileEnd) = csv.file_ends
after_seen (Some (after.Field bs)) = csv.next_field bs.now
after_seen (Some (after.Row bs)) = csv.next_row bs.now
after_seen None = csv.neither

-- the count of a row's fields and the bytes behind it, or that there is no row
abbrev pub count_seen : Option (ℕ × Bor (List ℕ)) → csv.Read ℕ
count_seen (Some x) = csv.got x.0 x.1.now
count_seen None = csv.broken

-- a field as it is seen: what it looks like, its bytes and its place
pub data Shape : Type 0 where
  number_shape : List ℕ → Place → Shape
  word_shape : List ℕ → Place → Shape
  letter_shape : List ℕ → Place → Shape
  quoted_shape : List ℕ → Place → Shape

abbrev pub field_seen : Field → Shape
field_seen (Number bs place) = number_shape bs.now place
field_seen (Word bs place) = word_shape bs.now place
field_seen (Letter bs place) = letter_shape bs.now place
field_seen (Quoted bs place) = quoted_shape bs.now place

-- one letter from A to Z
abbrev pub is_letter : List ℕ → Bool
is_letter [] = false
is_letter (b ∷ []) = nat_le 65 b && nat_le b 90
is_letter (b ∷ (c ∷ bs)) = false

-- how a field is sorted: text is a letter, a number or else a word
abbrev pub sorted_as : Place → csv.Part → Shape
sorted_as place (csv.bare bs) = cond (is_letter bs) (letter_shape bs place) (cond (is_some (number bs)) (number_shape bs place) (word_shape bs place))
sorted_as place (csv.quoted bs) = quoted_shape bs place

abbrev pub place_of : Shape → Place
place_of (number_shape bs place) = place
place_of (word_shape bs place) = place
place_of (letter_shape bs place) = place
place_of (quoted_shape bs place) = place

-- what stands in a field
abbrev pub text_of : Shape → List ℕ
text_of (number_shape bs place) = bs
text_of (word_shape bs place) = bs
text_of (letter_shape bs place) = bs
text_of (quoted_shape bs place) = bs

-- the field that was read with its place, and the bytes behind it
abbrev pub placed : Place → csv.Read csv.Part → csv.Read Shape
placed place (csv.got f rest) = csv.got (sorted_as place f) rest
placed place csv.broken = csv.broken

abbrev pub placed_seen : Option (Field × Bor (List ℕ)) → csv.Read Shape
placed_seen (Some x) = csv.got (field_seen x.0) x.1.now
placed_seen None = csv.broken

-- the number in a field, or that it has none; between quotes stands what would stand without them
abbrev pub number_in : Shape → Option ℤ
number_in (number_shape bs place) = number bs
number_in (word_shape bs place) = None
number_in (letter_shape bs place) = None
number_in (quoted_shape bs place) = number bs

-- what can be read of a field, or that the field cannot be read
abbrev pub readable : {X : Type 0} → Place → Option X → Result X FieldFault
readable place (Some x) = Ok x
readable place None = Err (record { place = place })

-- a field was read of the bytes: exactly the field that is written there, sorted, and what follows it
pub record FieldGrammar (place : Place) (bs : List ℕ) (r : csv.Read Shape) : Type 0 where
  pub reads : (f : csv.Part) (rest : List ℕ) → csv.BeginsField f rest bs → r ≡ csv.got (sorted_as place f) rest
  pub was : (s : Shape) (rest : List ℕ) → r ≡ csv.got s rest → (f : csv.Part) × csv.BeginsField f rest bs × (s ≡ sorted_as place f)
  pub none : r ≡ csv.broken → (f : csv.Part) (rest : List ℕ) → csv.BeginsField f rest bs → ⊥
