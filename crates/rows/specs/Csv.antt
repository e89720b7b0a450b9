-- RFC 4180 with CRLF: which bytes are the writing of which rows, and how rows are read from bytes.
use Rattle.std.specs.Prelude.{◌≡◌, ℕ, zero, suc, ◌≤◌, Bool, true, cond, ◌&&◌, ◌||◌, List, [], ◌∷◌, ◌++◌, map, length, Some, None, Ok, Err, Option, Result, ◌==◌, nat_le}

abbrev pub quote : ℕ
quote = 0x22

abbrev pub comma : ℕ
comma = 0x2C

abbrev pub cr : ℕ
cr = 0x0D

abbrev pub lf : ℕ
lf = 0x0A

-- TEXTDATA = %x20-21 / %x23-2B / %x2D-7E
abbrev pub text : ℕ → Bool
text b = (nat_le 0x20 b && nat_le b 0x21) || ((nat_le 0x23 b && nat_le b 0x2B) || (nat_le 0x2D b && nat_le b 0x7E))

-- TEXTDATA / COMMA / CR / LF: what may stand between quotes, besides a doubled quote
abbrev pub loose : ℕ → Bool
loose b = text b || (b == comma || (b == cr || b == lf))

-- a field is a part of the file's bytes: as it stands, or what stands between its outer quotes, doubled quotes still doubled
pub data Part : Type 0 where
  bare : List ℕ → Part
  quoted : List ℕ → Part

abbrev pub content : Part → List ℕ
content (bare bs) = bs
content (quoted bs) = bs

-- the grammar --------------------------------------------------------------------------------------

-- *TEXTDATA
pub data Bare : List ℕ → Type 0 where
  end : Bare []
  byte : {b : ℕ} {bs : List ℕ} → text b ≡ true → Bare bs → Bare (b ∷ bs)

-- *(TEXTDATA / COMMA / CR / LF / 2DQUOTE)
pub data Escaped : List ℕ → Type 0 where
  end : Escaped []
  byte : {b : ℕ} {bs : List ℕ} → loose b ≡ true → Escaped bs → Escaped (b ∷ bs)
  doubled : {bs : List ℕ} → Escaped bs → Escaped (quote ∷ (quote ∷ bs))

-- field = (DQUOTE escaped DQUOTE) / non-escaped
pub data FieldWritten : Part → List ℕ → Type 0 where
  plain : {bs : List ℕ} → Bare bs → FieldWritten (bare bs) bs
  escaped : {bs : List ℕ} → Escaped bs → FieldWritten (quoted bs) (quote ∷ (bs ++ (quote ∷ [])))

-- record = field *(COMMA field)
pub data RowWritten : List Part → List ℕ → Type 0 where
  one : {f : Part} {bs : List ℕ} → FieldWritten f bs → RowWritten (f ∷ []) bs
  more : {f : Part} {bs : List ℕ} {fs : List Part} {cs : List ℕ} → FieldWritten f bs → RowWritten fs cs → RowWritten (f ∷ fs) (bs ++ (comma ∷ cs))

-- file = *(record CRLF) [record]: the last CRLF may be missing, but where nothing follows a CRLF no row begins
pub data Written : List (List Part) → List ℕ → Type 0 where
  nothing : Written [] []
  ended : {fs : List Part} {bs : List ℕ} {rest : List (List Part)} {cs : List ℕ} → RowWritten fs bs → Written rest cs → Written (fs ∷ rest) (bs ++ (cr ∷ (lf ∷ cs)))
  open_ended : {fs : List Part} {b : ℕ} {bs : List ℕ} → RowWritten fs (b ∷ bs) → Written (fs ∷ []) (b ∷ bs)

-- where a row is at fault ----------------------------------------------------------------------------

-- rows that are all ended by CRLF
pub data Ended : List (List Part) → List ℕ → Type 0 where
  nothing : Ended [] []
  row : {fs : List Part} {bs : List ℕ} {rest : List (List Part)} {cs : List ℕ} → RowWritten fs bs → Ended rest cs → Ended (fs ∷ rest) (bs ++ (cr ∷ (lf ∷ cs)))

-- what ends a row, and what follows its end: the file ends, or a CRLF stands there
pub data Ends : List ℕ → List ℕ → Type 0 where
  file : Ends [] []
  line : {bs : List ℕ} → Ends (cr ∷ (lf ∷ bs)) bs

-- the bytes begin with a row of these fields and its end, and the rest follows
pub record Begins (fs : List Part) (rest bs : List ℕ) : Type 0 where
  pub front : List ℕ
  pub end : List ℕ
  pub written : RowWritten fs front
  pub ends : Ends end rest
  pub whole : bs ≡ front ++ end

-- what separates a field from what comes next: a row's end, or a comma
pub data Separates : List ℕ → List ℕ → Type 0 where
  row : {end rest : List ℕ} → Ends end rest → Separates end rest
  field : {bs : List ℕ} → Separates (comma ∷ bs) bs

-- the bytes begin with this field and what separates it, and the rest follows
pub record BeginsField (f : Part) (rest bs : List ℕ) : Type 0 where
  pub front : List ℕ
  pub end : List ℕ
  pub written : FieldWritten f front
  pub separates : Separates end rest
  pub whole : bs ≡ front ++ end

-- behind these rows there are bytes that begin no row
pub record Faulty (rs : List (List Part)) (bs : List ℕ) : Type 0 where
  pub front : List ℕ
  pub rest : List ℕ
  pub ended : Ended rs front
  pub whole : bs ≡ front ++ rest
  pub left : 1 ≤ length rest
  pub no_row : (fs : List Part) (more : List ℕ) → Begins fs more rest → ⊥

-- the reading --------------------------------------------------------------------------------------

-- something was read and these bytes follow it, or nothing can be read
pub data Read (X : Type 0) : Type 0 where
  got : X → List ℕ → Read X
  broken : Read X

-- one byte, or two, before what was read of a field
abbrev pub before : List ℕ → Read (List ℕ) → Read (List ℕ)
before bs (got cs rest) = got (bs ++ cs) rest
before bs broken = broken

-- the longest front of text, and what follows it
abbrev pub read_bare : List ℕ → Read (List ℕ)
read_bare [] = got [] []
read_bare (b ∷ bs) = let longer = before (b ∷ []) (read_bare bs) in cond (text b) longer (got [] (b ∷ bs))

-- behind an opening quote: the part up to the closing quote, and what follows that quote
abbrev pub read_escaped : List ℕ → Read (List ℕ)
read_escaped [] = broken
read_escaped (b ∷ []) = cond (b == quote) (got [] []) broken
read_escaped (b ∷ (c ∷ bs)) =
    let longer = before (b ∷ []) (read_escaped (c ∷ bs)) in
    let doubled = before (quote ∷ (quote ∷ [])) (read_escaped bs) in
    let closed = cond (c == quote) doubled (got [] (c ∷ bs)) in
    let inside = cond (loose b) longer broken in
    cond (b == quote) closed inside

abbrev pub made : (List ℕ → Part) → Read (List ℕ) → Read Part
made f (got bs rest) = got (f bs) rest
made f broken = broken

abbrev pub read_field : List ℕ → Read Part
read_field [] = got (bare []) []
read_field (b ∷ bs) =
    let inside = made quoted (read_escaped bs) in
    let outside = made bare (read_bare (b ∷ bs)) in
    cond (b == quote) inside outside

-- what follows a field
pub data Next : Type 0 where
  file_ends : Next
  next_field : List ℕ → Next
  next_row : List ℕ → Next
  neither : Next

abbrev pub next : List ℕ → Next
next [] = file_ends
next (b ∷ []) = cond (b == comma) (next_field []) neither
next (b ∷ (c ∷ bs)) = cond (b == comma) (next_field (c ∷ bs)) (cond (b == cr && c == lf) (next_row bs) neither)

abbrev pub with_field : Part → Read (List Part) → Read (List Part)
with_field f (got fs rest) = got (f ∷ fs) rest
with_field f broken = broken

-- a row goes on as its field's end says
abbrev pub go_on : (List ℕ → Read (List Part)) → Part → Next → Read (List Part)
go_on read f file_ends = got (f ∷ []) []
go_on read f (next_field bs) = with_field f (read bs)
go_on read f (next_row bs) = got (f ∷ []) bs
go_on read f neither = broken

abbrev pub behind_field : (List ℕ → Read (List Part)) → Read Part → Read (List Part)
behind_field read (got f rest) = go_on read f (next rest)
behind_field read broken = broken

-- a row of at most so many fields
abbrev pub read_fields : ℕ → List ℕ → Read (List Part)
read_fields zero bs = broken
read_fields (suc n) bs = behind_field (read_fields n) (read_field bs)

-- a row has at most one field more than bytes
unfoldable pub read_row : List ℕ → Read (List Part)
read_row bs = read_fields (suc (length bs)) bs

pub data Row : Type 0 where
  fields : List Part → Row
  malformed : Row

abbrev pub behind_row : (List ℕ → List Row) → Read (List Part) → List Row
behind_row read (got fs rest) = fields fs ∷ read rest
behind_row read broken = malformed ∷ []

-- at most so many rows
abbrev pub read_rows : ℕ → List ℕ → List Row
read_rows zero bs = []
read_rows (suc n) [] = []
read_rows (suc n) (b ∷ bs) = behind_row (read_rows n) (read_row (b ∷ bs))

-- the rows of a file, up to the first that is malformed; each row but an empty rest has at least one byte
unfoldable pub rows : List ℕ → List Row
rows bs = read_rows (length bs) bs

-- how many fields a row has
abbrev pub counted : Read (List Part) → Read ℕ
counted (got fs rest) = got (length fs) rest
counted broken = broken

-- the bytes behind a row of so many fields, or that there is no such row
abbrev pub of_width : ℕ → Read ℕ → Option (List ℕ)
of_width n (got m rest) = cond (m == n) (Some rest) None
of_width n broken = None

-- one row more before those counted
abbrev pub one_more : Result ℕ ℕ → Result ℕ ℕ
one_more (Ok n) = Ok (suc n)
one_more (Err n) = Err (suc n)

-- how many rows there are, or the number of the malformed one
abbrev pub row_count : List Row → Result ℕ ℕ
row_count [] = Ok 0
row_count (malformed ∷ rs) = Err 1
row_count (fields fs ∷ rs) = one_more (row_count rs)

-- the bytes where the next field begins, or the next row behind the last field
abbrev pub behind : Part → Next → Read Part
behind f file_ends = got f []
behind f (next_field bs) = got f bs
behind f (next_row bs) = got f bs
behind f neither = broken

abbrev pub separated : Read Part → Read Part
separated (got f rest) = behind f (next rest)
separated broken = broken

-- a field and what separates it from what comes next
abbrev pub read_separated : List ℕ → Read Part
read_separated bs = separated (read_field bs)

-- the grammar of what was read ----------------------------------------------------------------------------

-- a row was read of the bytes, r being its count of fields and the rest: what is written so is read so, what is read was written so, and nothing is read where no row begins
pub record RowGrammar (bs : List ℕ) (r : Read ℕ) : Type 0 where
  pub reads : (fs : List Part) (rest : List ℕ) → Begins fs rest bs → (read_row bs ≡ got fs rest) × (r ≡ got (length fs) rest)
  pub was : (n : ℕ) (rest : List ℕ) → r ≡ got n rest → (fs : List Part) × Begins fs rest bs × (length fs ≡ n)
  pub none : r ≡ broken → (fs : List Part) (rest : List ℕ) → Begins fs rest bs → ⊥

-- the rows of a file, r being their count or the number of the malformed one: what is written so is read so, and what is read was written so;
-- and a malformed row is the one behind rows that were written, each ended by CRLF, where bytes are left that begin no row
pub record FileGrammar (bs : List ℕ) (r : Result ℕ ℕ) : Type 0 where
  pub reads : (rs : List (List Part)) → Written rs bs → (rows bs ≡ map fields rs) × (r ≡ Ok (length rs))
  pub was : (n : ℕ) → r ≡ Ok n → (rs : List (List Part)) × Written rs bs × (rows bs ≡ map fields rs) × (length rs ≡ n)
  pub reads_fault : (rs : List (List Part)) → Faulty rs bs → (rows bs ≡ map fields rs ++ (malformed ∷ [])) × (r ≡ Err (suc (length rs)))
  pub fault_was : (n : ℕ) → r ≡ Err n → (rs : List (List Part)) × Faulty rs bs × (rows bs ≡ map fields rs ++ (malformed ∷ [])) × (suc (length rs) ≡ n)
