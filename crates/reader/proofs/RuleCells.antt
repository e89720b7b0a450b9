-- The fields of a row of rules, read one after the other.
use Rattle.std.proofs.Common.{◌≡◌, ℕ, suc, ◌+◌, ◌-◌, ◌<◌, ◌≤◌, List, [], ◌∷◌, ◌++◌, map, length, take, set, Some, None, Option, sym, refl, ap, ◌∙◌, append_assoc, append-nil, arith}
use Rattle.std.specs.Borrow.{Bor}
use Rattle.std.proofs.lemmas.List.{take_all, take_more_set, length-map, map-append}
use Rattle.rows.specs.Csv.{Part, content, Read, got, broken, read_separated}
use Rattle.rows.specs.Fields.{Shape, placed, text_of}
use Rattle.reader.specs.RuleScan.{cells, with_text, text_then, texts_at}
use Rattle.reader.specs.declared.row_types.RuleRow.{RuleRow}
use Rattle.rows.specs.declared.field_types.Place.{Place}
use Rattle.rows.proofs.Rows.{placed-was, placed-broken}
use Rattle.rows.proofs.Sorted.{text_sorted}

-- these texts, and then those that follow
abbrev pub behind_texts : List (List ℕ) → Option (List (List ℕ)) → Option (List (List ℕ))
behind_texts ts (Some us) = Some (ts ++ us)
behind_texts ts None = None

-- what stands in these slices
abbrev pub contents : List (Bor (List ℕ)) → List (List ℕ)
contents xs = map (λ text. text.now) xs

texts_push : (ts : List (List ℕ)) (t : List ℕ) (o : Option (List (List ℕ))) → behind_texts ts (with_text t o) ≡ behind_texts (ts ++ (t ∷ [])) o
texts_push ts t (Some us) = ap (λ (x : List (List ℕ)). Some x) (sym (append_assoc ts (t ∷ []) us))
texts_push ts t None = refl

module _ (whole : Option (List (List ℕ))) (ts : List (List ℕ)) (i : ℕ) (few : i < 6) (bs : List ℕ) (inv : whole ≡ behind_texts ts (texts_at (6 - i) bs)) (place : Place) where
  next_text : whole ≡ behind_texts ts (text_then (texts_at (6 - (i + 1))) (read_separated bs))
  unfolding texts_at
  next_text = let e : 6 - i ≡ suc (6 - (i + 1)) = omega arith in inv ∙ ap (λ (n : ℕ). behind_texts ts (texts_at n bs)) e

  pub texts-broken : broken ≡ placed place (read_separated bs) → None ≡ whole
  texts-broken e = sym (next_text ∙ ap (λ (r : Read Part). behind_texts ts (text_then (texts_at (6 - (i + 1))) r)) (placed-broken place (read_separated bs) e))

  pub texts-more : (s : Shape) (more t : List ℕ) → got s more ≡ placed place (read_separated bs) → t ≡ text_of s → whole ≡ behind_texts (ts ++ (t ∷ [])) (texts_at (6 - (i + 1)) more)
  texts-more s more t e k =
      let w = placed-was place s more (read_separated bs) (sym e) in
      let same : content w.0 ≡ t = sym (k ∙ ap text_of w.2 ∙ text_sorted place w.0) in
      next_text
      ∙ ap (λ (r : Read Part). behind_texts ts (text_then (texts_at (6 - (i + 1))) r)) w.1
      ∙ ap (λ (x : List ℕ). behind_texts ts (with_text x (texts_at (6 - (i + 1)) more))) same
      ∙ texts_push ts t (texts_at (6 - (i + 1)) more)

pub texts-all : (whole : Option (List (List ℕ))) (items : List (Bor (List ℕ))) (i : ℕ) (bs : List ℕ) → length items ≡ 6 → i ≤ 6 → 6 ≤ i → whole ≡ behind_texts (contents (take i items)) (texts_at (6 - i) bs) → Some (contents items) ≡ whole
unfolding texts_at
texts-all whole items i bs l few all inv =
    let none : 6 - i ≡ 0 = omega arith in
    let front : take i items ≡ items = take_all i items (omega arith) in
    sym (inv ∙ rw (none, front) (ap (λ (x : List (List ℕ)). Some x) (append-nil (contents items))))

pub cells_six : (r : RuleRow) → length (cells r) ≡ 6
cells_six r = length-map r.texts (λ text. text.now) ∙ r.six

pub contents_more : (items : List (Bor (List ℕ))) (i : ℕ) (x : Bor (List ℕ)) → i < length items → contents (take (i + 1) (set items i x)) ≡ contents (take i items) ++ (x.now ∷ [])
contents_more items i x h = ap contents (take_more_set items i x h) ∙ map-append (λ text. text.now) (take i items) (x ∷ [])
