-- Labels that are written over a list, those of one all head after the other.
use Rattle.std.proofs.Common.{◌≡◌, ℕ, ◌+◌, ◌<◌, List, ◌++◌, length, get_or, take, drop, flat_map, sym, refl, ap, ◌∙◌, arith, append_assoc, length-append}
use Rattle.std.proofs.lemmas.List.{take_more, flat_map_more}
use Rattle.lists.specs.Held.{held}
use Rattle.engine.specs.Taking.{Taken}
use Rattle.std.proofs.Math.Seq.{take-append_seam}
use Rattle.std.proofs.lemmas.Slice.{drop-append-drop}
use Rattle.machine.specs.Machine.{listed}

written-more : (xs ys l : List ℕ) (n : ℕ) → n ≡ length xs → take n (listed xs l) ++ (ys ++ drop (n + length ys) (listed xs l)) ≡ listed (xs ++ ys) l
written-more xs ys l n e =
    let rest = drop (length xs) l in
    let a : take n (xs ++ rest) ≡ xs = ap (λ m. take m (xs ++ rest)) e ∙ take-append_seam xs rest in
    let b : drop (n + length ys) (xs ++ rest) ≡ drop (n + length ys) l = drop-append-drop (length xs) l xs (n + length ys) (omega arith) refl in
    let d : n + length ys ≡ length (xs ++ ys) = omega (arith, length-append xs ys) in
    (λ i. a i ++ (ys ++ b i)) ∙ (sym (append_assoc xs ys (drop (n + length ys) l)) ∙ ap (λ m. (xs ++ ys) ++ drop m l) d)

-- what one all head more took is written behind the others
pub written-step : (begins l old now : List ℕ) (tk : List Taken) (i end : ℕ) (t : Taken) (ys : List ℕ) → i < length tk → ys ≡ held (get_or tk i t) →
    end ≡ length (begins ++ flat_map held (take i tk)) → old ≡ listed (begins ++ flat_map held (take i tk)) l → now ≡ take end old ++ (ys ++ drop (end + length ys) old) →
    (end + length (held (get_or tk i t)) ≡ length (begins ++ flat_map held (take (i + 1) tk))) × (now ≡ listed (begins ++ flat_map held (take (i + 1) tk)) l)
written-step begins l old now tk i end t ys h y e f g =
    let xs = begins ++ flat_map held (take i tk) in
    let item = get_or tk i t in
    let more : xs ++ held item ≡ begins ++ flat_map held (take (i + 1) tk) =
    flat_map_more held begins (take i tk) item ∙ ap (λ zs. begins ++ flat_map held zs) (sym (take_more tk i t h)) in (
      omega (arith, e, length-append xs (held item), ap length more),
      g ∙ ((λ j. take end (f j) ++ (y j ++ drop (end + length (y j)) (f j))) ∙ (written-more xs (held item) l end e ∙ ap (λ zs. listed zs l) more)),
    )
