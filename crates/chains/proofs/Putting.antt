-- A label's pair taken out before another is put.
use Rattle.std.proofs.Common.{Result, Option, Some, ◌≡◌, ℕ, ◌<◌, ◌≤◌, true, not, eqb, List, [], ◌∷◌, length, is_some, None, Ok, Err, refl, sym, ap, ◌∙◌, arith}
use Rattle.std.proofs.lemmas.Bool.Decides.{nat_tests}
use Rattle.facts.specs.declared.fact_types.Fact.{Fact}
use Rattle.stores.specs.Lists.{rises}
use Rattle.stores.specs.Store.{Pair, label, labels, read, placed, taken_out, pair_answer, put_answer}
use Rattle.stores.specs.Piles.{Pile, sound, after_put, after_take}
use Rattle.std.specs.Option.{ok_or}
use Rattle.stores.specs.declared.fault_types.StoreFault.{StoreFault}
use Rattle.stores.specs.declared.fault_types.StoreFault.TheVariants.{Full}
use Rattle.stores.proofs.Piles.{owed-rises}
use Rattle.stores.proofs.Pairs.{has-read, all_above, above-less, read_above, taken-missing, placed_first, length-kept}

pub read-gone : (l : ℕ) (ps : List Pair) → read l (taken_out l ps) ≡ None
read-gone l [] = refl
read-gone l (p ∷ ps) = let ih = read-gone l ps in grind (arith, nat_tests)

length-gone : (l : ℕ) (ps : List Pair) → is_some (read l ps) ≡ true → length (taken_out l ps) < length ps
length-gone l [] e = grind (arith, nat_tests)
length-gone l (p ∷ ps) e =
    let ih = length-gone l ps in let n = length-kept (λ q. not (eqb (label q) l)) ps in grind (arith, nat_tests)

pub placed-gone : (l : ℕ) (f : Fact) (ps : List Pair) → rises (labels ps) ≡ true → placed l f (taken_out l ps) ≡ placed l f ps
placed-gone l f [] r = refl
placed-gone l f (p ∷ ps) r =
    let ih = placed-gone l f ps in
    let u = all_above (label p) ps in
    let s = above-less l (label p) ps in
    let n = read_above l (label p) ps in
    let m = taken-missing l ps in
    let c = placed_first l f ps in
    grind (arith, nat_tests)

pub take-missing : (l : ℕ) (m : Pile) → read l m.pairs ≡ None → m ≡ after_take l m
take-missing l m e = rw (taken-missing l m.pairs e) refl

-- a pair that can be put
pub pair-fits : (l : ℕ) (f : Fact) (r : Result (Unit {0}) StoreFault) (u : Unit {0}) → r ≡ pair_answer l f → r ≡ Ok u → (f.kind < 64) × (1 ≤ l) × (l ≤ 1000000)
pair-fits l f r u e q = (grind (arith, nat_tests), grind (arith, nat_tests), grind (arith, nat_tests))

pub none-first : (o : Option ℕ) (r : Result ℕ StoreFault) (e x : StoreFault) → r ≡ ok_or o e → r ≡ Err x → o ≡ None
none-first None r e x q w = refl
none-first (Some i) r e x q w = let z : ◌≡◌ {A = ℕ} 0 1 = cc in absurd (omega arith)

pub some-first : (o : Option ℕ) (r : Result ℕ StoreFault) (e : StoreFault) (i : ℕ) → r ≡ ok_or o e → r ≡ Ok i → o ≡ Some i
some-first None r e i q w = let z : ◌≡◌ {A = ℕ} 0 1 = cc in absurd (omega arith)
some-first (Some j) r e i q w = cc

-- a held label's fact is replaced
pub held-answer : (l : ℕ) (f : Fact) (m : Pile) → f.kind < 64 → 1 ≤ l → l ≤ 1000000 → is_some (read l m.pairs) ≡ true → Ok tt ≡ put_answer m.capacity l f m.pairs
held-answer l f m k a b e = let h = has-read l m.pairs in grind (arith, nat_tests)

-- a label and a kind in range
module _ (l : ℕ) (f : Fact) (m n : Pile) (o : sound m ≡ true) (t : n ≡ after_take l m) (k : f.kind < 64) (a : 1 ≤ l) (b : l ≤ 1000000) where
  cap : n.capacity ≡ m.capacity
  cap = ap (λ x. x.capacity) t

  gone : n.pairs ≡ taken_out l m.pairs
  gone = ap (λ x. x.pairs) t

  room : length m.pairs ≤ m.capacity
  room = grind (arith, nat_tests)

  -- no label was taken out of a store that is full afterwards
  absent-label : length n.pairs ≡ n.capacity → read l m.pairs ≡ None
  absent-label e =
      let c = cap in
      let g = ap length gone in
      let r = room in
      let q = length-gone l m.pairs in
      grind (arith, nat_tests)

  pub full-answer : length n.pairs ≡ n.capacity → Err Full ≡ put_answer m.capacity l f m.pairs
  full-answer e =
      let z = absent-label e in
      let h = has-read l m.pairs in
      let c = cap in
      let g = ap length (gone ∙ taken-missing l m.pairs z) in
      grind (arith, nat_tests)

  pub full-after : length n.pairs ≡ n.capacity → n ≡ after_put l f m (Err Full)
  full-after e = t ∙ sym (take-missing l m (absent-label e))

  pub put-answers : length n.pairs < n.capacity → Ok tt ≡ put_answer m.capacity l f m.pairs
  put-answers e =
      let h = has-read l m.pairs in
      let c = cap in
      let g = ap length gone in
      let q = taken-missing l m.pairs in
      grind (arith, nat_tests)

  pub put-leaves : (p : Pile) → p ≡ after_put l f n (Ok tt) → p ≡ after_put l f m (Ok tt)
  put-leaves p e = e ∙ rw (t, placed-gone l f m.pairs (owed-rises m o)) refl
