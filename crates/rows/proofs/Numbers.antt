-- Numbers: exactly the decimal writings are read.
use Rattle.std.proofs.Common.{◌≡◌, ℕ, suc, ◌+◌, ◌-◌, ◌*◌, ◌^◌, ◌<◌, Bool, true, false, cond, ◌&&◌, eqb, leb, List, [], ◌∷◌, length, drop, ℤ, pos, neg_ℤ, Some, None, Option, sym, refl, ap, ◌∙◌, subst, mul_assoc, mul_comm, add-mul, pow-suc, mul_left_comm, arith}
use Rattle.std.proofs.lemmas.Bool.{eqb-true, leb-true, le-leb, and_parts}
use Rattle.std.proofs.lemmas.Bool.Decides.{nat_tests}
use Rattle.rows.specs.Numbers.{minus, is_digit, all_digits, digits, value_after, unsigned, positive, negative, number, places, Digits, Decimal, NumberGrammar}

-- digits behind a number move it up by their places
value-places : (n : ℕ) (bs : List ℕ) → value_after n bs ≡ n * 10 ^ length bs + places bs
value-places n [] = omega arith
value-places n (b ∷ bs) =
    let up : n * 10 ^ suc (length bs) ≡ 10 * n * 10 ^ length bs = rw (pow-suc, mul_comm (10 ^ length bs) 10) (mul_left_comm n 10 (10 ^ length bs) ∙ sym (mul_assoc 10 n (10 ^ length bs))) in
    value-places (10 * n + (b - 48)) bs ∙ omega (arith, add-mul (10 * n) (b - 48) (10 ^ length bs), up)

pub value-is : (bs : List ℕ) → value_after 0 bs ≡ places bs
value-is bs = value-places 0 bs ∙ omega arith

digits-is : (bs : List ℕ) → Digits bs → digits bs ≡ true
digits-is bs d = rw (d.all, le-leb 1 (length bs) d.some, le-leb (length bs) 10 d.few)

digits-was : (bs : List ℕ) → digits bs ≡ true → Digits bs
digits-was bs h =
    let p = and_parts (all_digits bs) (leb 1 (length bs) && leb (length bs) 10) h in
    let q = and_parts (leb 1 (length bs)) (leb (length bs) 10) p.1 in
    record { all = p.0; some = leb-true 1 (length bs) q.0; few = leb-true (length bs) 10 q.1 }

unsigned_is : (bs : List ℕ) → Digits bs → unsigned bs ≡ Some (places bs)
unsigned_is bs d = rw (digits-is bs d, value-is bs)

unsigned-was : (n : ℕ) (bs : List ℕ) → unsigned bs ≡ Some n → Digits bs × (n ≡ places bs)
unsigned-was n bs e = go (digits bs) refl e
  where
    go : (t : Bool) → digits bs ≡ t → cond t (Some (value_after 0 bs)) None ≡ Some n → Digits bs × (n ≡ places bs)
    go true h e = (digits-was bs h, let k : n ≡ value_after 0 bs = cc in k ∙ value-is bs)
    go false h e = let z : ◌≡◌ {A = ℕ} 0 1 = cc in absurd (omega arith)

digit_no_minus : (b : ℕ) (bs : List ℕ) → all_digits (b ∷ bs) ≡ true → eqb b minus ≡ false
digit_no_minus b bs h = let p = (and_parts (is_digit b) (all_digits bs) h).0 in grind (arith, nat_tests)

pub number_is : (z : ℤ) (bs : List ℕ) → Decimal z bs → number bs ≡ Some z
number_is z bs d = go d
  where
    plain : (bs : List ℕ) → Digits bs → number bs ≡ Some (pos (places bs))
    plain [] d = absurd (omega (arith, d.some))
    plain (b ∷ bs) d = rw (digit_no_minus b bs d.all) (ap positive (unsigned_is (b ∷ bs) d))

    go : {z : ℤ} {bs : List ℕ} → Decimal z bs → number bs ≡ Some z
    go (Decimal.plain {bs} d) = plain bs d
    go (Decimal.negated {bs} d) = ap negative (unsigned_is bs d)

pub number-was : (z : ℤ) (bs : List ℕ) → number bs ≡ Some z → Decimal z bs
number-was z [] e = let z : ◌≡◌ {A = ℕ} 0 1 = cc in absurd (omega arith)
number-was z (b ∷ bs) e = go (eqb b minus) refl e
  where
    less : (o : Option ℕ) → negative o ≡ Some z → (n : ℕ) × (o ≡ Some n) × (neg_ℤ (pos n) ≡ z)
    less (Some n) e = (n, refl, cc)
    less None e = let z : ◌≡◌ {A = ℕ} 0 1 = cc in absurd (omega arith)

    more : (o : Option ℕ) → positive o ≡ Some z → (n : ℕ) × (o ≡ Some n) × (pos n ≡ z)
    more (Some n) e = (n, refl, cc)
    more None e = let z : ◌≡◌ {A = ℕ} 0 1 = cc in absurd (omega arith)

    go : (t : Bool) → eqb b minus ≡ t → cond t (negative (unsigned bs)) (positive (unsigned (b ∷ bs))) ≡ Some z → Decimal z (b ∷ bs)
    go true h e =
        let r = less (unsigned bs) e in
        let d = unsigned-was r.0 bs r.1 in
        rw (eqb-true b minus h) (subst (λ (x : ℤ). Decimal x (minus ∷ bs)) (ap (λ (x : ℕ). neg_ℤ (pos x)) (sym d.1) ∙ r.2) (Decimal.negated d.0))
    go false h e =
        let r = more (unsigned (b ∷ bs)) e in
        let d = unsigned-was r.0 (b ∷ bs) r.1 in
        subst (λ (x : ℤ). Decimal x (b ∷ bs)) (ap pos (sym d.1) ∙ r.2) (Decimal.plain d.0)

pub number_read_so : (bs : List ℕ) (r : Option ℤ) → r ≡ number bs → NumberGrammar bs r
number_read_so bs r e =
    record {
      reads = λ z d. e ∙ number_is z bs d;
      was = λ z h. number-was z bs (sym e ∙ h);
      none = λ h z d. let c : Some z ≡ None = sym (number_is z bs d) ∙ sym e ∙ h in let z : ◌≡◌ {A = ℕ} 0 1 = cc in omega arith;
    }

-- the scan of digits, step by step ----------------------------------------------------------------------------

-- what was read of the first digits, and what is left
pub record Scanned (bs : List ℕ) (n i : ℕ) : Type 0 where
  pub same : value_after 0 bs ≡ value_after n (drop i bs)
  pub all : all_digits bs ≡ all_digits (drop i bs)
  pub small : n < 10 ^ i
