-- Lists: tests that some element passes, membership, choices.
use Rattle.std.proofs.Common.{◌≡◌, ℕ, zero, suc, ◌<◌, Bool, true, false, cond, eqb, ◌⊎◌, List, [], ◌∷◌, ◌++◌, map, length, get_or, take, Some, None, filter, Option, sym, refl, ap, ◌∙◌, subst, inl, inr, ⊎_elim, arith}
use mathlib.Core.List.Memᴰ
use mathlib.Core.List.{Memᴰ}
use mathlib.Core.Bool.{false≢true}
use Rattle.std.proofs.lemmas.Bool.{or_left, or_right, or_cases, eq-eqb, eqb-true}
use Rattle.stores.specs.Lists.{any, has}
use Rattle.stores.specs.Store.{Pair, label, labels}
use Rattle.machine.specs.Lists.{choices}
use Rattle.std.specs.Prelude.{find, flat_map}

pub any-mem : {X : Type 0} (p : X → Bool) {x : X} {xs : List X} → Memᴰ x xs → p x ≡ true → any p xs ≡ true
any-mem p (Memᴰ.head {x = y} {xs = ys} e) h = or_left (p y) (any p ys) (ap p (sym e) ∙ h)
any-mem p (Memᴰ.tail {x = y} {xs = ys} m) h = or_right (p y) (any p ys) (any-mem p m h)

pub any-from : {X : Type 0} (p : X → Bool) (xs : List X) → any p xs ≡ true → (x : X) × Memᴰ x xs × (p x ≡ true)
any-from p [] e = absurd (false≢true e)
any-from {X} p (y ∷ ys) e = go (any-from p ys) (or_cases (p y) (any p ys) e)
  where
    go : (any p ys ≡ true → (x : X) × Memᴰ x ys × (p x ≡ true)) → (p y ≡ true) ⊎ (any p ys ≡ true) → (x : X) × Memᴰ x (y ∷ ys) × (p x ≡ true)
    go below (inl h) = (y, Memᴰ.head refl, h)
    go below (inr h) = let r = below h in (r.0, Memᴰ.tail r.1, r.2)

pub has-mem : {n : ℕ} {ns : List ℕ} → Memᴰ n ns → has n ns ≡ true
has-mem {n} m = any-mem (eqb n) m (eq-eqb n n refl)

pub mem-has : (n : ℕ) (ns : List ℕ) → has n ns ≡ true → Memᴰ n ns
mem-has n ns h = let r = any-from (eqb n) ns h in Memᴰ.cast (eqb-true n r.0 r.2) r.1

pub has-label : {p : Pair} {ps : List Pair} → Memᴰ p ps → has (label p) (labels ps) ≡ true
has-label m = has-mem (Memᴰ.map label m)

pub has-at : (ns : List ℕ) (j : ℕ) → j < length ns → has (get_or ns j 0) ns ≡ true
has-at [] j h = absurd (omega arith)
has-at (n ∷ ns) zero h = or_left (eqb n n) (has n ns) (eq-eqb n n refl)
has-at (n ∷ ns) (suc j) h = or_right (eqb (get_or ns j 0) n) (has (get_or ns j 0) ns) (has-at ns j (omega arith))

pub take-front : {X : Type 0} (xs ys : List X) → take (length xs) (xs ++ ys) ≡ xs
take-front [] ys = refl
take-front {X} (x ∷ xs) ys = ap (λ (l : List X). x ∷ l) (take-front xs ys)

-- the first that passes
cond_none : {X : Type 0} (b : Bool) (y : X) (o : Option X) → cond b (Some y) o ≡ None → (b ≡ false) × (o ≡ None)
cond_none true y o e = let z : ◌≡◌ {A = ℕ} 0 1 = cc in absurd (omega arith)
cond_none false y o e = (refl, e)

cond_some : {X : Type 0} (b : Bool) (y x : X) (o : Option X) → cond b (Some y) o ≡ Some x → ((b ≡ true) × (x ≡ y)) ⊎ (o ≡ Some x)
cond_some true y x o e = inl (refl, cc)
cond_some false y x o e = inr e

pub first-none : {X : Type 0} (p : X → Bool) {x : X} {xs : List X} → Memᴰ x xs → find p xs ≡ None → p x ≡ false
first-none p (Memᴰ.head {x = y} {xs = ys} e) h = ap p e ∙ (cond_none (p y) y (find p ys) h).0
first-none p (Memᴰ.tail {x = y} {xs = ys} m) h = first-none p m (cond_none (p y) y (find p ys) h).1

pub first_some : {X : Type 0} (p : X → Bool) (x : X) (xs : List X) → find p xs ≡ Some x → Memᴰ x xs × (p x ≡ true)
first_some p x [] e = let z : ◌≡◌ {A = ℕ} 0 1 = cc in absurd (omega arith)
first_some p x (y ∷ ys) e = go (first_some p x ys) (cond_some (p y) y x (find p ys) e)
  where
    go : (find p ys ≡ Some x → Memᴰ x ys × (p x ≡ true)) → ((p y ≡ true) × (x ≡ y)) ⊎ (find p ys ≡ Some x) → Memᴰ x (y ∷ ys) × (p x ≡ true)
    go below (inl h) = (Memᴰ.head h.1, ap p h.1 ∙ h.0)
    go below (inr h) = let r = below h in (Memᴰ.tail r.0, r.1)

-- choices
pub joined-mem : {X Y : Type 0} (f : X → List Y) {x : X} {xs : List X} {y : Y} → Memᴰ x xs → Memᴰ y (f x) → Memᴰ y (flat_map f xs)
joined-mem f {y = y} (Memᴰ.head {xs = ys} e) m = Memᴰ.append_left (flat_map f ys) (subst (λ z. Memᴰ y (f z)) e m)
joined-mem f (Memᴰ.tail {x = z} n) m = Memᴰ.append_right (f z) (joined-mem f n m)

pub joined-from : {X Y : Type 0} (f : X → List Y) (xs : List X) {y : Y} → Memᴰ y (flat_map f xs) → (x : X) × Memᴰ x xs × Memᴰ y (f x)
joined-from f [] m = absurd (Memᴰ.not-nil m)
joined-from {X} f (x ∷ xs) {y} m = go (λ n. joined-from f xs n) (Memᴰ.append_cases (f x) m)
  where
    go : (Memᴰ y (flat_map f xs) → (z : X) × Memᴰ z xs × Memᴰ y (f z)) → Memᴰ y (f x) ⊎ Memᴰ y (flat_map f xs) → (z : X) × Memᴰ z (x ∷ xs) × Memᴰ y (f z)
    go below (inl n) = (x, Memᴰ.head refl, n)
    go below (inr n) = let r = below n in (r.0, Memᴰ.tail r.1, r.2)

-- what holds of each element
abbrev pub Each : {X : Type 0} → (X → Type 0) → List X → Type 0
Each P [] = Unit {0}
Each P (x ∷ xs) = P x × Each P xs

pub Each_weaker : {X : Type 0} (P Q : X → Type 0) → ((x : X) → P x → Q x) → (xs : List X) → Each P xs → Each Q xs
Each_weaker P Q f [] h = tt
Each_weaker P Q f (x ∷ xs) h = (f x h.0, Each_weaker P Q f xs h.1)

pub Each-append : {X : Type 0} (P : X → Type 0) (xs ys : List X) → Each P xs → Each P ys → Each P (xs ++ ys)
Each-append P [] ys h k = k
Each-append P (x ∷ xs) ys h k = (h.0, Each-append P xs ys h.1 k)

pub Each-map : {X Y : Type 0} (P : Y → Type 0) (f : X → Y) (xs : List X) → Each (λ x. P (f x)) xs → Each P (map f xs)
Each-map P f [] h = tt
Each-map P f (x ∷ xs) h = (h.0, Each-map P f xs h.1)

pub Each-filter : {X : Type 0} (p : X → Bool) (P : X → Type 0) (xs : List X) → Each P xs → Each P (filter p xs)
Each-filter p P [] h = tt
Each-filter {X} p P (x ∷ xs) h = go (p x) (Each-filter p P xs h.1)
  where
    go : (b : Bool) → Each P (filter p xs) → Each P (cond b (x ∷ filter p xs) (filter p xs))
    go true k = (h.0, k)
    go false k = k

pub Each-passes : {X : Type 0} (p : X → Bool) (xs : List X) → Each (λ x. p x ≡ true) (filter p xs)
Each-passes p [] = tt
Each-passes {X} p (x ∷ xs) = go (p x) refl (Each-passes p xs)
  where
    go : (b : Bool) → p x ≡ b → Each (λ x. p x ≡ true) (filter p xs) → Each (λ x. p x ≡ true) (cond b (x ∷ filter p xs) (filter p xs))
    go true e k = (e, k)
    go false e k = k

pub each_member : {X : Type 0} (P : X → Type 0) (x : X) (xs : List X) → Each P xs → Memᴰ x xs → P x
each_member P x xs a (Memᴰ.head {x = y} e) = subst P (sym e) a.0
each_member P x xs a (Memᴰ.tail {x = y} {xs = ys} m) = each_member P x ys a.1 m

pub each-itself : {X : Type 0} (xs : List X) → Each (λ x. Memᴰ x xs) xs
each-itself [] = tt
each-itself (x ∷ xs) = (
  Memᴰ.head refl,
  Each_weaker (λ y. Memᴰ y xs) (λ y. Memᴰ y (x ∷ xs)) (λ y m. Memᴰ.tail m) xs (each-itself xs),
)

-- each element of one list is in another
abbrev pub Within : {X : Type 0} → List X → List X → Type 0
Within ps c = Each (λ x. Memᴰ x ps) c

pub choices-all : {X : Type 0} (ps c : List X) → Within ps c → Memᴰ c (choices (length c) ps)
choices-all ps [] w = Memᴰ.head refl
choices-all ps (x ∷ c) w = joined-mem (λ x. map (λ c. x ∷ c) (choices (length c) ps)) w.0 (Memᴰ.map (λ c. x ∷ c) (choices-all ps c w.1))

pub choices-from : {X : Type 0} (n : ℕ) (ps c : List X) → Memᴰ c (choices n ps) → Within ps c
choices-from zero ps c m = subst (λ c. Within ps c) (sym (Memᴰ.eq_of_singleton m)) tt
choices-from (suc n) ps c m =
    let a = joined-from (λ x. map (λ c. x ∷ c) (choices n ps)) ps m in
    let b = Memᴰ.of_map (λ c. a.0 ∷ c) (choices n ps) a.2 in
    subst (λ c. Within ps c) b.2 (a.1, choices-from n ps b.0 b.1)

pub within_more : {X : Type 0} (ps qs : List X) → ((x : X) → Memᴰ x ps → Memᴰ x qs) → (c : List X) → Within ps c → Within qs c
within_more ps qs f [] w = tt
within_more ps qs f (x ∷ c) w = (f x w.0, within_more ps qs f c w.1)

-- what a filter keeps
pub kept_from : {X : Type 0} (p : X → Bool) (x : X) (xs : List X) → Memᴰ x (filter p xs) → Memᴰ x xs × (p x ≡ true)
kept_from p x [] m = absurd (Memᴰ.not-nil m)
kept_from p x (y ∷ ys) m = go (p y) refl m (kept_from p x ys)
  where
    go : (b : Bool) → p y ≡ b → Memᴰ x (cond b (y ∷ filter p ys) (filter p ys)) → (Memᴰ x (filter p ys) → Memᴰ x ys × (p x ≡ true)) → Memᴰ x (y ∷ ys) × (p x ≡ true)
    go true e n below = ⊎_elim (λ (h : x ≡ y). (Memᴰ.head h, ap p h ∙ e)) (λ (k : Memᴰ x (filter p ys)). (Memᴰ.tail (below k).0, (below k).1)) (Memᴰ.cases_cons n)
    go false e n below = (Memᴰ.tail (below n).0, (below n).1)

pub within-mem : {X : Type 0} (ps c : List X) → Within ps c → {x : X} → Memᴰ x c → Memᴰ x ps
within-mem ps c w {x} m = each_member (λ y. Memᴰ y ps) x c w m
