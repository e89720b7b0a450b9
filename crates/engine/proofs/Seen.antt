-- Facts are brought in one after the other.
use Rattle.std.proofs.Common.{◌≡◌, ℕ, zero, suc, ◌+◌, ◌-◌, ◌<◌, ◌≤◌, true, false, cond, not, ◌&&◌, List, [], ◌∷◌, ◌++◌, map, length, length-append, get_or, drop, refl, sym, ap, ◌∙◌, arith}
use Rattle.std.proofs.Math.Seq.{drop-cons}
use Rattle.std.proofs.Math.Numerals.{add-one}
use Rattle.std.proofs.lemmas.Bool.Decides.{nat_tests}
use Rattle.std.proofs.lemmas.Bool.{and_parts}
use Rattle.std.proofs.lemmas.List.{length-map}
use Rattle.std.proofs.lemmas.List.Elements.{filter-append}
use Rattle.facts.specs.declared.fact_types.Fact.{Fact}
use Rattle.rules.specs.Rules.{Rule, all}
use Rattle.rules.specs.Closed.{watched}
use Rattle.stores.specs.Piles.{Pile, with_pairs}
use Rattle.stores.specs.Store.{Pair, placed, placed_all}
use Rattle.machine.specs.Machine.{State, seen, unseen, numbered, looks, bring}
use Rattle.machine.specs.declared.goal_types.Goal.{Goal}
use Rattle.machine.specs.declared.goal_types.Goal.TheVariants.{Wait, Look}
use Rattle.engine.specs.Bringing.{has_kind, looks_from}

abbrev make_state : List Pair → ℕ → List Goal → State
make_state ps n gs = record { pairs = ps; next = n; goals = gs }

-- the facts from an index on, by the one at the index
pub seen_more : (rs : List Rule) (fs : List Fact) (i : ℕ) (d : Fact) → i < length fs → seen rs (drop i fs) ≡ cond (watched rs (get_or fs i d)) (get_or fs i d ∷ seen rs (drop (i + 1) fs)) (seen rs (drop (i + 1) fs))
seen_more rs fs i d h = rw (add-one, drop-cons fs i d h) refl

pub kinds_more : (fs : List Fact) (i : ℕ) (d : Fact) → i < length fs → all has_kind (drop i fs) ≡ (has_kind (get_or fs i d) && all has_kind (drop (i + 1) fs))
kinds_more fs i d h = rw (add-one, drop-cons fs i d h) refl

pub length_placed : (l : ℕ) (f : Fact) (ps : List Pair) → length (placed l f ps) ≤ suc (length ps)
length_placed l f [] = omega arith
length_placed l f (p ∷ ps) = let ih = length_placed l f ps in grind (arith, nat_tests)

-- some facts are stored, and those from an index on are to come
pub record IsStoredTo (rs : List Rule) (fs : List Fact) (i : ℕ) (was now : Pile) (first last : ℕ) : Type 0 where
  pub kinds : all has_kind (drop i fs) ≡ true
  pub next : last + length (seen rs (drop i fs)) ≡ first + length (seen rs fs)
  pub capacity : now.capacity ≡ was.capacity
  pub room : length now.pairs + length (seen rs (drop i fs)) ≤ now.capacity
  pub pairs : placed_all (numbered last (seen rs (drop i fs))) now.pairs ≡ placed_all (numbered first (seen rs fs)) was.pairs

kinds_behind : (fs : List Fact) (i : ℕ) (d : Fact) → i < length fs → all has_kind (drop i fs) ≡ true → all has_kind (drop (i + 1) fs) ≡ true
kinds_behind fs i d h k = (and_parts (has_kind (get_or fs i d)) (all has_kind (drop (i + 1) fs)) (sym (kinds_more fs i d h) ∙ k)).1

pub seen_here : (rs : List Rule) (fs : List Fact) (i : ℕ) (d : Fact) → i < length fs → watched rs (get_or fs i d) ≡ true → seen rs (drop i fs) ≡ get_or fs i d ∷ seen rs (drop (i + 1) fs)
seen_here rs fs i d h w = seen_more rs fs i d h ∙ ap (λ b. cond b (get_or fs i d ∷ seen rs (drop (i + 1) fs)) (seen rs (drop (i + 1) fs))) w

pub not_seen_here : (rs : List Rule) (fs : List Fact) (i : ℕ) (d : Fact) → i < length fs → watched rs (get_or fs i d) ≡ false → seen rs (drop i fs) ≡ seen rs (drop (i + 1) fs)
not_seen_here rs fs i d h w = seen_more rs fs i d h ∙ ap (λ b. cond b (get_or fs i d ∷ seen rs (drop (i + 1) fs)) (seen rs (drop (i + 1) fs))) w

pub stored_more : (rs : List Rule) (fs : List Fact) (i : ℕ) (d : Fact) (was now new : Pile) (first next next' : ℕ) → i < length fs → watched rs (get_or fs i d) ≡ true → IsStoredTo rs fs i was now first next → new ≡ with_pairs now (placed next (get_or fs i d) now.pairs) → next' ≡ suc next → IsStoredTo rs fs (i + 1) was new first next'
stored_more rs fs i d was now new first next next' h w s e n =
    let here = seen_here rs fs i d h w in
    let count : length (seen rs (drop i fs)) ≡ suc (length (seen rs (drop (i + 1) fs))) = ap length here in
    let le = length_placed next (get_or fs i d) now.pairs in
    rw (e, n) (record {
      kinds = kinds_behind fs i d h s.kinds;
      next = omega (arith, s.next, count);
      capacity = s.capacity;
      room = omega (arith, s.room, count, le);
      pairs = ap (λ fs. placed_all (numbered next fs) now.pairs) (sym here) ∙ s.pairs;
    })

pub stored_same : (rs : List Rule) (fs : List Fact) (i : ℕ) (d : Fact) (was now : Pile) (first next : ℕ) → i < length fs → watched rs (get_or fs i d) ≡ false → IsStoredTo rs fs i was now first next → IsStoredTo rs fs (i + 1) was now first next
stored_same rs fs i d was now first next h w s =
    let here = not_seen_here rs fs i d h w in
    let count : length (seen rs (drop i fs)) ≡ length (seen rs (drop (i + 1) fs)) = ap length here in
    record {
      kinds = kinds_behind fs i d h s.kinds;
      next = omega (arith, s.next, count);
      capacity = s.capacity;
      room = omega (arith, s.room, count);
      pairs = ap (λ fs. placed_all (numbered next fs) now.pairs) (sym here) ∙ s.pairs;
    }

-- how many facts there are ----------------------------------------------------------------------------------------

pub seen_and_unseen : (rs : List Rule) (fs : List Fact) → length (seen rs fs) + length (unseen rs fs) ≡ length fs
seen_and_unseen rs [] = refl
seen_and_unseen rs (f ∷ fs) = let ih = seen_and_unseen rs fs in grind (arith, nat_tests)

pub length-numbered : (l : ℕ) (fs : List Fact) → length (numbered l fs) ≡ length fs
length-numbered l [] = refl
length-numbered l (f ∷ fs) = ap suc (length-numbered (suc l) fs)

looks_numbered : (l : ℕ) (fs : List Fact) → looks (numbered l fs) ≡ looks_from l (length fs)
looks_numbered l [] = refl
looks_numbered l (f ∷ fs) = ap (λ gs. Look l ∷ gs) (looks_numbered (suc l) fs)

length-looks_from : (l n : ℕ) → length (looks_from l n) ≡ n
length-looks_from l zero = refl
length-looks_from l (suc n) = ap suc (length-looks_from (suc l) n)

-- facts are pushed from the last on, and these are left
pub record IsWaiting (rs : List Rule) (fs rest : List Fact) (was now : List Goal) : Type 0 where
  pub kinds : all has_kind rest ≡ true
  pub goals : map Wait (unseen rs rest) ++ now ≡ map Wait (unseen rs fs) ++ was

module _ (rs : List Rule) (fs all' rest : List Fact) (x : Fact) (was now : List Goal) (e : all' ≡ rest ++ x ∷ []) (w : IsWaiting rs fs all' was now) where
  parts : unseen rs all' ≡ unseen rs rest ++ cond (not (watched rs x)) (x ∷ []) []
  parts = ap (unseen rs) e ∙ filter-append (λ f. not (watched rs f)) rest (x ∷ [])

  module _ (h : watched rs x ≡ false) where
    one : unseen rs all' ≡ unseen rs rest ++ (x ∷ [])
    one = parts ∙ ap (λ b. unseen rs rest ++ cond (not b) (x ∷ []) []) h

    pub wait_fits : length was + length (unseen rs fs) ≤ 512 → length now < 512
    wait_fits room =
        let many : length (unseen rs all') ≡ length (unseen rs rest) + 1 = ap length one ∙ length-append (unseen rs rest) (x ∷ []) in
        let count : length (map Wait (unseen rs all')) + length now ≡ length (map Wait (unseen rs fs)) + length was =
        sym (length-append (map Wait (unseen rs all')) now) ∙ (ap length w.goals ∙ length-append (map Wait (unseen rs fs)) was) in
        omega (arith, room, many, count, length-map (unseen rs all') Wait, length-map (unseen rs fs) Wait)

-- there is room for the facts that wait
pub waits_fit : (rs : List Rule) (fs : List Fact) (first last : ℕ) (goals was now : List Goal) → last ≡ first + length (seen rs fs) → was ≡ goals → now ≡ looks_from first (last - first) ++ was → length goals + length fs ≤ 512 → length now + length (unseen rs fs) ≤ 512
waits_fit rs fs first last goals was now n e f room =
    let both = seen_and_unseen rs fs in
    let count : length now ≡ (last - first) + length was = ap length f ∙ simp (length-append, length-looks_from) in
    let same : length was ≡ length goals = ap length e in
    omega (arith, both, count, same)

-- the state after facts are brought in
pub brought : (rs rs' : List Rule) (fs : List Fact) (m n : Pile) (first last : ℕ) (goals was looked now : List Goal) → n ≡ with_pairs m (placed_all (numbered first (seen rs fs)) m.pairs) → last ≡ first + length (seen rs fs) → was ≡ goals → looked ≡ looks_from first (last - first) ++ was → rs' ≡ rs → now ≡ map Wait (unseen rs' fs) ++ looked → make_state n.pairs last now ≡ bring rs fs (make_state m.pairs first goals)
brought rs rs' fs m n first last goals was looked now e f g h i j =
    let stored = seen rs fs in
    let count : last - first ≡ length stored = omega arith in
    let looked' : looked ≡ looks (numbered first stored) ++ goals =
    h ∙ (ap (λ gs. looks_from first (last - first) ++ gs) g ∙ ap (λ gs. gs ++ goals) (ap (looks_from first) count ∙ sym (looks_numbered first stored))) in
    let now' : now ≡ map Wait (unseen rs fs) ++ (looks (numbered first stored) ++ goals) =
    j ∙ (ap (λ r. map Wait (unseen r fs) ++ looked) i ∙ ap (λ gs. map Wait (unseen rs fs) ++ gs) looked') in
    let last' : last ≡ first + length (numbered first stored) = f ∙ ap (λ k. first + k) (sym (length-numbered first stored)) in
    rw (e, last', now') refl
