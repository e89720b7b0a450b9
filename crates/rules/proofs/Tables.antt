-- What becomes of a table where the rule being written is changed, and where it ends.
use Rattle.std.proofs.Common.{◌≡◌, ℕ, zero, suc, ◌+◌, ◌<◌, List, [], ◌∷◌, ◌++◌, map, length, take, set, replicate, Some, Result, sym, refl, ap, ◌∙◌, arith, length-set}
use Rattle.std.specs.List.{slice_get}
use Rattle.std.proofs.lemmas.List.{take-set-le, get_or-set_same, set-get_or}
use Rattle.std.proofs.lemmas.Option.{slice_get-get_or, slice_get_within, get_or_from_slice_get}
use Rattle.rules.specs.declared.rule_types.RuleFault.{RuleFault}
use Rattle.rules.specs.declared.rule_types.RuleRecord.{RuleRecord}
use Rattle.rules.specs.declared.table_type.Table.{Table}
use Rattle.rules.specs.Rules.{Rule, rule_seen}
use Rattle.rules.specs.Writing.{no_parts, rule_in, done, after}
use Rattle.rules.specs.Tables.{draft, WroteAt, Added}

-- the record at an index was written anew
pub written-there : (xs : List RuleRecord) (i : ℕ) (x : RuleRecord) → i < length xs → slice_get (set xs i x) i ≡ Some x
written-there xs i x h = slice_get-get_or (set xs i x) i x (omega (arith, length-set xs i x)) ∙ ap Some (get_or-set_same xs i x x h)

pub added : (o : Rule → Result Rule RuleFault) (t new : Table) (r : Result (Unit {0}) RuleFault) → new.rules.count ≡ t.rules.count → WroteAt t.rules.count o t.rules.items new.rules.items r → Added (o (draft t)) t new r
added o t new r e w =
    let here = slice_get_within t.rules.items t.rules.count w.before w.there in
    let was : draft t ≡ rule_seen w.before = ap rule_in w.there in
    let now : draft new ≡ rule_seen w.after = rw (e, w.others) (ap rule_in (written-there t.rules.items t.rules.count w.after here)) in
    record {
      answer = w.wrote.answer ∙ ap (λ (x : Rule). done (o x)) (sym was);
      written = now ∙ w.wrote.meaning ∙ ap (λ (x : Rule). after (o x) x) (sym was);
      before = rw (e, w.others) (ap (map rule_seen) (take-set-le t.rules.count t.rules.items t.rules.count w.after (omega arith)));
      same_len = e;
      as_found = λ f k.
          w.others
          ∙ ap (set t.rules.items t.rules.count) (w.wrote.as_found f k ∙ sym (get_or_from_slice_get t.rules.items t.rules.count w.before w.before w.there))
          ∙ set-get_or t.rules.items t.rules.count w.before;
    }

pub finished-more : (xs : List RuleRecord) (n : ℕ) → n < length xs → map rule_seen (take (n + 1) xs) ≡ map rule_seen (take n xs) ++ (rule_in (slice_get xs n) ∷ [])
finished-more [] n h = absurd (omega arith)
finished-more (x ∷ xs) zero h = refl
finished-more (x ∷ xs) (suc n) h =
    let next : suc n + 1 ≡ suc (n + 1) = omega arith in rw next (ap (λ (rs : List Rule). rule_seen x ∷ rs) (finished-more xs n (omega arith)))

-- a blank record in every place
pub blank-everywhere : (x : RuleRecord) (n i : ℕ) → rule_seen x ≡ no_parts → rule_in (slice_get (replicate n x) i) ≡ no_parts
blank-everywhere x zero i h = refl
blank-everywhere x (suc n) zero h = h
blank-everywhere x (suc n) (suc i) h = blank-everywhere x n i h
