-- The records of a table one by one: their heads are counted and numbered, and their kinds are looked through.
use Rattle.std.proofs.Common.{◌≡◌, ℕ, Bool, true, false, List, [], ◌∷◌, map, length, get_or, sym, refl, ap, ◌∙◌, inl, inr, arith}
use Rattle.std.specs.List.{sum_by}
use Rattle.std.proofs.lemmas.List.{get_or_past}
use Rattle.std.proofs.lemmas.List.FromFn.{get_or-map-range_with_len, length-map-range_with_len}
use Rattle.std.proofs.lemmas.List.Sums.{sum_by-cons}
use Rattle.std.proofs.lemmas.Bool.{cases_lt}
use Rattle.lists.specs.Held.{held}
use Rattle.rules.specs.declared.rule_types.RuleRecord.{RuleRecord}
use Rattle.rules.specs.Rules.{Rule, rule_seen, any}
use Rattle.rules.proofs.Records.{singles-seen}
use Rattle.rules.proofs.Stands.{none_named}
use Rattle.rules.specs.Closed.{stand, every_word, heads_of, head_count, names, watched_kinds}

pub heads-seen : (r : RuleRecord) → heads_of (rule_seen r) ≡ length (held r.singles)
heads-seen r = ap length (singles-seen r)

pub heads-sum : (rs : List RuleRecord) → sum_by (λ r. length (held r.singles)) rs ≡ head_count (map rule_seen rs)
heads-sum [] = refl
heads-sum (r ∷ rs) = omega (arith, sum_by-cons (λ (x : RuleRecord). length (held x.singles)) r rs, heads-seen r, heads-sum rs)

-- the table of watched kinds, of which no rule that stands names one past its end
pub watched-at : (w : List Bool) (rs : List Rule) (k : ℕ) → w ≡ watched_kinds rs → stand every_word rs ≡ true → get_or w k false ≡ any (names k) rs
watched-at w rs k e h =
    let long : length w ≡ 64 = ap length e ∙ length-map-range_with_len (λ n. any (names n) rs) 0 64 in
    elim (cases_lt k 64) [
      | inl l ↦ ap (λ (x : List Bool). get_or x k false) e ∙ get_or-map-range_with_len (λ n. any (names n) rs) 0 64 k k false l (omega arith)
      | inr l ↦ get_or_past w k false (omega arith) ∙ sym (none_named every_word rs k l h)
    ]
