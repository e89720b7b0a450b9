use Rattle.std.proofs.Common.{◌≡◌, List, [], ◌∷◌, length, get_or, ℤ, pos, Some, map, refl, ◌∙◌, arith, rules, w64, to_z, of_z}
use Rattle.printing.proofs.lines.fact_row.Goals as goal

-- three words, one by one
three_words : (ws : List ℤ) → length ws ≡ 3 → map Some ws ≡ Some (get_or ws 0 (pos 0)) ∷ (Some (get_or ws 1 (pos 0)) ∷ (Some (get_or ws 2 (pos 0)) ∷ []))
three_words (a ∷ (b ∷ (d ∷ []))) e = refl
three_words [] e = absurd (omega arith)
three_words (a ∷ []) e = absurd (omega arith)
three_words (a ∷ (b ∷ [])) e = absurd (omega arith)
three_words (a ∷ (b ∷ (d ∷ (f ∷ ws)))) e = absurd (omega arith)

pub returns : goal.returns
returns c =
    let three : length c.args.fact.now.words ≡ 3 = search rules in
    let first : to_z w64 (of_z w64 (get_or c.args.fact.now.words 0 (pos 0))) ≡ get_or c.args.fact.now.words 0 (pos 0) = search rules in
    let second : to_z w64 (of_z w64 (get_or c.args.fact.now.words 1 (pos 0))) ≡ get_or c.args.fact.now.words 1 (pos 0) = search rules in
    let third : to_z w64 (of_z w64 (get_or c.args.fact.now.words 2 (pos 0))) ≡ get_or c.args.fact.now.words 2 (pos 0) = search rules in
    let label : to_z w64 (of_z w64 c.from.result) ≡ pos c.args.label = search rules in
    let kind : to_z w64 (of_z w64 c.from-2.result) ≡ pos c.args.fact.now.kind = search rules in
    c.print_row.ensures ∙ simp (first, second, third, label, kind, three_words c.args.fact.now.words three)
