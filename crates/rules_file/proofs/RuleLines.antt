-- The rows of a rules file are lines, and a line moves the state on.
use Rattle.std.proofs.Common.{◌≡◌, ℕ, suc, Bool, true, false, eqb, List, [], ◌∷◌, map, length, ℤ, pos, Some, None, Ok, Option, Result, sym, refl, ◌∙◌, subst, ap₂, arith}
use lib.ListN.{length-map}
use Rattle.std.proofs.lemmas.Bool.{eqb-true, eq-eqb}
use Rattle.rules.specs.declared.rule_types.Argument.{Argument}
use Rattle.rules.specs.declared.rule_types.Term.{Term}
use Rattle.rules.specs.declared.rule_types.Comparison.{Comparison}
use Rattle.rules.specs.declared.rule_types.Pattern.{Pattern}
use Rattle.rules.specs.declared.rule_types.RuleFault.{RuleFault}
use Rattle.rules.specs.declared.rule_types.HeadSort.{HeadSort}
use Rattle.rules.specs.declared.rule_types.HeadSort.TheVariants.{Keep, Drop, KeepAll, DropAll, Only, When}
use Rattle.rules.specs.declared.rule_types.BodySort.{BodySort}
use Rattle.rules.specs.declared.rule_types.BodySort.TheVariants.{Give, GiveAll}
use Rattle.rules.specs.declared.rule_types.HeadPart.{HeadPart}
use Rattle.rules.specs.declared.rule_types.HeadPart.TheVariants as in_head
use Rattle.rules.specs.declared.rule_types.BodyPart.{BodyPart}
use Rattle.rules.specs.declared.rule_types.BodyPart.TheVariants as in_Body
use Rattle.rules.specs.Rules.{Rule}
use Rattle.rules.specs.Writing.{may_add, may_add_body, over_verdict, single_verdict, all_verdict, term_verdict, pattern_verdict, comparison_verdict, template_verdict, giveall_verdict, no_parts, add_head, add_body}
use Rattle.rules.specs.Tables.{may_begin}
use Rattle.rows.specs.Csv.{Part, content, Row, fields, malformed}
use Rattle.rows.specs.Numbers.{number}
use Rattle.rows.specs.Refusals.{◌>>=◌}
use Rattle.rules_file.specs.declared.word_type.RowWord.{RowWord}
use Rattle.rules_file.specs.declared.word_type.RowWord.TheVariants as row_word
use Rattle.rules_file.specs.RuleRows.{word, word_spelled, ruled, judged, unused, row_width, at, from, head, comparison, template, head_part, body_part, with_head, with_body, State, no_rule, writing, finished, new_rule, write_word, write_row, write_rows}
use Rattle.rules_file.specs.RulesWritten.{Pairwise, Line, rule_line, head_line, body_line, PatternWritten, ComparisonWritten, LineWritten}
use Rattle.rows.proofs.Outcomes.{no_ok, same_ok, bind_ok, let_in}
use Rattle.rules_file.proofs.RuleFields.{word-was, ruled_ok, then_ok, number-reads, number-read-was, over-keeps, unused-was, head-reads, head-was, comparison-reads, comparison-was, template-reads, template-was}

-- what is asked of a part, by its sort ------------------------------------------------------------------------

abbrev pub sort_of : HeadPart → HeadSort
sort_of (in_head.Keep p) = Keep
sort_of (in_head.Drop p) = Drop
sort_of (in_head.KeepAll p) = KeepAll
sort_of (in_head.DropAll p) = DropAll
sort_of (in_head.Only c) = Only
sort_of (in_head.When c) = When

abbrev pub body_sort_of : BodyPart → BodySort
body_sort_of (in_Body.Give t) = Give
body_sort_of (in_Body.GiveAll g) = GiveAll

abbrev pub head-verdict : (ℤ → Bool) → Rule → HeadPart → Result (Unit {0}) RuleFault
head-verdict valid r (in_head.Keep p) = pattern_verdict (single_verdict valid) p
head-verdict valid r (in_head.Drop p) = pattern_verdict (single_verdict valid) p
head-verdict valid r (in_head.KeepAll p) = pattern_verdict (all_verdict valid r) p
head-verdict valid r (in_head.DropAll p) = pattern_verdict (all_verdict valid r) p
head-verdict valid r (in_head.Only c) = comparison_verdict (term_verdict valid r true) c
head-verdict valid r (in_head.When c) = comparison_verdict (term_verdict valid r false) c

abbrev pub body_verdict : (ℤ → Bool) → Rule → BodyPart → Result (Unit {0}) RuleFault
body_verdict valid r (in_Body.Give t) = template_verdict (term_verdict valid r false) t
body_verdict valid r (in_Body.GiveAll g) = giveall_verdict valid r g

-- what passes is added
pub head-added : (valid : ℤ → Bool) (r : Rule) (p : HeadPart) → may_add (sort_of p) r ≡ Ok tt → head-verdict valid r p ≡ Ok tt → add_head valid p r ≡ Ok (with_head p r)
head-added valid r (in_head.Keep p) m v = rw (m, v)
head-added valid r (in_head.Drop p) m v = rw (m, v)
head-added valid r (in_head.KeepAll p) m v = rw (m, v)
head-added valid r (in_head.DropAll p) m v = rw (m, v)
head-added valid r (in_head.Only c) m v = rw (m, v)
head-added valid r (in_head.When c) m v = rw (m, v)

pub body_added : (valid : ℤ → Bool) (r : Rule) (p : BodyPart) → may_add_body (body_sort_of p) r ≡ Ok tt → body_verdict valid r p ≡ Ok tt → add_body valid p r ≡ Ok (with_body p r)
body_added valid r (in_Body.Give t) m v = rw (m, v)
body_added valid r (in_Body.GiveAll g) m v = rw (m, v)

-- the parts of a row --------------------------------------------------------------------------------------------

module _ (valid : ℤ → Bool) (row : ℕ) (r : Rule) where
  pub head_part-reads : (p : HeadPart) (cs : List (List ℕ)) → LineWritten (head_line p) cs → head-verdict valid r p ≡ Ok tt → head_part valid row r (sort_of p) cs ≡ Ok p
  head_part-reads p cs (LineWritten.a_keep {p = q} {k} {a} {b} {c} w) v = rw (head-reads row (single_verdict valid) q _ k a b c w v)
  head_part-reads p cs (LineWritten.a_drop {p = q} {k} {a} {b} {c} w) v = rw (head-reads row (single_verdict valid) q _ k a b c w v)
  head_part-reads p cs (LineWritten.a_keepall {p = q} {k} {a} {b} {c} w) v = rw (head-reads row (all_verdict valid r) q _ k a b c w v)
  head_part-reads p cs (LineWritten.a_dropall {p = q} {k} {a} {b} {c} w) v = rw (head-reads row (all_verdict valid r) q _ k a b c w v)
  head_part-reads p cs (LineWritten.an_only {p = q} {a} {r = s} {b} w) v = rw (comparison-reads row (term_verdict valid r true) q _ a s b w v)
  head_part-reads p cs (LineWritten.a_when {p = q} {a} {r = s} {b} w) v = rw (comparison-reads row (term_verdict valid r false) q _ a s b w v)

  pub body_part-reads : (p : BodyPart) (cs : List (List ℕ)) → LineWritten (body_line p) cs → body_verdict valid r p ≡ Ok tt → body_part valid row r (body_sort_of p) cs ≡ Ok p
  body_part-reads p cs (LineWritten.a_give {t} {k} {a} {b} {c} w) v = rw (template-reads row 2 (term_verdict valid r false) t (_ ∷ (k ∷ (a ∷ (b ∷ (c ∷ ([] ∷ [])))))) a b c refl w refl v)
  body_part-reads p cs (LineWritten.a_giveall {g} {n} {k} {a} {b} {c} d w) v =
      let o = then_ok (over_verdict r (pos g.over)) (λ _. template_verdict (term_verdict valid r true) g.each) tt v in
      rw (number-reads (over_verdict r) (over-keeps r) row 2 g.over o.0 n d o.1, template-reads row 3 (term_verdict valid r true) g.each (_ ∷ (n ∷ (k ∷ (a ∷ (b ∷ (c ∷ [])))))) a b c refl w refl o.2)

  -- what was read of the fields a to e is a part of this sort, written and judged
  abbrev PartWas : HeadSort → List (List ℕ) → HeadPart → Type 0
  PartWas sort cs p = (sort_of p ≡ sort) × LineWritten (head_line p) cs × (head-verdict valid r p ≡ Ok tt)

  module _ (w a b c d e : List ℕ) where
    a_head_was : (sort : HeadSort) (part : Pattern → HeadPart) (judge : Argument → Result (Unit {0}) RuleFault) (p : HeadPart) → ((q : Pattern) → sort_of (part q) ≡ sort) → ((q : Pattern) → pattern_verdict judge q ≡ Ok tt → head-verdict valid r (part q) ≡ Ok tt) → ((q : Pattern) → PatternWritten q a b c d → LineWritten (head_line (part q)) (w ∷ (a ∷ (b ∷ (c ∷ (d ∷ ([] ∷ []))))))) → (head row judge (w ∷ (a ∷ (b ∷ (c ∷ (d ∷ (e ∷ [])))))) >>= λ q. Ok (part q)) ≡ Ok p → PartWas sort (w ∷ (a ∷ (b ∷ (c ∷ (d ∷ (e ∷ [])))))) p
    a_head_was sort part judge p sorted verdict written h =
        let x = bind_ok (head row judge (w ∷ (a ∷ (b ∷ (c ∷ (d ∷ (e ∷ []))))))) _ p h in
        let y = head-was row judge x.0 w a b c d e x.1 in
        subst (PartWas sort (w ∷ (a ∷ (b ∷ (c ∷ (d ∷ (e ∷ []))))))) (same_ok _ p x.2) (sorted x.0, rw y.1 (written x.0 y.0), verdict x.0 y.2)

    a_comparison_was : (sort : HeadSort) (part : Comparison → HeadPart) (judge : Term → Result (Unit {0}) RuleFault) (p : HeadPart) → ((q : Comparison) → sort_of (part q) ≡ sort) → ((q : Comparison) → comparison_verdict judge q ≡ Ok tt → head-verdict valid r (part q) ≡ Ok tt) → ((q : Comparison) → ComparisonWritten q a b c → LineWritten (head_line (part q)) (w ∷ (a ∷ (b ∷ (c ∷ ([] ∷ ([] ∷ []))))))) → (comparison row judge (w ∷ (a ∷ (b ∷ (c ∷ (d ∷ (e ∷ [])))))) >>= λ q. Ok (part q)) ≡ Ok p → PartWas sort (w ∷ (a ∷ (b ∷ (c ∷ (d ∷ (e ∷ [])))))) p
    a_comparison_was sort part judge p sorted verdict written h =
        let x = bind_ok (comparison row judge (w ∷ (a ∷ (b ∷ (c ∷ (d ∷ (e ∷ []))))))) _ p h in
        let y = comparison-was row judge x.0 w a b c d e x.1 in
        subst (PartWas sort (w ∷ (a ∷ (b ∷ (c ∷ (d ∷ (e ∷ []))))))) (same_ok _ p x.2) (sorted x.0, rw y.1 (written x.0 y.0), verdict x.0 y.2)

    -- the word of the row is that of the part's sort
    pub head_part-was : (sort : HeadSort) (p : HeadPart) → w ≡ word_spelled (row_word.Head sort) → head_part valid row r sort (w ∷ (a ∷ (b ∷ (c ∷ (d ∷ (e ∷ [])))))) ≡ Ok p → PartWas sort (w ∷ (a ∷ (b ∷ (c ∷ (d ∷ (e ∷ [])))))) p
    head_part-was Keep p s h = a_head_was Keep (λ q. in_head.Keep q) (single_verdict valid) p (λ q. refl) (λ q v. v) (λ q y. rw s (LineWritten.a_keep y)) h
    head_part-was Drop p s h = a_head_was Drop (λ q. in_head.Drop q) (single_verdict valid) p (λ q. refl) (λ q v. v) (λ q y. rw s (LineWritten.a_drop y)) h
    head_part-was KeepAll p s h = a_head_was KeepAll (λ q. in_head.KeepAll q) (all_verdict valid r) p (λ q. refl) (λ q v. v) (λ q y. rw s (LineWritten.a_keepall y)) h
    head_part-was DropAll p s h = a_head_was DropAll (λ q. in_head.DropAll q) (all_verdict valid r) p (λ q. refl) (λ q v. v) (λ q y. rw s (LineWritten.a_dropall y)) h
    head_part-was Only p s h = a_comparison_was Only (λ q. in_head.Only q) (term_verdict valid r true) p (λ q. refl) (λ q v. v) (λ q y. rw s (LineWritten.an_only y)) h
    head_part-was When p s h = a_comparison_was When (λ q. in_head.When q) (term_verdict valid r false) p (λ q. refl) (λ q v. v) (λ q y. rw s (LineWritten.a_when y)) h

  pub body_part-was : (sort : BodySort) (p : BodyPart) (w a b c d e : List ℕ) → w ≡ word_spelled (row_word.Body sort) → body_part valid row r sort (w ∷ (a ∷ (b ∷ (c ∷ (d ∷ (e ∷ [])))))) ≡ Ok p → (body_sort_of p ≡ sort) × LineWritten (body_line p) (w ∷ (a ∷ (b ∷ (c ∷ (d ∷ (e ∷ [])))))) × (body_verdict valid r p ≡ Ok tt)
  body_part-was Give p w a b c d e s h =
      let x = bind_ok (template row 2 (term_verdict valid r false) (w ∷ (a ∷ (b ∷ (c ∷ (d ∷ (e ∷ []))))))) _ p h in
      let y = template-was row 2 (term_verdict valid r false) x.0 (w ∷ (a ∷ (b ∷ (c ∷ (d ∷ (e ∷ [])))))) b c d refl x.1 in
      let z : e ∷ [] ≡ [] ∷ [] = y.1 in
      subst (λ (q : BodyPart). (body_sort_of q ≡ Give) × LineWritten (body_line q) (w ∷ (a ∷ (b ∷ (c ∷ (d ∷ (e ∷ [])))))) × (body_verdict valid r q ≡ Ok tt)) (same_ok _ p x.2)
      (refl, rw (s, z) (LineWritten.a_give y.0), y.2)
  body_part-was GiveAll p w a b c d e s h =
      let o = bind_ok (judged row 2 (over_verdict r) (number a)) _ p h in
      let x = bind_ok (template row 3 (term_verdict valid r true) (w ∷ (a ∷ (b ∷ (c ∷ (d ∷ (e ∷ []))))))) _ p o.2 in
      let n = number-read-was (over_verdict r) (over-keeps r) row 2 o.0 a o.1 in
      let y = template-was row 3 (term_verdict valid r true) x.0 (w ∷ (a ∷ (b ∷ (c ∷ (d ∷ (e ∷ [])))))) c d e refl x.1 in
      subst (λ (q : BodyPart). (body_sort_of q ≡ GiveAll) × LineWritten (body_line q) (w ∷ (a ∷ (b ∷ (c ∷ (d ∷ (e ∷ [])))))) × (body_verdict valid r q ≡ Ok tt)) (same_ok _ p x.2)
      (refl, rw s (LineWritten.a_giveall n.0 y.0), rw n.1 y.2)

-- rows as lines --------------------------------------------------------------------------------------------------

-- a line moves the state on
pub data Taken (valid : ℤ → Bool) (row : ℕ) : Line → State → State → Type 0 where
  a_rule : {st : State} {done : List Rule} → finished st ≡ Ok done → may_begin done ≡ Ok tt → Taken valid row rule_line st (writing done row no_parts)
  a_head : {done : List Rule} {at_row : ℕ} {r : Rule} {p : HeadPart} → may_add (sort_of p) r ≡ Ok tt → head-verdict valid r p ≡ Ok tt → Taken valid row (head_line p) (writing done at_row r) (writing done at_row (with_head p r))
  a_body : {done : List Rule} {at_row : ℕ} {r : Rule} {p : BodyPart} → may_add_body (body_sort_of p) r ≡ Ok tt → body_verdict valid r p ≡ Ok tt → Taken valid row (body_line p) (writing done at_row r) (writing done at_row (with_body p r))

rule-word : {cs : List (List ℕ)} → LineWritten rule_line cs → (word (at 1 cs) ≡ Some row_word.Rule) × ((row : ℕ) → unused row 2 (from 2 cs) ≡ Ok tt)
unfolding word
rule-word LineWritten.a_rule = (refl, λ row. refl)

head-word : {p : HeadPart} {cs : List (List ℕ)} → LineWritten (head_line p) cs → word (at 1 cs) ≡ Some (row_word.Head (sort_of p))
unfolding word
head-word (LineWritten.a_keep w) = refl
head-word (LineWritten.a_drop w) = refl
head-word (LineWritten.a_keepall w) = refl
head-word (LineWritten.a_dropall w) = refl
head-word (LineWritten.an_only w) = refl
head-word (LineWritten.a_when w) = refl

body_word : {p : BodyPart} {cs : List (List ℕ)} → LineWritten (body_line p) cs → word (at 1 cs) ≡ Some (row_word.Body (body_sort_of p))
unfolding word
body_word (LineWritten.a_give w) = refl
body_word (LineWritten.a_giveall d w) = refl

six-fields : {line : Line} {cs : List (List ℕ)} → LineWritten line cs → length cs ≡ row_width
six-fields LineWritten.a_rule = refl
six-fields (LineWritten.a_keep w) = refl
six-fields (LineWritten.a_drop w) = refl
six-fields (LineWritten.a_keepall w) = refl
six-fields (LineWritten.a_dropall w) = refl
six-fields (LineWritten.an_only w) = refl
six-fields (LineWritten.a_when w) = refl
six-fields (LineWritten.a_give w) = refl
six-fields (LineWritten.a_giveall d w) = refl

word-reads : (valid : ℤ → Bool) (row : ℕ) (cs : List (List ℕ)) {line : Line} {st next : State} → Taken valid row line st next → LineWritten line cs → write_word valid row cs st (word (at 1 cs)) ≡ Ok next
word-reads valid row cs (Taken.a_rule {st} {done} f m) w = let u = rule-word w in rw (u.0, f, m, u.1 row)
word-reads valid row cs (Taken.a_head {done} {at_row} {r} {p} m v) w = rw (head-word w, m, head_part-reads valid row r p cs w v)
word-reads valid row cs (Taken.a_body {done} {at_row} {r} {p} m v) w = rw (body_word w, m, body_part-reads valid row r p cs w v)

row_reads : (valid : ℤ → Bool) (row : ℕ) (fs : List Part) {line : Line} {st next : State} → Taken valid row line st next → LineWritten line (map content fs) → write_row valid row st (fields fs) ≡ Ok next
unfolding write_row
row_reads valid row fs t w =
    let six : length fs ≡ row_width = sym (length-map fs content) ∙ six-fields w in
    rw (eq-eqb (length fs) row_width six) (word-reads valid row (map content fs) t w)

-- a list of six
six_of : (cs : List (List ℕ)) → length cs ≡ row_width → (w : List ℕ) × (a : List ℕ) × (b : List ℕ) × (c : List ℕ) × (d : List ℕ) × (e : List ℕ) × (cs ≡ w ∷ (a ∷ (b ∷ (c ∷ (d ∷ (e ∷ []))))))
six_of [] h = absurd (omega arith)
six_of (w ∷ []) h = absurd (omega arith)
six_of (w ∷ (a ∷ [])) h = absurd (omega arith)
six_of (w ∷ (a ∷ (b ∷ []))) h = absurd (omega arith)
six_of (w ∷ (a ∷ (b ∷ (c ∷ [])))) h = absurd (omega arith)
six_of (w ∷ (a ∷ (b ∷ (c ∷ (d ∷ []))))) h = absurd (omega arith)
six_of (w ∷ (a ∷ (b ∷ (c ∷ (d ∷ (e ∷ [])))))) h = (w, a, b, c, d, e, refl)
six_of (w ∷ (a ∷ (b ∷ (c ∷ (d ∷ (e ∷ (f ∷ fs))))))) h = absurd (omega arith)

-- what moved the state on was a line
abbrev Was : (ℤ → Bool) → ℕ → List (List ℕ) → State → State → Type 0
Was valid row cs st next = (line : Line) × LineWritten line cs × Taken valid row line st next

module _ (valid : ℤ → Bool) (row : ℕ) (w a b c d e : List ℕ) where
  word-read-was : (st next : State) (o : Option RowWord) → word w ≡ o → write_word valid row (w ∷ (a ∷ (b ∷ (c ∷ (d ∷ (e ∷ [])))))) st o ≡ Ok next → Was valid row (w ∷ (a ∷ (b ∷ (c ∷ (d ∷ (e ∷ [])))))) st next
  word-read-was st next None s h = absurd (no_ok _ next h)
  word-read-was st next (Some row_word.Rule) s h =
      let x = bind_ok (finished st) (new_rule row (w ∷ (a ∷ (b ∷ (c ∷ (d ∷ (e ∷ []))))))) next h in
      let y = bind_ok (ruled row 0 (may_begin x.0)) _ next x.2 in
      let z = bind_ok (unused row 2 (a ∷ (b ∷ (c ∷ (d ∷ (e ∷ [])))))) _ next y.2 in
      let spelled : w ≡ word_spelled row_word.Rule = word-was w row_word.Rule s in
      let rest : a ∷ (b ∷ (c ∷ (d ∷ (e ∷ [])))) ≡ [] ∷ ([] ∷ ([] ∷ ([] ∷ ([] ∷ [])))) = unused-was row 2 (a ∷ (b ∷ (c ∷ (d ∷ (e ∷ []))))) z.0 z.1 in
      (rule_line, rw (spelled, rest) LineWritten.a_rule, subst (λ (x : State). Taken valid row rule_line st x) (same_ok _ next z.2) (Taken.a_rule x.1 (ruled_ok row 0 (may_begin x.0) y.0 y.1)))
  word-read-was no_rule next (Some (row_word.Head sort)) s h = absurd (no_ok _ next h)
  word-read-was (writing done at_row r) next (Some (row_word.Head sort)) s h =
      let x = bind_ok (ruled row 0 (may_add sort r)) _ next h in
      let y = bind_ok (head_part valid row r sort (w ∷ (a ∷ (b ∷ (c ∷ (d ∷ (e ∷ []))))))) _ next x.2 in
      let z = head_part-was valid row r w a b c d e sort y.0 (word-was w (row_word.Head sort) s) y.1 in
      let m = subst (λ (q : HeadSort). may_add q r ≡ Ok tt) (sym z.0) (ruled_ok row 0 (may_add sort r) x.0 x.1) in
      (head_line y.0, z.1, subst (λ (q : State). Taken valid row (head_line y.0) (writing done at_row r) q) (same_ok _ next y.2) (Taken.a_head m z.2))
  word-read-was no_rule next (Some (row_word.Body sort)) s h = absurd (no_ok _ next h)
  word-read-was (writing done at_row r) next (Some (row_word.Body sort)) s h =
      let x = bind_ok (ruled row 0 (may_add_body sort r)) _ next h in
      let y = bind_ok (body_part valid row r sort (w ∷ (a ∷ (b ∷ (c ∷ (d ∷ (e ∷ []))))))) _ next x.2 in
      let z = body_part-was valid row r sort y.0 w a b c d e (word-was w (row_word.Body sort) s) y.1 in
      let m = subst (λ (q : BodySort). may_add_body q r ≡ Ok tt) (sym z.0) (ruled_ok row 0 (may_add_body sort r) x.0 x.1) in
      (body_line y.0, z.1, subst (λ (q : State). Taken valid row (body_line y.0) (writing done at_row r) q) (same_ok _ next y.2) (Taken.a_body m z.2))

contents_were : (valid : ℤ → Bool) (row : ℕ) (cs : List (List ℕ)) (st next : State) → length cs ≡ row_width → write_word valid row cs st (word (at 1 cs)) ≡ Ok next → Was valid row cs st next
contents_were valid row cs st next six h =
    let s = six_of cs six in
    subst (λ (x : List (List ℕ)). Was valid row x st next) (sym s.6)
    (word-read-was valid row s.0 s.1 s.2 s.3 s.4 s.5 st next (word s.0) refl (subst (λ (x : List (List ℕ)). write_word valid row x st (word (at 1 x)) ≡ Ok next) s.6 h))

row-was : (valid : ℤ → Bool) (row : ℕ) (l : Row) (st next : State) → write_row valid row st l ≡ Ok next → (fs : List Part) × (l ≡ fields fs) × Was valid row (map content fs) st next
unfolding write_row
row-was valid row malformed st next h = absurd (no_ok _ next h)
row-was valid row (fields fs) st next h =
    let x = let_in (eqb (length fs) row_width) _ (write_word valid row (map content fs) st (word (at 1 (map content fs)))) next h in
    (fs, refl, contents_were valid row (map content fs) st next (length-map fs content ∙ eqb-true (length fs) row_width x.0) x.1)

-- all rows ---------------------------------------------------------------------------------------------------------

pub data TakenAll (valid : ℤ → Bool) : ℕ → List Line → State → List Rule → Type 0 where
  end : {row : ℕ} {st : State} {rules : List Rule} → finished st ≡ Ok rules → TakenAll valid row [] st rules
  more : {row : ℕ} {line : Line} {lines : List Line} {st next : State} {rules : List Rule} → Taken valid row line st next → TakenAll valid (suc row) lines next rules → TakenAll valid row (line ∷ lines) st rules

abbrev pub AsLines : List Line → List (List Part) → Type 0
AsLines lines rs = Pairwise (λ line fs. LineWritten line (map content fs)) lines rs

pub rows-read : (valid : ℤ → Bool) (row : ℕ) (st : State) (rules : List Rule) {lines : List Line} {rs : List (List Part)} → AsLines lines rs → TakenAll valid row lines st rules → write_rows valid row st (map fields rs) ≡ Ok rules
rows-read valid row st rules Pairwise.none (TakenAll.end f) = f
rows-read valid row st rules (Pairwise.more {y = fs} w ws) (TakenAll.more {next} t ts) = rw (row_reads valid row fs t w) (rows-read valid (suc row) next rules ws ts)

pub rows_were : (valid : ℤ → Bool) (row : ℕ) (st : State) (rules : List Rule) (ls : List Row) → write_rows valid row st ls ≡ Ok rules → (rs : List (List Part)) × (lines : List Line) × (ls ≡ map fields rs) × AsLines lines rs × TakenAll valid row lines st rules
rows_were valid row st rules [] h = ([], [], refl, Pairwise.none, TakenAll.end h)
rows_were valid row st rules (l ∷ ls) h =
    let x = bind_ok (write_row valid row st l) _ rules h in
    let first = row-was valid row l st x.0 x.1 in
    let more = rows_were valid (suc row) x.0 rules ls x.2 in
    (first.0 ∷ more.0, first.2.0 ∷ more.1, ap₂ ◌∷◌ first.1 more.2, Pairwise.more first.2.1 more.3, TakenAll.more first.2.2 more.4)
