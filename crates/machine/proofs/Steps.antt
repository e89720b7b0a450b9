-- What holds of every state, and what a post and a step make of the ledger.
use Rattle.std.proofs.Common.{◌≡◌, ℕ, suc, ◌+◌, Bool, true, false, cond, not, ◌&&◌, eqb, List, [], ◌∷◌, ◌++◌, map, length, filter, sym, refl, ap, ◌∙◌, subst, arith}
use mathlib.Core.List.{Memᴰ}
use Rattle.std.proofs.lemmas.Bool.{and_parts, and_left, or_parts, not-true}
use Rattle.machine.specs.declared.answer_types.Answer.{Answer}
use Rattle.machine.specs.declared.answer_types.Answer.TheVariants.{Quiet, Stored, Woken, Dropped, Passed, Applied, Refused}
use Rattle.machine.specs.Fitting.{holds, Setting, fits_words, fits, fits_all_head, setting_of, ready}
use Rattle.machine.specs.Machine.{account, Outcome, Frame, State, stands_at, suits, gone_of, left_of, numbered, bring, with_goals}
use Rattle.machine.specs.Upheld.{WasApplied}
use Rattle.rules.specs.Rules.{all, AllHead, Rule, any}
use Rattle.machine.proofs.Spans.{Span, span-append, span-numbered, span-kept, span-under, placed-last, placed-all-last}
use Rattle.machine.proofs.Counts.{tally-both, tally-append}
use Rattle.machine.proofs.Labels.{facts-numbered}
use Rattle.machine.proofs.Parts.{map-append, head-is, head-place, head-mem}
use Rattle.machine.proofs.Applying.{applies as application}
use Rattle.machine.proofs.Moves.{Move, ends, stores, full, wakes, forgets, loses, finishes, passes, applies, lacks, crowds}
use Rattle.machine.proofs.Lists.{each_member, first_some, choices-from, Each, Each-append, Each_weaker, Each-passes}
use Rattle.rules.specs.Closed.{heads_of, watched}
use Rattle.facts.specs.System.{System}
use Rattle.stores.specs.Store.{Pair, label, fact, labels, facts, placed, placed_all, without}
use Rattle.stores.specs.Lists.{has}
use Rattle.machine.specs.Lists.{tally, distinct, choices}
use Rattle.machine.specs.Ledger.{waiting, ledger, SameFacts}
use Rattle.facts.specs.declared.fact_types.Fact.{Fact}
use Rattle.machine.specs.declared.goal_types.Goal.{Goal}
use Rattle.machine.specs.declared.goal_types.Goal.TheVariants.{Wait, Look, Try}

-- labels rise to below the next, and only unwatched facts wait
pub record Good (fr : Frame) (st : State) : Type 0 where
  pub span : Span 0 st.pairs st.next
  pub unwatched : Each (λ f. watched fr.rules f ≡ false) (waiting st.goals)

-- unwatched facts -------------------------------------------------------------------------------------

any_none : {X : Type 0} (p : X → Bool) (x : X) (xs : List X) → any p xs ≡ false → Memᴰ x xs → p x ≡ false
any_none p x xs e (Memᴰ.head {x = y} {xs = ys} q) = ap p q ∙ (or_parts (p y) (any p ys) e).0
any_none p x xs e (Memᴰ.tail {x = y} {xs = ys} m) = any_none p x ys (or_parts (p y) (any p ys) e).1 m

unfit : (s : System) (σ : Setting) (rs : List Rule) (r : Rule) (a : AllHead) (f : Fact) → watched rs f ≡ false → Memᴰ r rs →
    Memᴰ a r.alls → fits_all_head s σ a f ≡ false
unfit s σ rs r a f w m n =
    let u = any_none (λ r'. any (λ a'. eqb a'.pattern.kind f.kind) r'.alls) r rs w m in
    let v = any_none (λ a'. eqb a'.pattern.kind f.kind) a r.alls u n in
    and_left (fits σ a.pattern f) (all (holds s σ f.words) a.only)
    (and_left (eqb a.pattern.kind f.kind) (fits_words σ a.pattern.args f.words) v)

-- goals -----------------------------------------------------------------------------------------------

waiting-looks : (ps : List Pair) (gs : List Goal) → waiting (map (λ p. Look (label p)) ps ++ gs) ≡ waiting gs
waiting-looks [] gs = refl
waiting-looks (p ∷ ps) gs = waiting-looks ps gs

waiting-waits : (fs : List Fact) (gs : List Goal) → waiting (map Wait fs ++ gs) ≡ fs ++ waiting gs
waiting-waits [] gs = refl
waiting-waits (f ∷ fs) gs = ap (λ (l : List Fact). f ∷ l) (waiting-waits fs gs)

waiting_cond : (b : Bool) (l i : ℕ) (gs : List Goal) → waiting (cond b gs (Try l i ∷ gs)) ≡ waiting gs
waiting_cond true l i gs = refl
waiting_cond false l i gs = refl

-- bringing facts in -----------------------------------------------------------------------------------

pub bring-span : (rs : List Rule) (fs : List Fact) (st : State) → Span 0 st.pairs st.next → Span 0 (bring rs fs st).pairs (bring rs fs st).next
bring-span rs fs st s =
    let ws = filter (watched rs) fs in
    subst (λ (ps : List Pair). Span 0 ps (st.next + length (numbered st.next ws))) (sym (placed-all-last 0 st.next ws st.pairs s))
    (span-append 0 st.pairs st.next (numbered st.next ws) (st.next + length (numbered st.next ws)) s (span-numbered st.next ws))

module _ (fr : Frame) (st : State) (g : Good fr st) where
  pub good_less : (ls : List ℕ) (gs : List Goal) → Each (λ f. watched fr.rules f ≡ false) (waiting gs) →
      Good fr (record { pairs = without ls st.pairs; next = st.next; goals = gs })
  good_less ls gs w = record {
    span = span-kept (λ p. not (has (label p) ls)) 0 st.pairs st.next g.span;
    unwatched = w;
  }

  pub good_bring : (fs : List Fact) → Good fr (bring fr.rules fs st)
  good_bring fs =
      let rs = fr.rules in
      let ws = filter (watched rs) fs in
      let us = filter (λ f. not (watched rs f)) fs in
      let N = numbered st.next ws in
      let P : Fact → Type 0 = λ f. watched rs f ≡ false in
      record {
        span = bring-span rs fs st g.span;
        unwatched =
            subst (λ (l : List Fact). Each P l)
            (sym (waiting-waits us (map (λ p. Look (label p)) N ++ st.goals) ∙ ap (λ (l : List Fact). us ++ l) (waiting-looks N st.goals)))
            (Each-append P us (waiting st.goals)
            (Each_weaker (λ f. not (watched rs f) ≡ true) P (λ f h. not-true (watched rs f) h) us (Each-passes (λ f. not (watched rs f)) fs))
            g.unwatched);
      }

pub ledger-bring : (rs : List Rule) (fs : List Fact) (st : State) → Span 0 st.pairs st.next → SameFacts (ledger (bring rs fs st)) (facts st.pairs ++ (waiting st.goals ++ fs))
ledger-bring rs fs st s p =
    let ws = filter (watched rs) fs in
    let us = filter (λ f. not (watched rs f)) fs in
    let N = numbered st.next ws in
    let W = waiting st.goals in
    let gs = map Wait us ++ (map (λ p. Look (label p)) N ++ st.goals) in
    omega (
      arith,
      tally-append p (facts (placed_all N st.pairs)) (waiting gs),
      ap (λ (ps : List Pair). tally p (facts ps)) (placed-all-last 0 st.next ws st.pairs s),
      ap (tally p) (map-append fact st.pairs N),
      tally-append p (facts st.pairs) (facts N),
      ap (tally p) (facts-numbered st.next ws),
      ap (tally p) (waiting-waits us (map (λ p. Look (label p)) N ++ st.goals)),
      tally-append p us (waiting (map (λ p. Look (label p)) N ++ st.goals)),
      ap (tally p) (waiting-looks N st.goals),
      tally-append p (facts st.pairs) (W ++ fs),
      tally-append p W fs,
      tally-both p (watched rs) fs,
    )

-- steps -----------------------------------------------------------------------------------------------

-- what an answer says of the ledger before and after
abbrev pub Told : Frame → List ℕ → State → State → Answer → List ℕ → Type 0
Told fr ns st st' Quiet ms = SameFacts (ledger st') (ledger st)
Told fr ns st st' Stored ms = SameFacts (ledger st') (ledger st)
Told fr ns st st' Woken ms = SameFacts (ledger st') (ledger st)
Told fr ns st st' Dropped ms = SameFacts (ledger st') (ledger st)
Told fr ns st st' Passed ms = SameFacts (ledger st') (ledger st)
Told fr ns st st' (Applied y) ms = WasApplied fr st st' ns ms y
Told fr ns st st' (Refused e) ms = SameFacts (ledger st') (ledger st)

abbrev pub Stepped : Frame → List ℕ → State → Outcome → Type 0
Stepped fr ns st o = Good fr o.state × Told fr ns st o.state o.answer o.list

module _ (fr : Frame) (ns : List ℕ) (st : State) (g : Good fr st) where
  -- the same pairs, and goals with the same facts that wait
  same-pairs : (gs : List Goal) → waiting st.goals ≡ waiting gs → Good fr (with_goals st gs) × SameFacts (ledger (with_goals st gs)) (ledger st)
  same-pairs gs e = (
    record { span = g.span; unwatched = subst (λ (l : List Fact). Each (λ f. watched fr.rules f ≡ false) l) e g.unwatched },
    λ p. ap (λ (l : List Fact). tally p (facts st.pairs ++ l)) (sym e),
  )

  pub stepped : {gs : List Goal} {o : Outcome} → Move fr st ns gs o → st.goals ≡ gs → Stepped fr ns st o
  stepped ends e = (g, λ p. refl)
  stepped (stores {f = f} {gs = gs} q) e =
      let N : Pair = (st.next, f) in
      let w = ap waiting e in
      let last = placed-last st.next f st.pairs (span-under 0 st.pairs st.next g.span) in
      let P : Fact → Type 0 = λ h. watched fr.rules h ≡ false in (
        record {
          span = subst (λ (ps : List Pair). Span 0 ps (suc st.next)) (sym last)
              (span-append 0 st.pairs st.next (N ∷ []) (suc st.next) g.span (omega arith, omega arith));
          unwatched = (subst (λ (l : List Fact). Each P l) w g.unwatched).1;
        },
        λ p. omega (
          arith,
          tally-append p (facts (placed st.next f st.pairs)) (waiting gs),
          ap (λ (ps : List Pair). tally p (facts ps)) last,
          ap (tally p) (map-append fact st.pairs (N ∷ [])),
          tally-append p (facts st.pairs) (f ∷ []),
          tally-append p (facts st.pairs) (waiting st.goals),
          ap (tally p) w,
        ),
      )
  stepped (full n q) e = (g, λ p. refl)
  stepped (wakes {l = l} {gs = gs} q) e = same-pairs (Try l 1 ∷ gs) (ap waiting e)
  stepped (forgets {gs = gs} q) e = same-pairs gs (ap waiting e)
  stepped (loses {gs = gs} q) e = same-pairs gs (ap waiting e)
  stepped (finishes {gs = gs} y q) e = same-pairs gs (ap waiting e)
  stepped (passes {l = l} {i = i} {gs = gs} y h hh hc) e = same-pairs (Try l (suc i) ∷ gs) (ap waiting e)
  stepped (applies {l = l} {i = i} {gs = gs} y h hh c hc fs q z) e =
      let s = fr.system in
      let r = h.rule in
      let left = left_of s h l i gs st c in
      let gone = labels (gone_of s r st.pairs c) in
      let f = first_some (suits s r h.place l) c (choices (heads_of r) st.pairs) hc in
      let m = choices-from (heads_of r) st.pairs c f.0 in
      let a = and_parts (stands_at h.place l c) (distinct (labels c) && ready s r (facts c)) f.1 in
      let b = and_parts (distinct (labels c)) (ready s r (facts c)) a.1 in
      let w : waiting left.goals ≡ waiting st.goals = waiting_cond (has l gone) l i gs ∙ sym (ap waiting e) in
      let good_left : Good fr left = good_less fr st g gone left.goals (subst (λ (k : List Fact). Each (λ f. watched fr.rules f ≡ false) k) (sym w) g.unwatched) in
      let x = application s h st.pairs c st.next g.span m b.0 l (waiting st.goals) fs (ledger (bring fr.rules fs left))
      a.0 (head-place fr.rules i h hh) b.1 q
      (λ a m' f n. unfit s (setting_of r (facts c)) fr.rules r a f (each_member (λ f. watched fr.rules f ≡ false) f (waiting st.goals) g.unwatched n) (head-mem fr.rules i h hh) m')
      (λ p. ledger-bring fr.rules fs left good_left.span p ∙ ap (λ (k : List Fact). tally p (facts (without gone st.pairs) ++ (k ++ fs))) w) in (
        good_bring fr left good_left fs,
        record {
          labels = (account s h l st.pairs c fs).labels;
          list = refl;
          rule = r;
          number = head-is fr.rules i h hh;
          application = x.0;
          told = x.1;
        },
      )
  stepped (lacks y h hh c hc q) e = (g, λ p. refl)
  stepped (crowds y h hh c hc fs q n z) e = (g, λ p. refl)
