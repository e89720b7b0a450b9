-- An application of the machine is one in the sense of `Applies`.
use Rattle.std.proofs.Common.{◌≡◌, ℕ, ◌+◌, ◌<◌, Bool, true, false, not, List, ◌++◌, map, length, get_or, take, drop, Some, sym, refl, ap, ◌∙◌, subst, inl, inr, append_assoc, arith, length-append, take-append-drop, length-take}
use mathlib.Core.List.{Memᴰ}
use lib.ListN.{length-map}
use Rattle.std.proofs.lemmas.Bool.{eqb-true}
use Rattle.machine.proofs.Spans.{Span, span-apart, reads}
use Rattle.machine.proofs.Settings.{ready-length}
use Rattle.machine.proofs.Lists.{take-front, has-at, each-itself, each_member, Each, Each-map, Each-append, Each-filter}
use Rattle.machine.proofs.Parts.{joined-map, joined-labels, kept-alls-map, gone-alls-map, two-counts-map, taken_in, map-append, rest_by, taken-parts, taken-joined, taken-fits, rest_fits}
use Rattle.machine.proofs.Counts.{tally-append}
use Rattle.machine.proofs.Labels.{under, apart_distinct, Apart, Alike, tally-facts, removed, chosen-parts}
use Rattle.rules.specs.Rules.{AllHead, Rule}
use Rattle.rules.specs.Closed.{heads_of, Place}
use Rattle.facts.specs.System.{System}
use Rattle.stores.specs.Store.{Pair, label, fact, labels, facts, read, placed, without}
use Rattle.stores.specs.Lists.{has}
use Rattle.machine.specs.Lists.{tally, distinct, together}
use Rattle.machine.specs.Fitting.{fits_all_head, ready_under, setting_of, ready}
use Rattle.machine.specs.Machine.{stands_at, suits, gone_alls, kept_alls, taken_of, gone_of, given_of, account}
use Rattle.machine.specs.Ledger.{SameFacts, Applies, TellsOf}
use Rattle.machine.specs.Transitions.{gives}
use Rattle.std.specs.Prelude.{flat_map}
use Rattle.facts.specs.declared.fact_types.Fact.{Fact}

-- what all heads leave where a choice is made
abbrev pub rest_of : System → Rule → List Pair → List Pair → List Pair
rest_of s r ps c = rest_by s (setting_of r (facts c)) r.alls (without (labels c) ps)

-- what stays
abbrev pub kept_of : System → Rule → List Pair → List Pair → List Pair
kept_of s r ps c = take (length r.keeps) c ++ (kept_alls r.alls (taken_of s r ps c) ++ rest_of s r ps c)

module _ (s : System) (h : Place) (ps c : List Pair) (n : ℕ) (span : Span 0 ps n) (members : Each (λ x. Memᴰ x ps) c) (differ : distinct (labels c) ≡ true) where
  apart : Apart ps
  apart m = (span-apart m 0 ps n span).0

  cut : (p : Pair → Bool) → tally p c ≡ tally p (take (length h.rule.keeps) c) + tally p (drop (length h.rule.keeps) c)
  cut p = sym (ap (tally p) (take-append-drop (length h.rule.keeps) c)) ∙ tally-append p (take (length h.rule.keeps) c) (drop (length h.rule.keeps) c)

  whole : Alike ps (gone_of s h.rule ps c ++ kept_of s h.rule ps c)
  whole p =
      let r = h.rule in
      let σ = setting_of r (facts c) in
      let k = length r.keeps in
      let ts = taken_of s r ps c in
      omega (
        arith,
        chosen-parts ps c apart members differ p,
        tally-append p c (without (labels c) ps),
        cut p,
        taken-parts s σ p r.alls (without (labels c) ps),
        tally-append p (gone_of s r ps c) (kept_of s r ps c),
        tally-append p (drop k c) (gone_alls r.alls ts),
        tally-append p (take k c) (kept_alls r.alls ts ++ rest_of s r ps c),
        tally-append p (kept_alls r.alls ts) (rest_of s r ps c),
      )

  -- what the store is afterwards
  pub left_over : Alike (without (labels (gone_of s h.rule ps c)) ps) (kept_of s h.rule ps c)
  left_over = removed ps (gone_of s h.rule ps c) (kept_of s h.rule ps c) apart whole

  pub applies : (l : ℕ) (W fs l' : List Fact) → stands_at h.place l c ≡ true → h.place < heads_of h.rule →
      ready s h.rule (facts c) ≡ true → given_of s h.rule ps c ≡ Some fs →
      ((a : AllHead) → Memᴰ a h.rule.alls → (f : Fact) → Memᴰ f W → fits_all_head s (setting_of h.rule (facts c)) a f ≡ false) →
      SameFacts l' (facts (without (labels (gone_of s h.rule ps c)) ps) ++ (W ++ fs)) →
      (x : Applies s h.rule (facts ps ++ W) l') × TellsOf ps (account s h l ps c fs) x
  applies l W fs l' stands placed suits gives unfit now =
      let r = h.rule in
      let σ = setting_of r (facts c) in
      let k = length r.keeps in
      let ts = taken_of s r ps c in
      let rest = rest_of s r ps c in
      let K = facts (take k c) in
      let G = facts (drop k c) in
      let many : length c ≡ heads_of r = ready-length s r c suits in
      let x : Applies s r (facts ps ++ W) l' = record {
        setting = σ;
        kept = K;
        gone = G;
        taken = map facts ts;
        others = facts rest ++ W;
        given = fs;
        parts = λ p.
            let q : Pair → Bool = λ x. p (fact x) in
            omega (
              arith,
              tally-append p (facts ps) W,
              tally-facts p ps,
              tally-append p K (G ++ (together (map facts ts) ++ (facts rest ++ W))),
              tally-append p G (together (map facts ts) ++ (facts rest ++ W)),
              tally-append p (together (map facts ts)) (facts rest ++ W),
              tally-append p (facts rest) W,
              tally-facts p (take k c),
              tally-facts p (drop k c),
              tally-facts p rest,
              ap (tally p) (joined-map fact ts),
              tally-facts p (together ts),
              chosen-parts ps c apart members differ q,
              tally-append q c (without (labels c) ps),
              cut q,
              taken-joined s σ q r.alls (without (labels c) ps),
            );
        keeps = length-map (take k c) fact ∙ length-take k c ∙ omega (arith, length-append r.keeps r.drops, many);
        ready = ap (ready_under s r σ) (sym (map-append fact (take k c) (drop k c)) ∙ ap facts (take-append-drop k c)) ∙ suits;
        takes = taken-fits s σ r.alls (without (labels c) ps);
        leaves = λ a m f n.
            let P : Fact → Type 0 = λ g. fits_all_head s σ a g ≡ false in
            elim (mathlib.Core.List.Memᴰ.append_cases (facts rest) n) [
              | inl n' ↦ each_member P f (facts rest) (Each-map P fact rest (rest_fits s σ a r.alls (without (labels c) ps) m)) n'
              | inr n' ↦ unfit a m f n'
            ];
        gives = gives;
        ends = λ p.
            let q : Pair → Bool = λ x. p (fact x) in
            omega (
              arith,
              now p,
              tally-append p (facts (without (labels (gone_of s r ps c)) ps)) (W ++ fs),
              tally-append p W fs,
              tally-facts p (without (labels (gone_of s r ps c)) ps),
              left_over q,
              tally-append q (take k c) (kept_alls r.alls ts ++ rest),
              tally-append q (kept_alls r.alls ts) rest,
              tally-append p K (kept_alls r.alls (map facts ts) ++ ((facts rest ++ W) ++ fs)),
              tally-append p (kept_alls r.alls (map facts ts)) ((facts rest ++ W) ++ fs),
              tally-append p (facts rest ++ W) fs,
              tally-append p (facts rest) W,
              tally-facts p (take k c),
              tally-facts p rest,
              ap (tally p) (kept-alls-map fact r.alls ts),
              tally-facts p (kept_alls r.alls ts),
            );
      } in
      let all : Each (λ p. Memᴰ p ps) (c ++ together ts) =
      Each-append (λ p. Memᴰ p ps) c (together ts) members
      (taken_in s σ (λ p. Memᴰ p ps) r.alls (without (labels c) ps) (Each-filter (λ p. not (has (label p) (labels c))) (λ p. Memᴰ p ps) ps (each-itself ps))) in
      let listed : labels c ++ flat_map labels ts ≡ labels (c ++ together ts) =
      ap (λ (l : List ℕ). labels c ++ l) (joined-labels ts) ∙ sym (map-append label c (together ts)) in
      let spelt : facts (c ++ together ts) ≡ K ++ (G ++ together (map facts ts)) =
      map-append fact c (together ts)
      ∙ ((λ i. (sym (ap facts (take-append-drop k c)) ∙ map-append fact (take k c) (drop k c)) i ++ sym (joined-map fact ts) i)
      ∙ append_assoc K G (together (map facts ts))) in (
        x,
        record {
          took = sym (two-counts-map fact ts);
          removed = sym (length-map (gone_of s r ps c) fact)
              ∙ ap length (map-append fact (drop k c) (gone_alls r.alls ts) ∙ ap (λ (l : List Fact). G ++ l) (sym (gone-alls-map fact r.alls ts)));
          added = refl;
          labels = ap (map (λ n. read n ps)) listed ∙ (reads ps 0 n span (c ++ together ts) all ∙ ap (map Some) spelt);
          apart = ap distinct listed ∙ apart_distinct (c ++ together ts) (λ m.
              omega (
                arith,
                apart m,
                chosen-parts ps c apart members differ (under m),
                tally-append (under m) c (without (labels c) ps),
                taken-joined s σ (under m) r.alls (without (labels c) ps),
                tally-append (under m) c (together ts),
              ));
          active = subst (λ (ns : List ℕ). has l ns ≡ true) (sym (ap (λ m. take m (labels c ++ flat_map labels ts)) (sym (length-map c label ∙ many)) ∙ take-front (labels c) (flat_map labels ts)))
              (subst (λ m. has m (labels c) ≡ true) (eqb-true (get_or (labels c) h.place 0) l stands) (has-at (labels c) h.place (omega (arith, length-map c label, many, placed))));
        },
      )
