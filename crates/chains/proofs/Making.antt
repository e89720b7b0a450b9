-- A table whose rows are all free.
use Rattle.std.proofs.Common.{map, ◌≤◌, Option, subst, false, ltb, ◌≡◌, ℕ, zero, suc, ◌+◌, ◌-◌, ◌<◌, true, List, [], length, get_or, replicate, Ok, refl, sym, ap, ◌∙◌, arith, Some, None}
use Rattle.std.proofs.lemmas.Bool.{le-ltb, lt-ltb}
use Rattle.std.proofs.lemmas.Bool.Decides.{nat_tests}
use Rattle.std.proofs.lemmas.List.{get_or-replicate, length-replicate, get_or-map, length-map}
use Rattle.stores.specs.Store.{Pair}
use Rattle.stores.specs.Piles.{sound, empty_pile}
use Rattle.stores.specs.Table.{Row, pairs_of, pile_of, distinct, table_answer}
use Rattle.stores.proofs.Tables.{none-used}
use Rattle.chains.specs.Links.{Linked, frees}
use Rattle.chains.specs.Rows.{rows_of, named, link_to, link, links_of, chain_at, Chained}
use Rattle.chains.specs.Acts.{free_row, behind, AllFree}
use Rattle.chains.specs.declared.chain_types.ChainRow.{ChainRow}
use Rattle.chains.specs.declared.chain_types.Heads.{Heads}
use Rattle.chains.specs.declared.chain_types.Link.{Link}
use Rattle.chains.specs.declared.chain_types.Way.TheVariants.{ByLabel, ByKind, ByWord}
use Rattle.chains.proofs.Named.{used-within}
use Rattle.chains.proofs.Tables.{named-to, row-at, link-at, rows-length}
use Rattle.chains.proofs.Spare.{frees-more}

-- no chain has a row
abbrev pub no_heads : Heads
no_heads = record { firsts = replicate 3 (replicate 64 (link_to None)); lasts = replicate 3 (replicate 64 (link_to None)); free = Some 0; count = 0 }

no_head : (c : ℕ) → c < 64 → get_or (map named (replicate 64 (link_to None))) c None ≡ None
no_head c h =
    let n = length-replicate {A = Link} 64 (link_to None) in
    get_or-map named (replicate 64 (link_to None)) c (link_to None) None (omega arith) ∙ ap named (get_or-replicate {A = Link} 64 c (link_to None) (link_to None) h)

none-linked : (key : Pair → ℕ) (R : List Row) (L : List (Option ℕ)) → pairs_of R ≡ [] → ((i : ℕ) → i < length R → get_or R i None ≡ None) → Linked key R L (map named (replicate 64 (link_to None)))
none-linked key R L e a =
    record {
      sized = length-map (replicate 64 (link_to None)) named ∙ length-replicate {A = Link} 64 (link_to None);
      first = λ c s. rw (no_head c s, e) refl;
      later = λ i l f s. let z : ◌≡◌ {A = Row} None (Some (l, f)) = sym (a i (used-within R i l f s)) ∙ s in let v : ◌≡◌ {A = ℕ} 0 1 = cc in absurd (omega arith);
    }

module _ (t : List ChainRow) (a : AllFree t) where
  all-free : (i : ℕ) → i < length (rows_of t) → get_or (rows_of t) i None ≡ None
  all-free i h = let n = rows-length t in let k : i < length t = omega arith in row-at t i (free_row None) k ∙ ap (λ r. r.row) (a.each i k)

  all-spare : length t ≤ 1024 → (n i : ℕ) → suc i + n ≡ length t → frees (rows_of t) (links_of ByLabel t) (Some i) (suc n) ≡ true
  all-spare few zero i e =
      let m = rows-length t in
      let k : i < length t = omega arith in
      let q : ltb (i + 1) (length t) ≡ false = le-ltb (i + 1) (length t) (omega arith) in
      let b : behind (length t) i ≡ None = rw q refl in
      let l = link-at ByLabel t i (free_row None) k ∙ ap (link ByLabel) (a.each i k) ∙ ap (λ o. named (link_to o)) b ∙ named-to None tt in
      frees-more (rows_of t) (links_of ByLabel t) i 0 (omega arith) (all-free i (omega arith)) (rw l refl)
  all-spare few (suc n) i e =
      let m = rows-length t in
      let k : i < length t = omega arith in
      let q : ltb (i + 1) (length t) ≡ true = lt-ltb (i + 1) (length t) (omega arith) in
      let b : behind (length t) i ≡ Some (i + 1) = rw q refl in
      let m2 : i + 1 < 1024 = omega arith in
      let l = link-at ByLabel t i (free_row None) k ∙ ap (link ByLabel) (a.each i k) ∙ ap (λ o. named (link_to o)) b ∙ named-to (Some (i + 1)) m2 in
      frees-more (rows_of t) (links_of ByLabel t) i (suc n) (omega arith) (all-free i (omega arith)) (rw l (all-spare few n (i + 1) (omega arith)))

  no-pairs : (pairs_of (rows_of t) ≡ []) × (distinct (rows_of t) ≡ true)
  no-pairs = none-used (rows_of t) all-free

  pub empty : pile_of (rows_of t) ≡ empty_pile (length t)
  empty = rw (no-pairs.0, rows-length t)

  pub chained : table_answer (length t) ≡ Ok tt → Chained t no_heads
  chained e =
      let n = rows-length t in
      let s : sound (empty_pile (length t)) ≡ true = grind (arith, nat_tests) in
      let b : length t ≤ 1024 = grind (arith, nat_tests) in
      let z : suc (length t - 1) ≡ length t - 0 = grind (arith, nat_tests) in
      record {
        apart = no-pairs.1;
        kept = ap sound empty ∙ s;
        counted = sym (ap length no-pairs.0);
        spare = subst (λ (k : ℕ). frees (rows_of t) (links_of ByLabel t) (Some 0) k ≡ true) z (all-spare b (length t - 1) 0 (omega arith));
        linked = elim [
          | ByLabel ↦ none-linked (chain_at ByLabel) (rows_of t) (links_of ByLabel t) no-pairs.0 all-free
          | ByKind ↦ none-linked (chain_at ByKind) (rows_of t) (links_of ByKind t) no-pairs.0 all-free
          | ByWord ↦ none-linked (chain_at ByWord) (rows_of t) (links_of ByWord t) no-pairs.0 all-free
        ];
      }
