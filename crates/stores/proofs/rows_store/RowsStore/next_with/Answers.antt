use Rattle.std.proofs.Common.{ap, ◌∙◌, sym, rules, of_calls}
use Rattle.std.proofs.lemmas.Fn.{always_returns_same}
use Rattle.stores.specs.Store.{of_kind_with}
use Rattle.stores.specs.Table.{pairs_of, pile_of}
use Rattle.stores.specs.Scans.{first_label}
use Rattle.stores.proofs.Piles.{owed-rises}
use Rattle.stores.proofs.Ranks.{next-rank}
use Rattle.stores.proofs.rows_store.RowsStore.next_with.Goals as goal

pub returns : goal.returns
returns c =
    let table = c.args.self.now.packed.table.now in
    let test = of_kind_with c.args.kind c.args.word in
    let key = always_returns_same _ _ _ (λ a r f k. search (rules, of_calls)) in
    c.first_that.ensures test key
    ∙ ap (first_label test) c.behind.ensures
    ∙ sym (next-rank test c.args.above (pairs_of table) (owed-rises (pile_of table) c.args.self.now.kept))
