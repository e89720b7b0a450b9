use Rattle.std.proofs.Common.{◌≡◌, ℕ, true, subst, sym, ◌∙◌, arith}
use Rattle.stores.specs.Table.{pairs_of}
use Rattle.chains.specs.Links.{points, next_in, on_chain}
use Rattle.chains.specs.Rows.{rows_of, chain_at}
use Rattle.chains.specs.declared.chain_types.Way.TheVariants.{ByKind}
use Rattle.chains.proofs.Tables.{row-named}
use Rattle.chains.proofs.Walks.{meets-none}
use Rattle.chains.proofs.Answered.{kind-chain, kind-none, named}
use Rattle.chains.proofs.chains_store.ChainsStore.next.Goals as goal

pub returns-then-kind-ge-KINDS : goal.returns-then-kind-ge-KINDS
returns-then-kind-ge-KINDS c = sym (kind-none c.args.kind c.args.above (rows_of c.args.self.now.linked.table.now) c.if-kind-ge-KINDS.true c.args.self.now.chained.kept)

pub returns-in_err-at : goal.returns-in_err-at
returns-in_err-at c =
    let R = rows_of c.args.self.now.linked.table.now in
    let p = subst (λ (n : ℕ). points R c.first_above.result (next_in (on_chain (chain_at ByKind) n) c.args.above (pairs_of R)) ≡ true) c.from.ensures c.first_above.ensures in
    let k = kind-chain c.args.kind c.args.above R (omega arith) c.args.self.now.chained.kept in
    c.from_residual.ensures ∙ sym (k ∙ meets-none R (next_in (on_chain (chain_at ByKind) c.args.kind) c.args.above (pairs_of R)) (rw (← c.in_err-at.was) p))

pub returns : goal.returns
returns c =
    let t = c.args.self.now.linked.table.now in
    let R = rows_of t in
    let p = subst (λ (n : ℕ). points R c.first_above.result (next_in (on_chain (chain_at ByKind) n) c.args.above (pairs_of R)) ≡ true) c.from.ensures c.first_above.ensures in
    let k = kind-chain c.args.kind c.args.above R (omega arith) c.args.self.now.chained.kept in
    let q = row-named t c.first_above.result c.in_ok-at.at c.in_ok-label.label c.in_ok-label.field-0-1 _ c.index-self-at.result c.in_ok-at.was p c.in_ok-label.was in
    named R c.in_ok-at.at c.in_ok-label.label c.in_ok-label.field-0-1 (next_in (on_chain (chain_at ByKind) c.args.kind) c.args.above (pairs_of R)) q.0 q.1 ∙ sym k
