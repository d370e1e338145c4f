use Rattle.std.proofs.Common.{◌^◌, sym, ap, ◌∙◌, subst}
use Rattle.laver_table.specs.Product.{product_rows}
use Rattle.laver_table.specs.Table.{IsLaver, IsComputed, ExceedsRows}
use Rattle.laver_table.proofs.LaverLemmas.{IsComputed-product_rows, IsLaver-product_rows, IsLaver-only}
use Rattle.laver_table.proofs.RowLemmas.{ExceedsRows-product_rows}
use Rattle.laver_table.proofs.table.Table.build.Goals as goal

pub returns-clause-laver : goal.returns-clause-laver
returns-clause-laver c =
    let count = sym c.in_ok-levels_of.ensures.count in
    subst (λ k. IsLaver c.args.n (product_rows (2 ^ k))) count (IsLaver-product_rows c.args.n)

pub returns-clause-computed : goal.returns-clause-computed
returns-clause-computed c =
    let N = 2 ^ c.args.n in
    let count = sym c.in_ok-levels_of.ensures.count in
    subst (λ k. IsComputed N (product_rows (2 ^ k))) count (IsComputed-product_rows N)

pub returns-clause-exceeding : goal.returns-clause-exceeding
returns-clause-exceeding c =
    let N = 2 ^ c.args.n in
    let count = sym c.in_ok-levels_of.ensures.count in
    subst (λ k. ExceedsRows N (product_rows (2 ^ k))) count (ExceedsRows-product_rows N)

pub returns-clause-unique : goal.returns-clause-unique
returns-clause-unique c = λ other laver.
    IsLaver-only c.args.n other laver ∙ ap (λ k. product_rows (2 ^ k)) (sym c.in_ok-levels_of.ensures.count)
