use Rattle.std.proofs.Common.{◌^◌, sym, ◌∙◌}
use Rattle.laver_table.specs.Product.{product_rows}
use Rattle.laver_table.proofs.LaverLemmas.{IsLaver-product_rows, IsLaver-only, IsComputed-laver, ExceedsRows-laver, full-laver}
use Rattle.laver_table.proofs.law.law_one_table.Goals as goal

pub returns-clause-exists : goal.returns-clause-exists
returns-clause-exists c = λ n. (product_rows (2 ^ n), IsLaver-product_rows n)

pub returns-clause-unique : goal.returns-clause-unique
returns-clause-unique c = λ n rows other first second.
    IsLaver-only n rows first ∙ sym (IsLaver-only n other second)

pub returns-clause-computed : goal.returns-clause-computed
returns-clause-computed c = λ n rows laver. IsComputed-laver n rows laver

pub returns-clause-exceeding : goal.returns-clause-exceeding
returns-clause-exceeding c = λ n rows laver. ExceedsRows-laver n rows laver

pub returns-clause-full : goal.returns-clause-full
returns-clause-full c = λ n rows p laver row. full-laver n rows p laver row
