-- What is read of a table that is held by its levels.
use Rattle.std.proofs.Common.{◌≡◌, ℕ, ◌^◌, List, length, Vec, sym, ap, ◌∙◌, subst, subst₂}
use Rattle.std.specs.Global.{Global}
use Rattle.laver_table.specs.Product.{product, product_rows}
use Rattle.laver_table.specs.Table.{entry, IsUpTo}
use Rattle.laver_table.specs.Period.{IsPeriod}
use Rattle.laver_table.specs.Form.{period_of, IsPeriodic}
use Rattle.laver_table.specs.declared.levels.Doubling.{Doubling}
use Rattle.laver_table.proofs.RowLemmas.{length-product_rows, entry-product_rows, IsUpTo-product}
use Rattle.laver_table.proofs.FormLemmas.{period_of-product_rows, IsPeriodic-at}

module _
    (held levels : List (Vec Doubling Global)) (table : List (List ℕ))
    (is : levels ≡ held) (view : product_rows (2 ^ length held) ≡ table) where
  -- it has the size of its levels
  pub size-held : 2 ^ length levels ≡ length table
  size-held = ap (λ ls. 2 ^ length ls) is ∙ sym (length-product_rows (2 ^ length held)) ∙ ap length view

  -- it has the rows of the operation
  rows-held : product_rows (2 ^ length levels) ≡ table
  rows-held = ap (λ ls. product_rows (2 ^ length ls)) is ∙ view

  -- a number up to its size, by its levels
  pub up_to-held : (x : ℕ) → IsUpTo (length table) x → IsUpTo (2 ^ length levels) x
  up_to-held x = subst (λ N. IsUpTo N x) (sym size-held)

  -- a product is an entry
  pub entry-held
      : (p q x : ℕ)
      → IsUpTo (length table) p
      → IsUpTo (length table) q
      → x ≡ product (2 ^ length levels) p q
      → x ≡ entry table p q
  entry-held p q x row column product_is =
      product_is
      ∙ sym (entry-product_rows (2 ^ length levels) p q (up_to-held p row) (up_to-held q column))
      ∙ ap (λ rows. entry rows p q) rows-held

  -- and so a number up to the size
  pub entry-up_to
      : (p q x : ℕ)
      → IsUpTo (length table) p
      → IsUpTo (length table) q
      → x ≡ product (2 ^ length levels) p q
      → IsUpTo (length table) x
  entry-up_to p q x row column product_is =
      subst₂ IsUpTo size-held (sym product_is)
      (IsUpTo-product (2 ^ length levels) p q (up_to-held p row) (up_to-held q column))

  -- the first column with the size is the number of different entries
  pub period-held
      : (p o : ℕ)
      → IsUpTo (length table) p
      → IsPeriod (2 ^ length levels) p o
      → o ≡ period_of table p
  period-held p o row period =
      sym (period_of-product_rows (2 ^ length levels) p o (up_to-held p row) period)
      ∙ ap (λ rows. period_of rows p) rows-held

  -- and the row repeats its entries up to that
  pub periodic-held
      : (p o : ℕ)
      → IsUpTo (length table) p
      → IsPeriod (2 ^ length levels) p o
      → IsPeriodic (length table) table p o
  periodic-held p o row period =
      subst₂ (λ N rows. IsPeriodic N rows p o) size-held rows-held
      (IsPeriodic-at (2 ^ length levels) p o (up_to-held p row) period)
