-- What is wrong with an input, and the line that says so.
--
-- Lines, bytes and letters count from 1.
-- Source: this project's own.
--
--   fault_text fault      the line that says what is wrong
--   numbered_fault ..     the line of a fault by its name and its number: `input 1 index 3`
--   bare_fault ..         the same without a number: `input 2 lines`
use Rattle.std.specs.Prelude.{ℕ, List, ◌++◌, codes, decimal}
use Rattle.wb_base.specs.Lines.{line}
use Rattle.wb_command.specs.declared.fault.Fault.{Fault}
use Rattle.wb_command.specs.declared.fault.Fault.TheVariants.{Lines, Letters, Index, Long, Strands, Negative, Term, Deep, Many, Twice, Unknown, Address, Expand}

abbrev pub numbered_fault : ℕ → List ℕ → ℕ → List ℕ
numbered_fault k name number = line (((codes "input " ++ decimal k) ++ name) ++ decimal number)

abbrev pub bare_fault : ℕ → List ℕ → List ℕ
bare_fault k name = line ((codes "input " ++ decimal k) ++ name)

abbrev pub fault_text : Fault → List ℕ
fault_text (Lines k) = bare_fault k (codes " lines")
fault_text (Letters k place) = numbered_fault k (codes " letter ") place
fault_text (Index k place) = numbered_fault k (codes " index ") place
fault_text (Long k count) = numbered_fault k (codes " long ") count
fault_text (Strands k place) = numbered_fault k (codes " strands ") place
fault_text (Negative k place) = numbered_fault k (codes " negative ") place
fault_text (Term k place) = numbered_fault k (codes " term ") place
fault_text (Deep k height) = numbered_fault k (codes " deep ") height
fault_text (Many k products) = numbered_fault k (codes " many ") products
fault_text (Twice k place) = numbered_fault k (codes " twice ") place
fault_text (Unknown k place) = numbered_fault k (codes " unknown ") place
fault_text (Address k) = bare_fault k (codes " address")
fault_text (Expand k) = bare_fault k (codes " expand")
