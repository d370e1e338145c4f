-- The text of a certificate.
--
-- It has two terms in their strict text, the answer, for a yes its addresses, each behind a dot, and the end.
-- Each line ends with LF (byte 10); fields are parted by one space.
-- Source: this project's own.
--
--   certificate_text c   the text of the certificate
--   answer_text answer   the lines between the terms and the end
use Rattle.std.specs.Prelude.{ℕ, List, ◌++◌, codes, decimal}
use Rattle.std.specs.List.{flat_map}
use Rattle.wb_base.specs.Lines.{line}
use Rattle.ld_term.specs.StrictTexts.{strict_text}
use Rattle.ld_cert.specs.Certificates.{Answer, yes_by, no_by, Certificate}

-- An expansion of the left term, at an address: `l .01`.
abbrev pub left_line : List ℕ → List ℕ
left_line address = line (codes "l ." ++ address)

-- One of the right term.
abbrev pub right_line : List ℕ → List ℕ
right_line address = line (codes "r ." ++ address)

abbrev pub answer_text : Answer → List ℕ
answer_text (yes_by left right) =
    line (codes "yes") ++ (flat_map left_line left ++ flat_map right_line right)
answer_text (no_by n) = line (codes "no " ++ decimal n)

unfoldable pub certificate_text : Certificate → List ℕ
certificate_text c =
    line (codes "ld-certificate 1")
    ++ (line (codes "left " ++ strict_text c.left)
    ++ (line (codes "right " ++ strict_text c.right)
    ++ (answer_text c.answer ++ line (codes "end"))))
