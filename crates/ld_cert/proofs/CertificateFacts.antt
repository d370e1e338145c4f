-- Worked rows of certificates, of files that are accepted or refused, and of paths.
use Rattle.std.proofs.Common.{◌≡◌, true, false, [], ◌∷◌, ◌++◌, map, replicate, codes, Some, None, Ok, Err, refl}
use Rattle.std.specs.Fmt.{digits}
use Rattle.line_file.specs.Formats.{checked_of as file_checked_of}
use Rattle.ld_term.specs.Terms.{Term, variable, multiply, derived}
use Rattle.ld_term.specs.StrictTexts.{strict_term_of}
use Rattle.laver_table.specs.Product.{product_within, product, product_row, product_rows}
use Rattle.ld_cert.specs.Certificates.{no_by, IsRight, spread, path, path_certificate}
use Rattle.ld_cert.specs.CertificateText.{certificate_text}
use Rattle.ld_cert.specs.Checking.{behind_front, term_behind, address_behind, are_alike, checked_of}
use Rattle.ld_cert.specs.FirstRefusal.{IsFirstRefusal}
use Rattle.ld_cert.specs.States as due
use Rattle.ld_cert.specs.declared.checked.LdAnswer.TheVariants.{Yes, No}
use Rattle.ld_cert.specs.declared.checked.LdWhy.TheVariants.{Form, Header, Place, Differ, Alike, Truncated, Extra}

-- ---- Terms ----

abbrev square : Term
square = multiply variable variable

-- x(xx), and its derived term (xx)(xx)
abbrev right_cube : Term
right_cube = multiply variable square

abbrev double_square : Term
double_square = multiply square square

-- (xx)x, which is its own derived term's start: ((xx)(xx))... has no x(yz) at the root
abbrev left_cube : Term
left_cube = multiply square variable

-- ---- Certificates ----

-- x(xx) becomes (xx)(xx) at the root
derived_row : derived right_cube ≡ double_square
derived_row = refl

path_row : path right_cube ≡ [] ∷ []
path_row = refl

-- to distribute over (xx)(xx) goes by the root, and then by both halves
spread_row : spread double_square ≡ [] ∷ (codes "0" ∷ (codes "1" ∷ []))
spread_row = refl

right_row : IsRight (path_certificate right_cube)
right_row = (double_square, (double_square, refl, refl), refl)

-- its text
text_row
    : certificate_text (path_certificate right_cube)
    ≡ codes "ld-certificate 1\nleft (x*(x*x))\nright ((x*x)*(x*x))\nyes\nl .\nend\n"
unfolding certificate_text
text_row = refl

no_text_row
    : certificate_text (record { left = variable; right = square; answer = no_by 1 })
    ≡ codes "ld-certificate 1\nleft x\nright (x*x)\nno 1\nend\n"
unfolding certificate_text digits
no_text_row = refl

-- ---- Lines ----

front_rows
    : map (behind_front (codes "l .")) (codes "l .01" ∷ (codes "l ." ∷ (codes "l." ∷ (codes "l" ∷ []))))
    ≡ Some (codes "01") ∷ (Some [] ∷ (None ∷ (None ∷ [])))
front_rows = refl

-- a longer first word is another one; nothing, or no strict text, behind the keyword is a fault of form
term_rows
    : map (term_behind (codes "left"))
    (codes "left (x*x)" ∷ codes "left" ∷ codes "left " ∷ codes "left x*x" ∷ codes "lefty x" ∷ codes "right x" ∷
    [])
    ≡ Ok square ∷ Err Form ∷ Err Form ∷ Err Form ∷ Err Header ∷ Err Header ∷ []
unfolding strict_term_of
term_rows = refl

-- an address has at most 1,000 bytes, each `0` or `1`
address_rows
    : map (address_behind (codes "l .")) (codes "l .10" ∷ codes "l ." ∷ codes "l .2" ∷ codes "l . " ∷ [])
    ≡ Some (codes "10") ∷ Some [] ∷ None ∷ None ∷ []
address_rows = refl

long_address_row : address_behind (codes "l .") (codes "l ." ++ replicate 1001 48) ≡ None
long_address_row = refl

longest_address_row
    : address_behind (codes "l .") (codes "l ." ++ replicate 1000 48) ≡ Some (replicate 1000 48)
longest_address_row = refl

-- ---- Files ----

-- in the table of size 2, x has the value 1 and xx the value 2; in that of size 1 both have 1
alike_rows : map (λ n. are_alike n variable square) (0 ∷ 1 ∷ []) ≡ true ∷ false ∷ []
unfolding product_rows product_row product product_within
alike_rows = refl

accepted_row
    : checked_of (codes "ld-certificate 1\nleft (x*(x*x))\nright ((x*x)*(x*x))\nyes\nl .\nend\n")
    ≡ Ok record {
      answer = Yes;
      made = variable ∷ square ∷ right_cube ∷ double_square ∷ [];
      left = right_cube;
      right = double_square;
    }
unfolding file_checked_of strict_term_of
accepted_row = refl

no_row
    : checked_of (codes "ld-certificate 1\nleft x\nright (x*x)\nno 1\nend\n")
    ≡ Ok record { answer = No 1; made = variable ∷ square ∷ []; left = variable; right = square }
unfolding file_checked_of strict_term_of product_rows product_row product product_within
no_row = refl

-- without its line, with an address of a leaf's part, with one of a leaf, and with lines in the wrong order
refused_rows
    : map
    (λ others. checked_of (codes "ld-certificate 1\nleft (x*(x*x))\nright ((x*x)*(x*x))\nyes\n" ++ others))
    (codes "end\n" ∷ codes "l .00\n" ∷ codes "l .0\n" ∷ codes "r .\n" ∷ codes "l .\nr .01\n" ∷ codes "yes\n" ∷ [])
    ≡ Err (5, Differ) ∷ Err (5, Place) ∷ Err (5, Place) ∷ Err (6, Truncated) ∷ Err (6, Place) ∷ Err (5, Form) ∷ []
unfolding file_checked_of strict_term_of
refused_rows = refl

-- x(x(xx)) becomes x((xx)(xx)), and both of these (x(xx))(x(xx))
both_row
    : checked_of
    (codes "ld-certificate 1\nleft (x*(x*(x*x)))\nright (x*((x*x)*(x*x)))\nyes\nl .1\nl .\nr .\nend\n")
    ≡ Ok record {
      answer = Yes;
      made = variable ∷ square ∷ right_cube ∷ multiply variable right_cube ∷ double_square ∷
          multiply variable double_square ∷ multiply right_cube right_cube ∷ [];
      left = multiply variable right_cube;
      right = multiply variable double_square;
    }
unfolding file_checked_of strict_term_of
both_row = refl

-- a line of the left term behind one of the right term
order_row
    : checked_of
    (codes "ld-certificate 1\nleft (x*(x*(x*x)))\nright (x*((x*x)*(x*x)))\nyes\nr .\nl .1\n")
    ≡ Err (6, Form)
unfolding file_checked_of strict_term_of
order_row = refl

-- an exponent above 14, a number with a leading zero, and values that are alike
no_rows
    : map (λ others. checked_of (codes "ld-certificate 1\nleft x\nright (x*x)\n" ++ others))
    (codes "no 15\n" ∷ codes "no 01\n" ∷ codes "no\n" ∷ codes "no 0\n" ∷ codes "no 1\nyes\n" ∷ [])
    ≡ Err (4, Form) ∷ Err (4, Form) ∷ Err (4, Form) ∷ Err (4, Alike) ∷ Err (5, Form) ∷ []
unfolding file_checked_of strict_term_of product_rows product_row product product_within
no_rows = refl

-- no bytes, an end without its LF, and an empty line behind the end
ending_rows
    : map (λ others. checked_of (codes "ld-certificate 1\nleft x\nright x\nyes\n" ++ others))
    ([] ∷ codes "end" ∷ codes "end\n\n" ∷ [])
    ≡ Err (5, Truncated) ∷ Err (5, Truncated) ∷ Err (6, Extra) ∷ []
unfolding file_checked_of strict_term_of
ending_rows = refl

-- the right line where the left one is due is the first refusal, at line 2
header_row : IsFirstRefusal (codes "ld-certificate 1\nright x\nend\n") 2 Header
unfolding strict_term_of
header_row = record {
  before = codes "ld-certificate 1" ∷ [];
  others = codes "right x" ∷ (codes "end" ∷ []);
  last = due.left;
  lines = refl;
  number = refl;
  kept = (due.left, refl, refl);
  refused = refl;
}
