-- Worked rows of requests, listings and term files, by computation.
use Rattle.std.proofs.Common.{◌≡◌, [], ◌∷◌, Some, codes, refl}
use Rattle.std.specs.Fmt.{digits}
use Rattle.ld_term.specs.Terms.{Term, variable, multiply}
use Rattle.ld_term.specs.Written.{leaf, named, times}
use Rattle.term_graph.specs.TermLists.{braid_length}
use Rattle.term_graph.specs.Asks.{answered, ask, ask_all}
use Rattle.term_graph.specs.Requests.{first_unknown}
use Rattle.term_graph.specs.Listings.{distinct_products, listing_text}
use Rattle.term_graph.specs.TermFiles.{definition, closing, line_fault, file_requests}
use Rattle.term_graph.specs.declared.file_error.DefsErr.TheVariants.{Twice, Unknown}

-- xx
abbrev square : Term
square = multiply variable variable

-- the variable is there from the start
ask_variable : ask (variable ∷ []) variable ≡ answered (variable ∷ [])
ask_variable = refl

-- a product that was asked for before changes nothing
ask_twice
    : ask_all (answered (variable ∷ [])) (square ∷ multiply square variable ∷ square ∷ [])
    ≡ answered (variable ∷ square ∷ multiply square variable ∷ [])
ask_twice = refl

-- the braid word of (xx)x has 3 letters, that of x(xx) has 2
length_left : braid_length (multiply square variable) ≡ 3
length_left = refl

length_right : braid_length (multiply variable square) ≡ 2
length_right = refl

-- the leftmost unknown name of a*(b*c), where a alone is known, is b at place 4
unknown_row
    : first_unknown (codes "a" ∷ [])
    (times (named (codes "a") 1) (times (named (codes "b") 4) (named (codes "c") 6)))
    ≡ Some 4
unknown_row = refl

-- a name that is defined again comes before an unknown one in the same line
twice_row
    : line_fault 2 (codes "a" ∷ []) (definition (codes "a") 1 (times (named (codes "b") 4) leaf))
    ≡ Some (Twice 2 1)
twice_row = refl

-- a name isn't known in its own line
own_row : line_fault 1 [] (definition (codes "a") 1 (times (named (codes "a") 6) leaf)) ≡ Some (Unknown 1 6)
own_row = refl

-- the lines `a = x*x` and `x*a` ask for xx, and then for x(xx)
file_row
    : file_requests []
    (definition (codes "a") 1 (times leaf leaf) ∷ closing (times leaf (named (codes "a") 3)) ∷ [])
    ≡ square ∷ multiply variable square ∷ []
file_row = refl

-- the listing of the variable is a line alone
listing_variable : listing_text variable ≡ codes "x\n"
unfolding listing_text distinct_products
listing_variable = refl

-- the different products of ((xx)x)((xx)x), each part before the whole
products_row
    : distinct_products (multiply (multiply square variable) (multiply square variable))
    ≡ square ∷ multiply square variable ∷ multiply (multiply square variable) (multiply square variable) ∷ []
unfolding distinct_products
products_row = refl

-- the listing of ((xx)x)((xx)x)
listing_row
    : listing_text (multiply (multiply square variable) (multiply square variable))
    ≡ codes "t1 = (x*x)\nt2 = (t1*x)\nt3 = (t2*t2)\nt3\n"
unfolding listing_text distinct_products digits
listing_row = refl
