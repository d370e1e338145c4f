-- Worked rows of tokens, texts and terms, by computation.
use Rattle.std.proofs.Common.{◌≡◌, true, false, [], ◌∷◌, Some, None, codes, refl}
use Rattle.ld_term.specs.Terms.{Term, variable, multiply, height, distributed, derived}
use Rattle.ld_term.specs.Written.{leaf, named, times}
use Rattle.ld_term.specs.Tokens.{open_bracket, variable as variable_token, name, bad, lex, tokens_of, tokens_from}
use Rattle.ld_term.specs.TermTexts.{term_text}
use Rattle.ld_term.specs.StrictTexts.{strict_term_of}

-- xx
abbrev square : Term
square = multiply variable variable

-- a run goes on over digits, and places count from 1: ` x1(` is the name x1 at 2 and a bracket at 4
name_tokens
    : tokens_from false 0 (codes " x1(")
    ≡ record { token = name (codes "x1") 2; place = 2 } ∷ record { token = open_bracket; place = 4 } ∷ []
unfolding lex
name_tokens = refl

-- a space is a bad token in the strict spelling, and so is a name
strict_tokens : tokens_of (tokens_from true 0 (codes "x a")) ≡ variable_token ∷ bad ∷ bad ∷ []
unfolding lex
strict_tokens = refl

-- a tab is no space, a run that begins with a digit is no name, and a capital letter stands in no run
bad_tokens : tokens_of (tokens_from false 0 (9 ∷ codes "1a X")) ≡ bad ∷ bad ∷ bad ∷ []
unfolding lex
bad_tokens = refl

-- the text of x*(a*x)
named_text : term_text (times leaf (times (named (codes "a") 4) leaf)) ≡ codes "(x*(a*x))"
named_text = refl

-- the term of a strict text
strict_row : strict_term_of (codes "(x*(x*x))") ≡ Some (multiply variable square)
unfolding strict_term_of
strict_row = refl

-- without its outermost brackets it is none, and neither is no text at all
bare_row : strict_term_of (codes "x*x") ≡ None
unfolding strict_term_of
bare_row = refl

empty_row : strict_term_of [] ≡ None
unfolding strict_term_of
empty_row = refl

-- the height of x is 0, that of (xx)x is 2
height_row : height (multiply square variable) ≡ 2
height_row = refl

-- x distributed over xx is (xx)(xx)
distributed_row : distributed variable square ≡ multiply square square
distributed_row = refl

-- the derived term of (xx)(xx) is ((xx)x)((xx)x)
derived_row
    : derived (multiply square square) ≡ multiply (multiply square variable) (multiply square variable)
derived_row = refl
