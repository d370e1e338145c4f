-- What may follow is kept, and so certificate files are files of lines with a grammar
-- (`IsGrammarOf-certificate`).
use Rattle.std.proofs.Common.{◌≡◌, ℕ, true, List, [], ◌∷◌, ◌++◌, codes, None, Ok, refl, sym, ap, ◌∙◌, subst}
use Rattle.line_file.specs.Grammars.{IsGrammarOf}
use Rattle.ld_term.specs.Terms.{Term, variable}
use Rattle.term_graph.specs.Asks.{same_term, answered, ask_all}
use Rattle.term_graph.proofs.AskLemmas.{same_term-self}
use Rattle.term_expand.specs.Expansions.{IsAddress}
use Rattle.term_expand.specs.Requests.{expand_requests}
use Rattle.ld_cert.specs.States.{Terms, Pair, State}
use Rattle.ld_cert.specs.States as due
use Rattle.ld_cert.specs.Checking.{made_term, made_by, made_expansion, expanded_by, with_made, kept_left, kept_right, kept_no, with_left, with_right, kept_end, right_kept, left_kept, kept_right_step, kept_short, claim_passed, certificate_file}
use Rattle.ld_cert.proofs.SaidLaws.{Said, line_text, IsLine, length-line_text, line_text-no_lf}
use Rattle.ld_cert.proofs.SaidLaws as said
use Rattle.ld_cert.proofs.TextLemmas.{exponent_in-decimal, term_behind-strict_text, address_behind-append}
use Rattle.ld_cert.proofs.KeptLaws.{Makes, MakesExpansion, FollowsRight, FollowsEnd, Follows, certificate_grammar, kept_short-Follows}

-- ---- What is granted is made ----

-- the products of a term
made_by-Makes
    : (made : List Term) (t : Term) (new : List Term)
    → Makes made t new
    → made_by made (Ok t) ≡ Ok (new, t)
made_by-Makes made t new makes = ap (made_term t) makes.granted

-- an expansion
expanded_by-MakesExpansion
    : (made : List Term) (address : List ℕ) (t : Term) (new : List Term) (u : Term)
    → MakesExpansion made address t new u
    → expanded_by made address t ≡ Ok (new, u)
expanded_by-MakesExpansion made address t new u makes =
    ap (λ e. made_expansion e (ask_all (answered made) (expand_requests address t))) makes.expansion
    ∙ ap (made_term u) makes.granted

-- ---- What may follow is kept ----

-- the end, where both terms have become one
kept_end-one : (pair : Pair) (next : State) → FollowsEnd pair next → kept_end pair true ≡ Ok next
kept_end-one pair next follows =
    let test : same_term pair.left_now pair.right_now ≡ true
    = subst (λ z. same_term pair.left_now z ≡ true) follows.one (same_term-self pair.left_now) in
    rw test (ap (λ d. Ok d) (sym follows.due))

-- an expansion of the right term
kept_right_step-address
    : (pair : Pair) (address : List ℕ) (next : State)
    → IsAddress address
    → FollowsRight pair address next
    → kept_right_step pair (codes "r ." ++ address) ≡ Ok next
kept_right_step-address pair address next can follows =
    ap (right_kept pair (codes "r ." ++ address)) (address_behind-append (codes "r .") address can)
    ∙ ap (λ r. with_made r (λ made t. due.right_step (with_right pair made t)))
    (expanded_by-MakesExpansion _ address pair.right_now _ follows.term follows.makes)
    ∙ ap (λ d. Ok d) (sym follows.due)

kept_short-line_text
    : (now : State) (s : Said) (next : State)
    → IsLine s
    → Follows now s next
    → kept_short now (line_text s) ≡ Ok next
kept_short-line_text due.start said.start next can follows = ap (λ d. Ok d) (sym follows)
kept_short-line_text due.left (said.left t) next can (new, makes, follows) =
    ap kept_left (term_behind-strict_text (codes "left") t refl can)
    ∙ ap (λ r. with_made r due.right) (made_by-Makes (variable ∷ []) t new makes)
    ∙ ap (λ d. Ok d) (sym follows)
kept_short-line_text (due.right made left) (said.right t) next can (new, makes, follows) =
    ap (kept_right made left) (term_behind-strict_text (codes "right") t refl can)
    ∙ ap (λ r. with_made r (λ new right. due.answer (record { made = new; left = left; right = right })))
    (made_by-Makes made t new makes)
    ∙ ap (λ d. Ok d) (sym follows)
kept_short-line_text (due.answer terms) said.yes next can follows = ap (λ d. Ok d) (sym follows)
kept_short-line_text (due.answer terms) (said.no_by n) next can (apart, follows) =
    ap (kept_no terms) (exponent_in-decimal (codes "no ") n can)
    ∙ rw apart (ap (λ d. Ok d) (sym follows))
kept_short-line_text (due.left_step pair) (said.left_step address) next can follows =
    ap (left_kept pair (codes "l ." ++ address)) (address_behind-append (codes "l .") address can)
    ∙ ap (λ r. with_made r (λ made t. due.left_step (with_left pair made t)))
    (expanded_by-MakesExpansion _ address pair.left_now _ follows.term follows.makes)
    ∙ ap (λ d. Ok d) (sym follows.due)
kept_short-line_text (due.left_step pair) (said.right_step address) next can follows =
    kept_right_step-address pair address next can follows
kept_short-line_text (due.left_step pair) said.finish next can follows = kept_end-one pair next follows
kept_short-line_text (due.right_step pair) (said.right_step address) next can follows =
    kept_right_step-address pair address next can follows
kept_short-line_text (due.right_step pair) said.finish next can follows = kept_end-one pair next follows
kept_short-line_text (due.finish claim) said.finish next can follows = ap (λ d. Ok d) (sym follows)
kept_short-line_text now s next can follows = absurd follows

-- ---- Certificate files as files of lines ----

-- what may follow is said where a line is due
Follows-due : (now next : State) (s : Said) → Follows now s next → claim_passed now ≡ None
Follows-due due.start next s follows = refl
Follows-due due.left next s follows = refl
Follows-due (due.right made left) next s follows = refl
Follows-due (due.answer terms) next s follows = refl
Follows-due (due.left_step pair) next s follows = refl
Follows-due (due.right_step pair) next s follows = refl
Follows-due (due.finish claim) next s follows = refl
Follows-due (due.passed claim) next s follows = absurd follows

-- a certificate file has the lines that may be said
pub IsGrammarOf-certificate : IsGrammarOf certificate_file certificate_grammar
IsGrammarOf-certificate = record {
  says = λ now next line is. kept_short-Follows now line next is;
  keeps = λ now next s can follows. kept_short-line_text now s next can follows;
  due = Follows-due;
  short = length-line_text;
  no_lf = line_text-no_lf;
}
