-- Laws of the check of a file.
--
-- It claims something exactly where it is accepted (`checked_of-IsAccepted`), and then what the certificate
-- claims.
use Rattle.std.proofs.Common.{◌≡◌, ◌≢◌, ◌↔◌, ℕ, ◌^◌, false, List, [], ◌∷◌, ◌++◌, Some, Ok, refl, sym, ap, ◌∙◌, subst}
use Rattle.std.proofs.lemmas.Bool.{ne_eqb, eqb-false}
use Rattle.line_file.proofs.GrammarLaws.{checked_of-IsSaid, IsSaid-checked_of}
use Rattle.ld_term.specs.Terms.{Term, variable}
use Rattle.laver_table.specs.Product.{product_rows}
use Rattle.laver_table.proofs.LaverLemmas.{IsLaver-product_rows, IsLaver-only}
use Rattle.term_eval.specs.Values.{value_of}
use Rattle.term_graph.specs.Asks.{answered, ask_all}
use Rattle.term_graph.specs.Listings.{products}
use Rattle.ld_cert.specs.Certificates.{Answer, yes_by, no_by, Certificate, IsRightOf}
use Rattle.ld_cert.specs.Accepted.{IsReadable, IsAnswer, answer_requests, certificate_requests, terms_granted, graph_of, IsAccepted, Claim, told_answer, claim_of}
use Rattle.ld_cert.specs.States.{Terms, State}
use Rattle.ld_cert.specs.States as due
use Rattle.ld_cert.specs.Checking.{are_alike, claimed, unexpanded, certificate_file, checked_of}
use Rattle.ld_cert.specs.declared.checked.LdAnswer.TheVariants.{No}
use Rattle.ld_cert.proofs.SaidLaws.{Said}
use Rattle.ld_cert.proofs.SaidLaws as said
use Rattle.ld_cert.proofs.CertificateLaws.{answer_lines, certificate_lines, text_of, certificate_text-lines}
use Rattle.ld_cert.proofs.KeptLaws.{certificate_grammar}
use Rattle.ld_cert.proofs.FollowsLaws.{IsGrammarOf-certificate}
use Rattle.ld_cert.proofs.LeadsLaws.{Leads, granted-parts, parts-granted, Leads-Passed, Leads-Steps, AreSteps-Leads}

-- ---- A no ----

-- a table in which the terms aren't alike tells them apart
apart-IsRightOf : (t u : Term) (n : ℕ) → are_alike n t u ≡ false → IsRightOf t u (no_by n)
apart-IsRightOf t u n apart = (product_rows (2 ^ n), IsLaver-product_rows n, eqb-false _ _ apart)

-- and back
IsRightOf-apart : (t u : Term) (n : ℕ) → IsRightOf t u (no_by n) → are_alike n t u ≡ false
IsRightOf-apart t u n (rows, laver, differ) =
    let one = IsLaver-only n rows laver in
    ne_eqb _ _ (subst (λ z. value_of z t ≢ value_of z u) one differ)

-- ---- A whole file ----

-- Lines from the answer on are those of one that is right and granted.
record IsAnswered (terms : Terms) (all : List Said) (claim : Claim) : Type 0 where
  answer : Answer
  made : List Term
  lines_are : all ≡ answer_lines answer
  can : IsAnswer answer
  granted : ask_all (answered terms.made) (answer_requests terms.left terms.right answer) ≡ answered made
  is_right : IsRightOf terms.left terms.right answer
  claims : claim ≡ claimed (record terms { made = made }) (told_answer answer)

-- the end behind a no
Leads-Finish
    : (c : Claim) (all : List Said) (claim : Claim)
    → Leads (due.finish c) all claim
    → (all ≡ said.finish ∷ []) × (claim ≡ c)
Leads-Finish c [] claim leads = absurd (cc)
Leads-Finish c (said.finish ∷ all) claim (next, can, follows, leads) =
    let (none, same) = Leads-Passed c all claim (subst (λ d. Leads d all claim) follows leads) in
    (ap (λ rest. said.finish ∷ rest) none, same)
Leads-Finish c (s ∷ all) claim (next, can, follows, leads) = absurd follows

-- the lines from the answer on
Leads-Answer
    : (terms : Terms) (all : List Said) (claim : Claim)
    → Leads (due.answer terms) all claim
    → IsAnswered terms all claim
Leads-Answer terms [] claim leads = absurd (cc)
Leads-Answer terms (said.yes ∷ all) claim (next, can, follows, leads) =
    let steps = Leads-Steps (unexpanded terms) all claim (subst (λ d. Leads d all claim) follows leads) in
    record {
      answer = yes_by steps.left steps.right;
      made = steps.made;
      lines_are = ap (λ rest. said.yes ∷ rest) steps.lines_are;
      can = (steps.left_addresses, steps.right_addresses);
      granted = steps.granted;
      is_right = (steps.meet, steps.left_along, steps.right_along);
      claims = steps.claims;
    }
Leads-Answer terms (said.no_by n ∷ all) claim (next, can, (apart, follows), leads) =
    let (last, same) = Leads-Finish (claimed terms (No n)) all claim (subst (λ d. Leads d all claim) follows leads)
    in
    record {
      answer = no_by n;
      made = terms.made;
      lines_are = ap (λ rest. said.no_by n ∷ rest) last;
      can = can;
      granted = refl;
      is_right = apart-IsRightOf terms.left terms.right n apart;
      claims = same;
    }
Leads-Answer terms (s ∷ all) claim (next, can, follows, leads) = absurd follows

-- The lines of a file that claims something are those of a certificate that is right and granted.
record IsCertified (all : List Said) (claim : Claim) : Type 0 where
  certificate : Certificate
  lines_are : all ≡ certificate_lines certificate
  left : IsReadable certificate.left
  right : IsReadable certificate.right
  can : IsAnswer certificate.answer
  made : List Term
  granted : ask_all (answered (variable ∷ [])) (certificate_requests certificate) ≡ answered made
  is_right : IsRightOf certificate.left certificate.right certificate.answer
  claims : claim ≡ record (claim_of certificate) { made = made }

-- the lines from the right term on
Leads-Right
    : (t : Term) (made : List Term) (all : List Said) (claim : Claim)
    → IsReadable t
    → ask_all (answered (variable ∷ [])) (products t) ≡ answered made
    → Leads (due.right made t) all claim
    → IsCertified (said.start ∷ said.left t ∷ all) claim
Leads-Right t made [] claim small granted leads = absurd (cc)
Leads-Right t made (said.right u ∷ all) claim small granted (next, can, (new, makes, follows), leads) =
    let more =
    Leads-Answer (record { made = new; left = t; right = u }) all claim
    (subst (λ d. Leads d all claim) follows leads) in
    record {
      certificate = record { left = t; right = u; answer = more.answer };
      lines_are = ap (λ rest. said.start ∷ said.left t ∷ said.right u ∷ rest) more.lines_are;
      left = small;
      right = can;
      can = more.can;
      made = more.made;
      granted =
          parts-granted (variable ∷ []) (products t) (products u ++ answer_requests t u more.answer) made
          more.made granted
          (parts-granted made (products u) (answer_requests t u more.answer) new more.made makes.granted
          more.granted);
      is_right = more.is_right;
      claims = more.claims;
    }
Leads-Right t made (s ∷ all) claim small granted (next, can, follows, leads) = absurd follows

-- from the left term on
Leads-Left
    : (all : List Said) (claim : Claim)
    → Leads due.left all claim
    → IsCertified (said.start ∷ all) claim
Leads-Left [] claim leads = absurd (cc)
Leads-Left (said.left t ∷ all) claim (next, can, (new, makes, follows), leads) =
    Leads-Right t new all claim can makes.granted (subst (λ d. Leads d all claim) follows leads)
Leads-Left (s ∷ all) claim (next, can, follows, leads) = absurd follows

-- from the first line on
Leads-Start : (all : List Said) (claim : Claim) → Leads due.start all claim → IsCertified all claim
Leads-Start [] claim leads = absurd (cc)
Leads-Start (said.start ∷ all) claim (next, can, follows, leads) =
    Leads-Left all claim (subst (λ d. Leads d all claim) follows leads)
Leads-Start (s ∷ all) claim (next, can, follows, leads) = absurd follows

-- and back: an answer that is right and granted leads to the end
IsAnswer-Leads
    : (terms : Terms) (answer : Answer) (made : List Term)
    → IsAnswer answer
    → IsRightOf terms.left terms.right answer
    → ask_all (answered terms.made) (answer_requests terms.left terms.right answer) ≡ answered made
    → Leads (due.answer terms) (answer_lines answer)
    (claimed (record terms { made = made }) (told_answer answer))
IsAnswer-Leads terms (yes_by left right) made can (meet, one, two) granted = (
  due.left_step (unexpanded terms),
  tt,
  refl,
  AreSteps-Leads (unexpanded terms) left right made meet can.0 can.1 one two granted,
)
IsAnswer-Leads terms (no_by n) made can is_right granted = (
  due.finish (claimed terms (No n)),
  can,
  (IsRightOf-apart terms.left terms.right n is_right, refl),
  (
    due.passed (claimed terms (No n)),
    tt,
    refl,
    let same : terms.made ≡ made = cc in ap (λ z. Some (claimed (record terms { made = z }) (No n))) same,
  ),
)

-- the lines of an accepted certificate lead to what it claims
IsAccepted-Leads
    : (bytes : List ℕ) (c : Certificate)
    → IsAccepted bytes c
    → Leads due.start (certificate_lines c) (claim_of c)
IsAccepted-Leads bytes c is =
    let made = graph_of (certificate_requests c) in
    let answers = answer_requests c.left c.right c.answer in
    let lefts = granted-parts (variable ∷ []) (products c.left) (products c.right ++ answers) made is.granted in
    let rights = granted-parts lefts.mid (products c.right) answers made lefts.behind in
    let terms : Terms = record { made = rights.mid; left = c.left; right = c.right } in (
      due.left,
      tt,
      refl,
      (
        due.right lefts.mid c.left,
        is.left,
        (lefts.mid, record { granted = lefts.before }, refl),
        (
          due.answer terms,
          is.right,
          (rights.mid, record { granted = rights.before }, refl),
          IsAnswer-Leads terms c.answer made is.answer is.is_right rights.behind,
        ),
      ),
    )

-- a file that claims something is accepted
pub checked_of-accepted
    : (bytes : List ℕ) (claim : Claim)
    → checked_of bytes ≡ Ok claim
    → (c : Certificate) × IsAccepted bytes c × (claim ≡ claim_of c)
checked_of-accepted bytes claim checked =
    let said = checked_of-IsSaid certificate_file certificate_grammar bytes claim IsGrammarOf-certificate checked
    in
    let is = Leads-Start said.all claim said.leads in
    let c = is.certificate in
    let made : graph_of (certificate_requests c) ≡ is.made = ap terms_granted is.granted in
    let accepted : IsAccepted bytes c = record {
      text = said.text ∙ ap text_of is.lines_are ∙ sym (certificate_text-lines c);
      left = is.left;
      right = is.right;
      answer = is.can;
      granted = is.granted ∙ ap answered (sym made);
      is_right = is.is_right;
    } in
    (c, accepted, is.claims ∙ ap (λ z. record (claim_of c) { made = z }) (sym made))

-- a file that is accepted claims what its certificate claims
pub accepted-checked_of
    : (bytes : List ℕ) (c : Certificate)
    → IsAccepted bytes c
    → checked_of bytes ≡ Ok (claim_of c)
accepted-checked_of bytes c is =
    IsSaid-checked_of certificate_file certificate_grammar bytes (claim_of c) IsGrammarOf-certificate (record {
      all = certificate_lines c;
      text = is.text ∙ certificate_text-lines c;
      leads = IsAccepted-Leads bytes c is;
    })

-- a file claims something exactly where it is accepted
pub checked_of-IsAccepted
    : (bytes : List ℕ) (claim : Claim)
    → (checked_of bytes ≡ Ok claim) ↔ ((c : Certificate) × IsAccepted bytes c × (claim ≡ claim_of c))
checked_of-IsAccepted bytes claim = (checked_of-accepted bytes claim, back)
  where
    back : (c : Certificate) × IsAccepted bytes c × (claim ≡ claim_of c) → checked_of bytes ≡ Ok claim
    back (c, is, claims) = accepted-checked_of bytes c is ∙ ap (λ z. Ok z) (sym claims)
