-- The codes by which a proof tells apart what is held of a certificate file. No public clause cites it.
--
--   coded_claim   the code of what a file claims
--   coded_state   that of what is due
use Rattle.std.specs.Prelude.{◌≡◌, ℕ, ◌==◌, if◌then◌else◌, List, [], ◌∷◌, Option, Some, None}
use Rattle.std.specs.Coded.{Coded, code_by, coded×, coded_ℕ, coded_list, coded_option}
use Rattle.std.proofs.Common.{refl}
use Rattle.ld_term.specs.Terms.{Term}
use Rattle.term_graph.specs.TermCodes.{coded_term}
use Rattle.ld_cert.specs.Accepted.{Claim}
use Rattle.ld_cert.specs.States.{Terms, Pair, State}
use Rattle.ld_cert.specs.States as due
use Rattle.ld_cert.specs.declared.checked.LdAnswer.{LdAnswer}
use Rattle.ld_cert.specs.declared.checked.LdAnswer.TheVariants.{Yes, No}

-- ---- Answers and claims ----

-- A no by its number, and a yes by none.
abbrev number_of : LdAnswer → Option ℕ
number_of Yes = None
number_of (No n) = Some n

abbrev answer_of : Option ℕ → LdAnswer
answer_of None = Yes
answer_of (Some n) = No n

pub answer_of-number_of : (answer : LdAnswer) → answer_of (number_of answer) ≡ answer
answer_of-number_of Yes = refl
answer_of-number_of (No n) = refl

abbrev coded_answer : Coded LdAnswer
coded_answer = code_by (Option ℕ) (coded_option coded_ℕ) number_of answer_of answer_of-number_of

-- A claim is its answer and its terms.
abbrev pub coded_claim : Coded Claim
coded_claim =
    code_by (LdAnswer × (List Term × (Term × Term)))
    (coded× coded_answer (coded× (coded_list coded_term) (coded× coded_term coded_term)))
    (λ c. (c.answer, (c.made, (c.left, c.right))))
    (λ parts. record { answer = parts.0; made = parts.1.0; left = parts.1.1.0; right = parts.1.1.1 })
    (λ _. refl)

-- ---- States ----

-- A state is a number that says which it is, the answer of a claim, and its terms, those of the graph last.
abbrev Packed : Type 0
Packed = ℕ × (LdAnswer × List Term)

abbrev pair_terms : Pair → List Term
pair_terms p = p.left_now ∷ (p.right_now ∷ (p.terms.left ∷ (p.terms.right ∷ p.terms.made)))

abbrev claim_terms : Claim → List Term
claim_terms c = c.left ∷ (c.right ∷ c.made)

abbrev packed : State → Packed
packed due.start = (0, (Yes, []))
packed due.left = (1, (Yes, []))
packed (due.right made t) = (2, (Yes, t ∷ made))
packed (due.answer terms) = (3, (Yes, terms.left ∷ (terms.right ∷ terms.made)))
packed (due.left_step pair) = (4, (Yes, pair_terms pair))
packed (due.right_step pair) = (5, (Yes, pair_terms pair))
packed (due.finish claim) = (6, (claim.answer, claim_terms claim))
packed (due.passed claim) = (7, (claim.answer, claim_terms claim))

abbrev unpacked_right : List Term → State
unpacked_right [] = due.start
unpacked_right (t ∷ made) = due.right made t

abbrev unpacked_answer : List Term → State
unpacked_answer (t ∷ (u ∷ made)) = due.answer (record { left = t; right = u; made = made })
unpacked_answer terms = due.start

abbrev unpacked_pair : (Pair → State) → List Term → State
unpacked_pair state (a ∷ (b ∷ (t ∷ (u ∷ made)))) =
    state (record { terms = record { left = t; right = u; made = made }; left_now = a; right_now = b })
unpacked_pair state terms = due.start

abbrev unpacked_claim : (Claim → State) → LdAnswer → List Term → State
unpacked_claim state answer (t ∷ (u ∷ made)) =
    state (record { answer = answer; left = t; right = u; made = made })
unpacked_claim state answer terms = due.start

abbrev unpacked : Packed → State
unpacked (k, (answer, terms)) =
    if k == 0 then due.start
    else (if k == 1 then due.left
    else (if k == 2 then unpacked_right terms
    else (if k == 3 then unpacked_answer terms
    else (if k == 4 then unpacked_pair due.left_step terms
    else (if k == 5 then unpacked_pair due.right_step terms
    else (if k == 6 then unpacked_claim due.finish answer terms
    else unpacked_claim due.passed answer terms))))))

pub unpacked-packed : (state : State) → unpacked (packed state) ≡ state
unpacked-packed due.start = refl
unpacked-packed due.left = refl
unpacked-packed (due.right made t) = refl
unpacked-packed (due.answer terms) = refl
unpacked-packed (due.left_step pair) = refl
unpacked-packed (due.right_step pair) = refl
unpacked-packed (due.finish claim) = refl
unpacked-packed (due.passed claim) = refl

abbrev pub coded_state : Coded State
coded_state =
    code_by Packed (coded× coded_ℕ (coded× coded_answer (coded_list coded_term))) packed unpacked unpacked-packed
