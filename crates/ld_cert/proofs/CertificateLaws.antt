-- The lines of the text of a certificate.
--
-- The text is that of its lines (`certificate_text-lines`), and of no other certificate that can be written
-- (`certificate_text-inj`).
use Rattle.std.proofs.Common.{◌≡◌, ℕ, List, [], ◌∷◌, ◌++◌, append_assoc, map, flat_map, codes, decimal, refl, sym, ap, ap₂, ◌∙◌, arith}
use Rattle.std.specs.List.{AllByRecursion}
use Rattle.std.proofs.lemmas.List.{append_cancel_left}
use Rattle.wb_base.specs.Lines.{lines_of, line, HasNoLf}
use Rattle.wb_base.proofs.LineLemmas.{lines_of-flat_map}
use Rattle.wb_base.proofs.NumberLemmas.{digits_value-of_decimal}
use Rattle.wb_base.proofs.PartLemmas.{first_is, rest_is}
use Rattle.std.specs.Str.Parse.{digits_value}
use Rattle.ld_term.specs.StrictTexts.{strict_text}
use Rattle.ld_term.proofs.StrictLemmas.{strict_text-inj}
use Rattle.term_expand.specs.Expansions.{IsAddress}
use Rattle.ld_cert.specs.Certificates.{Answer, yes_by, no_by, Certificate}
use Rattle.ld_cert.specs.CertificateText.{left_line, right_line, answer_text, certificate_text}
use Rattle.ld_cert.specs.Accepted.{IsReadable, IsAnswer, IsAccepted}
use Rattle.ld_cert.proofs.ListLemmas.{all_append, all_map}
use Rattle.ld_cert.proofs.SaidLaws.{Said, line_text, IsLine, line_text-no_lf}
use Rattle.ld_cert.proofs.SaidLaws as said

-- ---- The lines of a text ----

-- The lines of the expansions of the right term and of the end.
abbrev pub right_lines : List (List ℕ) → List Said
right_lines right = map said.right_step right ++ (said.finish ∷ [])

-- The same with those of the left term in front.
abbrev pub step_lines : List (List ℕ) → List (List ℕ) → List Said
step_lines left right = map said.left_step left ++ right_lines right

-- The lines of an answer and of the end.
abbrev pub answer_lines : Answer → List Said
answer_lines (yes_by left right) = said.yes ∷ step_lines left right
answer_lines (no_by n) = said.no_by n ∷ said.finish ∷ []

-- The lines of a certificate.
abbrev pub certificate_lines : Certificate → List Said
certificate_lines c = said.start ∷ said.left c.left ∷ said.right c.right ∷ answer_lines c.answer

-- The text of lines.
abbrev pub text_of : List Said → List ℕ
text_of all = flat_map line (map line_text all)

-- lines of expansions, and others behind them
text_of-lefts
    : (left : List (List ℕ)) (more : List Said)
    → text_of (map said.left_step left ++ more) ≡ flat_map left_line left ++ text_of more
text_of-lefts [] more = refl
text_of-lefts (address ∷ left) more =
    ap (λ z. left_line address ++ z) (text_of-lefts left more)
    ∙ sym (append_assoc (left_line address) (flat_map left_line left) (text_of more))

text_of-rights
    : (right : List (List ℕ)) (more : List Said)
    → text_of (map said.right_step right ++ more) ≡ flat_map right_line right ++ text_of more
text_of-rights [] more = refl
text_of-rights (address ∷ right) more =
    ap (λ z. right_line address ++ z) (text_of-rights right more)
    ∙ sym (append_assoc (right_line address) (flat_map right_line right) (text_of more))

-- an answer and the end
answer_text-lines : (answer : Answer) → answer_text answer ++ line (codes "end") ≡ text_of (answer_lines answer)
answer_text-lines (yes_by left right) =
    let lefts = flat_map left_line left in
    let rights = flat_map right_line right in
    ap (λ z. line (codes "yes") ++ z)
    (append_assoc lefts rights (line (codes "end"))
    ∙ sym (text_of-lefts left (right_lines right)
    ∙ ap (λ z. lefts ++ z) (text_of-rights right (said.finish ∷ []))))
answer_text-lines (no_by n) = refl

-- the text of a certificate is that of its lines
pub certificate_text-lines : (c : Certificate) → certificate_text c ≡ text_of (certificate_lines c)
unfolding certificate_text
certificate_text-lines c =
    ap (λ z. line (codes "ld-certificate 1") ++ (line (codes "left" ++ 32 ∷ strict_text c.left)
    ++ (line (codes "right" ++ 32 ∷ strict_text c.right) ++ z))) (answer_text-lines c.answer)

-- ---- One certificate of a text ----

-- addresses that are written alike are one list
right_lines-inj
    : (right other : List (List ℕ))
    → map line_text (right_lines right) ≡ map line_text (right_lines other)
    → right ≡ other
right_lines-inj [] [] same = refl
right_lines-inj [] (b ∷ other) same = absurd (let texts = first_is same in let byte = first_is texts in omega arith)
right_lines-inj (a ∷ right) [] same = absurd (let texts = first_is same in let byte = first_is texts in omega arith)
right_lines-inj (a ∷ right) (b ∷ other) same =
    ap₂ (λ address addresses. address ∷ addresses) (append_cancel_left (codes "r .") a b (first_is same))
    (right_lines-inj right other (rest_is same))

-- Two lists of addresses.
record AreAlike (left right left_other right_other : List (List ℕ)) : Type 0 where
  lefts : left ≡ left_other
  rights : right ≡ right_other

-- a line of the left term is none of the right one, and no end
right_lines-left
    : (right : List (List ℕ)) (address : List ℕ) (more : List (List ℕ))
    → map line_text (right_lines right) ≡ (codes "l ." ++ address) ∷ more
    → ⊥
right_lines-left [] address more same = absurd (let byte = first_is (first_is same) in omega arith)
right_lines-left (a ∷ right) address more same = absurd (let byte = first_is (first_is same) in omega arith)

step_lines-inj
    : (left right left_other right_other : List (List ℕ))
    → map line_text (step_lines left right) ≡ map line_text (step_lines left_other right_other)
    → AreAlike left right left_other right_other
step_lines-inj [] right [] right_other same =
    record { lefts = refl; rights = right_lines-inj right right_other same }
step_lines-inj [] right (b ∷ left_other) right_other same = absurd (right_lines-left right b _ same)
step_lines-inj (a ∷ left) right [] right_other same = absurd (right_lines-left right_other a _ (sym same))
step_lines-inj (a ∷ left) right (b ∷ left_other) right_other same =
    let more = step_lines-inj left right left_other right_other (rest_is same) in
    record {
      lefts =
          ap₂ (λ address addresses. address ∷ addresses) (append_cancel_left (codes "l .") a b (first_is same))
          more.lefts;
      rights = more.rights;
    }

-- answers that are written alike are one
answer_lines-inj
    : (answer other : Answer)
    → IsAnswer answer
    → IsAnswer other
    → map line_text (answer_lines answer) ≡ map line_text (answer_lines other)
    → answer ≡ other
answer_lines-inj (yes_by left right) (yes_by left_other right_other) can also same =
    let lists = step_lines-inj left right left_other right_other (rest_is same) in
    ap₂ yes_by lists.lefts lists.rights
answer_lines-inj (yes_by left right) (no_by n) can also same =
    absurd (let byte = first_is (first_is same) in omega arith)
answer_lines-inj (no_by n) (yes_by left right) can also same =
    absurd (let byte = first_is (first_is same) in omega arith)
answer_lines-inj (no_by n) (no_by m) can also same =
    let digits : decimal n ≡ decimal m = append_cancel_left (codes "no ") (decimal n) (decimal m) (first_is same) in
    ap no_by (sym (digits_value-of_decimal n (omega (arith, can))) ∙ ap (digits_value 10) digits
    ∙ digits_value-of_decimal m (omega (arith, also)))

-- each line of a certificate can be said
steps-IsLine
    : (left right : List (List ℕ))
    → AllByRecursion IsAddress left
    → AllByRecursion IsAddress right
    → AllByRecursion IsLine (step_lines left right)
steps-IsLine left right lefts rights =
    all_append IsLine (map said.left_step left) (right_lines right)
    (all_map IsAddress IsLine said.left_step left (λ address is. is) lefts)
    (all_append IsLine (map said.right_step right) (said.finish ∷ [])
    (all_map IsAddress IsLine said.right_step right (λ address is. is) rights) (tt, tt))

answer-IsLine : (answer : Answer) → IsAnswer answer → AllByRecursion IsLine (answer_lines answer)
answer-IsLine (yes_by left right) can = (tt, steps-IsLine left right can.0 can.1)
answer-IsLine (no_by n) can = (can, (tt, tt))

-- so the text is cut into these lines
lines_of-text
    : (c : Certificate)
    → IsReadable c.left
    → IsReadable c.right
    → IsAnswer c.answer
    → lines_of (certificate_text c) ≡ map line_text (certificate_lines c)
lines_of-text c left right can =
    ap lines_of (certificate_text-lines c)
    ∙ lines_of-flat_map (map line_text (certificate_lines c))
    (all_map IsLine HasNoLf line_text (certificate_lines c) (λ s is. line_text-no_lf s is)
    (tt, (left, (right, answer-IsLine c.answer can))))

-- certificates with one text are one
certificate_text-inj
    : (c d : Certificate)
    → IsReadable c.left
    → IsReadable c.right
    → IsAnswer c.answer
    → IsReadable d.left
    → IsReadable d.right
    → IsAnswer d.answer
    → certificate_text c ≡ certificate_text d
    → c ≡ d
certificate_text-inj c d left right can left_too right_too also text =
    let same : map line_text (certificate_lines c) ≡ map line_text (certificate_lines d)
    = sym (lines_of-text c left right can) ∙ ap lines_of text ∙ lines_of-text d left_too right_too also in
    let lefts : strict_text c.left ≡ strict_text d.left
    = append_cancel_left (codes "left ") _ _ (first_is (rest_is same)) in
    let rights : strict_text c.right ≡ strict_text d.right
    = append_cancel_left (codes "right ") _ _ (first_is (rest_is (rest_is same))) in
    let answers = answer_lines-inj c.answer d.answer can also (rest_is (rest_is (rest_is same))) in
    same_certificates c d (strict_text-inj c.left d.left lefts) (strict_text-inj c.right d.right rights) answers
  where
    same_certificates
        : (c d : Certificate)
        → c.left ≡ d.left
        → c.right ≡ d.right
        → c.answer ≡ d.answer
        → c ≡ d
    same_certificates c d left right answer =
        λ i. record { left = left i; right = right i; answer = answer i }

-- a file is the text of one accepted certificate at most
pub IsAccepted-unique
    : (bytes : List ℕ) (c d : Certificate)
    → IsAccepted bytes c
    → IsAccepted bytes d
    → c ≡ d
IsAccepted-unique bytes c d one two =
    certificate_text-inj c d one.left one.right one.answer two.left two.right two.answer
    (sym one.text ∙ two.text)
