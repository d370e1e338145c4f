-- The lines of a path, put together from those of its parts, and the text of its certificate.
use Rattle.std.proofs.Common.{◌≡◌, ℕ, List, [], ◌∷◌, ◌++◌, append_assoc, append-nil, codes, refl, sym, ap, ap₂, ◌∙◌}
use Rattle.std.specs.List.{flat_map}
use Rattle.std.proofs.lemmas.Grind.{flat_map-append}
use Rattle.wb_base.specs.Lines.{line}
use Rattle.ld_term.specs.Terms.{Term, multiply, derived}
use Rattle.ld_term.specs.StrictTexts.{strict_text}
use Rattle.ld_cert.specs.Certificates.{below, spread, path, path_certificate}
use Rattle.ld_cert.specs.CertificateText.{left_line, certificate_text}
use Rattle.ld_cert.specs.Derivations.{lines_below}

-- ---- Lines of parts ----

-- addresses below a side of the part at a place
lines_below-below
    : (place : List ℕ) (side : ℕ) (addresses : List (List ℕ))
    → lines_below place (below side addresses) ≡ lines_below (place ++ side ∷ []) addresses
lines_below-below place side [] = refl
lines_below-below place side (address ∷ addresses) =
    ap₂ (λ whole lines. left_line whole ++ lines) (sym (append_assoc place (side ∷ []) address))
    (lines_below-below place side addresses)

-- addresses of the left part, and then others
lines_below-append
    : (place part : List ℕ) (side : ℕ) (addresses others : List (List ℕ))
    → part ≡ place ++ side ∷ []
    → lines_below part addresses ++ lines_below place others
    ≡ lines_below place (below side addresses ++ others)
lines_below-append place part side addresses others is =
    ap (λ z. z ++ lines_below place others)
    (ap (λ z. lines_below z addresses) is ∙ sym (lines_below-below place side addresses))
    ∙ sym (flat_map-append (λ address. left_line (place ++ address)) (below side addresses) others)

-- three texts behind another
append_three
    : (text a b c one two three : List ℕ)
    → one ≡ text ++ a
    → two ≡ one ++ b
    → three ≡ two ++ c
    → three ≡ text ++ (a ++ (b ++ c))
append_three text a b c one two three first second third =
    third ∙ ap (λ z. z ++ c) (second ∙ ap (λ z. z ++ b) first) ∙ append_assoc (text ++ a) b c
    ∙ append_assoc text a (b ++ c)

-- ---- Paths ----

-- the line of an expansion, by its pieces
pub line-pieces
    : (text place : List ℕ)
    → ((text ++ codes "l .") ++ place) ++ 10 ∷ [] ≡ text ++ left_line place
line-pieces text place =
    append_assoc (text ++ codes "l .") place (10 ∷ [])
    ∙ append_assoc text (codes "l .") (place ++ 10 ∷ [])

-- the whole, and the spreads of both parts
pub spread-lines
    : (place left right text one two three : List ℕ) (t u w : Term)
    → w ≡ multiply t u
    → left ≡ place ++ 48 ∷ []
    → right ≡ place ++ 49 ∷ []
    → one ≡ text ++ left_line place
    → two ≡ one ++ lines_below left (spread t)
    → three ≡ two ++ lines_below right (spread u)
    → three ≡ text ++ lines_below place (spread w)
spread-lines place left right text one two three t u w is left_is right_is first second third =
    let lines = lines_below left (spread t) in
    let more = lines_below right (spread u) in
    let rest : lines ++ (more ++ [])
    ≡ lines_below place (below 48 (spread t) ++ (below 49 (spread u) ++ []))
    =
    ap (λ z. lines ++ z) (lines_below-append place right 49 (spread u) [] right_is)
    ∙ lines_below-append place left 48 (spread t) (below 49 (spread u) ++ []) left_is in
    let same : lines ++ more ≡ lines_below place (below 48 (spread t) ++ below 49 (spread u)) =
    ap (λ z. lines ++ z) (sym (append-nil more)) ∙ rest
    ∙ ap (λ z. lines_below place (below 48 (spread t) ++ z)) (append-nil (below 49 (spread u))) in
    append_three text (left_line place) lines more one two three first second third
    ∙ ap₂ (λ whole z. text ++ (left_line whole ++ z)) (sym (append-nil place)) same
    ∙ ap (λ z. text ++ lines_below place (spread z)) (sym is)

-- the paths of both parts, and the spread of the right one's derived term
pub path-lines
    : (place left right text one two three : List ℕ) (t u v w : Term)
    → w ≡ multiply t u
    → left ≡ place ++ 48 ∷ []
    → right ≡ place ++ 49 ∷ []
    → v ≡ derived u
    → one ≡ text ++ lines_below left (path t)
    → two ≡ one ++ lines_below right (path u)
    → three ≡ two ++ lines_below place (spread v)
    → three ≡ text ++ lines_below place (path w)
path-lines place left right text one two three t u v w is left_is right_is v_is first second third =
    let lines = lines_below left (path t) in
    let more = lines_below right (path u) in
    append_three text lines more (lines_below place (spread v)) one two three first second third
    ∙ ap (λ z. text ++ (lines ++ (more ++ lines_below place (spread z)))) v_is
    ∙ ap (λ z. text ++ (lines ++ z))
    (lines_below-append place right 49 (path u) (spread (derived u)) right_is)
    ∙ ap (λ z. text ++ z)
    (lines_below-append place left 48 (path t) (below 49 (path u) ++ spread (derived u)) left_is)
    ∙ ap (λ z. text ++ lines_below place (path z)) (sym is)

-- ---- Certificates ----

-- five texts behind another
regroup
    : (s a r b f e : List ℕ)
    → ((((s ++ a) ++ r) ++ b) ++ f) ++ e ≡ s ++ (a ++ (r ++ (b ++ (f ++ e))))
regroup s a r b f e = simp append_assoc

-- the lines of a yes without expansions of the right term
text-pieces
    : (s r f : List ℕ)
    → line (codes "ld-certificate 1")
    ++ (line (codes "left " ++ s)
    ++ (line (codes "right " ++ r) ++ ((line (codes "yes") ++ (f ++ [])) ++ line (codes "end"))))
    ≡ codes "ld-certificate 1\nleft "
    ++ (s ++ (codes "\nright " ++ (r ++ (codes "\nyes\n" ++ (f ++ codes "end\n")))))
text-pieces s r f =
    ap (λ z. line (codes "ld-certificate 1")
    ++ (line (codes "left " ++ s) ++ (line (codes "right " ++ r) ++ (codes "yes\n" ++ (z ++ codes "end\n")))))
    (append-nil f)
    ∙ ap (λ z. line (codes "ld-certificate 1") ++ (line (codes "left " ++ s) ++ (codes "right " ++ z)))
    (append_assoc r (codes "\n") (codes "yes\n" ++ (f ++ codes "end\n")))
    ∙ ap (λ z. codes "ld-certificate 1\nleft " ++ z)
    (append_assoc s (codes "\n")
    (codes "right " ++ (r ++ (codes "\n" ++ (codes "yes\n" ++ (f ++ codes "end\n"))))))

-- the text of the certificate of a path, by its pieces
pub certificate-pieces
    : (t u : Term) (none lines : List ℕ)
    → u ≡ derived t
    → none ≡ []
    → lines ≡ none ++ lines_below [] (path t)
    → (((((codes "ld-certificate 1\nleft " ++ strict_text t) ++ codes "\nright ") ++ strict_text u)
    ++ codes "\nyes\n") ++ lines) ++ codes "end\n"
    ≡ certificate_text (path_certificate t)
unfolding certificate_text
certificate-pieces t u none lines is empty are =
    let steps = flat_map left_line (path t) in
    let all : lines ≡ steps = are ∙ ap (λ z. z ++ lines_below [] (path t)) empty in
    regroup (codes "ld-certificate 1\nleft " ++ strict_text t) (codes "\nright ") (strict_text u)
    (codes "\nyes\n") lines (codes "end\n")
    ∙ ap₂ (λ v z. codes "ld-certificate 1\nleft " ++ (strict_text t ++ (codes "\nright " ++ (strict_text v
    ++ (codes "\nyes\n" ++ (z ++ codes "end\n")))))) is all
    ∙ sym (text-pieces (strict_text t) (strict_text (derived t)) steps)
