-- The text of a product is put in five calls.
use Rattle.std.proofs.Common.{[], ◌∷◌, ◌++◌, refl, ap}
use Rattle.wb_base.proofs.StreamLemmas.{Puts-stopped, Puts-stopped_after, Puts-more, append_known-two}
use Rattle.wb_base.proofs.WaitingLemmas.{waits-stopped, waits-stopped_after, waits-more}
use Rattle.ld_term.specs.TermTexts.{term_text}
use Rattle.ld_term.specs.TreeTexts.{written}
use Rattle.ld_term.proofs.TextLemmas.{cut-left, cut-star, cut-right}
use Rattle.ld_term.proofs.writer.+put_term.Goals as goal

pub returns-in_err-give_all-in-Product-clause-took : goal.returns-in_err-give_all-in-Product-clause-took
returns-in_err-give_all-in-Product-clause-took g t c =
    let left = term_text (written c.in-Product.left.value) in
    let right = term_text (written c.in-Product.right.value) in
    Puts-stopped _ _ _ _ (40 ∷ []) (left ++ (42 ∷ (right ++ (41 ∷ []))))
    (ap (λ z. term_text (written z)) c.in-Product.is) c.from_residual.ensures.0
    c.in_err-give_all-in-Product.ensures.took

pub returns-in_err-put_term-in-Product-clause-took : goal.returns-in_err-put_term-in-Product-clause-took
returns-in_err-put_term-in-Product-clause-took g t c =
    let left = term_text (written c.in-Product.left.value) in
    let right = term_text (written c.in-Product.right.value) in
    let whole = ap (λ z. term_text (written z)) c.in-Product.is in
    Puts-stopped_after _ _ _ _ _ (40 ∷ []) left (42 ∷ (right ++ (41 ∷ [])))
    (cut-left _ left right whole) c.from_residual-in_err-put_term-in-Product.ensures.0
    c.in_ok-give_all-in-Product.ensures.took (rw c.deref.ensures at c.in_err-put_term-in-Product.ensures.took)

pub returns-in_err-give_all-in-Product-2-clause-took : goal.returns-in_err-give_all-in-Product-2-clause-took
returns-in_err-give_all-in-Product-2-clause-took g t c =
    let left = term_text (written c.in-Product.left.value) in
    let right = term_text (written c.in-Product.right.value) in
    let whole = ap (λ z. term_text (written z)) c.in-Product.is in
    let first = append_known-two _ _ _ (40 ∷ []) left c.in_ok-give_all-in-Product.ensures.took
    (rw c.deref.ensures at c.in_ok-put_term-in-Product.ensures.took) in
    Puts-stopped_after _ _ _ _ _ ((40 ∷ []) ++ left) (42 ∷ []) (right ++ (41 ∷ []))
    (cut-star _ left right whole) c.from_residual-in_err-give_all-in-Product-2.ensures.0
    first c.in_err-give_all-in-Product-2.ensures.took

pub returns-in_err-put_term-in-Product-2-clause-took : goal.returns-in_err-put_term-in-Product-2-clause-took
returns-in_err-put_term-in-Product-2-clause-took g t c =
    let left = term_text (written c.in-Product.left.value) in
    let right = term_text (written c.in-Product.right.value) in
    let whole = ap (λ z. term_text (written z)) c.in-Product.is in
    let first = append_known-two _ _ _ (40 ∷ []) left c.in_ok-give_all-in-Product.ensures.took
    (rw c.deref.ensures at c.in_ok-put_term-in-Product.ensures.took) in
    let second =
    append_known-two _ _ _ ((40 ∷ []) ++ left) (42 ∷ []) first
    c.in_ok-give_all-in-Product-2.ensures.took in
    Puts-stopped_after _ _ _ _ _ (((40 ∷ []) ++ left) ++ (42 ∷ [])) right (41 ∷ [])
    (cut-right _ left right whole) c.from_residual-in_err-put_term-in-Product-2.ensures.0
    second (rw c.deref-in-Product.ensures at c.in_err-put_term-in-Product-2.ensures.took)

pub returns-in_ok-put_term-in-Product-2-clause-took : goal.returns-in_ok-put_term-in-Product-2-clause-took
returns-in_ok-put_term-in-Product-2-clause-took g t c =
    let left = term_text (written c.in-Product.left.value) in
    let right = term_text (written c.in-Product.right.value) in
    let whole = ap (λ z. term_text (written z)) c.in-Product.is in
    let first = append_known-two _ _ _ (40 ∷ []) left c.in_ok-give_all-in-Product.ensures.took
    (rw c.deref.ensures at c.in_ok-put_term-in-Product.ensures.took) in
    let second =
    append_known-two _ _ _ ((40 ∷ []) ++ left) (42 ∷ []) first
    c.in_ok-give_all-in-Product-2.ensures.took in
    let third = append_known-two _ _ _ (((40 ∷ []) ++ left) ++ (42 ∷ [])) right second
    (rw c.deref-in-Product.ensures at c.in_ok-put_term-in-Product-2.ensures.took) in
    Puts-more _ _ _ _ _ ((((40 ∷ []) ++ left) ++ (42 ∷ [])) ++ right) (41 ∷ [])
    (cut-right _ left right whole) third c.give_all-in-Product-3.ensures.took

pub returns-in_err-give_all-in-Product-clause-waits : goal.returns-in_err-give_all-in-Product-clause-waits
returns-in_err-give_all-in-Product-clause-waits g t c =
    let left = term_text (written c.in-Product.left.value) in
    let right = term_text (written c.in-Product.right.value) in
    waits-stopped _ _ _ (40 ∷ []) (left ++ (42 ∷ (right ++ (41 ∷ []))))
    (ap (λ z. term_text (written z)) c.in-Product.is) c.in_err-give_all-in-Product.ensures.waits

pub returns-in_err-put_term-in-Product-clause-waits : goal.returns-in_err-put_term-in-Product-clause-waits
returns-in_err-put_term-in-Product-clause-waits g t c =
    let left = term_text (written c.in-Product.left.value) in
    let right = term_text (written c.in-Product.right.value) in
    let whole = ap (λ z. term_text (written z)) c.in-Product.is in
    waits-stopped_after _ _ _ _ (40 ∷ []) left (42 ∷ (right ++ (41 ∷ [])))
    (cut-left _ left right whole) c.in_ok-give_all-in-Product.ensures.waits
    (rw c.deref.ensures at c.in_err-put_term-in-Product.ensures.waits)

pub returns-in_err-give_all-in-Product-2-clause-waits : goal.returns-in_err-give_all-in-Product-2-clause-waits
returns-in_err-give_all-in-Product-2-clause-waits g t c =
    let left = term_text (written c.in-Product.left.value) in
    let right = term_text (written c.in-Product.right.value) in
    let whole = ap (λ z. term_text (written z)) c.in-Product.is in
    let first = waits-more _ _ _ _ (40 ∷ []) left refl c.in_ok-give_all-in-Product.ensures.waits
    (rw c.deref.ensures at c.in_ok-put_term-in-Product.ensures.waits) in
    waits-stopped_after _ _ _ _ ((40 ∷ []) ++ left) (42 ∷ []) (right ++ (41 ∷ []))
    (cut-star _ left right whole) first c.in_err-give_all-in-Product-2.ensures.waits

pub returns-in_err-put_term-in-Product-2-clause-waits : goal.returns-in_err-put_term-in-Product-2-clause-waits
returns-in_err-put_term-in-Product-2-clause-waits g t c =
    let left = term_text (written c.in-Product.left.value) in
    let right = term_text (written c.in-Product.right.value) in
    let whole = ap (λ z. term_text (written z)) c.in-Product.is in
    let first = waits-more _ _ _ _ (40 ∷ []) left refl c.in_ok-give_all-in-Product.ensures.waits
    (rw c.deref.ensures at c.in_ok-put_term-in-Product.ensures.waits) in
    let second =
    waits-more _ _ _ _ ((40 ∷ []) ++ left) (42 ∷ []) refl first
    c.in_ok-give_all-in-Product-2.ensures.waits in
    waits-stopped_after _ _ _ _ (((40 ∷ []) ++ left) ++ (42 ∷ [])) right (41 ∷ [])
    (cut-right _ left right whole) second
    (rw c.deref-in-Product.ensures at c.in_err-put_term-in-Product-2.ensures.waits)

pub returns-in_ok-put_term-in-Product-2-clause-waits : goal.returns-in_ok-put_term-in-Product-2-clause-waits
returns-in_ok-put_term-in-Product-2-clause-waits g t c =
    let left = term_text (written c.in-Product.left.value) in
    let right = term_text (written c.in-Product.right.value) in
    let whole = ap (λ z. term_text (written z)) c.in-Product.is in
    let first = waits-more _ _ _ _ (40 ∷ []) left refl c.in_ok-give_all-in-Product.ensures.waits
    (rw c.deref.ensures at c.in_ok-put_term-in-Product.ensures.waits) in
    let second =
    waits-more _ _ _ _ ((40 ∷ []) ++ left) (42 ∷ []) refl first
    c.in_ok-give_all-in-Product-2.ensures.waits in
    let third = waits-more _ _ _ _ (((40 ∷ []) ++ left) ++ (42 ∷ [])) right refl second
    (rw c.deref-in-Product.ensures at c.in_ok-put_term-in-Product-2.ensures.waits) in
    waits-more _ _ _ _ ((((40 ∷ []) ++ left) ++ (42 ∷ [])) ++ right) (41 ∷ [])
    (cut-right _ left right whole) third c.give_all-in-Product-3.ensures.waits
