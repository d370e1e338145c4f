-- Laws of the command `act`.
--
-- Its answer is the one that it is defined to have (`acted-fits`, `acted-long`), and what that says of the
-- input
-- holds (`IsSound-act`).
use Rattle.std.proofs.Common.{◌≡◌, ℕ, ◌≤◌, Bool, true, false, not, ltb, cond, List, [], ◌∷◌, ◌++◌, length, codes, Result, Ok, Err, refl, sym, ap, subst, ◌∙◌}
use Rattle.std.proofs.lemmas.Bool.{le-ltb, ltb-false, and_parts, and_from}
use Rattle.wb_base.specs.Status.{Answer}
use Rattle.wb_base.specs.declared.status.Status.TheVariants.{Done, Refused, Input, Limit}
use Rattle.braid_word.specs.Words.{Letter}
use Rattle.free_word.specs.FreeWords.{Gen, gen}
use Rattle.artin_laws.specs.Action.{act, ImagesFit}
use Rattle.wb_command.specs.declared.fault.Fault.{Fault}
use Rattle.wb_command.specs.Answers.{limit_met}
use Rattle.wb_command.specs.Inputs.{one_word}
use Rattle.wb_command.specs.Meaning.{IsSound}
use Rattle.wb_words.specs.Act.{ActNumbers, image_answer, images_fit, acted, acted_word, HasImage, act_meaning}

-- ---- Lengths of images ----

-- a length that is no more than a limit
test-short : (limit size : ℕ) → size ≤ limit → not (ltb limit size) ≡ true
test-short limit size short = rw (le-ltb limit size short) refl

-- and back
short-test : (limit size : ℕ) → not (ltb limit size) ≡ true → size ≤ limit
short-test limit size short = go (ltb limit size) refl short
  where
    go : (long : Bool) → ltb limit size ≡ long → not long ≡ true → size ≤ limit
    go true long other = absurd cc
    go false long other = ltb-false limit size long

-- where each image passes the test, each is short enough
images_fit-ImagesFit
    : (limit : ℕ) (w : List Letter) (f : List Gen)
    → images_fit limit w f ≡ true
    → ImagesFit limit w f
images_fit-ImagesFit limit [] f fit [] v is =
    subst (λ (z : List Letter). length (act z f) ≤ limit) is (short-test limit (length f) fit)
images_fit-ImagesFit limit [] f fit (y ∷ u) v is = absurd (cc)
images_fit-ImagesFit limit (x ∷ w) f fit [] v is =
    let (rest, whole) = and_parts (images_fit limit w f) _ fit in
    subst (λ (z : List Letter). length (act z f) ≤ limit) is (short-test limit (length (act (x ∷ w) f)) whole)
images_fit-ImagesFit limit (x ∷ w) f fit (y ∷ u) v is =
    let (rest, whole) = and_parts (images_fit limit w f) _ fit in
    images_fit-ImagesFit limit w f rest u v (let same : w ≡ u ++ v = cc in same)

-- and back
ImagesFit-images_fit
    : (limit : ℕ) (w : List Letter) (f : List Gen)
    → ImagesFit limit w f
    → images_fit limit w f ≡ true
ImagesFit-images_fit limit [] f fit = test-short limit (length f) (fit [] [] refl)
ImagesFit-images_fit limit (x ∷ w) f fit =
    and_from (images_fit limit w f) _
    (ImagesFit-images_fit limit w f (λ u v is. fit (x ∷ u) v (ap (λ z. x ∷ z) is)))
    (test-short limit (length (act (x ∷ w) f)) (fit [] (x ∷ w) refl))

-- ---- What is answered ----

-- what is answered of an image
pub acted-fits
    : (index limit : ℕ) (w : List Letter) (f : List Gen)
    → f ≡ act w (gen index false ∷ [])
    → ImagesFit limit w (gen index false ∷ [])
    → acted index limit w ≡ image_answer f
acted-fits index limit w f is fit =
    rw (ImagesFit-images_fit limit w (gen index false ∷ []) fit, is) refl

-- and of one that is too long
pub acted-long
    : (index limit : ℕ) (w : List Letter)
    → (ImagesFit limit w (gen index false ∷ []) → ⊥)
    → acted index limit w ≡ limit_met (codes "image ") limit
acted-long index limit w long = go (images_fit limit w (gen index false ∷ [])) refl
  where
    go
        : (fit : Bool)
        → images_fit limit w (gen index false ∷ []) ≡ fit
        → acted index limit w ≡ limit_met (codes "image ") limit
    go true fit = absurd (long (images_fit-ImagesFit limit w (gen index false ∷ []) fit))
    go false fit = rw fit refl

-- an image that is answered is the image
HasImage-acted
    : (strands index limit : ℕ) (input : List ℕ) (words : Result (List Letter) Fault) (a : Answer)
    → one_word strands input ≡ words
    → acted_word index limit words ≡ a
    → a.status ≡ Done
    → HasImage strands index limit input a.text
HasImage-acted strands index limit input (Err fault) a words is done =
    let other : Input ≡ Done = ap (λ (b : Answer). b.status) is ∙ done in absurd (cc)
HasImage-acted strands index limit input (Ok w) a words is done =
    go (images_fit limit w (gen index false ∷ [])) refl is
  where
    go
        : (fit : Bool)
        → images_fit limit w (gen index false ∷ []) ≡ fit
        → cond fit (image_answer (act w (gen index false ∷ []))) (limit_met (codes "image ") limit) ≡ a
        → HasImage strands index limit input a.text
    go true fit is = record {
      word = w;
      read = words;
      fits = images_fit-ImagesFit limit w (gen index false ∷ []) fit;
      is = ap (λ (b : Answer). b.text) (sym is);
    }
    go false fit is = let other : Limit ≡ Done = ap (λ (b : Answer). b.status) is ∙ done in absurd (cc)

-- nothing is refused as a trace file is
acted_word-Refused
    : (index limit : ℕ) (words : Result (List Letter) Fault) (a : Answer)
    → acted_word index limit words ≡ a
    → a.status ≡ Refused
    → ⊥
acted_word-Refused index limit (Err fault) a is refused =
    let other : Input ≡ Refused = ap (λ (b : Answer). b.status) is ∙ refused in cc
acted_word-Refused index limit (Ok w) a is refused =
    go (images_fit limit w (gen index false ∷ [])) is
  where
    go
        : (fit : Bool)
        → cond fit (image_answer (act w (gen index false ∷ []))) (limit_met (codes "image ") limit) ≡ a
        → ⊥
    go true is = let other : Done ≡ Refused = ap (λ (b : Answer). b.status) is ∙ refused in cc
    go false is = let other : Limit ≡ Refused = ap (λ (b : Answer). b.status) is ∙ refused in cc

-- `act` is sound
pub IsSound-act : (n : ActNumbers) → IsSound (act_meaning n)
IsSound-act n = record {
  one = λ input a b first second. sym first ∙ second;
  promised = λ input a. HasImage-acted n.strands n.index n.limit input (one_word n.strands input) a refl;
  refused = λ input a. acted_word-Refused n.index n.limit (one_word n.strands input) a;
  alone = λ nothing. absurd cc;
  plain = λ pieces before now s. tt;
}
