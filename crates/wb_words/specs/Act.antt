-- The command `act N I L`: the image of a generator of the free group under a word.
--
-- Source: this project's own; the action is that of E. Artin, Theorie der Zöpfe, 1925.
--
--   ActNumbers                   the number of strands, the index of a generator, and the limit of an image
--   acted I L w                  the answer on the word w
--   acted_word I L word          the answer on what an input has
--   HasImage N I L input text    the text is the image of a generator under the word of the input
--   act_meaning ..               what the command means
--   act_of words                 the numbers of its words
use Rattle.std.specs.Prelude.{◌≡◌, ℕ, ◌≤◌, ◌&&◌, not, Bool, false, nat_lt, if◌then◌else◌, List, [], ◌∷◌, length, codes, Option, Result, Ok, Err}
use Rattle.wb_base.specs.Lines.{line}
use Rattle.wb_base.specs.Status.{Answer, answer}
use Rattle.wb_base.specs.declared.status.Status.TheVariants.{Done}
use Rattle.braid_word.specs.Words.{Letter}
use Rattle.free_word.specs.FreeWords.{Gen, gen}
use Rattle.free_word.specs.FreeText.{free_text}
use Rattle.artin_laws.specs.Action.{act, ImagesFit}
use Rattle.wb_command.specs.declared.fault.Fault.{Fault}
use Rattle.wb_command.specs.Answers.{bad_input, limit_met}
use Rattle.wb_command.specs.Inputs.{one_word}
use Rattle.wb_command.specs.Args.{then_read, first_number, last_read, rest_of}
use Rattle.wb_command.specs.Meaning.{Meaning, reads_whole}
use Rattle.wb_command.specs.declared.TheConstants.{MAX_STRANDS}
use Rattle.wb_words.specs.declared.TheConstants.{MAX_IMAGE}

pub record ActNumbers : Type 0 where
  pub strands : ℕ
  pub index : ℕ
  pub limit : ℕ

-- The generator is one of those that the strands have.
pub record AreActNumbers (n : ActNumbers) : Type 0 where
  pub strands : n.strands ≤ MAX_STRANDS
  pub first : 1 ≤ n.index
  pub last : n.index ≤ n.strands
  pub least : 1 ≤ n.limit
  pub most : n.limit ≤ MAX_IMAGE

-- ---- Answers ----

-- The line of an image.
abbrev pub image_answer : List Gen → Answer
image_answer f = answer Done (line (free_text f))

-- Whether the image after each suffix of a word, the empty and the whole one too, is short enough.
abbrev pub images_fit : ℕ → List Letter → List Gen → Bool
images_fit limit [] f = not (nat_lt limit (length f))
images_fit limit (x ∷ w) f = images_fit limit w f && not (nat_lt limit (length (act (x ∷ w) f)))

-- The image of a generator under a word, where no image is too long.
abbrev pub acted : ℕ → ℕ → List Letter → Answer
acted index limit w =
    if images_fit limit w (gen index false ∷ [])
    then image_answer (act w (gen index false ∷ []))
    else limit_met (codes "image ") limit

-- The answer on what an input has: a word, or a fault.
abbrev pub acted_word : ℕ → ℕ → Result (List Letter) Fault → Answer
acted_word index limit (Err fault) = bad_input fault
acted_word index limit (Ok w) = acted index limit w

-- ---- The command ----

-- The input is a word on so many strands, and the text the image of a generator under it; no image after a
-- suffix of the word is longer than it may be.
pub record HasImage (strands index limit : ℕ) (input text : List ℕ) : Type 0 where
  pub word : List Letter
  pub read : one_word strands input ≡ Ok word
  pub fits : ImagesFit limit word (gen index false ∷ [])
  pub is : text ≡ line (free_text (act word (gen index false ∷ [])))

abbrev pub act_meaning : ActNumbers → Meaning
act_meaning n = record {
  reads = reads_whole;
  answers = λ input a. acted_word n.index n.limit (one_word n.strands input) ≡ a;
  says = λ input text. HasImage n.strands n.index n.limit input text;
  refuses = λ input text. ⊥;
  serves = λ before now s. Unit {0};
}

abbrev pub act_of : List (List ℕ) → Option ActNumbers
act_of words =
    then_read (first_number 2 MAX_STRANDS words) (λ strands.
    then_read (first_number 1 strands (rest_of words)) (λ index.
    then_read (first_number 1 MAX_IMAGE (rest_of (rest_of words))) (λ limit.
    last_read (rest_of (rest_of (rest_of words)))
    (record { strands = strands; index = index; limit = limit }))))
