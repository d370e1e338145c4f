-- What commands answer in place of what they are asked for.
--
-- Source: this project's own.
--
--   input_met            an input has too many bytes
--   height_met, nodes_met, index_met   a term is too high, a graph too large, an index too great
--   length_needed L k                  a braid word of k letters may have L
--   refusal_answer refusal             the answer that a refusal is
--   refused_line k why                 the line of a file that isn't accepted, as `refused 4 step`
--   comes_answer answer_of outcome     the answer that an outcome is: a refusal, or what `answer_of` says
use Rattle.std.specs.Prelude.{ℕ, List, ◌∷◌, ◌++◌, codes, decimal}
use Rattle.wb_base.specs.Lines.{line}
use Rattle.wb_base.specs.Status.{Answer, answer}
use Rattle.wb_base.specs.declared.status.Status.TheVariants.{Limit}
use Rattle.wb_command.specs.declared.TheConstants.{MAX_INPUT}
use Rattle.braid_word.specs.declared.TheConstants.{MAX_INDEX}
use Rattle.ld_term.specs.declared.TheConstants.{MAX_HEIGHT}
use Rattle.term_graph.specs.declared.TheConstants.{MAX_NODES}
use Rattle.wb_command.specs.declared.refusal.Refusal.{Refusal}
use Rattle.wb_command.specs.declared.refusal.Refusal.TheVariants.{BadInput, InputMet, HandlesMet, StepsMet, LengthMet, LettersMet, ImageMet, HeightMet, NodesMet, IndexMet, LengthNeeded}
use Rattle.wb_command.specs.declared.refusal.Comes.{Comes}
use Rattle.wb_command.specs.declared.refusal.Comes.TheVariants as comes
use Rattle.wb_command.specs.Answers.{bad_input, limit_met}

-- An input that is read whole has too many bytes: `limit input 8388608`.
abbrev pub input_met : Answer
input_met = limit_met (codes "input ") MAX_INPUT

-- A term would be too high, or the graph has as many products as it may have.
abbrev pub height_met : Answer
height_met = limit_met (codes "height ") MAX_HEIGHT

abbrev pub nodes_met : Answer
nodes_met = limit_met (codes "nodes ") MAX_NODES

-- A braid word has too great an index.
abbrev pub index_met : Answer
index_met = limit_met (codes "index ") MAX_INDEX

-- A braid word has more letters than it may have: `limit length 4 needs 6`.
abbrev pub length_needed : ℕ → ℕ → Answer
length_needed limit count =
    answer Limit (line ((codes "limit length " ++ decimal limit) ++ (codes " needs " ++ decimal count)))

-- A file isn't accepted: its line k is refused, for this cause.
abbrev pub refused_line : ℕ → List ℕ → List ℕ
refused_line k why = line ((codes "refused " ++ decimal k) ++ 32 ∷ why)

abbrev pub refusal_answer : Refusal → Answer
refusal_answer (BadInput fault) = bad_input fault
refusal_answer InputMet = input_met
refusal_answer (HandlesMet handles) = limit_met (codes "handles ") handles
refusal_answer (StepsMet steps) = limit_met (codes "steps ") steps
refusal_answer (LengthMet limit) = limit_met (codes "length ") limit
refusal_answer (LettersMet limit) = limit_met (codes "letters ") limit
refusal_answer (ImageMet limit) = limit_met (codes "image ") limit
refusal_answer HeightMet = height_met
refusal_answer NodesMet = nodes_met
refusal_answer IndexMet = index_met
refusal_answer (LengthNeeded limit count) = length_needed limit count

abbrev pub comes_answer : {D : Type 0} → (D → Answer) → Comes D → Answer
comes_answer answer_of (comes.Stopped refusal) = refusal_answer refusal
comes_answer answer_of (comes.Done done) = answer_of done
