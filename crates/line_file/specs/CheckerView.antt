-- What a checker holds, by the code's own type. It is the view of a `Checker`.
--
-- Source: this project's own.
--
--   held_in kept   what is held
use Rattle.line_file.specs.Pieces.{Held, is_reading, was_refused, ran_out}
use Rattle.line_file.specs.declared.checker.Kept.{Kept}
use Rattle.line_file.specs.declared.checker.Kept.TheVariants as kept

abbrev pub held_in : {F W C : Type 0} → Kept F W C → Held F W
held_in (kept.Reading line due rest) = is_reading line due rest.items
held_in (kept.Refused line why) = was_refused line why
held_in kept.Memory = ran_out
