-- What the reader of the first pass does. No public clause cites it.
use Rattle.std.specs.Prelude.{Bool}
use Rattle.ld_term.specs.Tokens.{Token}
use Rattle.ld_term.specs.Automaton.{State}
use Rattle.ld_term.specs.Held.{IsHeld, Moves}
use Rattle.ld_term.specs.declared.reader.Reader.{Reader}

-- The reader holds the heights of the state.
abbrev pub Holds : Reader → State → Type 0
Holds reader s = IsHeld reader.held reader.left reader.outer s

-- Whichever state the old reader holds, the token leads to one that the new reader holds; or it may not
-- stand there.
abbrev pub Steps : Bool → Token → Bool → Reader → Reader → Type 0
Steps strict token moved old new =
    (s : State) → Holds old s → Moves strict token s moved new.held new.left new.outer
