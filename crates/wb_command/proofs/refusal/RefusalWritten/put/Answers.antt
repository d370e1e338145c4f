use Rattle.wb_command.proofs.refusal.RefusalWritten.put.Goals as goal

pub returns-in-BadInput-clause-took : goal.returns-in-BadInput-clause-took
returns-in-BadInput-clause-took g c = rw c.in-BadInput.is c.put.ensures.took

pub returns-in-BadInput-clause-cause : goal.returns-in-BadInput-clause-cause
returns-in-BadInput-clause-cause g c = c.put.ensures.cause

pub returns-in-InputMet-clause-took : goal.returns-in-InputMet-clause-took
returns-in-InputMet-clause-took g c = rw c.in-InputMet.is c.put_numbered_line.ensures.took

pub returns-in-InputMet-clause-cause : goal.returns-in-InputMet-clause-cause
returns-in-InputMet-clause-cause g c = c.put_numbered_line.ensures.cause

pub returns-in-HandlesMet-clause-took : goal.returns-in-HandlesMet-clause-took
returns-in-HandlesMet-clause-took g c = rw c.in-HandlesMet.is c.put_numbered_line-in-HandlesMet.ensures.took

pub returns-in-HandlesMet-clause-cause : goal.returns-in-HandlesMet-clause-cause
returns-in-HandlesMet-clause-cause g c = c.put_numbered_line-in-HandlesMet.ensures.cause

pub returns-in-LengthMet-clause-took : goal.returns-in-LengthMet-clause-took
returns-in-LengthMet-clause-took g c = rw c.in-LengthMet.is c.put_numbered_line-in-LengthMet.ensures.took

pub returns-in-LengthMet-clause-cause : goal.returns-in-LengthMet-clause-cause
returns-in-LengthMet-clause-cause g c = c.put_numbered_line-in-LengthMet.ensures.cause

pub returns-in-LettersMet-clause-took : goal.returns-in-LettersMet-clause-took
returns-in-LettersMet-clause-took g c = rw c.in-LettersMet.is c.put_numbered_line-in-LettersMet.ensures.took

pub returns-in-LettersMet-clause-cause : goal.returns-in-LettersMet-clause-cause
returns-in-LettersMet-clause-cause g c = c.put_numbered_line-in-LettersMet.ensures.cause

pub returns-in-ImageMet-clause-cause : goal.returns-in-ImageMet-clause-cause
returns-in-ImageMet-clause-cause g c = c.put_numbered_line-in-ImageMet.ensures.cause

pub returns-in-HeightMet-clause-took : goal.returns-in-HeightMet-clause-took
returns-in-HeightMet-clause-took g c = rw c.in-HeightMet.is c.put_numbered_line-in-HeightMet.ensures.took

pub returns-in-HeightMet-clause-cause : goal.returns-in-HeightMet-clause-cause
returns-in-HeightMet-clause-cause g c = c.put_numbered_line-in-HeightMet.ensures.cause

pub returns-in-NodesMet-clause-cause : goal.returns-in-NodesMet-clause-cause
returns-in-NodesMet-clause-cause g c = c.put_numbered_line-in-NodesMet.ensures.cause

pub returns-in-IndexMet-clause-cause : goal.returns-in-IndexMet-clause-cause
returns-in-IndexMet-clause-cause g c = c.put_numbered_line-in-IndexMet.ensures.cause

pub returns-in-LengthNeeded-clause-took : goal.returns-in-LengthNeeded-clause-took
returns-in-LengthNeeded-clause-took g c = rw c.in-LengthNeeded.is c.put_needed.ensures.took

pub returns-in-LengthNeeded-clause-cause : goal.returns-in-LengthNeeded-clause-cause
returns-in-LengthNeeded-clause-cause g c = c.put_needed.ensures.cause
