use Rattle.session_run.proofs.ServedClauseLemmas.{ends-answer, ends-done, ends-limit, ends-read, ends-write, ends-memory, ends-never, ends-read_fault, ends-write_fault, ends-waits, ends-front}
use Rattle.session_run.proofs.serving.serve.Goals as goal

pub returns-clause-answer : goal.returns-clause-answer
returns-clause-answer g c = ends-answer _ _ _ c.converse.ensures

pub returns-clause-done : goal.returns-clause-done
returns-clause-done g c = ends-done _ _ _ c.converse.ensures

pub returns-clause-limit : goal.returns-clause-limit
returns-clause-limit g c = ends-limit _ _ _ c.converse.ensures

pub returns-clause-read : goal.returns-clause-read
returns-clause-read g c = ends-read _ _ _ c.converse.ensures

pub returns-clause-write : goal.returns-clause-write
returns-clause-write g c = ends-write _ _ _ c.converse.ensures

pub returns-clause-memory : goal.returns-clause-memory
returns-clause-memory g c = ends-memory _ _ _ c.converse.ensures

pub returns-clause-never : goal.returns-clause-never
returns-clause-never g c = ends-never _ _ _ c.converse.ensures

pub returns-clause-read_fault : goal.returns-clause-read_fault
returns-clause-read_fault g c = ends-read_fault _ _ _ c.converse.ensures

pub returns-clause-write_fault : goal.returns-clause-write_fault
returns-clause-write_fault g c = ends-write_fault _ _ _ c.converse.ensures

pub returns-clause-waits : goal.returns-clause-waits
returns-clause-waits g c = ends-waits _ _ _ c.converse.ensures

pub returns-clause-front : goal.returns-clause-front
returns-clause-front g c = ends-front _ _ _ c.converse.ensures

pub returns-clause-read_later : goal.returns-clause-read_later
returns-clause-read_later g c = c.converse.ensures.later_read

pub returns-clause-write_later : goal.returns-clause-write_later
returns-clause-write_later g c = c.converse.ensures.later_write

pub returns-clause-calls : goal.returns-clause-calls
returns-clause-calls g c = c.converse.ensures.calls
