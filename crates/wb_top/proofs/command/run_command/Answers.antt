use Rattle.wb_top.proofs.command.run_command.Goals as goal

pub returns-in-Compare-clause-ran : goal.returns-in-Compare-clause-ran
returns-in-Compare-clause-ran g c = rw c.in-Compare.is c.run_task.ensures.ran

pub returns-in-Compare-clause-words : goal.returns-in-Compare-clause-words
returns-in-Compare-clause-words g c = c.run_task.ensures.words

pub returns-in-Terms-clause-ran : goal.returns-in-Terms-clause-ran
returns-in-Terms-clause-ran g c = rw c.in-Terms.is c.run_task-in-Terms.ensures.ran

pub returns-in-Terms-clause-words : goal.returns-in-Terms-clause-words
returns-in-Terms-clause-words g c = c.run_task-in-Terms.ensures.words

pub returns-in-Normal-clause-ran : goal.returns-in-Normal-clause-ran
returns-in-Normal-clause-ran g c = rw c.in-Normal.is c.run_task-in-Normal.ensures.ran

pub returns-in-Normal-clause-words : goal.returns-in-Normal-clause-words
returns-in-Normal-clause-words g c = c.run_task-in-Normal.ensures.words

pub returns-in-Same-clause-ran : goal.returns-in-Same-clause-ran
returns-in-Same-clause-ran g c = rw c.in-Same.is c.run_task-in-Same.ensures.ran

pub returns-in-Same-clause-words : goal.returns-in-Same-clause-words
returns-in-Same-clause-words g c = c.run_task-in-Same.ensures.words

pub returns-in-Act-clause-ran : goal.returns-in-Act-clause-ran
returns-in-Act-clause-ran g c = rw c.in-Act.is c.run_task-in-Act.ensures.ran

pub returns-in-Act-clause-words : goal.returns-in-Act-clause-words
returns-in-Act-clause-words g c = c.run_task-in-Act.ensures.words

pub returns-in-Eval-clause-ran : goal.returns-in-Eval-clause-ran
returns-in-Eval-clause-ran g c = rw c.in-Eval.is c.run_task-in-Eval.ensures.ran

pub returns-in-Eval-clause-words : goal.returns-in-Eval-clause-words
returns-in-Eval-clause-words g c = c.run_task-in-Eval.ensures.words

pub returns-in-Value-clause-ran : goal.returns-in-Value-clause-ran
returns-in-Value-clause-ran g c = rw c.in-Value.is c.run_task-in-Value.ensures.ran

pub returns-in-Value-clause-words : goal.returns-in-Value-clause-words
returns-in-Value-clause-words g c = c.run_task-in-Value.ensures.words

pub returns-in-Expand-clause-ran : goal.returns-in-Expand-clause-ran
returns-in-Expand-clause-ran g c = rw c.in-Expand.is c.run_task-in-Expand.ensures.ran

pub returns-in-Expand-clause-words : goal.returns-in-Expand-clause-words
returns-in-Expand-clause-words g c = c.run_task-in-Expand.ensures.words

pub returns-in-Derive-clause-ran : goal.returns-in-Derive-clause-ran
returns-in-Derive-clause-ran g c = rw c.in-Derive.is c.run_task-in-Derive.ensures.ran

pub returns-in-Derive-clause-words : goal.returns-in-Derive-clause-words
returns-in-Derive-clause-words g c = c.run_task-in-Derive.ensures.words

pub returns-in-Laver-clause-ran : goal.returns-in-Laver-clause-ran
returns-in-Laver-clause-ran g c = rw c.in-Laver.is c.run_task-in-Laver.ensures.ran

pub returns-in-Laver-clause-words : goal.returns-in-Laver-clause-words
returns-in-Laver-clause-words g c = c.run_task-in-Laver.ensures.words

pub returns-in-Row-clause-ran : goal.returns-in-Row-clause-ran
returns-in-Row-clause-ran g c = rw c.in-Row.is c.run_task-in-Row.ensures.ran

pub returns-in-Row-clause-words : goal.returns-in-Row-clause-words
returns-in-Row-clause-words g c = c.run_task-in-Row.ensures.words

pub returns-in-Session-clause-ran : goal.returns-in-Session-clause-ran
returns-in-Session-clause-ran g c = rw c.in-Session.is c.serve.ensures.ran

pub returns-in-Session-clause-words : goal.returns-in-Session-clause-words
returns-in-Session-clause-words g c = c.serve.ensures.words

pub returns-in-Bench-clause-ran : goal.returns-in-Bench-clause-ran
returns-in-Bench-clause-ran g c = rw c.in-Bench.is c.run_task-in-Bench.ensures.ran

pub returns-in-Bench-clause-words : goal.returns-in-Bench-clause-words
returns-in-Bench-clause-words g c = c.run_task-in-Bench.ensures.words
