use Rattle.session_run.proofs.ReplyLemmas.{others_stay, own_lives, can_put}
use Rattle.session_run.proofs.session.Session.command.Goals as goal

pub returns-clause-writable : goal.returns-clause-writable
returns-clause-writable c =
    can_put c.args.self.now c.perform.new.self c.args.command c.perform.result c.perform.ensures.reply
    c.perform.ensures.jobs

pub returns-clause-others : goal.returns-clause-others
returns-clause-others c =
    others_stay c.args.self.now c.perform.new.self c.args.command c.perform.result c.perform.ensures.jobs
    c.perform.ensures.memory

pub returns-clause-own : goal.returns-clause-own
returns-clause-own c =
    own_lives c.args.self.now c.perform.new.self c.args.command c.perform.result c.perform.ensures.jobs
    c.perform.ensures.memory
