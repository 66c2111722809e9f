-- Each write puts one part of a fresh pool behind those that stand (`laid`).
use Rattle.pool.proofs.Fresh.{laid}
use Rattle.pool.proofs.lay_out.Goals as goal

pub returns : goal.returns
returns c =
    laid c.args.ws.now c.args.trees c.args.nodes c.requires c.fill.new.self (c.fill.ensures.after (λ y e. e)) c.fill-2.new.self (c.fill-2.ensures.after (λ y e. e)) c.stack_all.new.ws c.stack_all.ensures
