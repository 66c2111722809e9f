-- `grow::replace` meets its contract. Behind the last entry, at another key, at the key. Assumes nothing.
use Rattle.grow.proofs.Replacing
use Rattle.grow.proofs.replace.Goals as goal

pub returns-then-ws-b : goal.returns-then-ws-b
returns-then-ws-b c =
    Replacing.miss_end c.args.ws.now c.args.t c.args.n c.args.at c.requires c.args.key c.args.value c.if-ws-b.true

pub returns-then-ws-b-2 : goal.returns-then-ws-b-2
returns-then-ws-b-2 c =
    Replacing.miss_key c.args.ws.now c.args.t c.args.n c.args.at c.requires c.args.key c.args.value c.if-ws-b.false c.if-ws-b-2.true

pub returns : goal.returns
returns c =
    Replacing.hit c.args.ws.now c.args.t c.args.n c.args.at c.requires c.args.key c.args.value c.if-ws-b.false c.if-ws-b-2.false
