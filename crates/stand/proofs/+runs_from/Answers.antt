-- `stand::runs_from` meets its contract, level by level. Assumes nothing.
use native.Mathlib.Omega.{arith}
use borrow.Author.Tests.{ne_eqb, lt-leb}
use Rattle.stand.proofs.Running.{node_lies, inner_word, child_below, runs_long, runs_leaf, runs_past, runs_on}
use Rattle.stand.proofs.+runs_from.Goals as goal

pub overflow_sub-b : goal.overflow_sub-b
overflow_sub-b t c = omega (arith, (node_lies _ _ _ c.args.c c.args.l c.if-size-l.false c.requires.deep).some)

pub bounds-ws-b : goal.bounds-ws-b
bounds-ws-b t c = omega (arith, (node_lies _ _ _ c.args.c c.args.l c.if-size-l.false c.requires.deep).long)

pub returns-then-l-size : goal.returns-then-l-size
returns-then-l-size t c = runs_leaf c.args.ws.now c.args.t c.args.node c.args.c c.args.l c.if-size-l.false c.if-c-l.false c.if-w-ge32.true (omega arith)

pub returns-else-l-size : goal.returns-else-l-size
returns-else-l-size t c =
    rw (ne_eqb _ _ c.if-l-size.false) (runs_long c.args.ws.now c.args.t c.args.node c.args.c c.args.l c.if-size-l.false c.if-c-l.false c.if-w-ge32.true (omega arith))

pub overflow_sub-w : goal.overflow_sub-w
overflow_sub-w t c = (inner_word _ _ _ c.args.c c.args.l c.if-size-l.false c.requires.deep c.if-w-ge32.false).0

pub bounds-ws-b-then-p-w : goal.bounds-ws-b-then-p-w
bounds-ws-b-then-p-w t c =
    omega (arith, (node_lies _ _ _ c.args.c c.args.l c.if-size-l.false c.requires.deep).long, (inner_word _ _ _ c.args.c c.args.l c.if-size-l.false c.requires.deep c.if-w-ge32.false).1)

pub runs_from-requires : goal.runs_from-requires
runs_from-requires t c =
    (omega (arith, c.decreases), (child_below c.args.ws.now c.args.t c.args.node c.args.c c.args.l c.if-size-l.false c.requires.deep c.if-w-ge32.false c.if-p-w.true, c.requires.t_le_most_trees))

pub returns-then-p-w : goal.returns-then-p-w
returns-then-p-w t c =
    let k = inner_word _ _ _ c.args.c c.args.l c.if-size-l.false c.requires.deep c.if-w-ge32.false in
    runs_on c.args.ws.now c.args.t c.args.node c.args.c c.args.l c.if-size-l.false c.if-c-l.false _ c.if-w-ge32.false k.0 k.1 c.if-p-w.true c.runs_from.ensures

pub returns-else-p-w : goal.returns-else-p-w
returns-else-p-w t c =
    let k = inner_word _ _ _ c.args.c c.args.l c.if-size-l.false c.requires.deep c.if-w-ge32.false in
    rw (lt-leb _ _ c.if-p-w.false) (runs_past c.args.ws.now c.args.t c.args.node c.args.c c.args.l c.if-size-l.false c.if-c-l.false c.if-w-ge32.false k.0 c.if-p-w.false)
