use Rattle.std.proofs.Common.{◌≤◌, get_or, rules, arith}
use borrow.Author.Tests.{tests}
use Rattle.sound.proofs.CheckSteps.{checked_no, checked_yes, frame_none, frame_trees, frame_nodes, frame_long, frame_free, frame_ok}
use Rattle.sound.proofs.words_fit.Goals as goal
use Rattle.sound.proofs.words_fit.Goals.{then-not-contains-via-then-not-contains, then-not-contains-via-else-not-contains+then-long-t, then-n-gt-MAX_NODES-via-then-n-gt-MAX_NODES, then-n-gt-MAX_NODES-via-else-n-gt-MAX_NODES+then-long-t-2}

pub returns-then-long-eq0 : goal.returns-then-long-eq0
returns-then-long-eq0 c = checked_no c.args.ws.now (frame_none c.args.ws.now c.if-long-eq0.true)

pub returns-then-not-contains : goal.returns-then-not-contains
returns-then-not-contains c = elim c.then-not-contains.branch [
  | then-not-contains-via-then-not-contains w ↦ checked_no c.args.ws.now (frame_trees c.args.ws.now (λ a b. search (rules, tests)))
  | then-not-contains-via-else-not-contains+then-long-t w ↦ checked_no c.args.ws.now (frame_long c.args.ws.now (search (rules, tests)) (search (rules, tests)) (λ e. omega (arith, e, w.if-long-t.true)))
]

pub returns-then-n-gt-MAX_NODES : goal.returns-then-n-gt-MAX_NODES
returns-then-n-gt-MAX_NODES c =
    let t : (1 ≤ get_or c.args.ws.now 0 0) × (get_or c.args.ws.now 0 0 ≤ 32) = search (rules, tests) in
    elim c.then-n-gt-MAX_NODES.branch [
      | then-n-gt-MAX_NODES-via-then-n-gt-MAX_NODES w ↦ checked_no c.args.ws.now (frame_nodes c.args.ws.now t.0 t.1 w.if-n-gt-MAX_NODES.true)
      | then-n-gt-MAX_NODES-via-else-n-gt-MAX_NODES+then-long-t-2 w ↦ checked_no c.args.ws.now (frame_long c.args.ws.now t.0 t.1 w.if-long-t-2.true)
    ]

pub returns-then-n-f : goal.returns-then-n-f
returns-then-n-f c =
    let t : (1 ≤ get_or c.args.ws.now 0 0) × (get_or c.args.ws.now 0 0 ≤ 32) = search (rules, tests) in
    checked_no c.args.ws.now (frame_free c.args.ws.now t.0 t.1 c.if-n-gt-MAX_NODES.false c.if-long-t-2.false c.if-n-f.true)

pub returns : goal.returns
returns c =
    let t : (1 ≤ get_or c.args.ws.now 0 0) × (get_or c.args.ws.now 0 0 ≤ 32) = search (rules, tests) in
    checked_yes c.args.ws.now _ (frame_ok c.args.ws.now t.0 t.1 c.if-n-gt-MAX_NODES.false c.if-long-t-2.false c.if-n-f.false) c.pool_fits.ensures
