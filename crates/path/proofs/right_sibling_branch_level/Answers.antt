-- `path::right_sibling_branch_level` meets its contract: the level that is found is the last with more to the right. Assumes nothing.
use Rattle.std.proofs.Common.{rules, ◌≡◌, ◌-◌}
use Rattle.std.proofs.iter.runs.Sources.{ranges}
use Rattle.std.specs.Prelude.{Some}
use borrow.Author.Tests.{lt-ltb}
use Rattle.path.proofs.Steps.{first_word}
use Rattle.path.proofs.Branches.{right_is}
use Rattle.path.proofs.right_sibling_branch_level.Goals as goal

pub returns : goal.returns
returns c =
    right_is c.args.ws.now c.args.t c.args.c.nodes c.args.c.places c.args.level c.rposition.result
    record {
      none = λ e k h. rw first_word (search (rules, ranges));
      within = λ i e. search (rules, ranges);
      here = λ i e.
          let w : c.rposition.ensures.runs.0.at (c.args.level - 0 - 1 - i) ≡ Some i = search (rules, ranges) in
          rw first_word (lt-ltb _ _ (search rules));
      after = λ i e k m h. rw first_word (search (rules, ranges));
    }
