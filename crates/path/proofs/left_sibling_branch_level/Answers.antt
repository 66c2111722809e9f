-- `path::left_sibling_branch_level` meets its contract: the level that is found is the last with something to the left. Assumes nothing.
use Rattle.std.proofs.Common.{rules, ◌<◌}
use Rattle.std.proofs.lemmas.List.{get_or-take}
use Rattle.path.proofs.Branches.{left_is}
use Rattle.path.proofs.left_sibling_branch_level.Goals as goal

pub returns : goal.returns
returns c =
    left_is c.args.c.places c.args.level c.rposition.result
    record {
      none = λ e k h. rw (← get_or-take c.args.level c.args.c.places k 0 h) (search rules);
      within = λ i e. search rules;
      here = λ i e. let h : i < c.args.level = search rules in rw (← get_or-take c.args.level c.args.c.places i 0 h) (search rules);
      after = λ i e k m h. rw (← get_or-take c.args.level c.args.c.places k 0 h) (search rules);
    }
