use Rattle.forest.specs.Cursors.{seek}
use Rattle.path.proofs.Made.{fits-seek, gone_ready, gone_standing}
use Rattle.path.proofs.Trees.{tree_ready}
use Rattle.moves.proofs.Held.{standing_words}
use Rattle.moves.proofs.MapCursor.goto.Goals as goal

pub invariant_of-result : goal.invariant_of-result
invariant_of-result c = let y = tree_ready c.args.tree.now in
    let r = gone_ready (seek c.args.key) (fits-seek c.args.key) c.args.tree.now.words.now c.args.tree.now.trees c.args.tree.now.number _ y c.find.ensures in record {
      sound = c.args.tree.now.sound;
      counted = c.args.tree.now.counted;
      there = r.there;
      stands = standing_words c.args.tree.now.words.now c.args.tree.now.trees _ r (gone_standing (seek c.args.key) (fits-seek c.args.key) c.args.tree.now.words.now c.args.tree.now.trees c.args.tree.now.number _ y c.find.ensures);
    }
