use mathlib.Core.Path.{refl}
use Rattle.forest.specs.Sizes.{leaf_least}
use Rattle.sound.proofs.CheckDoes.{check_does}
use Rattle.moves.proofs.Held.{standing_words}
use Rattle.map.proofs.Gating.{some_words, stood_ready}
use Rattle.map.proofs.standing.Goals as goal

pub tree_count-requires : goal.tree_count-requires
tree_count-requires c = some_words c.args.ws.now c.requires.sound

pub invariant_of-result : goal.invariant_of-result
invariant_of-result c = let y = stood_ready c.args.ws.now c.args.at _ c.requires c.tree_count.ensures in record {
  sound = check_does c.args.ws.now leaf_least c.requires.sound;
  counted = y.trees;
  there = y.there;
  stands = standing_words c.args.ws.now _ c.args.at y c.requires.standing;
}
