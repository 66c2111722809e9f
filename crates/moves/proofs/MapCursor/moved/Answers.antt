use Rattle.moves.proofs.Held.{cursor_ready, kept_fields}
use Rattle.moves.proofs.MapCursor.moved.Goals as goal

pub invariant_of-result : goal.invariant_of-result
invariant_of-result c = let k = kept_fields c.args.self c.args.cursor c.requires.tree c.requires.stands in record {
  sound = k.sound;
  counted = k.counted;
  there = k.there;
  stands = k.stands;
}
