use borrow.Author.Rules.{rules}
use Rattle.forest.specs.Cursors.{settle}
use Rattle.forest.proofs.CursorCalls.{fits-settle}
use Rattle.moves.proofs.Moving.{moved-standing}
use Rattle.moves.proofs.Held.{cursor_ready, cursor_stands, steps_tree}
use Rattle.moves.proofs.MapCursor.normalize.Goals as goal

pub moved-requires : goal.moved-requires
moved-requires c = let z = cursor_stands c.args.self (search rules) (search rules) in record {
  tree = steps_tree settle c.args.self (cursor_ready c.args.self) z _ c.normal_place.ensures;
  stands = moved-standing settle fits-settle c.args.self.words.now c.args.self.cursor _ c.normal_place.ensures z;
}
