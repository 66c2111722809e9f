-- `path::look_at` meets its contract. Assumes nothing.
use mathlib.Core.Path.{refl, sym, ap, ◌∙◌}
use native.Mathlib.Omega.{arith}
use Rattle.path.specs.Cores.{look_of}
use Rattle.path.proofs.Seats.{leafy, leaf_in, off_spot, seat, looked}
use borrow.Author.Rules.{rules}
use Rattle.moves.proofs.Held.{cursor_ready, cursor_stands, steps_tree}
use Rattle.moves.proofs.MapCursor.look.Goals as goal

pub returns-then-size-eq0 : goal.returns-then-size-eq0
returns-then-size-eq0 c = record { sees = λ p s o q. ap look_of (sym (off_spot c.args.self.cursor p s c.if-size-eq0.true q)) }

pub bounds-self-size : goal.bounds-self-size
bounds-self-size c =
    let k = leafy c.args.self.words.now c.args.self.trees c.args.self.cursor (cursor_ready c.args.self) (cursor_stands c.args.self (search rules) (search rules)) (omega arith) in
    omega arith

pub bounds-self-size-2 : goal.bounds-self-size-2
bounds-self-size-2 c =
    let k = leafy c.args.self.words.now c.args.self.trees c.args.self.cursor (cursor_ready c.args.self) (cursor_stands c.args.self (search rules) (search rules)) (omega arith) in
    omega arith

pub look_in-requires : goal.look_in-requires
look_in-requires c = let k = leafy c.args.self.words.now c.args.self.trees c.args.self.cursor (cursor_ready c.args.self) (cursor_stands c.args.self (search rules) (search rules)) (omega arith) in record {
  leaf_in = leaf_in c.args.self.words.now c.args.self.trees c.args.self.cursor k;
  e_bound = omega arith;
}

pub returns : goal.returns
returns c =
    record {
      sees = λ p s o q.
          c.look_in.ensures ∙ looked c.args.self.words.now c.args.self.trees c.args.self.cursor p s (seat c.args.self.words.now c.args.self.trees c.args.self.cursor (cursor_ready c.args.self) (omega arith) p s o q) _ _ refl refl;
    }
