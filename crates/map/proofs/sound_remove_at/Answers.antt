use mathlib.Core.Path.{◌≡◌, refl}
use lib.ListN.{length}
use borrow.Author.Rules.{rules}
use Rattle.path.specs.Cores.{Sees}
use Rattle.map.proofs.Gating.{of_cursor, some_words, stood_ready}
use Rattle.map.proofs.Removing.{ask_remove, removed_moves, nothing_moves}
use Rattle.map.proofs.sound_remove_at.Goals as goal

pub tree_count-t-requires : goal.tree_count-t-requires
tree_count-t-requires c = some_words c.args.ws.now c.requires.sound

pub returns-in_default : goal.returns-in_default
returns-in_default c =
    let y = stood_ready c.args.ws.now c.args.at _ c.requires refl in
    let e : length c.args.at.nodes ≡ 16 = search rules in
    let f : length c.args.at.places ≡ 16 = search rules in
    nothing_moves c.args.ws.now _ c.args.at y c.requires.standing _ (of_cursor (λ u k. Sees u k c.look.result) c.standing.ensures c.look.ensures) e f c.in_default.is

pub remove-c-requires : goal.remove-c-requires
remove-c-requires c =
    let y = stood_ready c.args.ws.now c.args.at _ c.requires c.tree_count-t.ensures in
    ask_remove c.args.ws.now _ c.args.at y c.requires.standing _ (of_cursor (λ u k. Sees u k c.look.result) c.standing.ensures c.look.ensures) _ _ c.in-Some.is

pub returns : goal.returns
returns c =
    let y = stood_ready c.args.ws.now c.args.at _ c.requires c.tree_count-t.ensures in
    removed_moves c.args.ws.now _ c.args.at y c.requires.standing _ (of_cursor (λ u k. Sees u k c.look.result) c.standing.ensures c.look.ensures) _ _ c.in-Some.is _ _ c.remove-c.ensures
