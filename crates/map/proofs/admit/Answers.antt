use mathlib.Core.Path.{◌≡◌, refl, sym, subst}
use mathlib.Core.List.{List}
use Prim.Native.Nat.{ℕ}
use lib.ListN.{length}
use borrow.Author.Rules.{rules}
use Rattle.std.proofs.lemmas.Result.{err_from_is_err_and}
use Rattle.map.proofs.Gating.{admit_shut, admit_open, admit_place}
use Rattle.stand.specs.Runs.{Tells}
use Rattle.map.proofs.admit.Goals as goal

pub returns-in_err-tree : goal.returns-in_err-tree
returns-in_err-tree c =
    let p = err_from_is_err_and c.from_residual.result c.from_residual.ensures.1 in
    rw (p.1, p.2) (admit_shut c.args.ws.now c.args.at _ c.in_err-tree.ensures _ refl)

pub stands-requires : goal.stands-requires
stands-requires c = sym (c.in_ok-tree.ensures.passes _ refl).1

pub returns-then-not-stands : goal.returns-then-not-stands
returns-then-not-stands c =
    admit_place c.args.ws.now c.args.at _ c.in_ok-tree.ensures _ refl _ (subst (λ (u : List ℕ). Tells u c.args.at c.stands.result) (c.in_ok-tree.ensures.passes _ refl).0 c.stands.ensures) c.if-not-stands.true

pub returns : goal.returns
returns c =
    let e : length c.args.at.nodes ≡ 16 = search rules in
    let f : length c.args.at.places ≡ 16 = search rules in
    admit_open c.args.ws.now c.args.at _ c.in_ok-tree.ensures _ refl _ (subst (λ (u : List ℕ). Tells u c.args.at c.stands.result) (c.in_ok-tree.ensures.passes _ refl).0 c.stands.ensures) e f c.if-not-stands.false
