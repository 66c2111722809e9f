-- DEFINITION AND PROOF. The rule of the root in document 01's words - a root that is inner has at least 2 children - is what Tower says level by level
use mathlib.Core.Path.{◌≡◌, sym, ap, ◌∙◌}
use mathlib.Core.List.{List, [], ◌∷◌}
use Prim.Native.Nat.{◌≤◌}
use native.Mathlib.Omega.{arith}
use lib.ListN.{length}
use Rattle.forest.specs.Lists.{sum}
use Rattle.forest.specs.Rows.{Row, sizes, joined, line, Fill, Tower}
use Rattle.forest.proofs.RowLaws.{sum-sizes, length-line}

-- each row holds the line of the row below; the top row is one node
abbrev pub Layers : Row → List Row → Type 0
Layers R [] = length R ≡ 1
Layers R (S ∷ Ss) = (joined S ≡ line R) × Fill 4 8 (sizes S) × Layers S Ss

-- a root that is inner has at least 2 children
abbrev pub Root : List Row → Type 0
Root [] = Unit {0}
Root (S ∷ []) = 2 ≤ length (joined S)
Root (S ∷ T ∷ Ss) = Root (T ∷ Ss)

children : (R S : Row) → joined S ≡ line R → length R ≡ length (joined S)
children R S e = sym (ap length e ∙ length-line R)

pub tower_layers : (R : Row) (Rs : List Row) → Tower R Rs → Layers R Rs × Root Rs
tower_layers R [] w = (w, tt)
tower_layers R (S ∷ []) w = ((w.1, w.2, w.3), omega (arith, children R S w.1))
tower_layers R (S ∷ T ∷ Ss) w = let r = tower_layers S (T ∷ Ss) w.3 in ((w.1, w.2, r.0), r.1)

wide : (S : Row) → Fill 4 8 (sizes S) → length S ≤ sum (sizes S)
wide [] f = omega arith
wide (n ∷ []) f = omega arith
wide (n ∷ m ∷ S) f = omega (arith, wide (m ∷ S) f.2)

pub layers_tower : (R : Row) (Rs : List Row) → Layers R Rs → Root Rs → Tower R Rs
layers_tower R [] l r = l
layers_tower R (S ∷ []) l r = (omega (arith, children R S l.0), l.0, l.1, l.2)
layers_tower R (S ∷ T ∷ Ss) l r =
    let w = layers_tower S (T ∷ Ss) l.2 r in
    (omega (arith, children R S l.0, wide S l.1, sum-sizes S, w.0), l.0, l.1, w)
