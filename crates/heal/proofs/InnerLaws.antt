-- PROOFS. The parent of a node on a way may lose it
use Prim.Native.Nat.{ℕ, ◌<◌}
use mathlib.Core.List.{List}
use native.Mathlib.Omega.{arith}
use Rattle.forest.specs.declared.Cursor.{Cursor}
use Rattle.crit.specs.Asks.{Route}
use Rattle.heal.specs.Cycle.{inner_kind, AskCut}
use Rattle.crit.proofs.WayLaws.{way_at}

pub parent_asks : {ws : List ℕ} {t : ℕ} {c : Cursor} {level l : ℕ} → Route ws t c level → l < level → AskCut inner_kind ws t c l
parent_asks {l} y h =
    let i = way_at y y.mem y.spelt l h in
    record {
      deep = omega (arith, y.deep);
      mem = y.mem;
      spelt = y.spelt;
      items = i.items;
      some = i.some;
      few = i.few;
      words = i.words;
      inside = i.place;
      room = i.room;
    }
