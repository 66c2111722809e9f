use mathlib.Core.Bool.{false}
use native.Mathlib.Omega.{arith}
use Rattle.remove.proofs.ShellLaws
use Rattle.remove.proofs.remove.Goals as goal

pub overflow_sub-level : goal.overflow_sub-level
overflow_sub-level c = omega (arith, ShellLaws.some_size c.requires)

pub remove_pair-d-requires : goal.remove_pair-d-requires
remove_pair-d-requires c = ShellLaws.stands_there c.requires (ShellLaws.lone_as false c.is_last.ensures c.if-is_last.false)

pub root-root-requires : goal.root-root-requires
root-root-requires c = ShellLaws.root_there c.requires (ShellLaws.lone_as false c.is_last.ensures c.if-is_last.false) c.remove_pair-d.ensures

pub shrink_root-top-requires : goal.shrink_root-top-requires
shrink_root-top-requires c = ShellLaws.asks_shrink c.requires (ShellLaws.lone_as false c.is_last.ensures c.if-is_last.false) c.remove_pair-d.ensures c.root-root.ensures

pub set_root-requires : goal.set_root-requires
set_root-requires c = ShellLaws.root_still c.requires (ShellLaws.lone_as false c.is_last.ensures c.if-is_last.false) c.remove_pair-d.ensures c.root-root.ensures c.shrink_root-top.ensures

pub shift_path-requires : goal.shift_path-requires
shift_path-requires c = ShellLaws.shift_asks c.requires (ShellLaws.lone_as false c.is_last.ensures c.if-is_last.false) c.remove_pair-d.ensures c.root-root.ensures c.shrink_root-top.ensures

pub returns : goal.returns
returns c = ShellLaws.removes c.requires (ShellLaws.lone_as false c.is_last.ensures c.if-is_last.false) c.remove_pair-d.ensures c.root-root.ensures c.shrink_root-top.ensures c.set_root.ensures c.shift_path.ensures
