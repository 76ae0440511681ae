-- `footprint::max_extents` meets its contract: the block of a held log is at least 2^12.
use Prim.Native.Nat.{◌^◌, ◌≤◌}
use native.Mathlib.Omega.{arith}
use lib.Pow.{pow_mono}
use Rattle.footprint.specs.Footprint.{max_extents}
use Rattle.footprint.proofs.Blocks.{exact}
use Rattle.footprint.proofs.max_extents.Goals as goal

pub overflow_sub-result : goal.overflow_sub-result
overflow_sub-result c = let h : 12 ≤ c.held.result = omega (arith, c.held.ensures) in
    let m : 2 ^ 12 ≤ 2 ^ c.held.result = pow_mono h in
    omega (arith, exact _ c.block_of.ensures.0 (let h = c.held.ensures in omega arith))

pub returns : goal.returns
unfolding max_extents
returns c = rw (exact _ c.block_of.ensures.0 (let h = c.held.ensures in omega arith), c.held.ensures)
