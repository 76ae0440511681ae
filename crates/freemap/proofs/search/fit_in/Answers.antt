-- `freemap::search::fit_in` meets its contract: each return is a case of `first_fit` in one gap.
use Rattle.std.proofs.Common.{sym, arith}
use lib.Bits.{and_le_r}
use Rattle.freemap.proofs.Fitting.{fit_skipped, fit_far, fit_high, fit_at}
use Rattle.freemap.proofs.search.fit_in.Goals as goal

pub overflow_sub-pad : goal.overflow_sub-pad
overflow_sub-pad c = omega (arith, and_le_r c.wrapping_add_u64.result c.args.mask)

pub returns-then-bytes-wrapping_add_u64 : goal.returns-then-bytes-wrapping_add_u64
returns-then-bytes-wrapping_add_u64 c = sym (fit_far _ _ _ _ _ c.requires.0 _ c.wrapping_add_u64.ensures.value _ c.wrapping_add_u64-2.ensures.value c.if-bytes-wrapping_add_u64.true)

pub returns-then-at-len : goal.returns-then-at-len
returns-then-at-len c = sym (fit_high _ _ _ _ _ c.requires.0 _ c.wrapping_add_u64.ensures.value _ c.wrapping_add_u64-at.ensures.value (omega (arith, c.if-at-len.true)))

pub returns-then-lead-start : goal.returns-then-lead-start
returns-then-lead-start c = sym (fit_skipped _ _ _ _ _ c.requires.0 (omega (arith, c.if-lead-start.true, c.requires.1)))

pub returns : goal.returns
returns c =
    sym (fit_at _ _ _ _ _ c.requires.0 _ c.wrapping_add_u64.ensures.value _ c.wrapping_add_u64-at.ensures.value
    (omega (arith, c.if-lead-start.false, c.requires.1)) _ c.wrapping_add_u64-2.ensures.value (omega (arith, c.if-bytes-wrapping_add_u64.false))
    (omega (arith, c.if-at-len.false)))
