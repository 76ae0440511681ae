use Rattle.std.proofs.Common.{arith}
use Rattle.line.proofs.Writing.{few_digits, part_len}
use Rattle.line.proofs.answer.put_field.Goals as goal

pub write_digits-digits-requires : goal.write_digits-digits-requires
write_digits-digits-requires c = let f = few_digits c.args.n c.ranges.n.fits in (omega (arith, f, c.requires.room), c.requires.within)

pub overflow_sub-start : goal.overflow_sub-start
overflow_sub-start c = let f = few_digits c.args.n c.ranges.n.fits in omega (arith, f, c.requires.room, c.write_digits-digits.ensures.start)

pub copy_from_slice-requires : goal.copy_from_slice-requires
copy_from_slice-requires c =
    let w = c.write_digits-digits in
    let f = few_digits c.args.n c.ranges.n.fits in
    part_len w.new.buf w.result _ (omega (arith, f, c.requires.room, w.ensures.start)) (omega (arith, w.ensures.start, c.requires.within, w.auto.buf))

pub returns-clause-place : goal.returns-clause-place
returns-clause-place c = let f = few_digits c.args.n c.ranges.n.fits in omega (arith, f, c.requires.room, c.write_digits-digits.ensures.start)
