use Rattle.std.proofs.Common.{length, take, map, ◌≡◌}
use Rattle.sample.proofs.words.converted.Given as goal

abbrev pub invariant-loop-i : goal.invariant-loop-i
invariant-loop-i g l = record {
  long : length l.room ≡ length l.initial.room;
  read : take l.i l.room ≡ map g.T.Number.read_as (take l.i l.fitting);
}
