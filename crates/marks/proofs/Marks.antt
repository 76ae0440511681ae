-- P1 to P12 by computation.
use mathlib.Core.Path.{refl}
use native.Mathlib.Omega.{arith}
use Rattle.align.specs.Align.{up_to, align_up}
use Rattle.runs.specs.Runs.{not_empty, joins, joined_to, joined, runs_from, runs_fail}
use Rattle.freemap.specs.Fit.{place_in, skipped, allows, first_fit, fit_refusal}
use Rattle.freemap.specs.Gaps.{covered, ahead, maximal, tail_of, complement_fails, too_few}
use Rattle.marks.specs.Marks.{Marks}
use Rattle.numbers.specs.Lists.{any, keep, same}
use Rattle.numbers.specs.Order.{precedes}
use Rattle.numbers.specs.Pairs.{pairs, flat}
use Rattle.numbers.specs.Powers.{is_power}
use Rattle.numbers.specs.Range.{end_of, has, meets}
use Rattle.numbers.specs.Refusals.{refuse, first, answer, each_extent}
use Rattle.numbers.specs.Sums.{sum}
use Rattle.regionmap.specs.Map.{runs_to, too_few as too_few_places, extents_fail, passes_top, from_refusal, last_at, locate_refusal}
use Rattle.settle.specs.Regions.{regions, pieces_from}
use Rattle.settle.specs.Settle.{any_other, overlapped, superseded, highest, renamed, marks_from, too_long, lent_fails, settle_fails}
use Rattle.sort.specs.Sort.{insert, sorted}

pub marks : Marks
unfolding align_up up_to is_power pairs maximal ahead covered any has end_of tail_of complement_fails flat sorted insert precedes fit_refusal too_few
    first refuse answer first_fit allows skipped place_in settle_fails lent_fails sum too_long regions pieces_from marks_from overlapped superseded
    renamed any_other keep same highest meets runs_fail not_empty joins joined_to joined runs_from from_refusal extents_fail passes_top each_extent
    too_few_places runs_to locate_refusal last_at
marks =
    record {
      p1 = refl;
      p2 = refl;
      p3 = (refl, refl);
      complemented = record { answer = refl; ranges = refl; slots = refl };
      p4 = refl;
      p5 = refl;
      p6 = refl;
      settles = λ s t a m b n. refl;
      p7 = refl;
      p8 = refl;
      p9 = refl;
      p10 = (refl, refl);
      made =
          record {
            answer = refl;
            starts = refl;
            files = refl;
            valid =
                record {
                  starts = omega arith;
                  files = omega arith;
                  sound =
                      record {
                        laid = (refl, (refl, refl));
                        inside = (omega arith, (omega arith, tt));
                        whole = omega arith;
                        fits = omega arith;
                        counted = omega arith;
                        limited = omega arith;
                      };
                };
          };
      p11 = (refl, refl);
      p12 = refl;
    }
