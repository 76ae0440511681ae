-- The examples of specs/Opens by computation.
use mathlib.Core.Path.{refl}
use Rattle.footprint.specs.Footprint.{max_extents, kind_code, logs_fail, span_fails, block_fails, near, entry_fails, count_fails, outside, refusal_of, lists_fail}
use Rattle.model.specs.Calls.{known, refusal_to, byte_for}
use Rattle.model.specs.Open.{each_record, lists_fail_in, logs_fail_in, length_fails, marked, open_refusal, highest, rows_for}
use Rattle.model.specs.Opens.{Accepting, Refusing, InOrder}
use Rattle.numbers.specs.Keyed.{has_key, keyed, put_keyed}
use Rattle.numbers.specs.Lists.{any, any_two, keep, same}
use Rattle.numbers.specs.Pairs.{pairs}
use Rattle.numbers.specs.Range.{end_of, meets}
use Rattle.numbers.specs.Refusals.{refuse, first, answer, each_extent}
use Rattle.numbers.specs.Sums.{sum}
use Rattle.regionmap.specs.Map.{last_at}
use Rattle.runs.specs.Runs.{not_empty, joins, joined_to, joined, runs_from}
use Rattle.settle.specs.Regions.{pieces_from}
use Rattle.settle.specs.Settle.{any_other, overlapped, superseded, renamed, marks_from, highest as highest_of}

pub opens : Accepting × Refusing × InOrder
unfolding open_refusal lists_fail_in logs_fail_in length_fails marked each_record refusal_of lists_fail max_extents kind_code logs_fail
    span_fails block_fails near entry_fails count_fails outside any_two refuse first each_extent answer any keep same sum pairs end_of meets
    pieces_from marks_from overlapped superseded renamed any_other highest_of highest rows_for keyed put_keyed refusal_to byte_for known has_key
    not_empty joins joined_to joined runs_from last_at
opens = (
  record {
    number = refl;
    answer = refl;
    last = refl;
    extents = refl;
    held_bytes = refl;
    published = refl;
    rows = refl;
    totals = (refl, refl);
    joined = refl;
    past = (refl, refl);
    later = refl;
    crossing = refl;
  },
  record {
    accepted_one = refl;
    records = (refl, refl);
    count = (refl, refl);
    header_count = (refl, refl);
    name = (refl, refl);
    odd = refl;
    pair_too_many = refl;
    scratch = refl;
    places = refl;
    block_log = (refl, refl);
    header_log = refl;
    length = (refl, refl);
    checks = (refl, refl);
    numbers = refl;
    kinds = refl;
    flags = refl;
    not_ready = refl;
    fewer = refl;
    one_more = (refl, refl);
    multiple = refl;
    outside = refl;
    capacity = refl;
    overlap = refl;
    shared = (refl, refl);
    overlapped = refl;
    renamed = refl;
    answer = refl;
  },
  record {
    neither = refl;
    in-turn = (refl, refl);
    over_all = (refl, refl);
    last = refl;
    empty_log = refl;
    empty_length = refl;
    empty_accepted = (refl, refl);
  },
)
