-- `freemap::FreeMap::free_bytes` meets its contract: the sum over the gaps that the record counts.
use Rattle.std.proofs.Common.{rules, ◌≡◌, ◌∙◌, sym}
use Rattle.numbers.specs.Refusals.{told, refused}
use Rattle.freemap.proofs.Reading.{bytes_refused, bytes_summed}
use Rattle.freemap.proofs.FreeMap.free_bytes.Goals as goal

pub returns-in_err-gaps_in : goal.returns-in_err-gaps_in
returns-in_err-gaps_in c = let e : told c.from_residual.result ≡ refused 1 = search rules in e ∙ bytes_refused _ _ c.in_err-gaps_in.ensures.0

pub returns : goal.returns
returns c = let k = c.in_ok-gaps_in.ensures in bytes_summed _ _ k.0 _ (rw (sym k.1) c.sum_bytes.ensures)
