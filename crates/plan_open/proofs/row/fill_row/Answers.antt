-- `plan_open::row::fill_row` meets its contract: the row has the committed extents and their map.
use Rattle.std.proofs.Common.{◌∙◌, arith}
use Rattle.numbers.proofs.Copying.{copied_fits}
use Rattle.plan_record.specs.Record.{record_of}
use Rattle.plan_open.proofs.Rowing.{part_length, part_mappable, rowed}
use Rattle.plan_open.proofs.row.fill_row.Goals as goal

pub map_row-map-requires : goal.map_row-map-requires
map_row-map-requires c = part_mappable (record_of c.args.one) _ c.requires.0 _ _ c.requires.2 c.requires.3

pub returns : goal.returns
returns c =
    let f = c.requires.0 in
    rowed c.args.one _ f _ c.args.extents.now _ _ _ _ c.requires.1
    (c.copy.ensures ∙ copied_fits _ c.args.extents.now (omega (arith, part_length (record_of c.args.one) _ f, f.few, c.requires.1)))
    c.map_row-map.ensures
