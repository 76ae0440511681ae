use mathlib.Core.Path.{◌∙◌}
use Rattle.position.proofs.Driving.{drives}
use Rattle.position.proofs.drive.Goals as goal

pub shape_of-scratch : goal.shape_of-scratch
shape_of-scratch c = c.open-outcome.auto.scratch

pub shape_of-extents : goal.shape_of-extents
shape_of-extents c =
    c.drop-dropped.auto.extents ∙ c.grow-grown.auto.extents ∙ c.create-created.auto.extents ∙ c.open-outcome.auto.extents

pub shape_of-starts : goal.shape_of-starts
shape_of-starts c =
    c.drop-dropped.auto.starts ∙ c.grow-grown.auto.starts ∙ c.create-created.auto.starts ∙ c.open-outcome.auto.starts

pub shape_of-files : goal.shape_of-files
shape_of-files c =
    c.drop-dropped.auto.files ∙ c.grow-grown.auto.files ∙ c.create-created.auto.files ∙ c.open-outcome.auto.files

pub returns : goal.returns
returns c =
    drives c.open-outcome.ensures c.create-created.ensures c.grow-grown.ensures c.publish-published.ensures c.locate-located.ensures c.drop-dropped.ensures
