use Rattle.qq_cluster_pins.proofs.Images.{lies-between}
use Rattle.qq_cluster_pins.proofs.kept.each_image_lies_between.Goals as goal

pub returns : goal.returns
returns c = lies-between c.whatever_is_left_lies_between.ensures.words
