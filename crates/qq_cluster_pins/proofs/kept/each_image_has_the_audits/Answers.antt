use Rattle.qq_cluster_pins.proofs.Images.{audits-in_images}
use Rattle.qq_cluster_pins.proofs.kept.each_image_has_the_audits.Goals as goal

pub returns : goal.returns
returns c = audits-in_images c.what_a_group_committed_stays.ensures.whole
