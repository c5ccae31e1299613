use Rattle.qq_model.proofs.Soundness.{Contains-in}
use Rattle.qq_cluster_pins.proofs.Images.{entry-in_images, from-among}
use Rattle.qq_cluster_pins.proofs.kept.an_answered_entry_is_in_each_image.Goals as goal

pub returns : goal.returns
returns c = λ setup events disks place row groups promised.
    entry-in_images c.whatever_is_left_lies_between.ensures.words setup events disks place row
    (c.what_was_answered_is_kept.ensures setup events disks groups
    (λ k here. promised k (Contains-in k setup.nodes (from-among k setup.nodes here)))) promised
