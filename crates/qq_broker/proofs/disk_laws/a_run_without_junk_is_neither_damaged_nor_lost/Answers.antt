use Rattle.qq_broker.proofs.Harmless.{no-harm}
use Rattle.qq_broker.proofs.disk_laws.a_run_without_junk_is_neither_damaged_nor_lost.Goals as goal

pub returns : goal.returns
returns g c =
    λ given first last status s begun ended bytes before after known runs all_new shows clean run harm.
    no-harm (record {
      readable = c.a_promised_disk_is_read.ensures.now;
      empty = c.an_empty_disk_keeps_the_promise.ensures;
      honest = c.a_crash_without_junk_keeps_the_promise.ensures.image;
      comes = c.what_waits_goes_on.ensures.comes;
      begins = c.clusters_begin_with_new_logs.ensures;
    }) given g.D.NodeDisk.facts first last before after s runs all_new shows begun ended bytes known
    clean status run harm
