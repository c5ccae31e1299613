use Rattle.std.proofs.Common.{◌∙◌, ap, append-nil}
use Rattle.qq_cluster_model.specs.Lines.{IsLine}
use Rattle.qq_cluster_model.specs.Texts.{text_of}
use Rattle.qq_cluster_run.proofs.serving.idle_lines_print_that.Goals as goal

pub returns-clause-write : goal.returns-clause-write
returns-clause-write c = λ setup k node events down allowed.
    ap (text_of setup k) ((c.a_node_that_is_down_says_so.ensures setup node k).write down events allowed) ∙ append-nil _

pub returns-clause-sync : goal.returns-clause-sync
returns-clause-sync c = λ setup k node events down allowed.
    ap (text_of setup k) ((c.a_node_that_is_down_says_so.ensures setup node k).sync down events allowed) ∙ append-nil _

pub returns-clause-notice : goal.returns-clause-notice
returns-clause-notice c = λ setup k node queue events down allowed.
    ap (text_of setup k) ((c.a_node_that_is_down_says_so.ensures setup node k).notice queue down events allowed) ∙ append-nil _

pub returns-clause-tick : goal.returns-clause-tick
returns-clause-tick c = λ setup k node queue events down allowed.
    ap (text_of setup k) ((c.a_node_that_is_down_says_so.ensures setup node k).tick queue down events allowed) ∙ append-nil _

pub returns-clause-pump : goal.returns-clause-pump
unfolding IsLine
returns-clause-pump c = λ setup k events idle allowed.
    ap (text_of setup k) (c.pumps_end.ensures.idle setup k idle events allowed)
