use Rattle.qq_disk_pins.proofs.calls.a_replaced_file_is_named_no_more.Goals as goal

pub returns-clause-named : goal.returns-clause-named
returns-clause-named c = λ ops file r. (r.earlier, r.front, r.named)

pub returns-clause-no_more : goal.returns-clause-no_more
returns-clause-no_more c = λ ops file r. r.gone
