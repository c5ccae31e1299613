use Rattle.qq_cluster_pins.proofs.seeing.no_delivery_waits_between_lines.Goals as goal

pub returns-clause-line : goal.returns-clause-line
returns-clause-line c = λ setup line d events place none is.
    c.nothing_waits_between_lines.ensures.line setup line d events none is place

pub returns-clause-run : goal.returns-clause-run
returns-clause-run c = λ setup lines events place is.
    c.nothing_waits_between_lines.ensures.run setup lines events is place
