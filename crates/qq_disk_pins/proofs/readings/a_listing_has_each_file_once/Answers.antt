use Rattle.qq_disk_pins.proofs.readings.a_listing_has_each_file_once.Goals as goal

pub returns-clause-each : goal.returns-clause-each
returns-clause-each c = λ d names file listing. listing.listed file

pub returns-clause-rising : goal.returns-clause-rising
returns-clause-rising c = λ d names listing. listing.rising
