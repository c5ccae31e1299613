use Rattle.qq_consuming.proofs.HistoryLaws.{handed-front}
use Rattle.qq_consuming.proofs.laws.consumers_are_handed_their_deliveries.Goals as goal

pub returns : goal.returns
returns c = λ args entries consumer deeds numbered all.
    handed-front _ consumer deeds (c.delivery_ids_count_by_one.ensures args entries consumer numbered) all
