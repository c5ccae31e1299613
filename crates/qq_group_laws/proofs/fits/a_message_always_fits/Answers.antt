use Rattle.qq_group_laws.proofs.Fitting.{message-fits}
use Rattle.qq_group_laws.proofs.fits.a_message_always_fits.Goals as goal

pub returns : goal.returns
returns g c = λ h group rpc s reached r sound here up.
    message-fits g.L.LogView.log h group rpc s reached r sound.bag here up
