use Rattle.run_clients.proofs.EachOpen.{run_is_explained}
use Rattle.run_clients.proofs.laws.every_run_is_explained.Goals as goal

pub returns : goal.returns
returns c = λ shape es w served few leads.
    let found = c.every_run_has_a_history.ensures shape es w served leads in
    run_is_explained shape es few found.0 found.1 found.2
