-- Every run is lawful.
use Rattle.std.proofs.Common.{ℕ, List}
use Rattle.laws.specs.Runs.{Scene}
use Rattle.laws.specs.Laws.{Lawful, EveryRun}
use Rattle.laws.proofs.Order.{in_order, late_list}
use Rattle.laws.proofs.Due.{heard}
use Rattle.laws.proofs.Fourth.{fourth}
use Rattle.laws.proofs.UpToDate.{up_to_date}
use Rattle.laws.proofs.Notified.{notified}
use Rattle.laws.proofs.FromSource.{from_source}

pub lawful : (first : ℕ) (scenes : List Scene) → Lawful first scenes
lawful first scenes =
    record {
      in_order = in_order first scenes;
      heard = heard first scenes;
      fourth = fourth first scenes;
      up_to_date = up_to_date first scenes;
      notified = notified first scenes;
      from_source = from_source first scenes;
      late_list = late_list first scenes;
    }

pub every_run : EveryRun
every_run first scenes = lawful first scenes
