use Rattle.std.proofs.Common.{rules, sym, subst}
use Rattle.std.proofs.lemmas.Iterator.{YieldsList-from_slice}
use Rattle.std.proofs.lemmas.Iterator.Adapters.{serves_from_places}
use Rattle.sources.specs.Certificates.{certificate_rows}
use Rattle.renewals.specs.Report.{ShowsDays, standing_at}
use Rattle.renewals.proofs.Shown.{shown_at}
use Rattle.renewals.proofs.renewal.listed.Goals as goal

-- the source shows the days of every row that the closure is called at
pub collect-requires-clause-can : goal.collect-requires-clause-can
collect-requires-clause-can c =
    let s = c.args.certificates.now in (
      tt,
      serves_from_places (YieldsList-from_slice (certificate_rows s) cc) (λ x q k. search rules)
          (λ x k l e _ _ _ _ _. subst (λ f. ShowsDays (standing_at f.0.now x.now.node)) (sym c.map.ensures.closure) (subst (λ row. ShowsDays (standing_at s row.node)) (sym e) (shown_at s k x.now l))),
    )
