use borrow.Author.Rules.{rules}
use Rattle.subscriptions.proofs.Shortest.{three}
use Rattle.subscriptions.proofs.edges.three_cycles.Goals as goal

pub returns : goal.returns
returns c = search (rules, three)
