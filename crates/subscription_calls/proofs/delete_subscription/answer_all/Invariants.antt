use Rattle.subscription_calls.proofs.Answering.{Answering}
use Rattle.subscription_calls.proofs.delete_subscription.answer_all.Given as goal

abbrev pub invariant-loop-i : goal.invariant-loop-i
invariant-loop-i l = Answering l.initial.responses l.handles l.responses l.i
