use Rattle.std.proofs.Common.{length, ap, ◌∙◌, arith}
use Rattle.fifo.proofs.Bounds.{items_fit}
use Rattle.item_table.specs.Turn.{over}
use Rattle.subscription_calls.proofs.Answering.{refusals, answered}
use Rattle.subscription_calls.proofs.delete_subscription.answer_all.Goals as goal

pub returns-clause-responses : goal.returns-clause-responses
returns-clause-responses c =
    let begun = c.args.responses.now in
    let e = c.as_slice-handles.ensures.value in
    let f = items_fit c.args.requests.now in
    let r = c.requires in
    let n = ap length e in
    answered begun c.as_slice-handles.result.now c.loop-i.responses c.loop-i.i c.loop-i-test.false (omega (arith, f, r, n)) c.loop-i.invariant
    ∙ ap (λ hs. over (refusals hs) begun) e
