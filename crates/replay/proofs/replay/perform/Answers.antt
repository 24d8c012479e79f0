use Rattle.std.proofs.Common.{length, sym, ap}
use Rattle.item_table.specs.Turn.{over}
use Rattle.engine.specs.State.{state_in}
use Rattle.replay.proofs.Quiet.{quiet_create_item, quiet_modify_item}
use Rattle.replay.proofs.Scenes.{silent}
use Rattle.replay.proofs.replay.perform.Goals as goal

pub returns-in-CreateItem-clause-value : goal.returns-in-CreateItem-clause-value
returns-in-CreateItem-clause-value g c =
    let w = c.in-CreateItem in
    sym (ap length (silent g.S.Source.stands c.args.scene.now _ (state_in c.args.engine.now) w.is (quiet_create_item (g.S.Source.stands c.args.scene.now.source) _ w.subscription w.node w.mode w.parameters)))

pub returns-in-CreateItem-clause-responses : goal.returns-in-CreateItem-clause-responses
returns-in-CreateItem-clause-responses g c =
    let w = c.in-CreateItem in
    ap (λ l. over l c.args.responses.now) (sym (silent g.S.Source.stands c.args.scene.now _ (state_in c.args.engine.now) w.is (quiet_create_item (g.S.Source.stands c.args.scene.now.source) _ w.subscription w.node w.mode w.parameters)))

pub returns-in-ModifyItem-clause-value : goal.returns-in-ModifyItem-clause-value
returns-in-ModifyItem-clause-value g c =
    let w = c.in-ModifyItem in
    sym (ap length (silent g.S.Source.stands c.args.scene.now _ (state_in c.args.engine.now) w.is (quiet_modify_item _ w.subscription w.item w.parameters)))

pub returns-in-ModifyItem-clause-responses : goal.returns-in-ModifyItem-clause-responses
returns-in-ModifyItem-clause-responses g c =
    let w = c.in-ModifyItem in
    ap (λ l. over l c.args.responses.now) (sym (silent g.S.Source.stands c.args.scene.now _ (state_in c.args.engine.now) w.is (quiet_modify_item _ w.subscription w.item w.parameters)))
