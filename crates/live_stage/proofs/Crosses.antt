-- A stage may go to another thread, where its disks and its keeper may.
use denote.RattleType.{RattleType}
use denote.Param.Send.{IsSend, sendable}
use Rattle.core_ends.specs.fleet_ports.declared.disk.Disk as disk
use Rattle.core_ends.specs.fleet_keeper.declared.keeper.Keeper as keeper
use Rattle.json_tree.specs.contracts.tree.Items as Items
use Rattle.json_tree.specs.contracts.tree.Members as Members
use Rattle.core_ends.specs.supersede_core.contracts.pending.Pending as Pending
use Rattle.core_ends.specs.core_state.contracts.found.Found as Found
use Rattle.core_ends.specs.core_state.contracts.events.Events as Events
use Rattle.hub_calls.specs.contracts.followed.Followed as Followed
use Rattle.hub_calls.specs.contracts.purpose.AllCalls as AllCalls
use Rattle.hub_calls.specs.contracts.purpose.AllCallsPurpose.TheImpl as all
use Rattle.hub_calls.proofs.Crosses.{followed_goes}
use Rattle.live_stage.specs.contracts.note.Note as Note
use Rattle.live_stage.specs.contracts.stage.Stage as Stage
use Rattle.std.proofs.Crossing.{crosses}
use Rattle.http_server.proofs.log.Log.TheSendSync as log
use Rattle.core_ends.proofs.of_json_tree.text.Bytes.TheSendSync as bytes
use Rattle.core_ends.proofs.of_stamp_time.moment.Moment.TheSendSync as moment
use Rattle.live_stage.proofs.note.Refused.TheSendSync as refused
use Rattle.live_stage.proofs.shelf.Shelf.TheSendSync as shelf

inside_note : IsSend (Note.TheInside.the_field).row
inside_note = search (sendable, crosses, bytes.the_send, moment.the_send, refused.the_field_send) depth 20

note : IsSend (Note.the_field).row
note = search (sendable, crosses, inside_note) depth 20

module _ (items : IsSend (Items.the_field).row) (members : IsSend (Members.the_field).row) (pending : IsSend (Pending.the_field).row) (found : IsSend (Found.the_field).row) (events : IsSend (Events.the_field).row) (D K : RattleType)
    (d : IsSend D) (k : IsSend K) (disks : disk.Ghosts D.Denot) (keepers : keeper.Ghosts K.Denot) where
  followed : IsSend (Followed.the_row D K AllCalls.the_row disks keepers all.ghosts)
  followed = followed_goes items members pending found events D K AllCalls.the_row d k (search sendable depth 20) disks keepers all.ghosts

  inside : IsSend (Stage.TheInside.the_field D K disks keepers).row
  inside = search (sendable, crosses, followed, log.the_send, note, shelf.the_send) depth 20

  pub stage_goes : IsSend (Stage.the_row D K disks keepers)
  stage_goes = search (sendable, crosses, inside) depth 20
