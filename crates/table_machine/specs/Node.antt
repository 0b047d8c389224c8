-- What a kept node tells: whether it is deactivated, expired, inactive or to be purged.
use Rattle.std.specs.Prelude.{ℤ, ◌-ℤ◌, Bool, ◌||◌, if◌then◌else◌, Option, None, is_some}
use Rattle.std.specs.Option.{option_map}
use Rattle.table_spec.specs.fleet_rows.declared.settings.Ttls.{Ttls}
use Rattle.table_spec.specs.fleet_rows.Change.{change_stamp}
use Rattle.table_spec.specs.fleet_rows.declared.applied.Applied.{Applied}
use Rattle.table_spec.specs.history_spec.Node.{days, not_before, newest_lets_expire, expired_at, is_before}
use Rattle.table_machine.specs.Table.{Node}

abbrev pub stamp_of_newest : Option Applied → Option ℤ
stamp_of_newest = option_map (λ (x : Applied). change_stamp x.change)

-- the moment from which the node is deactivated, if it is
abbrev pub node_deactivated : Node → Option ℤ
node_deactivated node = not_before (stamp_of_newest node.deactivate) node.active

-- the moment at which the node expired, if it did; `expiry` is the greatest moment of a sweep of expiry
abbrev pub node_expired : Ttls → Option ℤ → Node → Option ℤ
node_expired ttls expiry node =
    if newest_lets_expire node.expiration then expired_at (days ttls.node_days) node.active expiry else None

abbrev pub node_inactive : Ttls → Option ℤ → Node → Bool
node_inactive ttls expiry node = is_some (node_deactivated node) || is_some (node_expired ttls expiry node)

-- whether a purge at m removes the node
abbrev pub node_purged : Ttls → ℤ → Option ℤ → Node → Bool
node_purged ttls m expiry node =
    let edge = m -ℤ days ttls.purge_days in
    is_before (node_deactivated node) edge || is_before (node_expired ttls expiry node) edge
