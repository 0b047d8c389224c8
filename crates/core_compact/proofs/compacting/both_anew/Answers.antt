use Rattle.std.proofs.Common.{◌≡◌, List, arith, refl, subst, rules}
use Rattle.core_state.specs.record_spec.declared.store.StoreRecord.{StoreRecord}
use Rattle.core_state.specs.fleet_keeper.declared.kept.Kept.{Kept}
use Rattle.core_state.specs.fleet_keeper.declared.kept.Kept.TheVariants as kept
use Rattle.core_compact.specs.Anew.{StoreAnew, KeeperGoesOn}
use Rattle.core_compact.specs.Compacts.{queue_records, store_records}
use Rattle.core_compact.specs.Does.{at_store, at_queue}
use Rattle.core_compact.proofs.compacting.both_anew.Goals as goal

pub returns-then-ne : goal.returns-then-ne
returns-then-ne g c =
    let k = g.K.Keeper in
    let old = c.args.core.now in
    let no_ok : c.store_anew-said.result ≡ kept.Ok → ⊥ = λ is. absurd (search (rules, is)) in
    let anew : StoreAnew k.is_told k.kept k.images k.moment k.images_since k.is_up k.down k.size k.generation k.side (KeeperGoesOn k.opened k.is_within) k.fault_count c.store_anew-said.result old.store c.store_anew-said.new.store (store_records old) =
    subst (λ (rs : List StoreRecord). StoreAnew k.is_told k.kept k.images k.moment k.images_since k.is_up k.down k.size k.generation k.side (KeeperGoesOn k.opened k.is_within) k.fault_count c.store_anew-said.result old.store c.store_anew-said.new.store rs) c.requires.records c.store_anew-said.ensures.anew in
    record {
      does = at_store c.store_anew-said.result no_ok c.store_answer.ensures c.requires.up anew refl (record {
        others = record { tables = refl; dead = refl; undone = refl; found = refl; opened_a = refl; opened_b = refl };
        pending = refl;
        events = refl;
        room = omega arith;
        last = refl;
      });
    }

pub returns : goal.returns
returns g c =
    let k = g.K.Keeper in
    let old = c.args.core.now in
    let ok : c.store_anew-said.result ≡ kept.Ok = search rules in
    let anew : StoreAnew k.is_told k.kept k.images k.moment k.images_since k.is_up k.down k.size k.generation k.side (KeeperGoesOn k.opened k.is_within) k.fault_count c.store_anew-said.result old.store c.store_anew-said.new.store (store_records old) =
    subst (λ (rs : List StoreRecord). StoreAnew k.is_told k.kept k.images k.moment k.images_since k.is_up k.down k.size k.generation k.side (KeeperGoesOn k.opened k.is_within) k.fault_count c.store_anew-said.result old.store c.store_anew-said.new.store rs) c.requires.records c.store_anew-said.ensures.anew in
    let done : StoreAnew k.is_told k.kept k.images k.moment k.images_since k.is_up k.down k.size k.generation k.side (KeeperGoesOn k.opened k.is_within) k.fault_count kept.Ok old.store c.store_anew-said.new.store (store_records old) =
    subst (λ (said : Kept). StoreAnew k.is_told k.kept k.images k.moment k.images_since k.is_up k.down k.size k.generation k.side (KeeperGoesOn k.opened k.is_within) k.fault_count said old.store c.store_anew-said.new.store (store_records old)) ok anew in
    record {
      does = at_queue c.queue_anew-came.result c.queue_answer.ensures c.requires.up done (c.queue_anew-came.ensures.anew (queue_records old) c.requires.frames) (record {
        others = record { tables = refl; dead = refl; undone = refl; found = refl; opened_a = refl; opened_b = refl };
        pending = refl;
        events = refl;
        room = omega arith;
        last = refl;
      });
    }
