use Rattle.std.proofs.Common.{◌≡◌, ◌∙◌, length, arith, refl, sym}
use Rattle.core_state.specs.declared.state.CoreState.{CoreState}
use Rattle.core_state.proofs.Ports.{Ports}
use Rattle.core_state.proofs.SoundLists.{claimed_released}
use Rattle.core_claims.proofs.Frees.{none_claimed, none_is_left, one_freed, is_claimed_at, one_is_passed, one_is_freed}
use Rattle.core_claims.proofs.free.free_claims.Goals as goal
use Rattle.core_claims.proofs.free.free_claims.Goals.{then-entry, else-entry}

pub free_claim-requires-clause-claimed : goal.free_claim-requires-clause-claimed
free_claim-requires-clause-claimed g c =
    is_claimed_at c.entries.core.pending c.entries.i c.at-entry.result.now c.at-entry.result.now.receipt c.at-entry.ensures refl c.if-entry.true

pub free_claim-requires-clause-room : goal.free_claim-requires-clause-room
free_claim-requires-clause-room g c =
    let was = is_claimed_at c.entries.core.pending c.entries.i c.at-entry.result.now c.at-entry.result.now.receipt c.at-entry.ensures refl c.if-entry.true in
    omega (arith, claimed_released c.at-entry.result.now.receipt c.entries.core.pending was, c.entries.invariant.freed.sound.room)

pub entries-preserved : goal.entries-preserved
entries-preserved g c =
    let p : Ports g.row.D.Denot g.row.K.Denot = record {
      tells = g.D.Disk.is_told;
      seen = g.D.Disk.seen;
      may_leave = g.D.Disk.may_leave;
      moment = g.D.Disk.moment;
      left_since = g.D.Disk.left_since;
      faults = g.D.Disk.fault_count;
      told = g.met.D.Disk.told;
      told_since = g.met.D.Disk.told_since;
      only_now = g.met.D.Disk.only_now;
      store_tells = g.K.Keeper.is_told;
      kept = g.K.Keeper.kept;
      images = g.K.Keeper.images;
      store_moment = g.K.Keeper.moment;
      images_since = g.K.Keeper.images_since;
      store_up = g.K.Keeper.is_up;
      store_down = g.K.Keeper.down;
      store_size = g.K.Keeper.size;
      store_generation = g.K.Keeper.generation;
      store_opened = g.K.Keeper.opened;
      store_within = g.K.Keeper.is_within;
      store_faults = g.K.Keeper.fault_count;
      store_told = g.met.K.Keeper.told;
      store_told_since = g.met.K.Keeper.told_since;
      store_only_now = g.met.K.Keeper.only_now;
      store_stands = g.met.K.Keeper.stands;
    } in
    elim c.if-entry.branch [
      | then-entry w ↦
          let was = is_claimed_at c.entries.core.pending c.entries.i c.at-entry.result.now c.at-entry.result.now.receipt c.at-entry.ensures refl w.if-entry.true in
          let new : CoreState g.row.D.Denot g.row.K.Denot = record { alloc = c.entries.core.alloc; queue = c.entries.core.queue; store = c.entries.core.store; tables = c.entries.core.tables; pending = w.free_claim.new.pending; discards = c.entries.core.discards; events = w.free_claim.new.events; last = c.entries.core.last; undone = c.entries.core.undone; found = c.entries.core.found; opened_a = c.entries.core.opened_a; opened_b = c.entries.core.opened_b } in
          let freed = one_freed p c.args.core.now c.entries.core new c.at-entry.result.now.receipt c.entries.invariant.freed was (record {
            queue = refl;
            store = refl;
            others = record { tables = refl; dead = refl; undone = refl; found = refl; opened_a = refl; opened_b = refl };
            pending = w.free_claim.ensures.pending;
            events = w.free_claim.ensures.list;
            room = w.free_claim.ensures.room;
            last = refl;
          }) in
          rw w.core-is (record {
            freed = freed;
            places = freed.length_is ∙ sym c.entries.invariant.freed.length_is ∙ c.entries.invariant.places;
            passed = one_is_freed c.entries.core.pending new.pending c.entries.i c.at-entry.result.now c.at-entry.result.now.receipt c.at-entry.ensures refl w.free_claim.ensures.pending c.entries.invariant.passed;
          })
      | else-entry w ↦
          rw w.core-is (record {
            freed = c.entries.invariant.freed;
            places = c.entries.invariant.places;
            passed = one_is_passed c.entries.core.pending c.entries.i c.at-entry.result.now c.at-entry.ensures w.if-entry.false c.entries.invariant.passed;
          })
    ]

pub returns : goal.returns
returns g c =
    let freed = c.entries.invariant.freed in
    let done : length c.entries.core.pending ≡ c.entries.i = omega (arith, c.entries.invariant.places, c.entries.auto.i-end, c.entries-test.false) in
    record {
      does = record {
        releases = freed.releases;
        none = none_claimed c.entries.core.pending (none_is_left c.entries.core.pending c.entries.i done c.entries.invariant.passed);
        stands = freed.stands;
        sound = freed.sound;
        submitted = freed.submitted;
        others = freed.others;
        queue = freed.queue;
        store = freed.store;
        last = freed.last;
      };
    }
