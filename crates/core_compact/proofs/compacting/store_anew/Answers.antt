use Rattle.core_compact.proofs.compacting.store_anew.Goals as goal

pub returns : goal.returns
returns g c =
    let e = c.checkpoint.ensures in
    record {
      anew = record {
        any_moment = e.any_moment;
        later = e.later;
        each = e.each;
        all_new = e.ok;
        kept_all = e.kept_all;
        kept_old = e.kept_old;
        untouched = e.untouched;
        down = e.down;
        again = e.again;
        size_is = e.size;
        same_size = e.same_size;
        generation_is = e.generation;
        same_generation = e.same_generation;
        side_is = e.side;
        same_side = e.same_side;
        spent = e.spent;
        unspent = e.unspent;
        keeper = record { same_opening = e.opened; bounds = e.within };
        cause = e.cause;
        twice = e.twice;
      };
    }
