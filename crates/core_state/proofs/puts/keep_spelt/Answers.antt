use Rattle.core_state.proofs.puts.keep_spelt.Goals as goal

pub returns : goal.returns
returns g c =
    let keep = c.keep_spelt.ensures.added in
    record {
      kept = record {
        any_moment = keep.any_moment;
        later = keep.later;
        each = keep.each;
        kept_one = keep.kept_one;
        kept_old = keep.kept_old;
        untouched = keep.untouched;
        down = keep.down;
        again = keep.again;
        spent = keep.spent;
        unspent = keep.unspent;
        grew = keep.grew;
        same_size = keep.same_size;
        keeper = record { same_generation = keep.generation; same_opening = keep.opened; bounds = keep.within };
        cause = keep.cause;
        twice = keep.twice;
      };
    }
